-- The project of a directory can be built, and its build is the clean build of the model.
use Rattle.std.proofs.Common.{◌≡◌, ℕ, ◌+◌, List, [], ◌∷◌, length, drop, Vec, Global, refl, sym, ap, subst, ◌∙◌}
use Rattle.std.specs.Prelude.{All, Option, None, Some, Result, Ok, Err, IfSome, IfOk}
use Rattle.std.proofs.lemmas.List.Elements.{All-cons, All-nil}
use Rattle.std.proofs.Math.Seq.{drop-append_seam}
use Rattle.pie_builder_laws.specs.Events.{AreCompiled}
use Rattle.pie_checks.specs.declared.built.Built.{Built}
use Rattle.pie_code.specs.declared.code.Code.{Code}
use Rattle.pie_codegen.specs.Pipelines.{AreCodesOf, AllMean}
use Rattle.pie_files.proofs.Reading.{if_each}
use Rattle.pie_files.specs.declared.files.FilesError.{FilesError}
use Rattle.pie_files.specs.Directory.{Directory}
use Rattle.pie_fresh.specs.Cleans.{CleansAs, IsCleanOf, IsRootOf, contents_in}
use Rattle.pie_lexer.specs.declared.token.Token.{Token}
use Rattle.pie_parser.specs.FunctionTrees.{FunctionTree}
use Rattle.pie_project.specs.declared.project.Project.{Project}
use Rattle.pie_project.specs.Fronts.{Checked, Front, typed_or, TokensSay, tree, expected, too_deep, TextSays, tokens, no_token, BytesSay, pipeline_too_long}
use Rattle.pie_project.specs.Fronts.{pipeline_no_text, pipeline_text}
use Rattle.pie_project.specs.Fronts.{RootsSay, roots_found, roots_too_long, roots_no_text, bad_root, TypedSays, no_roots, with_roots}
use Rattle.pie_project.specs.Fronts.{PipelineSays, bad_pipeline, good_pipeline, ProjectSays, no_pipeline, with_pipeline}
use Rattle.pie_project.specs.inner.Projects.{front_of}
use Rattle.pie_record.specs.declared.task_record.TaskRecord.{TaskRecord}
use Rattle.pie_report.specs.declared.report.Report.{Report}
use Rattle.pie_roots.specs.Lines.{texts}
use Rattle.pie_roots.specs.RootLists.{Named, NameAll, before, ended, blank, named, stranger, bad}
use Rattle.pie_types.specs.Faults.{TypingResult}
use Rattle.pie_types.specs.Whole.{checked, number_from}
use Rattle.pie_types.specs.inner.WholeRules.{IsTyped}
use Rattle.pie_types.proofs.WholeLaw.{checked_sound, checked_complete}
use Rattle.pie_value.specs.declared.task.Task.{Task}
use Rattle.pie_value.specs.declared.value.Value.{Value}
use Rattle.pie_value.specs.declared.verdict.Refusal.{Refusal}
use Rattle.pie_value.specs.declared.verdict.Verdict.{Verdict}
use Rattle.pie_value.specs.declared.verdict.Verdict.TheVariants.{Accepted, Refused}
use Rattle.pie_model_pipeline.specs.Clean.{IsCleanBuild}
use Rattle.pie_build.specs.declared.place.Made.{Made}
use Rattle.pie_build.specs.Left.{LeavesBy, Puts}
use Rattle.pie_build.specs.inner.Projects.{IsCleanBy, IsReady, LeavesFor}
use Rattle.pie_build.specs.inner.Reported.{IsReportOf, PutsMade}
use Rattle.pie_build.specs.Stored.{IsStoreOf}
use Rattle.pie_fresh.specs.Told.{IsTrueOutput, IsTrueTask, IsTrueVerdict, TellsTrue}

-- ---- the functions of a project are typed

abbrev AreTypedIn : Checked → Type 0
AreTypedIn (Ok fs) = IsTyped fs
AreTypedIn (Err e) = Unit {0}

typed_if_checked : (o : TypingResult (List FunctionTree)) (fs : List FunctionTree) → checked fs ≡ o → AreTypedIn (typed_or o)
typed_if_checked (Ok gs) fs is =
    let one : ◌≡◌ {A = TypingResult (List FunctionTree)} (Ok fs) (Ok gs) = sym (checked_complete fs (checked_sound fs gs is)) ∙ is in
    let same : fs ≡ gs = cc in subst IsTyped same (checked_sound fs gs is)
typed_if_checked (Err e) fs is = tt

tokens_typed : (ts : List Token) (r : Checked) → TokensSay ts r → AreTypedIn r
tokens_typed ts r (tree {fs = fs} a x) = typed_if_checked (checked fs) fs refl
tokens_typed ts r (expected x) = tt
tokens_typed ts r (too_deep x) = tt

text_typed : (text : List ℕ) (r : Checked) → TextSays text r → AreTypedIn r
text_typed text r (tokens {ts = ts} x q) = tokens_typed ts r q
text_typed text r (no_token x) = tt

bytes_typed : (bytes : List ℕ) (r : Checked) → BytesSay bytes r → AreTypedIn r
bytes_typed bytes r (pipeline_too_long a) = tt
bytes_typed bytes r (pipeline_no_text l u) = tt
bytes_typed bytes r (pipeline_text l u q) = text_typed bytes r q

-- ---- its roots are tasks of them

abbrev AreRootsIn : List FunctionTree → Named → Type 0
AreRootsIn fs (Ok ts) = All (IsRootOf fs) ts
AreRootsIn fs (Err n) = Unit {0}

one_before : (fs : List FunctionTree) (t : Task) → IsRootOf fs t → (r : Named) → AreRootsIn fs r → AreRootsIn fs (before t r)
one_before fs t is (Ok ts) all = All-cons (IsRootOf fs) t ts is all
one_before fs t is (Err n) all = tt

named_roots : (fs : List FunctionTree) (n : ℕ) (lines : List (List ℕ)) (r : Named) → NameAll (number_from 0 fs) n lines r → AreRootsIn fs r
named_roots fs n lines r ended = All-nil (IsRootOf fs)
named_roots fs n (line ∷ lines) r (blank b x) = named_roots fs (n + 1) lines r x
named_roots fs n (line ∷ lines) r (named {k = k} {t = t} {r = q} names found x) =
    one_before fs t (record { number = k; found = found; small = names.2.small }) q (named_roots fs (n + 1) lines q x)
named_roots fs n (line ∷ lines) r (stranger names none) = tt
named_roots fs n (line ∷ lines) r (bad is) = tt

-- ---- what is known of a project

abbrev IsReadyIn : Front → Type 0
IsReadyIn (Ok p) = IsReady p.0 p.1
IsReadyIn (Err e) = Unit {0}

roots_ready : (fs : List FunctionTree) (bytes : List ℕ) (r : Front) → IsTyped fs → RootsSay fs bytes r → IsReadyIn r
roots_ready fs bytes r is (roots_found {ts = ts} x) = record { typed = is; roots = named_roots fs 1 (texts bytes) (Ok ts) x.2 }
roots_ready fs bytes r is (roots_too_long x) = tt
roots_ready fs bytes r is (roots_no_text x) = tt
roots_ready fs bytes r is (bad_root x) = tt

typed_ready : (d : Directory) (fs : List FunctionTree) (r : Front) → IsTyped fs → TypedSays d fs r → IsReadyIn r
typed_ready d fs r is (no_roots x) = tt
typed_ready d fs r is (with_roots {bytes = bytes} x q) = roots_ready fs bytes r is q

pipeline_ready : (d : Directory) (bytes : List ℕ) (r : Front) → PipelineSays d bytes r → IsReadyIn r
pipeline_ready d bytes r (bad_pipeline b) = tt
pipeline_ready d bytes r (good_pipeline {fs = fs} b q) = typed_ready d fs r (bytes_typed bytes (Ok fs) b) q

project_ready : (d : Directory) (r : Front) → ProjectSays d r → IsReadyIn r
project_ready d r (no_pipeline x) = tt
project_ready d r (with_pipeline {bytes = bytes} x q) = pipeline_ready d bytes r q

-- the functions of a directory's project are typed, and its roots are tasks of them
pub is_ready : (held mid : Option Directory) (p : Project) → IfSome held (λ d. ProjectSays d (Ok (front_of p))) → mid ≡ held
    → IfSome mid (λ d. IsReady p.typed p.roots.items)
is_ready held mid p says same =
    subst (λ m. IfSome m (λ d. IsReady p.typed p.roots.items)) (sym same)
    (if_each (λ d. ProjectSays d (Ok (front_of p))) (λ d. IsReady p.typed p.roots.items) held (λ d x. project_ready d (Ok (front_of p)) x) says)

-- ---- its build is that of the model

pub cleaned : (held : Option Directory) (fs : List FunctionTree) (codes code : List Code) (roots asked old new : List Task) (b : Built)
    → code ≡ codes → asked ≡ roots → IfSome held (λ d. IsReady fs roots) → AreCodesOf fs codes → AllMean fs codes
    → CleansAs held fs code asked old new b → IfSome held (λ d. IsCleanOf fs d roots old new b)
cleaned None fs codes code roots asked old new b same these ready compiled means clean = tt
cleaned (Some d) fs codes code roots asked old new b same these ready compiled means clean =
    subst (λ ts. IsCleanOf fs d ts old new b) these
    (clean d refl ready.typed (subst (AreCompiled fs) (sym same) (record { compiled = compiled; means = means }))
    (subst (λ ts. All (IsRootOf fs) ts) (sym these) ready.roots))

-- the tasks behind those that were started before are those that the build started
ran_clean : (n : ℕ) (old new : List Task) (ran : List Task) (fs : List FunctionTree) (d : Directory) (roots : List Task) (b : Built) → n ≡ length old
    → ran ≡ drop n new → IsCleanOf fs d roots old new b → IsCleanBy fs d roots ran b
ran_clean n old new ran fs d roots b is behind h =
    let these : ran ≡ h.started = behind ∙ ap (λ k. drop k new) is ∙ ap (drop (length old)) h.gained ∙ drop-append_seam old h.started in (
      subst (λ ts. IsCleanBuild fs d roots ts b.verdict b.rows.items (contents_in b.files.items) b.outputs.items) (sym these) h.clean,
      subst (λ ts. TellsTrue ts b.verdict b.outputs.items) (sym these) h.told,
    )

pub clean_by : (held mid : Option Directory) (n : ℕ) (old new : List Task) (ran : List Task) (fs : List FunctionTree) (roots : List Task) (b : Built)
    → n ≡ length old → ran ≡ drop n new → mid ≡ held → IfSome held (λ d. IsCleanOf fs d roots old new b) → IfSome mid (λ d. IsCleanBy fs d roots ran b)
clean_by held mid n old new ran fs roots b is behind same h =
    subst (λ m. IfSome m (λ d. IsCleanBy fs d roots ran b)) (sym same)
    (if_each (λ d. IsCleanOf fs d roots old new b) (λ d. IsCleanBy fs d roots ran b) held (λ d x. ran_clean n old new ran fs d roots b is behind x) h)

-- ---- what it leaves

-- the same of equal tasks, verdicts, files and outputs
clean_as : (fs : List FunctionTree) (d : Directory) (roots ran tasks : List Task) (v said : Verdict) (rows : List TaskRecord)
    (files others : List (List ℕ × Vec ℕ Global)) (outputs gave : List (Task × Value)) → tasks ≡ ran → v ≡ said → others ≡ files → gave ≡ outputs
    → IsCleanBuild fs d roots ran v rows (contents_in files) outputs → IsCleanBuild fs d roots tasks said rows (contents_in others) gave
clean_as fs d roots ran tasks v said rows files others outputs gave a e f g h =
    subst (λ x. IsCleanBuild fs d roots x said rows (contents_in others) gave) (sym a)
    (subst (λ x. IsCleanBuild fs d roots ran x rows (contents_in others) gave) e
    (subst (λ x. IsCleanBuild fs d roots ran v rows (contents_in x) gave) (sym f)
    (subst (λ x. IsCleanBuild fs d roots ran v rows (contents_in files) x) (sym g) h)))

-- and so it is with what is told
true_as : (ran tasks : List Task) (v said : Verdict) (outputs gave : List (Task × Value)) → tasks ≡ ran → v ≡ said → gave ≡ outputs → TellsTrue ran v outputs
    → TellsTrue tasks said gave
true_as ran tasks v said outputs gave a e g h =
    subst (λ x. TellsTrue x said gave) (sym a) (subst (λ x. TellsTrue ran x gave) e (subst (λ x. TellsTrue ran v x) (sym g) h))

-- what was made of an accepted build
pub record IsMadeOf (p : Project) (b : Built) (made : Made) : Type 0 where
  pub contents : made.contents ≡ b.files
  pub outputs : made.outputs ≡ b.outputs
  pub live : made.live ≡ length b.rows.items
  pub store : IsStoreOf p.digests.items p.roots.items b.rows.items made.store.items

built_left : (d : Directory) (p : Project) (b : Built) (made : Made) (ran : Vec Task Global) → IsMadeOf p b made → b.verdict ≡ Accepted
    → IsCleanBy p.typed d p.roots.items ran.items b → (r : Report) (after : Option Directory) → PutsMade made ran d r after → LeavesFor p d r after
built_left d p b made ran of is clean r after puts = (
  puts.1.fresh,
  subst (λ (x : Verdict). LeavesBy p.typed p.digests.items p.roots.items x d r after) (sym puts.0.0) (record {
    left = puts.0.1;
    told = puts.0.2;
    files = made.contents.items;
    rows = b.rows.items;
    text = made.store.items;
    place = puts.0.3;
    store = of.store;
    live = puts.1.live ∙ of.live;
    clean = clean_as p.typed d p.roots.items ran.items r.ran.items b.verdict Accepted b.rows.items b.files.items made.contents.items b.outputs.items
        r.outputs.items (ap (λ v. v.items) puts.1.ran) is (ap (λ v. v.items) of.contents) (ap (λ v. v.items) (puts.1.outputs ∙ of.outputs)) clean.0;
    tells = true_as ran.items r.ran.items b.verdict Accepted b.outputs.items r.outputs.items (ap (λ v. v.items) puts.1.ran) is
        (ap (λ v. v.items) (puts.1.outputs ∙ of.outputs)) clean.1;
  }),
)

-- an accepted build put into place
pub made_left : (held : Option Directory) (p : Project) (b : Built) (made : Made) (ran : Vec Task Global) → IsMadeOf p b made → b.verdict ≡ Accepted
    → IfSome held (λ d. IsCleanBy p.typed d p.roots.items ran.items b)
    → IfSome held (λ d. (r : Report) (after : Option Directory) → PutsMade made ran d r after → LeavesFor p d r after)
made_left held p b made ran of is clean = if_each
    (λ d. IsCleanBy p.typed d p.roots.items ran.items b)
    (λ d. (r : Report) (after : Option Directory) → PutsMade made ran d r after → LeavesFor p d r after) held
    (λ d x. built_left d p b made ran of is x) clean

pub put_left : (held after : Option Directory) (p : Project) (made : Made) (ran : Vec Task Global) (result : Result Report FilesError)
    → IfSome held (λ d. (r : Report) (after : Option Directory) → PutsMade made ran d r after → LeavesFor p d r after)
    → IfSome held (λ d. IfOk result (λ r. Puts made.contents.items made.store.items d r after)) → IfOk result (IsReportOf made ran)
    → IfSome held (λ d. IfOk result (λ r. LeavesFor p d r after))
put_left None after p made ran result f puts report = tt
put_left (Some d) after p made ran (Ok r) f puts report = f r after (puts, report)
put_left (Some d) after p made ran (Err e) f puts report = tt

-- the tasks that ran, of the report of what was made
pub ran_of : (made : Made) (ran : Vec Task Global) (result : Result Report FilesError) → IfOk result (IsReportOf made ran) → IfOk result (λ r. r.ran ≡ ran)
ran_of made ran (Ok r) h = h.ran
ran_of made ran (Err e) h = tt

-- the report that was handed on
pub report_of : (made : Made) (ran : Vec Task Global) (report : Report) (result : Result Report FilesError) → IfOk result (λ r. r ≡ report)
    → IsReportOf made ran report → IfOk result (IsReportOf made ran)
report_of made ran report (Ok r) is h = subst (IsReportOf made ran) (sym is) h
report_of made ran report (Err e) is h = tt

-- a refused build leaves all as it was
pub refused_left : (held : Option Directory) (p : Project) (b : Built) (ran : Vec Task Global) (x : Refusal) (r : Report) → b.verdict ≡ Refused x
    → r.verdict ≡ Refused x → r.fresh ≡ None → r.wrote.items ≡ [] → r.removed.items ≡ [] → r.outputs.items ≡ [] → r.live ≡ 0 → r.ran ≡ ran
    → IfSome held (λ d. IsCleanBy p.typed d p.roots.items ran.items b) → IfSome held (λ d. LeavesFor p d r held)
refused_left None p b ran x r is v f w g o l a clean = tt
refused_left (Some d) p b ran x r is v f w g o l a clean =
    let h : IsCleanBuild p.typed d p.roots.items r.ran.items (Refused x) b.rows.items (contents_in b.files.items) b.outputs.items =
    clean_as p.typed d p.roots.items ran.items r.ran.items b.verdict (Refused x) b.rows.items b.files.items b.files.items b.outputs.items b.outputs.items
    (ap (λ v. v.items) a) is refl refl clean.0 in (
      f,
      subst (λ (y : Verdict). LeavesBy p.typed p.digests.items p.roots.items y d r (Some d)) (sym v) (record {
        same = refl;
        wrote = w;
        removed = g;
        outputs = o;
        live = l;
        clean = record { verdict = h.verdict; built = (refl, refl, refl); started = h.started };
        tells = record {
          ran = subst (All IsTrueTask) (sym (ap (λ v. v.items) a)) clean.1.ran;
          verdict = subst IsTrueVerdict is clean.1.verdict;
          outputs = All-nil IsTrueOutput;
        };
      }),
    )
