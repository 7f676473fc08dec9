-- Clean builds of directories with the same files are accepted alike, and leave the same.
use Rattle.std.proofs.Common.{ℕ, ◌≡◌, Bool, true, false, cond, List, map, Option, Some, None, Result, Ok, Err, refl, sym, ap, subst, ◌∙◌, bytes_eq}
use Rattle.std.specs.Prelude.{◌||◌, IfOk, option_map}
use Rattle.pie_base.specs.Path.{same_text}
use Rattle.pie_build.specs.Left.{Accepts, Leaves, LeavesBy}
use Rattle.pie_earlier_laws.proofs.Entries.{same_entries}
use Rattle.pie_earlier_laws.proofs.Pipelines.{manners_of, source_below}
use Rattle.pie_files.specs.Directory.{Directory}
use Rattle.pie_lexer.specs.Tokens.{Lexes}
use Rattle.pie_lexer.specs.declared.token.Token.{Token}
use Rattle.pie_model.specs.Built.{built_by, provided_at}
use Rattle.pie_model.specs.Paths.{kind_of}
use Rattle.pie_model.specs.declared.words.Kind.{Kind}
use Rattle.pie_model.specs.declared.words.Kind.TheVariants.{Out, Kept, Source}
use Rattle.pie_model.specs.declared.words.Verdict.TheVariants.{Accepted as IsRight}
use Rattle.pie_model.specs.Verdict.{verdict}
use Rattle.pie_model_pipeline.specs.Rows.{refusal_of, verdict_of}
use Rattle.pie_model_pipeline.specs.World.{world, project}
use Rattle.pie_parser.specs.FunctionTrees.{FunctionTree}
use Rattle.pie_project.specs.Fronts.{Checked, Front, TextSays, tokens, no_token, BytesSay, pipeline_too_long, pipeline_no_text, pipeline_text}
use Rattle.pie_project.specs.Fronts.{TypedSays, no_roots, with_roots, PipelineSays, bad_pipeline, good_pipeline, ProjectSays, no_pipeline, with_pipeline}
use Rattle.pie_project.specs.Looking.{file_bytes, pipeline_path, roots_path}
use Rattle.pie_report.specs.declared.report.Report.{Report}
use Rattle.pie_store.specs.Canonical.{AreFuncs}
use Rattle.pie_value.specs.Canonical.{enc_task}
use Rattle.pie_value.specs.declared.task.Task.{Task}
use Rattle.pie_value.specs.declared.verdict.Refusal.{Refusal}
use Rattle.pie_value.specs.declared.verdict.Refusal.TheVariants as refusals
use Rattle.pie_value.specs.declared.verdict.Verdict.{Verdict}
use Rattle.pie_value.specs.declared.verdict.Verdict.TheVariants.{Accepted, Refused}
use Rattle.pie_incremental.specs.Clean.{IsAfresh, IsAsClean}
use Rattle.pie_incremental.specs.Earlier.{live_of}
use Rattle.pie_incremental.specs.Own.{bytes_at, open_path, pending_path, store_path}
use Rattle.pie_clean_laws.specs.Left.{HasLeft, HaveSameFiles, IsAccepted, IsLeftOf}
use Rattle.pie_clean_laws.specs.inner.Sources.{HaveSameSources, BuildAlike}
use Rattle.pie_clean_laws.proofs.Alike.{build_alike}
use Rattle.pie_clean_laws.proofs.OneProject.{one_project}
use Rattle.pie_clean_laws.proofs.Tables.{one_table, one_text}

-- ---- directories with the same two files have the same project

same_typed : (d e : Directory) (fs : List FunctionTree) (r : Front) → file_bytes d roots_path ≡ file_bytes e roots_path → TypedSays d fs r → TypedSays e fs r
same_typed d e fs r same (no_roots none) = no_roots (sym same ∙ none)
same_typed d e fs r same (with_roots there says) = with_roots (sym same ∙ there) says

same_pipeline : (d e : Directory) (bytes : List ℕ) (r : Front) → file_bytes d roots_path ≡ file_bytes e roots_path → PipelineSays d bytes r
    → PipelineSays e bytes r
same_pipeline d e bytes r same (bad_pipeline says) = bad_pipeline says
same_pipeline d e bytes r same (good_pipeline {fs = fs} {r = s} says typed) = good_pipeline says (same_typed d e fs s same typed)

pub same_front : (d e : Directory) (r : Front) → file_bytes d pipeline_path ≡ file_bytes e pipeline_path
    → file_bytes d roots_path ≡ file_bytes e roots_path → ProjectSays d r → ProjectSays e r
same_front d e r pipeline roots (no_pipeline none) = no_pipeline (sym pipeline ∙ none)
same_front d e r pipeline roots (with_pipeline {bytes = bytes} {r = s} there says) =
    with_pipeline (sym pipeline ∙ there) (same_pipeline d e bytes s roots says)

-- ---- verdicts

never_right : (x : Refusal) → refusal_of x ≡ IsRight → ⊥
never_right (refusals.Fault f) e = cc
never_right (refusals.Cycle ts) e = cc
never_right refusals.Many e = cc
never_right (refusals.Overlap p t u) e = cc
never_right (refusals.Nested p q) e = cc
never_right (refusals.Hidden p t u) e = cc

right_only : (v : Verdict) → verdict_of v ≡ IsRight → v ≡ Accepted
right_only Accepted e = refl
right_only (Refused x) e = absurd (never_right x e)

ok_same : {A E : Type 0} {x y : A} → ◌≡◌ {A = Result A E} (Ok x) (Ok y) → x ≡ y
ok_same e = cc

module _ (d : Directory) (a : IsAccepted d) where
  -- whatever its functions and roots are said to be
  accepted_as : (fs : List FunctionTree) (roots : List Task) → ProjectSays d (Ok (fs, roots)) → Accepts fs roots d
  accepted_as fs roots says =
      subst (λ (p : List FunctionTree × List Task). Accepts p.0 p.1 d)
      (ok_same (one_project d (Ok (a.functions, a.roots)) (Ok (fs, roots)) a.says says)) a.accepted

  right_by : (v : Verdict) (fs : List FunctionTree) (roots : List Task) → ProjectSays d (Ok (fs, roots))
      → verdict_of v ≡ verdict world (project fs d) (map enc_task roots) → v ≡ Accepted
  right_by v fs roots says is = right_only v (is ∙ sym (accepted_as fs roots says))

  pub clean_accepted : (r : Report) (after : Option Directory) → Leaves d r after → r.verdict ≡ Accepted
  clean_accepted r after leaves = by r.verdict leaves.3.1
    where
      by : (v : Verdict) → LeavesBy leaves.2.functions leaves.0 leaves.1 v d r after → v ≡ Accepted
      by Accepted l = refl
      by (Refused x) l = right_by (Refused x) leaves.2.functions leaves.1 leaves.2.says l.clean.verdict

  pub same_accepted : (r : Report) (after : Option Directory) → IsAsClean d r after → r.verdict ≡ Accepted
  same_accepted r after c = right_by r.verdict c.found.functions c.roots c.found.says c.verdict

  pub afresh_accepted : (r : Report) (after : Option Directory) → IsAfresh d r after → r.verdict ≡ Accepted
  afresh_accepted r after c = ap (λ (x : Report). x.verdict) c.is ∙ clean_accepted c.clean c.left c.leaves

-- ---- the tokens of a project

any_ok : {A E X : Type 0} (r : Result A E) → X → IfOk r (λ a. X)
any_ok (Ok a) x = x
any_ok (Err e) x = tt

abbrev IsLexed : List ℕ → Type 0
IsLexed text = (ts : List Token) × Lexes 0 text (Ok ts)

text_lexed : (text : List ℕ) (r : Checked) → TextSays text r → IfOk r (λ fs. IsLexed text)
text_lexed text r (tokens {ts = ts} x q) = any_ok r (ts, x)
text_lexed text r (no_token x) = tt

bytes_lexed : (bytes : List ℕ) (r : Checked) → BytesSay bytes r → IfOk r (λ fs. IsLexed bytes)
bytes_lexed bytes r (pipeline_too_long a) = tt
bytes_lexed bytes r (pipeline_no_text l u) = tt
bytes_lexed bytes r (pipeline_text l u q) = text_lexed bytes r q

pipeline_lexed : (d : Directory) (bytes : List ℕ) (r : Front) → PipelineSays d bytes r → IfOk r (λ p. IsLexed bytes)
pipeline_lexed d bytes r (bad_pipeline b) = tt
pipeline_lexed d bytes r (good_pipeline {fs = fs} b t) = any_ok r (bytes_lexed bytes (Ok fs) b)

project_lexed : (d : Directory) (r : Front) → ProjectSays d r → IfOk r (λ p. (text : List ℕ) × (file_bytes d pipeline_path ≡ Some text) × IsLexed text)
project_lexed d r (no_pipeline x) = tt
project_lexed d r (with_pipeline {bytes = bytes} x q) = by r (pipeline_lexed d bytes r q)
  where
    by : (s : Front) → IfOk s (λ p. IsLexed bytes) → IfOk s (λ p. (text : List ℕ) × (file_bytes d pipeline_path ≡ Some text) × IsLexed text)
    by (Ok p) l = (bytes, x, l)
    by (Err e) l = tt

-- ---- directories with the same files

kept_pipeline : kind_of pipeline_path ≡ Kept
unfolding kind_of
kept_pipeline = refl

kept_roots : kind_of roots_path ≡ Kept
unfolding kind_of
kept_roots = refl

module _ (d e : Directory) (alike : HaveSameFiles d e) where
  pub project_same : (r : Front) → ProjectSays d r → ProjectSays e r
  project_same r = same_front d e r (alike.kept pipeline_path kept_pipeline refl) (alike.kept roots_path kept_roots refl)

  sources_same : (fs : List FunctionTree) → HaveSameSources (project fs d) (project fs e)
  sources_same fs = record {
    next = λ t answers. refl;
    files = alike.sources;
    entries = λ dir k. same_entries d e dir (λ p below. alike.sources p (source_below dir p k below));
    lists = λ t answers dir is. (manners_of fs d).lists t answers dir is;
  }

  builds_same : (fs : List FunctionTree) (roots : List Task) → BuildAlike world (project fs d) (project fs e) (map enc_task roots)
  builds_same fs roots = build_alike world (project fs d) (project fs e) (sources_same fs) (map enc_task roots)

  pub files_accepted : IsAccepted d → IsAccepted e
  files_accepted a = record {
    functions = a.functions;
    roots = a.roots;
    says = project_same (Ok (a.functions, a.roots)) a.says;
    accepted = a.accepted ∙ (builds_same a.functions a.roots).verdict;
  }

  module _ (fs : List FunctionTree) (roots : List Task) (says : ProjectSays d (Ok (fs, roots))) (left other : Directory) (a : HasLeft fs roots d left)
      (b : HasLeft fs roots e other) where
    lexed : (text : List ℕ) × (file_bytes d pipeline_path ≡ Some text) × IsLexed text
    lexed = project_lexed d (Ok (fs, roots)) says

    tables_same : a.funcs ≡ b.funcs
    tables_same =
        one_table lexed.0 lexed.2.0 a.funcs b.funcs (a.digests lexed.0 lexed.1 lexed.2.0 lexed.2.1)
        (b.digests lexed.0 (sym (alike.kept pipeline_path kept_pipeline refl) ∙ lexed.1) lexed.2.0 lexed.2.1)
        (subst AreFuncs a.store.funcs a.store.text.store.table) (subst AreFuncs b.store.funcs b.store.text.store.table)

    texts_same : a.text ≡ b.text
    texts_same =
        one_text a.funcs b.funcs roots a.rows b.rows a.text b.text tables_same (a.records ∙ (builds_same fs roots).rows ∙ sym b.records) a.store b.store

    built_same : (q : List ℕ) (k : Kind) → kind_of q ≡ k → built_by a.text d (live_of fs d roots) q k ≡ built_by b.text e (live_of fs e roots) q k
    built_same q Out k = ap (λ live. provided_at live q) (builds_same fs roots).live
    built_same q Source k = ap (option_map (λ (f : List ℕ × ℕ). f.0)) (alike.sources q k)
    built_same q Kept k = kept (bytes_eq q store_path) refl (bytes_eq q open_path) refl (bytes_eq q pending_path) refl
      where
        off : (o s n : Bool) → o ≡ false → s ≡ false → n ≡ false → (o || s || n) ≡ false
        off false false false h i j = refl
        off false false true h i j = j
        off false true n h i j = i
        off true s n h i j = h

        kept : (s : Bool) → bytes_eq q store_path ≡ s → (o : Bool) → bytes_eq q open_path ≡ o → (n : Bool) → bytes_eq q pending_path ≡ n
            → cond s (Some a.text) (cond (cond o true (cond n true false)) None (bytes_at d q))
            ≡ cond s (Some b.text) (cond (cond o true (cond n true false)) None (bytes_at e q))
        kept true g o h n i = ap Some texts_same
        kept false g true h n i = refl
        kept false g false h true i = refl
        kept false g false h false i = alike.kept q k (off (same_text q open_path) (same_text q store_path) (same_text q pending_path) h g i)

    has_same : (q : List ℕ) → bytes_at left q ≡ bytes_at other q
    has_same q = a.bytes q ∙ built_same q (kind_of q) refl ∙ sym (b.bytes q)

  pub left_same : (left other : Directory) → IsLeftOf d left → IsLeftOf e other → (q : List ℕ) → bytes_at left q ≡ bytes_at other q
  left_same left other a b =
      let one : ◌≡◌ {A = List FunctionTree × List Task} (b.project.functions, b.project.roots) (a.project.functions, a.project.roots) =
      ok_same (one_project e (Ok (b.project.functions, b.project.roots)) (Ok (a.project.functions, a.project.roots)) b.project.says
      (project_same (Ok (a.project.functions, a.project.roots)) a.project.says)) in
      has_same a.project.functions a.project.roots a.project.says left other a.has
      (subst (λ (p : List FunctionTree × List Task). HasLeft p.0 p.1 e other) one b.has)
