-- Clean builds of one directory tell the same.
use Rattle.std.proofs.Common.{◌≡◌, ℕ, zero, suc, List, [], ◌∷◌, map, length, take, Option, Ok, Err, Vec, Global, refl, sym, ap, subst, ◌∙◌, arith}
use Rattle.std.specs.Prelude.{codes}
use Rattle.std.specs.List.{All, AllPairs, Contains}
use Rattle.std.specs.List.Sorted.{IsStrictlySortedBy}
use Rattle.std.specs.declared.cmp.Ordering.TheVariants.{Greater, Less}
use Rattle.std.specs.Ordering.{ordering_reverse}
use Rattle.std.proofs.lemmas.Cmp.{nat_list_cmp_total}
use Rattle.std.proofs.lemmas.List.{length-map}
use Rattle.std.proofs.lemmas.List.Elements.{All-from_recursion, All-head, All-tail}
use Rattle.pie_base.specs.declared.fault.FaultKind.{FaultKind}
use Rattle.pie_base.specs.declared.fault.FaultKind.TheVariants as faults
use Rattle.pie_value.specs.declared.task.Task.{Task}
use Rattle.pie_value.specs.declared.value.Value.{Value}
use Rattle.pie_value.specs.declared.verdict.Refusal.{Refusal}
use Rattle.pie_value.specs.declared.verdict.Refusal.TheVariants as refusals
use Rattle.pie_value.specs.declared.verdict.Verdict.{Verdict}
use Rattle.pie_value.specs.declared.verdict.Verdict.TheVariants.{Accepted, Refused}
use Rattle.pie_value.specs.Canonical.{enc_task}
use Rattle.pie_value.specs.Reading.{Parsed, task_prefix}
use Rattle.pie_value.proofs.Decoded.{task_whole_again}
use Rattle.pie_files.specs.Directory.{Directory, files_under}
use Rattle.pie_reach.specs.Plan.{IsPlan, path_cmp}
use Rattle.pie_parser.specs.FunctionTrees.{FunctionTree}
use Rattle.pie_report.specs.declared.report.Report.{Report}
use Rattle.pie_model.specs.Forest.{entered_tasks}
use Rattle.pie_model.specs.Verdict.{verdict as model_verdict}
use Rattle.pie_model.specs.declared.words.FaultKind.{FaultKind as ModelFault}
use Rattle.pie_model.specs.declared.words.FaultKind.TheVariants as model_faults
use Rattle.pie_model.specs.declared.words.Verdict.{Verdict as ModelVerdict}
use Rattle.pie_model.specs.declared.words.Verdict.TheVariants as model_verdicts
use Rattle.pie_model_pipeline.specs.Answers.{value_with}
use Rattle.pie_model_pipeline.specs.Clean.{AreProvided, output_bytes}
use Rattle.pie_model_pipeline.specs.Rows.{record_of, refusal_of, verdict_of}
use Rattle.pie_model_pipeline.specs.Words.{fault_of}
use Rattle.pie_model_pipeline.specs.World.{world, project}
use Rattle.pie_model_pipeline.proofs.Joining.{values_told}
use Rattle.pie_check_laws.proofs.Members.{from_map, into_map}
use Rattle.pie_fresh.specs.Cleans.{contents_in}
use Rattle.pie_fresh.specs.Told.{IsTrueOutput, IsTrueRefusal, IsTrueTask, IsTrueVerdict}
use Rattle.pie_build.specs.Left.{Leaves, LeavesBy, LeavesOf}
use Rattle.pie_project.specs.Fronts.{Front}
use Rattle.pie_clean_laws.specs.inner.Told.{TellTheSame}
use Rattle.pie_clean_laws.proofs.Ascending.{ascending_same}
use Rattle.pie_clean_laws.proofs.OneProject.{one_project}

-- ---- what the program has comes back from what the model has of it

module _ {A B : Type 0} (f : A → B) (g : B → A) (P : A → Type 0) (back : (a : A) → P a → g (f a) ≡ a) where
  all_back : (xs : List A) → All P xs → map g (map f xs) ≡ xs
  all_back [] h = refl
  all_back (x ∷ xs) h = λ i. back x (All-head P x xs h) i ∷ all_back xs (All-tail P x xs h) i

  same_by : (xs ys : List A) → map f xs ≡ map f ys → All P xs → All P ys → xs ≡ ys
  same_by xs ys e h k = sym (all_back xs h) ∙ ap (map g) e ∙ all_back ys k

abbrev no_task : Task
no_task = record { func = []; args = [] }

abbrev task_read : Parsed Task → Task
task_read (Ok p) = p.0
task_read (Err e) = no_task

abbrev task_from : List ℕ → Task
task_from bytes = task_read (task_prefix bytes)

task_back : (t : Task) → IsTrueTask t → task_from (enc_task t) ≡ t
task_back t is = ap task_read (task_whole_again t (enc_task t) is)

abbrev output_from : List ℕ × List ℕ → Task × Value
output_from o = (task_from o.0, value_with o.1)

output_back : (o : Task × Value) → IsTrueOutput o → output_from (output_bytes o) ≡ o
output_back o is = λ i. (task_back o.0 is.0 i, values_told o.1 is.1 i)

abbrev kind_from : ModelFault → FaultKind
kind_from model_faults.NotText = faults.NotText
kind_from model_faults.BadPath = faults.BadPath
kind_from model_faults.BadWrite = faults.BadWrite
kind_from model_faults.WroteTwice = faults.WroteTwice
kind_from model_faults.ReadThenWrite = faults.ReadThenWrite
kind_from model_faults.Clash = faults.Clash
kind_from model_faults.Budget = faults.Budget
kind_from model_faults.Big = faults.Big
kind_from model_faults.Overflow = faults.Overflow
kind_from model_faults.Zero = faults.Zero
kind_from model_faults.Null = faults.Null
kind_from (model_faults.Said s) = faults.Said s
kind_from model_faults.Range = faults.Range
kind_from model_faults.BadList = faults.BadList
kind_from model_faults.Unknown = faults.Unknown

kind_back : (k : FaultKind) → kind_from (fault_of k) ≡ k
kind_back faults.NotText = refl
kind_back faults.BadPath = refl
kind_back faults.BadWrite = refl
kind_back faults.WroteTwice = refl
kind_back faults.ReadThenWrite = refl
kind_back faults.Clash = refl
kind_back faults.Budget = refl
kind_back faults.Big = refl
kind_back faults.Overflow = refl
kind_back faults.Zero = refl
kind_back faults.Null = refl
kind_back (faults.Said s) = refl
kind_back faults.Range = refl
kind_back faults.BadList = refl
kind_back faults.Unknown = refl

abbrev refusal_from : ModelVerdict → Refusal
refusal_from model_verdicts.Accepted = refusals.Many
refusal_from (model_verdicts.Fault t k) = refusals.Fault (record { task = task_from t; kind = kind_from k })
refusal_from (model_verdicts.Cycle ts) = refusals.Cycle (map task_from ts)
refusal_from model_verdicts.Many = refusals.Many
refusal_from (model_verdicts.Overlap p t u) = refusals.Overlap p (task_from t) (task_from u)
refusal_from (model_verdicts.Nested p q) = refusals.Nested p q
refusal_from (model_verdicts.Hidden p t u) = refusals.Hidden p (task_from t) (task_from u)

refusal_back : (r : Refusal) → IsTrueRefusal r → refusal_from (refusal_of r) ≡ r
refusal_back (refusals.Fault f) is = λ i. refusals.Fault (record { task = task_back f.task is i; kind = kind_back f.kind i })
refusal_back (refusals.Cycle ts) is = ap refusals.Cycle (all_back enc_task task_from IsTrueTask task_back ts is)
refusal_back refusals.Many is = refl
refusal_back (refusals.Overlap p t u) is = λ i. refusals.Overlap p (task_back t is.0 i) (task_back u is.1 i)
refusal_back (refusals.Nested p q) is = refl
refusal_back (refusals.Hidden p t u) is = λ i. refusals.Hidden p (task_back t is.0 i) (task_back u is.1 i)

abbrev verdict_from : ModelVerdict → Verdict
verdict_from model_verdicts.Accepted = Accepted
verdict_from v = Refused (refusal_from v)

refused_back : (r : Refusal) → verdict_from (refusal_of r) ≡ Refused (refusal_from (refusal_of r))
refused_back (refusals.Fault f) = refl
refused_back (refusals.Cycle ts) = refl
refused_back refusals.Many = refl
refused_back (refusals.Overlap p t u) = refl
refused_back (refusals.Nested p q) = refl
refused_back (refusals.Hidden p t u) = refl

verdict_back : (v : Verdict) → IsTrueVerdict v → verdict_from (verdict_of v) ≡ v
verdict_back Accepted is = refl
verdict_back (Refused r) is = refused_back r ∙ ap Refused (refusal_back r is)

-- ---- paths in order

abbrev IsLess : List ℕ → List ℕ → Type 0
IsLess a b = path_cmp a b ≡ Less

never_less : (a b : List ℕ) → IsLess a b → IsLess b a → ⊥
never_less a b h k = by (sym h ∙ nat_list_cmp_total.antisymm a b ∙ ap ordering_reverse k)
  where
    by : Less ≡ Greater → ⊥
    by e = cc

pairs_more : (x : List ℕ) (xs : List (List ℕ)) → All (IsLess x) xs → AllPairs IsLess xs → AllPairs IsLess (x ∷ xs)
pairs_more x xs h k zero zero d less within = absurd (omega (arith, less))
pairs_more x xs h k zero (suc j) d less within = h j d (omega (arith, within))
pairs_more x xs h k (suc i) zero d less within = absurd (omega (arith, less))
pairs_more x xs h k (suc i) (suc j) d less within = k i j d (omega (arith, less)) (omega (arith, within))

all_pairs : (xs : List (List ℕ)) → IsStrictlySortedBy path_cmp xs → AllPairs IsLess xs
unfolding IsStrictlySortedBy
all_pairs [] h = λ i j d less within. absurd (omega (arith, within))
all_pairs (x ∷ xs) h = pairs_more x xs (All-from_recursion (IsLess x) xs h.0) (all_pairs xs h.1)

paths_one : (xs ys : List (List ℕ)) → IsStrictlySortedBy path_cmp xs → IsStrictlySortedBy path_cmp ys → ((p : List ℕ) → Contains xs p → Contains ys p)
    → ((p : List ℕ) → Contains ys p → Contains xs p) → xs ≡ ys
paths_one xs ys h k to fro = ascending_same IsLess never_less xs ys (all_pairs xs h) (all_pairs ys k) to fro

-- what remains to be removed is decided by what was written
plans_one : (there kept also found others : List (List ℕ)) → kept ≡ also → IsPlan there kept found → IsPlan there also others → found ≡ others
plans_one there kept also found others same p q =
    paths_one found others p.ordered q.ordered
    (λ a h. q.each a (p.only a h).0 (λ g. (p.only a h).1 (subst (λ (ks : List (List ℕ)). Contains ks a) (sym same) g)))
    (λ a h. p.each a (q.only a h).0 (λ g. (q.only a h).1 (subst (λ (ks : List (List ℕ)). Contains ks a) same g)))

-- ---- files

abbrev Written : Type 0
Written = List (List ℕ × Vec ℕ Global)

abbrev paths_in : Written → List (List ℕ)
paths_in files = map (λ (f : List ℕ × Vec ℕ Global). f.0) files

module _ (fs : List FunctionTree) (d : Directory) (roots : List (List ℕ)) where
  -- a file that is provided is one of those that are
  also_written : (files others : Written) → AreProvided fs d roots (contents_in files) → AreProvided fs d roots (contents_in others) → (p : List ℕ)
      → Contains (paths_in files) p → Contains (paths_in others) p
  also_written files others is also p h =
      let f = from_map (λ (f : List ℕ × Vec ℕ Global). f.0) files p h in
      let has = into_map (λ (f : List ℕ × Vec ℕ Global). (f.0, f.1.items)) files f.0 f.1 in
      let g = from_map (λ (f : List ℕ × Vec ℕ Global). (f.0, f.1.items)) others (f.0.0, f.0.1.items)
      ((also f.0.0 f.0.1.items).1 ((is f.0.0 f.0.1.items).0 has)) in
      subst (Contains (paths_in others)) (ap (λ (x : List ℕ × List ℕ). x.0) g.2 ∙ f.2) (into_map (λ (f : List ℕ × Vec ℕ Global). f.0) others g.0 g.1)

  written_one : (files others : Written) (xs ys : List (List ℕ)) → AreProvided fs d roots (contents_in files) → AreProvided fs d roots (contents_in others)
      → xs ≡ paths_in files → ys ≡ paths_in others → IsStrictlySortedBy path_cmp xs → IsStrictlySortedBy path_cmp ys → xs ≡ ys
  written_one files others xs ys is also a b h k =
      paths_one xs ys h k
      (λ p c. subst (λ (zs : List (List ℕ)). Contains zs p) (sym b) (also_written files others is also p (subst (λ (zs : List (List ℕ)). Contains zs p) a c)))
      (λ p c. subst (λ (zs : List (List ℕ)). Contains zs p) (sym a) (also_written others files also is p (subst (λ (zs : List (List ℕ)). Contains zs p) b c)))

-- ---- one build beside another

-- whatever a build ended with: its verdict and the tasks that it started are those of the model, and ones that the program has
record TellsClean (fs : List FunctionTree) (roots : List Task) (d : Directory) (v : Verdict) (r : Report) : Type 0 where
  verdict : verdict_of v ≡ model_verdict world (project fs d) (map enc_task roots)
  is_true : IsTrueVerdict v
  started : map enc_task r.ran.items ≡ take 50000 (entered_tasks world (project fs d) (map enc_task roots))
  ran : All IsTrueTask r.ran.items

-- the rest of what it tells
record TellsAlike (r s : Report) : Type 0 where
  wrote : r.wrote.items ≡ s.wrote.items
  removed : r.removed.items ≡ s.removed.items
  live : r.live ≡ s.live
  outputs : r.outputs.items ≡ s.outputs.items

module _ (fs : List FunctionTree) (roots : List Task) (d : Directory) where
  tells_clean : (funcs : List (List ℕ × List ℕ)) (v : Verdict) (r : Report) (after : Option Directory) → LeavesBy fs funcs roots v d r after
      → TellsClean fs roots d v r
  tells_clean funcs Accepted r after l =
      record { verdict = l.clean.verdict; is_true = tt; started = l.clean.started; ran = l.tells.ran }
  tells_clean funcs (Refused x) r after l =
      record { verdict = l.clean.verdict; is_true = l.tells.verdict; started = l.clean.started; ran = l.tells.ran }

  tells_alike : (funcs others : List (List ℕ × List ℕ)) (v : Verdict) (r s : Report) (after left : Option Directory) → LeavesBy fs funcs roots v d r after
      → LeavesBy fs others roots v d s left → TellsAlike r s
  tells_alike funcs others Accepted r s after left l m =
      let wrote : r.wrote.items ≡ s.wrote.items =
      written_one fs d (map enc_task roots) l.files m.files r.wrote.items s.wrote.items l.clean.built.1 m.clean.built.1 l.place.wrote m.place.wrote l.place.ordered
      m.place.ordered in
      record {
        wrote = wrote;
        removed = plans_one (files_under d (codes "out")) r.wrote.items s.wrote.items r.removed.items s.removed.items wrote l.place.removed m.place.removed;
        live = l.live ∙ sym (length-map l.rows record_of) ∙ ap length (l.clean.built.0 ∙ sym m.clean.built.0) ∙ length-map m.rows record_of ∙ sym m.live;
        outputs = same_by output_bytes output_from IsTrueOutput output_back r.outputs.items s.outputs.items (l.clean.built.2 ∙ sym m.clean.built.2) l.tells.outputs
            m.tells.outputs;
      }
  tells_alike funcs others (Refused x) r s after left l m = record {
    wrote = l.wrote ∙ sym m.wrote;
    removed = l.removed ∙ sym m.removed;
    live = l.live ∙ sym m.live;
    outputs = l.outputs ∙ sym m.outputs;
  }

  tell_the_same : (funcs others : List (List ℕ × List ℕ)) (r s : Report) (after left : Option Directory) → LeavesOf fs funcs roots d r after
      → LeavesOf fs others roots d s left → TellTheSame r s
  tell_the_same funcs others r s after left l m =
      let a = tells_clean funcs r.verdict r after l.1 in
      let b = tells_clean others s.verdict s left m.1 in
      let same : r.verdict ≡ s.verdict =
      sym (verdict_back r.verdict a.is_true) ∙ ap verdict_from (a.verdict ∙ sym b.verdict) ∙ verdict_back s.verdict b.is_true in
      let rest = tells_alike funcs others r.verdict r s after left l.1 (subst (λ (v : Verdict). LeavesBy fs others roots v d s left) (sym same) m.1) in
      record {
        verdict = same;
        fresh = l.0 ∙ sym m.0;
        ran = same_by enc_task task_from IsTrueTask task_back r.ran.items s.ran.items (a.started ∙ sym b.started) a.ran b.ran;
        wrote = rest.wrote;
        removed = rest.removed;
        live = rest.live;
        outputs = rest.outputs;
      }

abbrev the_front : Front → Front
the_front r = r

ok_same : {x y : List FunctionTree × List Task} → the_front (Ok x) ≡ the_front (Ok y) → x ≡ y
ok_same e = cc

pub clean_reports_one : (d : Directory) (r s : Report) (after left : Option Directory) → Leaves d r after → Leaves d s left → TellTheSame r s
clean_reports_one d r s after left l m =
    let same = ok_same (one_project d (Ok (l.2.functions, l.1)) (Ok (m.2.functions, m.1)) l.2.says m.2.says) in
    tell_the_same l.2.functions l.1 d l.0 m.0 r s after left l.3
    (subst (λ (p : List FunctionTree × List Task). LeavesOf p.0 m.0 p.1 d s left) (sym same) m.3)

pub clean_tasks_true : (d : Directory) (r : Report) (after : Option Directory) → Leaves d r after → All IsTrueTask r.ran.items
clean_tasks_true d r after l = (tells_clean l.2.functions l.1 d l.0 r.verdict r after l.3.1).ran
