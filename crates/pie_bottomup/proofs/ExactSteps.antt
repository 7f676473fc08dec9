-- The rows of tasks that end with what they noted, and of one that is lost.
use Rattle.std.proofs.Common.{◌≡◌, ℕ, ◌<◌, List, [], ◌∷◌, ◌++◌, map, Option, None, Some, Result, Ok, Err, length, refl, sym, ap, ◌∙◌, subst, arith}
use Rattle.std.specs.Prelude.{slice_get, take, drop, IfOk}
use Rattle.pie_record.specs.inner.Records.{record_of as kept_of}
use Rattle.std.specs.List.{flat_map}
use Rattle.std.proofs.lemmas.List.{take_all, drop_all, map-append}
use Rattle.std.proofs.lemmas.Option.{slice_get_within}
use Rattle.pie_value.specs.declared.task.Task.{Task}
use Rattle.pie_value.specs.Canonical.{enc_task, IsCanonicalTask}
use Rattle.pie_types.specs.Whole.{number_from}
use Rattle.pie_graph.specs.declared.edges.TaskNo.{TaskNo}
use Rattle.pie_graph.specs.Rows.{row_at}
use Rattle.pie_record.specs.declared.dep.Dep.{Dep}
use Rattle.pie_record.specs.declared.dep.DepOn.{DepOn}
use Rattle.pie_record.specs.declared.dep.DepOn.TheVariants.{File, Called}
use Rattle.pie_record.specs.declared.task_record.TaskRecord.{TaskRecord}
use Rattle.pie_record.specs.inner.Names.{Numbers}
use Rattle.pie_store.specs.Canonical.{required_on}
use Rattle.pie_old.specs.inner.Rows.{tasks_at}
use Rattle.pie_running.specs.declared.frame.Caller.{Caller}
use Rattle.pie_running.specs.inner.Noted.{Noted, tasks_on}
use Rattle.pie_running.specs.inner.Coded.{IsCodeFor}
use Rattle.pie_frames.specs.declared.parked.Parked.{Parked}
use Rattle.pie_frames.specs.inner.Standing.{Holds, IsParked, number_of}
use Rattle.pie_builder_laws.specs.Names.{called_on, called_in}
use Rattle.pie_builder_laws.specs.Views.{AreNumbersOf, RowIs}
use Rattle.pie_builder_laws.proofs.Numbered.{code_found}
use Rattle.pie_core_laws.specs.Update.{Update}
use Rattle.pie_bottomup.specs.declared.plan.Plan.{Plan}
use Rattle.pie_bottomup.specs.declared.state.Core.{Core}
use Rattle.pie_bottomup.specs.inner.Finished.{end_row}
use Rattle.pie_bottomup.specs.inner.Running.{IsCaller}
use Rattle.pie_bottomup.specs.inner.States.{IsOwn}
use Rattle.pie_bottomup.specs.inner.Exact.{IsPlanNow, BeginsAsOld}
use Rattle.pie_bottomup.specs.inner.Exact.{IsTakenExact}
use Rattle.pie_bottomup.specs.inner.Exact.{IsWaitingFor, lost_record, lost_task}

-- ---- results

pub if_ok_more : {A E : Type 0} (P Q : A → Type 0) → ((a : A) → P a → Q a) → (r : Result A E) → IfOk r P → IfOk r Q
if_ok_more P Q f (Ok a) h = f a h
if_ok_more P Q f (Err e) h = tt

-- ---- notes

-- the tasks that are required are those that are called
called_same : (deps : List Dep) → tasks_on deps ≡ called_in deps
called_same [] = refl
called_same (d ∷ ds) = by d.what (called_same ds)
  where
    by : (w : DepOn) → flat_map (λ (x : Dep). required_on x.what) ds ≡ called_in ds
        → required_on w ++ flat_map (λ (x : Dep). required_on x.what) ds ≡ called_on w ++ called_in ds
    by (File p) e = e
    by (Called t) e = ap (λ xs. t ∷ xs) e

-- the row of a task that ends with what it noted
pub noted_row : (c : Core) (task : TaskNo) (from : ℕ) (n : Noted) (rec : TaskRecord) → IsOwn c task from n → rec.deps ≡ n.deps
    → RowIs c.tables.names (end_row c.frames.walk task.0 from rec) (Some rec)
noted_row c task from n rec own deps = (
  ap (tasks_at c.tables.names) own.row.same ∙ own.noted.needs ∙ ap (map Some) (called_same n.deps) ∙ ap (λ ds. map Some (called_in ds)) (sym deps),
  refl,
)

-- the row of a task that ends as the one did for which it waited
pub caller_row : (c : Core) (task : TaskNo) (from : ℕ) (w : Caller) (rec : TaskRecord) → IsWaitingFor c task from w
    → rec.deps ≡ w.waiting.notes.deps ++ lost_task w.how w.required ∷ []
    → RowIs c.tables.names (end_row c.frames.walk task.0 from rec) (Some rec)
caller_row c task from w rec waits deps = (
  ap (tasks_at c.tables.names) waits.row
      ∙ map-append (slice_get c.tables.names) w.waiting.notes.needs (waits.callee ∷ [])
      ∙ ap (λ (os : List (Option Task)). os ++ slice_get c.tables.names waits.callee ∷ []) waits.needs
      ∙ ap (λ (o : Option Task). map Some (tasks_on w.waiting.notes.deps) ++ o ∷ []) waits.required
      ∙ sym (map-append Some (tasks_on w.waiting.notes.deps) (w.required ∷ []))
      ∙ ap (map Some) (called_more w.waiting.notes.deps)
      ∙ ap (λ ds. map Some (called_in ds)) (sym deps),
  refl,
)
  where
    called_more : (ds : List Dep) → tasks_on ds ++ w.required ∷ [] ≡ called_in (ds ++ lost_task w.how w.required ∷ [])
    called_more ds = ap (λ ts. ts ++ w.required ∷ []) (called_same ds) ∙ more ds
      where
        more : (xs : List Dep) → called_in xs ++ w.required ∷ [] ≡ called_in (xs ++ lost_task w.how w.required ∷ [])
        more [] = refl
        more (x ∷ xs) = by x.what (more xs)
          where
            by : (o : DepOn) → called_in xs ++ w.required ∷ [] ≡ called_in (xs ++ lost_task w.how w.required ∷ [])
                → (called_on o ++ called_in xs) ++ w.required ∷ [] ≡ called_on o ++ called_in (xs ++ lost_task w.how w.required ∷ [])
            by (File p) e = e
            by (Called t) e = ap (λ ys. t ∷ ys) e

-- what a task waits for
pub waiting_for : (c : Core) (task : TaskNo) (p : Parked) → number_of p ≡ task.0 → IsParked c.frames.walk.rows p
    → IsCaller c.plan c.tables.names c.tables.records c.frames.walk.marks p → IsWaitingFor c task p.from p.caller
waiting_for c task p number parked caller = record {
  callee = p.callee.0;
  required = caller.required;
  row = subst (λ (n : ℕ). drop p.from (row_at c.frames.walk.rows n).needs ≡ p.caller.waiting.notes.needs ++ p.callee.0 ∷ []) number parked.row.same;
  needs = caller.noted.needs;
}

-- ---- a task that is lost

-- a task without code has no function
pub no_function : (u : Update) (p : Plan) (t : Task) → IsPlanNow u p → IsCodeFor p.typed.now p.code.now t None → number_from 0 u.functions t ≡ None
no_function u p t plan none = by (number_from 0 u.functions t) refl
  where
    of_now : IsCodeFor u.functions p.code.now t None
    of_now = subst (λ fs. IsCodeFor fs p.code.now t None) plan.functions none

    by : (o : Option ℕ) → number_from 0 u.functions t ≡ o → o ≡ None
    by None e = refl
    by (Some n) e = let c = code_found u.functions p.code.now t n plan.compiled e in absurd (of_now n e c.code c.is c.takes)

module _ (old new : Core) (task : TaskNo) (from : ℕ) (t : Task) (rec : TaskRecord) (holds : Holds task old.frames)
    (named : slice_get old.tables.names task.0 ≡ Some t) (canonical : IsCanonicalTask t (enc_task t)) (is : rec ≡ lost_record t)
    (none : IsCodeFor old.plan.typed.now old.plan.code.now t None) (whole : from ≡ length (row_at old.frames.walk.rows task.0).needs) where
  pub lost_row : RowIs old.tables.names (end_row old.frames.walk task.0 from rec) (Some rec)
  lost_row = (
    ap (tasks_at old.tables.names) (drop_all from (row_at old.frames.walk.rows task.0).needs (omega (arith, whole)))
        ∙ ap (λ (z : TaskRecord). map Some (called_in z.deps)) (sym is),
    refl,
  )

  pub lost_begins : (u : Update) → IsTakenExact u old task.0
      → (kept_of old.tables.records task.0 ≡ None → (row_at old.frames.walk.rows task.0).needs ≡ [])
      → BeginsAsOld old.tables old.frames.walk.rows task.0 from
  lost_begins u taken bare =
      let all : take from (row_at old.frames.walk.rows task.0).needs ≡ (row_at old.frames.walk.rows task.0).needs =
      take_all from (row_at old.frames.walk.rows task.0).needs (omega (arith, whole)) in
      record {
        old = λ was kept. subst (λ (ns : List ℕ). AreNumbersOf old.tables.names ns (called_in was.deps)) (sym all) (taken.rests was kept).row.0;
        new = λ none. all ∙ bare none;
      }

-- a task that has a number
pub numbered_inside : (names : List Task) (t : Task) (o : Option TaskNo) (number : TaskNo) → o ≡ Some number → Numbers names t o
    → number.0 < length names
numbered_inside names t o number is numbers = slice_get_within names number.0 t (subst (Numbers names t) is numbers)
