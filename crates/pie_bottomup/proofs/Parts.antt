-- Facts of lists, of records and of tasks.
use Rattle.std.proofs.Common.{◌≡◌, ℕ, ◌<◌, ◌^◌, List, length, take, drop, sym, ap, ◌∙◌, subst, arith, inl, inr}
use Rattle.std.specs.Prelude.{slice_get, slice_index_or, Some}
use Rattle.std.specs.List.{All}
use Rattle.std.proofs.lemmas.List.{take-map, drop-map}
use Rattle.std.proofs.lemmas.List.Elements.{All-take, All-drop}
use Rattle.std.proofs.lemmas.Option.{slice_get_within, get_or_from_slice_get}
use Rattle.pie_graph.specs.declared.edges.TaskNo.{TaskNo}
use Rattle.pie_graph.specs.Numbers.{AllBelow, numbers}
use Rattle.pie_reach.specs.inner.Reaches.{IsAcyclic}
use Rattle.pie_settle_laws.proofs.Ordering.{acyclic}
use Rattle.pie_value.specs.declared.task.Task.{Task}
use Rattle.pie_value.specs.Canonical.{IsEncodableTask, IsCanonicalTask, enc_task}
use Rattle.pie_record.specs.Canonical.{IsStorableDep, IsStorableWrite, IsStorableOutcome}
use Rattle.pie_record.specs.declared.dep.Dep.{Dep}
use Rattle.pie_record.specs.declared.task_record.Outcome.{Outcome}
use Rattle.pie_record.specs.declared.task_record.TaskRecord.{TaskRecord}
use Rattle.pie_tables.specs.Tabled.{IsKept, HasFailed}
use Rattle.pie_running.specs.declared.page.NoteParts.{NoteParts}
use Rattle.pie_running.specs.inner.Noted.{noted_in}
use Rattle.pie_frames.specs.declared.frames.Frames.{Frames}
use Rattle.pie_frames.specs.inner.Standing.{Rests}
use Rattle.pie_bottomup.specs.declared.state.Core.{Core}
use Rattle.pie_bottomup.specs.inner.States.{MayEnd}

-- a part of some numbers that are below a bound
pub part_below : (bound n m : ℕ) (nos : List TaskNo) → AllBelow bound (numbers nos) → AllBelow bound (numbers (take m (drop n nos)))
part_below bound n m nos below =
    let parts : numbers (take m (drop n nos)) ≡ take m (drop n (numbers nos)) =
    sym (take-map (λ (t : TaskNo). t.0) m (drop n nos)) ∙ ap (take m) (sym (drop-map (λ (t : TaskNo). t.0) n nos)) in
    subst (AllBelow bound) (sym parts) (All-take (λ k. k < bound) m (drop n (numbers nos)) (All-drop (λ k. k < bound) n (numbers nos) below))

-- the rows of a walk have no cycle
pub rests_acyclic : (f : Frames) → Rests f → IsAcyclic f.walk.rows
rests_acyclic f rests = acyclic f.walk.rows f.walk.places rests.stands.holds.agrees

-- a task of the tables has canonical bytes
pub named_encodable : (names : List Task) (n : ℕ) (t : Task) → All (λ (u : Task). IsCanonicalTask u (enc_task u)) names → slice_get names n ≡ Some t
    → IsEncodableTask t
named_encodable names n t all at =
    let here : IsCanonicalTask (slice_index_or names n t) (enc_task (slice_index_or names n t)) = all n t (slice_get_within names n t at) in
    (subst (λ (u : Task). IsCanonicalTask u (enc_task u)) (get_or_from_slice_get names n t t at) here).encodable

-- what was noted can be stored, or the task failed
pub ended_kept : (c : Core) (task : TaskNo) (from : ℕ) (p : NoteParts) (left : ℕ) (o : Outcome) (r : TaskRecord) → MayEnd c task from (noted_in p left) o
    → IsEncodableTask r.task → r.deps ≡ p.deps.items → r.writes ≡ p.writes.items → r.outcome ≡ o → IsKept r
ended_kept c n from p left o r (inl failed) task deps writes outcome = inr (subst HasFailed (sym outcome) failed)
ended_kept c n from p left o r (inr full) task deps writes outcome = let sound = full.sound in inl (record {
  task = task;
  few_deps = subst (λ (ds : List Dep). length ds < 2 ^ 32) (sym deps) (omega (arith, sound.few));
  deps = subst (All IsStorableDep) (sym deps) sound.deps;
  few_writes = subst (λ (ws : List (List ℕ × List ℕ)). length ws < 2 ^ 32) (sym writes) (omega (arith, sound.few));
  writes = subst (All IsStorableWrite) (sym writes) sound.writes;
  outcome = subst IsStorableOutcome (sym outcome) full.outcome;
})
