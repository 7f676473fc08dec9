-- A task that ended is told to those that it concerns.
use Rattle.std.proofs.Common.{◌≡◌, ◌≢◌, ◌⊎◌, ℕ, ◌<◌, Bool, true, false, List, Some, length, refl, sym, ap, ◌∙◌, subst, inl, inr, arith}
use Rattle.std.specs.List.{Contains}
use Rattle.std.proofs.lemmas.List.{get_or-set_same, get_or-set_other}
use Rattle.pie_graph.specs.declared.edges.TaskNo.{TaskNo}
use Rattle.pie_graph.specs.Numbers.{IsMarked}
use Rattle.pie_graph.specs.Rows.{Row, row_at, no_edges, Calls}
use Rattle.pie_reach.specs.inner.Reaches.{Reaches}
use Rattle.pie_reach.specs.inner.Reaches.Leads.{itself, step}
use Rattle.pie_record.specs.declared.task_record.TaskRecord.{TaskRecord}
use Rattle.pie_record.specs.inner.Records.{record_of, Puts}
use Rattle.pie_tables.specs.declared.tables.Tables.{Tables}
use Rattle.pie_walk.specs.declared.marks.Mark.{Mark}
use Rattle.pie_walk.specs.declared.marks.Mark.TheVariants.{New, Visited, Runs, Settled}
use Rattle.pie_walk.specs.declared.stack.Entry.TheVariants.{Waits}
use Rattle.pie_walk.specs.Marks.{mark_of, IsIdle}
use Rattle.pie_walk.specs.States.{WalkState}
use Rattle.pie_walk.proofs.StateSteps.{top_inside, top_runs}
use Rattle.pie_frames.specs.inner.Standing.{Holds}
use Rattle.pie_bottomup.specs.declared.state.Core.{Core}
use Rattle.pie_bottomup.specs.inner.States.{HasCalled}
use Rattle.pie_bottomup.specs.inner.Finished.{HasSameEdges, TellsCallers, TellsOthers, end_row, ended_walk, HasSettledWith, HasSwept, HasFinished}

not_idle : (marks : List Mark) (n : ℕ) (m : Mark) → mark_of marks n ≡ m → (m ≡ New → ⊥) → (m ≡ Visited → ⊥) → IsIdle marks n → ⊥
not_idle marks n m is new visited (inl e) = new (sym is ∙ e)
not_idle marks n m is new visited (inr e) = visited (sym is ∙ e)

running_not_idle : (marks : List Mark) (n : ℕ) → mark_of marks n ≡ Runs → IsIdle marks n → ⊥
running_not_idle marks n is = not_idle marks n Runs is (λ e. cc) (λ e. cc)

settled_not_idle : (marks : List Mark) (n : ℕ) → mark_of marks n ≡ Settled → IsIdle marks n → ⊥
settled_not_idle marks n is = not_idle marks n Settled is (λ e. cc) (λ e. cc)

-- the walk after the task is settled and swept, beside the one before
record Ended (old new : WalkState) (n : ℕ) : Type 0 where
  marked : mark_of new.marks n ≡ Settled
  marks : (k : ℕ) → k ≢ n → mark_of new.marks k ≡ mark_of old.marks k
  rows : (k : ℕ) → k ≢ n → row_at new.rows k ≡ row_at old.rows k

ended_by : (old new : WalkState) (n from : ℕ) (r : TaskRecord) → n < length old.marks
    → new ≡ record (ended_walk old n from r) { scheduled = new.scheduled; swept = new.swept } → Ended old new n
ended_by old new n from r l e = record {
  marked = ap (λ (s : WalkState). mark_of s.marks n) e ∙ get_or-set_same old.marks n Settled New l;
  marks = λ k apart. ap (λ (s : WalkState). mark_of s.marks k) e ∙ get_or-set_other old.marks n k Settled New apart;
  rows = λ k apart. ap (λ (s : WalkState). row_at s.rows k) e ∙ get_or-set_other old.rows n k (end_row old n from r) no_edges apart;
}

apart_from : (marks : List Mark) (n k : ℕ) → (IsIdle marks n → ⊥) → IsIdle marks k → k ≢ n
apart_from marks n k busy idle same = busy (subst (IsIdle marks) same idle)

-- a task that requires it now, and may be scheduled, required it before and might be
called_before : (old new : WalkState) (n k : ℕ) → Ended old new n → Calls new.rows k n → IsIdle new.marks k → Calls old.rows k n × IsIdle old.marks k
called_before old new n k ended calls idle =
    let apart = apart_from new.marks n k (settled_not_idle new.marks n ended.marked) idle in (
      subst (λ (row : Row). Contains row.needs n) (ended.rows k apart) calls,
      subst (λ (m : Mark). (m ≡ New) ⊎ (m ≡ Visited)) (ended.marks k apart) idle,
    )

-- and one that did before requires it now
reaches_now : (old new : WalkState) (n k : ℕ) → Ended old new n → mark_of old.marks n ≡ Runs → Calls old.rows k n → IsIdle old.marks k
    → Reaches new.rows k n
reaches_now old new n k ended runs calls idle =
    let apart = apart_from old.marks n k (running_not_idle old.marks n runs) idle in
    step (subst (λ (row : Row). Contains row.needs n) (sym (ended.rows k apart)) calls) itself

module _ (old a b new : Core) (task : TaskNo) (from : ℕ) (r : TaskRecord) (output edges : Bool) (called : HasCalled old a task.0 output)
    (ended : HasSettledWith a b task.0 from r) (swept : HasSwept b new task.0 edges) where
  names : new.tables.names ≡ old.tables.names
  names = ap (λ (t : Tables). t.names) swept.tables ∙ ended.names ∙ ap (λ (t : Tables). t.names) called.tables

  puts : Puts old.tables.records new.tables.records task.0 r
  puts = subst (λ (t : Tables). Puts t.records new.tables.records task.0 r) called.tables
      (subst (λ (t : Tables). Puts a.tables.records t.records task.0 r) (sym swept.tables) ended.puts)

  same : new.frames.walk
      ≡ record (ended_walk old.frames.walk task.0 from r) { scheduled = new.frames.walk.scheduled; swept = new.frames.walk.swept }
  same = swept.same
      ∙ ap (λ (w : WalkState). record w { scheduled = new.frames.walk.scheduled; swept = new.frames.walk.swept })
      (ended.walk ∙ ap (λ (w : WalkState). ended_walk w task.0 from r) called.walk)

  flags : b.frames.walk.scheduled ≡ a.frames.walk.scheduled
  flags = ap (λ (w : WalkState). w.scheduled) ended.walk

  up : (k : ℕ) → IsMarked a.frames.walk.scheduled k → IsMarked new.frames.walk.scheduled k
  up k flag = swept.kept k (subst (λ fs. IsMarked fs k) (sym flags) flag)

  -- more may be scheduled of the tasks that reach it, and it is told to those that it concerns
  pub has_finished : Holds task old.frames → ((was : TaskRecord) → record_of old.tables.records task.0 ≡ Some was → output ≡ false → was.outcome ≡ r.outcome)
      → ((was : TaskRecord) → record_of old.tables.records task.0 ≡ Some was → edges ≡ false → HasSameEdges (row_at old.frames.walk.rows task.0) from was r)
      → HasFinished old new task.0 from r
  has_finished holds by_output by_edges =
      let walk = holds.taken.stands.holds in
      let runs : mark_of old.frames.walk.marks task.0 ≡ Runs = top_runs old.frames.walk task holds.top walk in
      let inside : task.0 < length old.frames.walk.rows = top_inside old.frames.walk (Waits task) holds.top walk in
      let is = ended_by old.frames.walk new.frames.walk task.0 from r (omega (arith, inside, walk.marks_sized)) same in
      record {
        names = names;
        puts = puts;
        same = same;
        kept = λ k flag. up k (called.kept k flag);
        only = λ k flag. elim (swept.only k flag) [
          | inl before ↦ elim (called.only k (subst (λ fs. IsMarked fs k) flags before)) [
            | inl was ↦ inl was
            | inr calls ↦ inr (reaches_now old.frames.walk new.frames.walk task.0 k is runs calls.0 calls.1)
          ]
          | inr reaches ↦ inr (subst (λ (w : WalkState). Reaches w.rows k task.0) (sym swept.same) reaches)
        ];
        callers = λ was kept. callers was kept is (by_output was kept) output refl;
        others = λ was kept. others was (by_edges was kept) edges refl;
      }
    where
      callers : (was : TaskRecord) → record_of old.tables.records task.0 ≡ Some was → Ended old.frames.walk new.frames.walk task.0
          → (output ≡ false → was.outcome ≡ r.outcome) → (t : Bool) → output ≡ t → TellsCallers new.frames.walk task.0 was r
      callers was kept is by true on = inr (λ k calls idle.
          let before = called_before old.frames.walk new.frames.walk task.0 k is calls idle in up k (called.called on k before.0 before.1))
      callers was kept is by false off = inl (by off)

      others : (was : TaskRecord) → (edges ≡ false → HasSameEdges (row_at old.frames.walk.rows task.0) from was r) → (t : Bool) → edges ≡ t
          → TellsOthers new.frames.walk task.0 (row_at old.frames.walk.rows task.0) from was r
      others was by true on = inr (swept.swept on)
      others was by false off = inl (by off)
