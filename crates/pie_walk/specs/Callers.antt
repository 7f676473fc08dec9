-- What a task that has changed does to those that require it.
use Rattle.std.specs.Prelude.{◌≡◌, ◌⊎◌, ℕ}
use Rattle.pie_graph.specs.Numbers.{IsMarked}
use Rattle.pie_graph.specs.Rows.{Calls}
use Rattle.pie_reach.specs.inner.Reaches.{Reaches}
use Rattle.pie_walk.specs.Marks.{IsIdle}
use Rattle.pie_walk.specs.States.{WalkState}

-- those that require a task and were neither taken nor settled are scheduled, and no others
pub record SchedulesCallers (old new : WalkState) (task : ℕ) : Type 0 where
  pub same : new ≡ record old { scheduled = new.scheduled }
  pub kept : (k : ℕ) → IsMarked old.scheduled k → IsMarked new.scheduled k
  pub each : (k : ℕ) → Calls old.rows k task → IsIdle old.marks k → IsMarked new.scheduled k
  pub only : (k : ℕ) → IsMarked new.scheduled k → IsMarked old.scheduled k ⊎ (Calls old.rows k task × IsIdle old.marks k)

-- a task is swept, and so the walk stands only if those above are, up to the end; scheduled are tasks alone that reach it, were neither taken nor
-- settled, and looked under `out`
pub record Sweeps (old new : WalkState) (task : ℕ) : Type 0 where
  pub same : new ≡ record old { scheduled = new.scheduled; swept = new.swept }
  pub swept : IsMarked new.swept task
  pub kept : (k : ℕ) → IsMarked old.scheduled k → IsMarked new.scheduled k
  pub only : (k : ℕ) → IsMarked new.scheduled k
      → IsMarked old.scheduled k ⊎ (Reaches old.rows k task × IsIdle old.marks k × IsMarked old.looks_out k)
