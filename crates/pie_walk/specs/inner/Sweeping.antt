-- Tasks that require a changed one, one after another.
use Rattle.std.specs.Prelude.{◌≡◌, ◌⊎◌, ℕ, Bool, true, false, cond, not, ◌&&◌, ◌||◌, List, [], ◌∷◌, ◌++◌, length, slice_set, slice_index_or}
use Rattle.std.specs.List.{Contains}
use Rattle.pie_graph.specs.Numbers.{IsMarked, Exactly}
use Rattle.pie_graph.specs.Rows.{Calls}
use Rattle.pie_reach.specs.inner.Reaches.{Reaches}
use Rattle.pie_walk.specs.declared.marks.Mark.{Mark}
use Rattle.pie_walk.specs.declared.marks.Mark.TheVariants.{New, Visited, Runs, Settled}
use Rattle.pie_walk.specs.Marks.{mark_of, IsIdle}
use Rattle.pie_walk.specs.States.{WalkState, with_scheduled}

-- neither taken nor settled
abbrev pub is_idle : Mark → Bool
is_idle New = true
is_idle Visited = true
is_idle Runs = false
is_idle Settled = false

-- a task is scheduled, if it was neither taken nor settled
abbrev pub schedule_one : ℕ → WalkState → WalkState
schedule_one n s = cond (is_idle (mark_of s.marks n)) (with_scheduled s n) s

-- tasks are, one after another
abbrev pub schedule_all : List ℕ → WalkState → WalkState
schedule_all [] s = s
schedule_all (n ∷ ns) s = schedule_all ns (schedule_one n s)

-- a walk within a sweep, and the tasks from which the sweep goes up
pub record Sweep : Type 0 where
  pub state : WalkState
  pub work : List ℕ

abbrev pub swept_to : WalkState → List ℕ → Sweep
swept_to s work = record { state = s; work = work }

-- whether a sweep takes in a task: it was neither taken nor settled, nor swept
abbrev pub is_due : WalkState → ℕ → Bool
is_due s n = is_idle (mark_of s.marks n) && not (slice_index_or s.swept n false)

-- a task is swept, and scheduled if it looked under `out`
abbrev pub sweeping : WalkState → ℕ → WalkState
sweeping s n = record s {
  swept = slice_set s.swept n true;
  scheduled = slice_set s.scheduled n (slice_index_or s.scheduled n false || slice_index_or s.looks_out n false);
}

-- a sweep takes in a task, if it is due
abbrev pub sweep_one : ℕ → Sweep → Sweep
sweep_one n w = cond (is_due w.state n) (record { state = sweeping w.state n; work = w.work ++ n ∷ [] }) w

-- tasks, one after another
abbrev pub sweep_all : List ℕ → Sweep → Sweep
sweep_all [] w = w
sweep_all (n ∷ ns) w = sweep_all ns (sweep_one n w)

-- how a sweep stands with a task above a swept one: it is swept, the sweep has yet to go up from the one below, or is about to come to it
pub data Comes (swept : List Bool) (work : List ℕ) (at : ℕ) (next : List ℕ) (n k : ℕ) : Type 0 where
  is_done : IsMarked swept k → Comes swept work at next n k
  is_waiting : Contains work n → Comes swept work at next n k
  is_next : n ≡ at → Contains next k → Comes swept work at next n k

-- a sweep from a task, which is about to come to these above another one
pub record Sweeping (begin : WalkState) (task : ℕ) (w : Sweep) (at : ℕ) (next : List ℕ) : Type 0 where
  pub same : w.state ≡ record begin { scheduled = w.state.scheduled; swept = w.state.swept }
  pub scheduled_sized : length w.state.scheduled ≡ length begin.scheduled
  pub swept_sized : length w.state.swept ≡ length begin.swept
  pub root : IsMarked w.state.swept task
  pub kept : (k : ℕ) → IsMarked begin.scheduled k → IsMarked w.state.scheduled k
  pub only : (k : ℕ) → IsMarked w.state.scheduled k
      → IsMarked begin.scheduled k ⊎ (Reaches begin.rows k task × IsIdle begin.marks k × IsMarked begin.looks_out k)
  pub listed : (k : ℕ) → Contains w.work k → Reaches begin.rows k task
  pub up : (n k : ℕ) → IsMarked w.state.swept n → Calls begin.rows k n → IsIdle begin.marks k → Comes w.state.swept w.work at next n k
  pub flags : (k : ℕ) → IsMarked w.state.swept k → IsIdle begin.marks k → IsMarked begin.looks_out k → IsMarked w.state.scheduled k

-- 1 for a task that wasn't swept
abbrev pub is_unswept : Bool → ℕ
is_unswept true = 0
is_unswept false = 1

-- a sweep went up from a task to all that require it
pub record SweepsAbove (at : ℕ) (old : WalkState) (work : List ℕ) (new : WalkState) (work_now : List ℕ) : Type 0 where
  pub callers : List ℕ
  pub exactly : Exactly (λ k. Calls old.rows k at) callers
  pub all : swept_to new work_now ≡ sweep_all callers (swept_to old work)
