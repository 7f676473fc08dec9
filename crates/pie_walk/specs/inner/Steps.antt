-- One step of a walk.
use Rattle.std.specs.Prelude.{◌≡◌, ◌≢◌, ◌⊎◌, ℕ, ◌+◌, ◌*◌, ◌<◌, List, Option, None, Some, length, slice_index}
use Rattle.std.specs.List.{sum_by}
use Rattle.pie_graph.specs.declared.edges.TaskNo.{TaskNo}
use Rattle.pie_graph.specs.Rows.{Calls}
use Rattle.pie_walk.specs.declared.marks.Mark.{Mark}
use Rattle.pie_walk.specs.declared.marks.Mark.TheVariants.{New, Visited, Runs, Settled}
use Rattle.pie_walk.specs.declared.stack.Entry.TheVariants.{Visit}
use Rattle.pie_walk.specs.declared.walking.Turn.{Turn}
use Rattle.pie_walk.specs.Marks.{IsSettled}
use Rattle.pie_walk.specs.States.{WalkState, OnTop}
use Rattle.pie_walk.specs.Standing.{HoldsIn, needs_at}
use Rattle.pie_walk.specs.Turns.{Walks, Turns}

-- 1 for a task that wasn't met
abbrev pub is_unmet : Mark → ℕ
is_unmet New = 1
is_unmet Visited = 0
is_unmet Runs = 0
is_unmet Settled = 0

-- what is left of a walk: each task that wasn't met goes onto the stack, and from there
abbrev pub left : WalkState → ℕ
left s = 2 * sum_by is_unmet s.marks + length s.stack

-- a step that goes on brings the walk nearer to its end
pub record Nears (old new : WalkState) : Type 0 where
  pub holds : HoldsIn new
  pub walks : Walks old new
  pub falls : left new < left old

-- what a step leaves, where the walk goes on and where it stops
abbrev pub StepsTo : WalkState → WalkState → Option Turn → Type 0
StepsTo old new None = Nears old new
StepsTo old new (Some turn) = HoldsIn new × Turns old new turn

-- the visit on top has come to its end
pub record IsReady (s : WalkState) (task : TaskNo) : Type 0 where
  pub next : ℕ
  pub top : OnTop s (Visit task next)
  pub ready : (k : ℕ) → Calls s.rows task.0 k → IsSettled s.marks k

-- the visit on top has come to a required task that isn't settled
pub record IsUnsettledAt (s : WalkState) (task : TaskNo) (at : ℕ) : Type 0 where
  pub next : ℕ
  pub top : OnTop s (Visit task next)
  pub within : at < length (needs_at s.rows task.0)
  pub before : (i : ℕ) → i < at → IsSettled s.marks (slice_index (needs_at s.rows task.0) i)
  pub unsettled : IsSettled s.marks (slice_index (needs_at s.rows task.0) at) → ⊥
