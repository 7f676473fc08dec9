-- The tree of an evaluation: what each task observed, wrote and required, in order, and how it ended.
use Rattle.std.specs.Prelude.{ℕ, suc, max, Bool, true, false, cond, ◌≡◌, ◌⊎◌, Option, List, [], ◌∷◌, ◌++◌}
use Rattle.pie_model.specs.Paths.{Path, among}
use Rattle.pie_model.specs.Tasks.{Task, Look, How}
-- what a look finds: nothing, contents with a mark, or two tasks that wrote the path
pub use Rattle.pie_model.specs.declared.words.Seen.{Seen}
pub use Rattle.pie_model.specs.declared.words.Seen.TheVariants.{Nothing, Holds, Clashing}
-- how a task ended: with a value, by a fault that arose in some task, by a cycle of tasks, or by too long a chain of tasks
pub use Rattle.pie_model.specs.declared.words.Outcome.{Outcome}
pub use Rattle.pie_model.specs.declared.words.Outcome.TheVariants.{Ended, Failed, Cycled, Many}

mutual
  -- the evaluation of a task
  pub data Node : Type 0 where
    node : Task → Trace → Node

  -- what a task did from some point on; a required task's evaluation stands where it was required
  pub data Trace : Type 0 where
    ends : Outcome → Trace
    looks : Look → Path → Seen → Trace → Trace
    lists : Path → Option (List Path) → Trace → Trace
    writes : Path → List ℕ → Trace → Trace
    needs : How → Task → Node → Trace → Trace

-- the task that was evaluated
abbrev pub task_of : Node → Task
task_of (node t k) = t

-- what it did
abbrev pub trace_of : Node → Trace
trace_of (node t k) = k

-- how it ends
abbrev pub end_of : Trace → Outcome
end_of (ends e) = e
end_of (looks l p s k) = end_of k
end_of (lists d es k) = end_of k
end_of (writes p b k) = end_of k
end_of (needs h u n k) = end_of k

-- how an evaluation ended
abbrev pub outcome_of : Node → Outcome
outcome_of n = end_of (trace_of n)

-- whether it ended with a value
abbrev pub is_done : Outcome → Bool
is_done (Ended v) = true
is_done (Failed t k) = false
is_done (Cycled ts) = false
is_done Many = false

-- whether it ended with a value or by a fault, which no task above it can have brought about
abbrev pub is_plain : Outcome → Bool
is_plain (Ended v) = true
is_plain (Failed t k) = true
is_plain (Cycled ts) = false
is_plain Many = false

-- what it wrote, in order
abbrev pub writes_of : Trace → List (Path × List ℕ)
writes_of (ends e) = []
writes_of (looks l p s k) = writes_of k
writes_of (lists d es k) = writes_of k
writes_of (writes p b k) = (p, b) ∷ writes_of k
writes_of (needs h u n k) = writes_of k

-- the tasks that it required, in order, repeats included
abbrev pub required_by : Trace → List Task
required_by (ends e) = []
required_by (looks l p s k) = required_by k
required_by (lists d es k) = required_by k
required_by (writes p b k) = required_by k
required_by (needs h u n k) = u ∷ required_by k

abbrev mutual
  -- an evaluation stands in a tree: it is the tree itself or stands below it
  pub StandsIn : Node → Node → Type 0
  StandsIn m (node t k) = (m ≡ node t k) ⊎ StandsBelow m k

  pub StandsBelow : Node → Trace → Type 0
  StandsBelow m (ends e) = ⊥
  StandsBelow m (looks l p s k) = StandsBelow m k
  StandsBelow m (lists d es k) = StandsBelow m k
  StandsBelow m (writes p b k) = StandsBelow m k
  StandsBelow m (needs h u n k) = StandsIn m n ⊎ StandsBelow m k

abbrev mutual
  -- a task stands in a tree: one of the evaluations in it is of that task
  pub HasTask : Task → Node → Type 0
  HasTask x (node t k) = (x ≡ t) ⊎ HasBelow x k

  pub HasBelow : Task → Trace → Type 0
  HasBelow x (ends e) = ⊥
  HasBelow x (looks l p s k) = HasBelow x k
  HasBelow x (lists d es k) = HasBelow x k
  HasBelow x (writes p b k) = HasBelow x k
  HasBelow x (needs h u n k) = HasTask x n ⊎ HasBelow x k

abbrev mutual
  -- how many evaluations stand one below the other at most
  pub levels : Node → ℕ
  levels (node t k) = suc (levels_below k)

  -- how many tasks stand at most one below the other from here on
  pub levels_below : Trace → ℕ
  levels_below (ends e) = 0
  levels_below (looks l p s k) = levels_below k
  levels_below (lists d es k) = levels_below k
  levels_below (writes p b k) = levels_below k
  levels_below (needs h u n k) = max (levels n) (levels_below k)

-- a task entered: put behind those entered before it, where it is not among them
abbrev pub enter : Task → List Task → List Task
enter t all = cond (among t all) all (all ++ t ∷ [])

abbrev mutual
  -- the tasks entered once a tree has been gone through, a parent before its children
  pub entered : Node → List Task → List Task
  entered (node t k) all = entered_below k (enter t all)

  -- the tasks that are entered from here on, after these
  pub entered_below : Trace → List Task → List Task
  entered_below (ends e) all = all
  entered_below (looks l p s k) all = entered_below k all
  entered_below (lists d es k) all = entered_below k all
  entered_below (writes p b k) all = entered_below k all
  entered_below (needs h u n k) all = entered_below k (entered n all)
