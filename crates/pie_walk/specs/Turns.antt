-- What a walk leaves when it stops.
use Rattle.std.specs.Prelude.{◌≡◌, ◌⊎◌, ℕ, false, List, [], ◌∷◌, slice_set}
use Rattle.std.specs.List.{Contains}
use Rattle.pie_graph.specs.declared.edges.TaskNo.{TaskNo}
use Rattle.pie_graph.specs.Numbers.{IsMarked}
use Rattle.pie_graph.specs.Rows.{Calls}
use Rattle.pie_reach.specs.inner.Reaches.{Reaches}
use Rattle.pie_walk.specs.declared.stack.Entry.{Entry}
use Rattle.pie_walk.specs.declared.stack.Entry.TheVariants.{Waits}
use Rattle.pie_walk.specs.declared.walking.Turn.{Turn}
use Rattle.pie_walk.specs.declared.walking.Turn.TheVariants.{Takes, Answers, Idle}
use Rattle.pie_walk.specs.Marks.{IsSettled, MarksRise}
use Rattle.pie_walk.specs.States.{WalkState, OnTop, no_of, base_of}
use Rattle.pie_walk.specs.Counts.{Counts}

-- marks and the stack alone change: no task goes back, the walk stays below one root, and no task is taken
pub record Walks (old new : WalkState) : Type 0 where
  pub same : new ≡ record old { marks = new.marks; stack = new.stack }
  pub rise : MarksRise old.marks new.marks
  pub base : (new.stack ≡ []) ⊎ (base_of new.stack ≡ base_of old.stack)
  pub counts : Counts old new [] []

-- a task is taken: it was scheduled, what it requires is settled, and it reaches no other task that was scheduled; it alone is scheduled no longer
pub record IsTaken (old new : WalkState) (task : TaskNo) : Type 0 where
  pub top : OnTop new (Waits task)
  pub was : IsMarked old.scheduled task.0
  pub ready : (k : ℕ) → Calls new.rows task.0 k → IsSettled new.marks k
  pub lowest : (other : ℕ) → Reaches old.rows task.0 other → IsMarked old.scheduled other → other ≡ task.0
  pub same : new ≡ record old { marks = new.marks; stack = new.stack; scheduled = slice_set old.scheduled task.0 false }
  pub rise : MarksRise old.marks new.marks
  pub base : base_of new.stack ≡ base_of old.stack
  pub counts : Counts old new (task.0 ∷ []) []

-- the running task on top can go on: what it requires is settled
pub record IsAnswered (old new : WalkState) (task : TaskNo) : Type 0 where
  pub top : OnTop new (Waits task)
  pub ready : (k : ℕ) → Calls new.rows task.0 k → IsSettled new.marks k
  pub walks : Walks old new

-- nothing is left: each task that stood on the stack is settled
pub record HasEnded (old new : WalkState) : Type 0 where
  pub empty : new.stack ≡ []
  pub ended : (e : Entry) → Contains old.stack e → IsSettled new.marks (no_of e)
  pub walks : Walks old new

-- what a walk leaves
abbrev pub Turns : WalkState → WalkState → Turn → Type 0
Turns old new (Takes task) = IsTaken old new task
Turns old new (Answers task) = IsAnswered old new task
Turns old new Idle = HasEnded old new
