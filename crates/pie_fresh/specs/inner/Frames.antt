-- The tasks of a build that run and those that wait.
use Rattle.std.specs.Prelude.{◌≡◌, ℕ, ◌+◌, ◌<◌, ◌≤◌, List, [], ◌∷◌, ◌++◌, length, map, Some, slice_get, All, Contains}
use Rattle.pie_value.specs.declared.task.Task.{Task}
use Rattle.pie_value.specs.Canonical.{IsEncodableTask}
use Rattle.pie_digest.specs.Digests.{function_names}
use Rattle.pie_running.specs.declared.frame.RunningTask.{RunningTask}
use Rattle.pie_running.specs.declared.frame.Caller.{Caller}
use Rattle.pie_running.specs.declared.frame.Waiting.{Waiting}
use Rattle.pie_fresh.specs.declared.ledger.Ledger.{Ledger}
use Rattle.pie_fresh.specs.declared.builder.Builder.{Builder}
use Rattle.pie_running.specs.inner.Frames.{IsReady, IsWaiting}
use Rattle.pie_fresh.specs.inner.Ledgers.{IsLedger, IsPlaced, AreOpen}

-- a task that waits for one that it requires
pub record IsCaller (l : Ledger) (c : Caller) : Type 0 where
  pub waits : IsWaiting c.waiting
  pub required : IsEncodableTask c.required
  pub placed : IsPlaced l c.waiting.notes

-- the numbers of the tasks that wait
abbrev pub numbers_of : List Caller → List ℕ
numbers_of cs = map (λ (c : Caller). c.waiting.notes.number) cs

-- the number of the first task that waits, or this one where none does
abbrev pub first_of : List Caller → ℕ → ℕ
first_of [] top = top
first_of (c ∷ cs) top = c.waiting.notes.number

-- each task that waits requires the one above it, and the last one requires the task with this number
abbrev pub WaitInTurn : List Task → List Caller → ℕ → Type 0
WaitInTurn names [] top = Unit {0}
WaitInTurn names (c ∷ cs) top = (slice_get names (first_of cs top) ≡ Some c.required) × WaitInTurn names cs top

-- each task is of a function of the pipeline
abbrev pub AreKnown : Builder → Type 0
AreKnown b = All (λ (t : Task). Contains (function_names b.typed.now) t.func) b.ledger.names

-- roots that have canonical bytes were entered
pub record AreEntered (names roots : List Task) : Type 0 where
  pub small : All IsEncodableTask roots
  pub named : All (λ (t : Task). Contains names t) roots

-- A build between two steps. The tasks that wait and those that run are the ones that were entered and haven't ended: the first numbers are those
-- of the tasks that run, at most one, and the other number is that of the task that runs or has just ended.
pub record Stands (running : List ℕ) (top : ℕ) (b : Builder) : Type 0 where
  pub ledger : IsLedger b.ledger
  pub stack : All (IsCaller b.ledger) b.stack.items
  pub turns : WaitInTurn b.ledger.names b.stack.items top
  pub unfinished : AreOpen b.ledger (numbers_of b.stack.items ++ running)
  pub counted : b.ledger.ended + length b.stack.items + length running ≤ length b.ledger.names
  pub known : AreKnown b

-- a build in which the task with this number runs
abbrev pub StandsAt : ℕ → Builder → Type 0
StandsAt number b = Stands (number ∷ []) number b

-- a build between two roots: no task waits
pub record IsIdle (b : Builder) : Type 0 where
  pub stands : Stands [] 0 b
  pub alone : b.stack.items ≡ []

-- a task that runs in a build
pub record IsTop (l : Ledger) (f : RunningTask) : Type 0 where
  pub ready : IsReady f
  pub placed : IsPlaced l f.notes

-- a build with the task that runs
pub record Running (b : Builder) (f : RunningTask) : Type 0 where
  pub stands : StandsAt f.notes.number b
  pub top : IsTop b.ledger f

-- a build with the running task, which waits for an answer
pub record AwaitsAnswer (b : Builder) (w : Waiting) : Type 0 where
  pub stands : StandsAt w.notes.number b
  pub waits : IsWaiting w
  pub placed : IsPlaced b.ledger w.notes

-- a build between two roots, in which this task was entered
pub record HasEvaluated (b : Builder) (t : Task) : Type 0 where
  pub idle : IsIdle b
  pub named : Contains b.ledger.names t

-- a build is as it was, but for the contents that are staged
pub record StagesOnly (old new : Builder) : Type 0 where
  pub names : new.ledger.names ≡ old.ledger.names
  pub rows : new.ledger.rows ≡ old.ledger.rows
  pub heights : new.ledger.heights ≡ old.ledger.heights
  pub records : new.ledger.records ≡ old.ledger.records
  pub ended : new.ledger.ended ≡ old.ledger.ended
  pub stack : new.stack ≡ old.stack
  pub typed : new.typed ≡ old.typed
