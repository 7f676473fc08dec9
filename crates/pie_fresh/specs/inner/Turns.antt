-- How a step ends.
use Rattle.std.specs.Prelude.{◌≡◌, ℕ, ◌+◌, ◌-◌, ◌*◌, ◌<◌, List, [], ◌∷◌, ◌++◌, length, Contains}
use Rattle.pie_value.specs.declared.task.Task.{Task}
use Rattle.pie_digest.specs.Digests.{function_names}
use Rattle.pie_value.specs.declared.verdict.Refusal.TheVariants.{Fault}
use Rattle.pie_running.specs.declared.frame.RunningTask.{RunningTask}
use Rattle.pie_running.specs.declared.frame.Caller.{Caller}
use Rattle.pie_running.specs.declared.frame.Told.{Told}
use Rattle.pie_running.specs.declared.frame.Told.TheVariants.{Goes as GoesOnTold, Fails as FailsTold}
use Rattle.pie_fresh.specs.declared.turn.Turn.{Turn}
use Rattle.pie_fresh.specs.declared.turn.Turn.TheVariants.{Goes, Rests, Stops}
use Rattle.pie_fresh.specs.declared.builder.Builder.{Builder}
use Rattle.pie_fresh.specs.declared.builder.Entered.{Entered}
use Rattle.pie_fresh.specs.declared.builder.Entered.TheVariants.{Runs, Refused}
use Rattle.pie_running.specs.inner.Noted.{Noted}
use Rattle.pie_running.specs.inner.Frames.{IsReady}
use Rattle.pie_running.specs.inner.Steps.{Advanced}
use Rattle.pie_fresh.specs.inner.Ledgers.{IsLedger, Grows}
use Rattle.pie_fresh.specs.inner.Frames.{IsTop, Running, IsIdle}

-- how a step ends by what the running task was told
abbrev pub turned : Told → Turn
turned (GoesOnTold f) = Goes f
turned (FailsTold n k) = Stops (Fault (record { task = n.task; kind = k }))

-- the task was answered, or the root fails
abbrev pub Answered : Noted → Turn → Type 0
Answered old (Goes f) = IsReady f × Advanced old f.notes
Answered old Rests = ⊥
Answered old (Stops r) = Unit {0}

-- the build stands, with the task that goes on
abbrev pub GoesOn : Builder → Turn → Type 0
GoesOn b (Goes f) = Running b f
GoesOn b Rests = IsIdle b
GoesOn b (Stops r) = Unit {0}

-- a task was entered and runs: one task more, of a function of the pipeline, beside the stack as it was
pub record Begun (old new : Builder) (t : Task) (f : RunningTask) : Type 0 where
  pub top : IsTop new.ledger f
  pub task : f.notes.task ≡ t
  pub number : f.notes.number ≡ length old.ledger.names
  pub ledger : IsLedger new.ledger
  pub grows : Grows old.ledger new.ledger
  pub names : new.ledger.names ≡ old.ledger.names ++ t ∷ []
  pub records : new.ledger.records ≡ old.ledger.records
  pub ended : new.ledger.ended ≡ old.ledger.ended
  pub stack : new.stack ≡ old.stack
  pub typed : new.typed ≡ old.typed
  pub known : Contains (function_names old.typed.now) t.func
  pub left : f.notes.left ≡ 1000001

-- a task that was entered runs, or the root fails
abbrev pub Begins : Builder → Builder → Task → Entered → Type 0
Begins old new t (Runs f) = Begun old new t f
Begins old new t (Refused r) = Unit {0}

-- the steps that tasks on the stack may still make
abbrev pub waiting_left : List Caller → ℕ
waiting_left [] = 0
waiting_left (c ∷ cs) = c.waiting.notes.left + 1 + waiting_left cs

-- the steps that tasks may make which can still be entered
unfoldable pub still : ℕ → ℕ
still entered = (50000 - entered) * 1000003

-- the steps that a build may still make, beside those of the task that runs
abbrev pub below_left : Builder → ℕ
below_left b = still (length b.ledger.names) + waiting_left b.stack.items

-- the end is nearer than so many steps
abbrev pub Nearer : ℕ → Builder → Turn → Type 0
Nearer steps b (Goes f) = below_left b + f.notes.left + 1 < steps
Nearer steps b Rests = Unit {0}
Nearer steps b (Stops r) = Unit {0}

-- after a step the build stands, and its end is nearer than so many steps
pub record StepsTo (steps : ℕ) (b : Builder) (t : Turn) : Type 0 where
  pub goes : GoesOn b t
  pub nearer : Nearer steps b t
