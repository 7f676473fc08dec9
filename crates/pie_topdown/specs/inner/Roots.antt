-- Roots that were settled.
use Rattle.std.specs.Prelude.{◌≡◌, ℕ, ◌+◌, ◌≤◌, List, ◌++◌, length, Some, All, slice_get}
use Rattle.pie_value.specs.declared.task.Task.{Task}
use Rattle.pie_value.specs.Canonical.{IsEncodableTask}
use Rattle.pie_topdown.specs.declared.ledger.Ledger.{Ledger}
use Rattle.pie_topdown.specs.declared.builder.Builder.{Builder}
use Rattle.pie_topdown.specs.inner.Ledgers.{Grows, HasOutput}
use Rattle.pie_topdown.specs.inner.Turns.{room}

-- a root has ended with an output
pub record IsSettledRoot (l : Ledger) (t : Task) : Type 0 where
  pub number : ℕ
  pub named : slice_get l.tables.names number ≡ Some t
  pub output : HasOutput l.tables.records number

abbrev pub AreSettled : Ledger → List Task → Type 0
AreSettled l roots = All (IsSettledRoot l) roots

-- tasks were added to a list, each of which has canonical bytes
pub record Started (old new : List Task) : Type 0 where
  pub gained : List Task
  pub is : new ≡ old ++ gained
  pub encodable : All IsEncodableTask gained

-- at most 50,000 tasks were added to the list of those that were started, and tasks to that of those that were reused, each of which has canonical bytes
pub record StartsAndReuses (before after old new : List Task) : Type 0 where
  pub started : Started before after
  pub few : length after ≤ length before + 50000
  pub reused : Started old new

-- a build goes on: tasks were entered or have ended, and each that was started takes of those that may be
pub record Continues (old new : Builder) (runs after : List Task) : Type 0 where
  pub plan : new.plan ≡ old.plan
  pub grows : Grows old.ledger new.ledger
  pub spends : length after + room new ≤ length runs + room old
