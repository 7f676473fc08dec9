-- What a call of a step leaves: how far it is to the end, what may yet be started, and what was marked.
use Rattle.std.specs.Prelude.{◌≡◌, ℕ, ◌+◌, ◌≤◌, List, Option, Result, length}
use Rattle.pie_value.specs.declared.task.Task.{Task}
use Rattle.pie_files.specs.Directory.{Directory}
use Rattle.pie_files.specs.Reading.{ReadsOnly}
use Rattle.pie_files.specs.declared.files.FilesError.{FilesError}
use Rattle.pie_store.specs.inner.Offers.{Offered}
use Rattle.pie_topdown.specs.declared.builder.Builder.{Builder}
use Rattle.pie_topdown.specs.declared.hand.Turn.{Turn}
use Rattle.pie_topdown.specs.inner.Marks.{StaysMarked}
use Rattle.pie_topdown.specs.inner.Turns.{TurnsTo, Nearer, Fits, Spends, StartsOne, Keeps}

-- a build of the same pipeline goes on, in which no task was marked
pub record KeepsMarked (old new : Builder) : Type 0 where
  pub kept : Keeps old new
  pub marks : StaysMarked old new

-- so it does, and one task more was entered
pub record GainsOne (old new : Builder) : Type 0 where
  pub one : length new.ledger.tables.names ≡ length old.ledger.tables.names + 1
  pub kept : Keeps old new
  pub marks : StaysMarked old new

-- a step leaves the build standing and nearer to its end, and no more tasks may be started than so many
pub record StepsTo (mass places : ℕ) (old new : Builder) (t : Turn) : Type 0 where
  pub turns : TurnsTo new t
  pub nearer : Nearer mass new t
  pub fits : Fits places new t
  pub kept : Keeps old new

-- so does a step that may start a task, which takes of those that may be started
pub record SpendsTo (mass places : ℕ) (old : Builder) (runs after : List Task) (new : Builder) (t : Turn) : Type 0 where
  pub turns : TurnsTo new t
  pub nearer : Nearer mass new t
  pub spends : Spends places runs after new t
  pub kept : Keeps old new

-- at most one task was started, and no more than so many
pub record StartsWithin (places : ℕ) (old new : List Task) : Type 0 where
  pub starts : StartsOne old new
  pub few : length new ≤ length old + places

-- the files are only read, and the same is offered of them as before
pub record OnlyAsks {S T O : Type 0} (holds : S → Option Directory) (moment : S → ℕ) (left_since : S → ℕ → Directory → Type 0)
    (images : S → Directory → Type 0) (faults : S → ℕ) (tells : O → Directory → Task → List ℕ → List Offered) (old new : S) (before after : O)
    (result : Result T FilesError) : Type 0 where
  pub reads : ReadsOnly holds moment left_since images faults old new result
  pub told : tells after ≡ tells before
