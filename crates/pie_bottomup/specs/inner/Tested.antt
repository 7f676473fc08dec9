-- The first step: old records are held against what is there now.
use Rattle.std.specs.Prelude.{◌≡◌, ℕ, ◌<◌, Bool, false, length, Option, Some, slice_index_or}
use Rattle.pie_files.specs.Directory.{Directory}
use Rattle.pie_graph.specs.Numbers.{IsMarked}
use Rattle.pie_record.specs.declared.task_record.TaskRecord.{TaskRecord}
use Rattle.pie_record.specs.inner.Records.{record_of}
use Rattle.pie_named.specs.declared.named.Named.{Named}
use Rattle.pie_named.specs.inner.Names.{SameNames}
use Rattle.pie_named.specs.inner.Known.{IsTrueOf, StaysKnown}
use Rattle.pie_compare.specs.inner.Touching.{IsTouched, IsKnownTouched}
use Rattle.pie_bottomup.specs.declared.state.Core.{Core}

-- a record was held against a directory: where its task isn't due, nothing that it observed or wrote is another now; and where something is,
-- that is known of one such thing
pub record WasHeld (d : Directory) (n : Named) (rec : TaskRecord) (due : Bool) : Type 0 where
  pub untouched : due ≡ false → IsTouched d n rec → ⊥
  pub searched : IsTouched d n rec → IsKnownTouched n rec

-- the record of a task was, if its function kept its digest
abbrev pub TaskWasHeld : Directory → Core → ℕ → Bool → Type 0
TaskWasHeld d c n due = (rec : TaskRecord) → record_of c.tables.records n ≡ Some rec → IsMarked c.plan.same.items n → WasHeld d c.named rec due

-- and the task is scheduled where it is due
abbrev pub IsHeld : Directory → Core → ℕ → Type 0
IsHeld d c n = TaskWasHeld d c n (slice_index_or c.frames.walk.scheduled n false)

abbrev pub AreHeld : Directory → Core → ℕ → Type 0
AreHeld d c count = (n : ℕ) → n < count → IsHeld d c n

-- the function of a task kept its digest, and nothing that its record observed or wrote is another now
pub record IsAsBefore (d : Directory) (c : Core) (n : ℕ) (rec : TaskRecord) : Type 0 where
  pub same : IsMarked c.plan.same.items n
  pub untouched : IsTouched d c.named rec → ⊥

-- so it is of each task that isn't scheduled
abbrev pub AreAsBefore : Directory → Core → ℕ → Type 0
AreAsBefore d c count =
    (n : ℕ) (rec : TaskRecord) → n < count → record_of c.tables.records n ≡ Some rec → slice_index_or c.frames.walk.scheduled n false ≡ false
    → IsAsBefore d c n rec

-- where the files tell their directory, what is known stays true of it, and this holds by it
abbrev pub HoldsBy : Option Directory → Core → Core → (Directory → Type 0) → Type 0
HoldsBy held old new P = (d : Directory) → held ≡ Some d → IsTrueOf d old.named → IsTrueOf d new.named × P d

-- the first step has held all old records against what is there now
abbrev pub HasTested : Option Directory → Core → Core → Type 0
HasTested held old new =
    HoldsBy held old new (λ d. AreHeld d new (length old.frames.walk.rows) × AreAsBefore d new (length old.frames.walk.rows))

-- of the walk the flags of scheduled tasks alone may be others, and nothing is staged or taken away
pub record OnlySchedules (old new : Core) : Type 0 where
  pub walk : new.frames.walk ≡ record old.frames.walk { scheduled = new.frames.walk.scheduled }
  pub stage : new.stage ≡ old.stage

-- the plan, the tables and the number of old tasks stay, more tasks may be scheduled, and of the same names more may be known
pub record Learns (old new : Core) : Type 0 where
  pub plan : new.plan ≡ old.plan
  pub tables : new.tables ≡ old.tables
  pub earlier : new.earlier ≡ old.earlier
  pub scheduled : (n : ℕ) → IsMarked old.frames.walk.scheduled n → IsMarked new.frames.walk.scheduled n
  pub names : SameNames old.named new.named
  pub stays : StaysKnown old.named new.named

-- so it does, of the walk the flags of scheduled tasks alone may be others, and nothing is staged or taken away
pub record LearnsOnly (old new : Core) : Type 0 where
  pub learns : Learns old new
  pub only : OnlySchedules old new
