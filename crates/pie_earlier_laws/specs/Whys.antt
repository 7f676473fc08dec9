-- Why a task runs, and why one that is settled and did not run had no reason to.
use Rattle.std.specs.Prelude.{ℕ, ◌≡◌, true, Option, Some, List, []}
use Rattle.pie_model.specs.Paths.{Path, among}
use Rattle.pie_model.specs.Tasks.{Task}
use Rattle.pie_model.specs.Trees.{outcome_of, is_done}
use Rattle.pie_model.specs.Evaluation.{World, Project, evaluation}
use Rattle.pie_model.specs.Records.{Record, record_of, needs_of}
use Rattle.pie_model.specs.Built.{Directory}
use Rattle.pie_model.specs.StampNow.{Told, by_records}
use Rattle.pie_model.specs.Separate.{NeverWritesWhatItSaw}
use Rattle.pie_model.specs.inner.Present.{Reaches}
use Rattle.pie_model.specs.inner.Consistent.{IsRecorded}
use Rattle.pie_model.specs.inner.CoreLaws.{TellsRight}
use Rattle.pie_model.specs.inner.RecordLaws.{HasItsRecord}
use Rattle.pie_model.specs.Reasons.{Differs, SameCode, RunReason}
use Rattle.pie_earlier_laws.specs.Left.{AreThere}

-- all that a record requires, and all that these reach, have the records of their evaluations
abbrev pub AllRequiredAreRight : World → Project → (Task → Option Record) → Record → Type 0
AllRequiredAreRight w now R r =
    (u : Task) → among u (needs_of r.observations) ≡ true → IsRecorded R u × ((x : Task) → Reaches R u x → HasItsRecord w now R x)

-- then a stamp that differs by records is a reason to run
abbrev pub DifferingStampsAreReasons : Type 0
DifferingStampsAreReasons =
    (w : World) (now : Project) (directory : Directory) (R : Task → Option Record) (told : List Task → Path → Told) (r : Record)
    (kept digest : Option (List ℕ)) → TellsRight R told → AllRequiredAreRight w now R r
    → Differs w now (by_records R told) r.writes [] r.observations → RunReason w now directory (Some r) kept digest

-- an old record that is that of the evaluation now, whose code is the same and whose writes are there, gives no reason to run
abbrev pub RightRecordsAreNoReasons : Type 0
RightRecordsAreNoReasons =
    (w : World) (now : Project) (directory : Directory) (t : Task) (r : Record) (kept digest : Option (List ℕ)) → NeverWritesWhatItSaw (now.next t)
    → r ≡ record_of w (evaluation w now t) → is_done (outcome_of (evaluation w now t)) ≡ true → SameCode kept digest → AreThere w directory r.writes
    → RunReason w now directory (Some r) kept digest → ⊥
