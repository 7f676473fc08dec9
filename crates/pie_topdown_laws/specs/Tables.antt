-- The tasks that a build without a list has entered: those that are done have records, and the others run, are checked, wait or failed.
use Rattle.std.specs.Prelude.{◌≡◌, ◌<◌, Bool, true, false, not, is_some, Option, None, List, [], ◌∷◌, ◌++◌, length}
use Rattle.pie_model.specs.Paths.{among}
use Rattle.pie_model.specs.Tasks.{Task}
use Rattle.pie_model.specs.Trees.{is_done}
use Rattle.pie_model.specs.Evaluation.{World, Project, evaluation}
use Rattle.pie_model.specs.Records.{Record, record_of, needs_of}
use Rattle.pie_model.specs.inner.RecordLaws.{Passes}
use Rattle.pie_model.specs.inner.Consistent.{IsRecorded, IsSettled}
use Rattle.pie_model.specs.inner.Steps.{ChangesAt}
use Rattle.pie_step_laws.specs.Table.{IsTable}
use Rattle.pie_settle_laws.specs.Known.{IsKnown, AreCounted}

-- a task has no record yet
abbrev pub unrecorded : (Task → Option Record) → Task → Bool
unrecorded R t = not (is_some (R t))

-- at first nothing is entered
abbrev pub TablesBegin : Type 0
TablesBegin = (w : World) (P : Project) (R : Task → Option Record) → ((t : Task) → R t ≡ None) → IsTable w P R []

-- one task more is entered, if there is room for it
abbrev pub TablesGrow : Type 0
TablesGrow =
    (w : World) (P : Project) (R : Task → Option Record) (names : List Task) (t : Task) → IsTable w P R names → among t names ≡ false
    → length names < w.most_tasks → IsTable w P R (names ++ t ∷ [])

-- an entered task ends with a value: with the record of its evaluation, which requires recorded tasks
pub record EndsIn (w : World) (P : Project) (R S : Task → Option Record) (names : List Task) (t : Task) (r : Record) : Type 0 where
  pub entered : among t names ≡ true
  pub unrecorded : R t ≡ None
  pub changes : ChangesAt R S t r
  pub right : r ≡ record_of w (evaluation w P t)
  pub done : is_done r.outcome ≡ true
  pub closed : (u : Task) → among u (needs_of r.observations) ≡ true → IsRecorded R u

-- then it is recorded too
abbrev pub TablesGain : Type 0
TablesGain =
    (w : World) (P : Project) (R S : Task → Option Record) (names : List Task) (t : Task) (r : Record) → IsTable w P R names → EndsIn w P R S names t r
    → IsTable w P S names

-- a recorded task and all that it reaches are settled, and have the records of their evaluations
pub record IsSettledTask (w : World) (P : Project) (R : Task → Option Record) (t : Task) : Type 0 where
  pub known : IsKnown w P R t
  pub settled : IsSettled R (Passes (unrecorded R)) t

abbrev pub RecordedTasksAreSettled : Type 0
RecordedTasksAreSettled =
    (w : World) (P : Project) (R : Task → Option Record) (names : List Task) (t : Task) → IsTable w P R names → IsRecorded R t → IsSettledTask w P R t

abbrev pub RecordedTasksAreCounted : Type 0
RecordedTasksAreCounted = (w : World) (P : Project) (R : Task → Option Record) (names : List Task) → IsTable w P R names → AreCounted w R names

-- what is settled stays so when a task ends
abbrev pub SettledTasksStay : Type 0
SettledTasksStay =
    (w : World) (P : Project) (R S : Task → Option Record) (names : List Task) (t : Task) (r : Record) → IsTable w P R names → EndsIn w P R S names t r
    → (u : Task) → IsSettled R (Passes (unrecorded R)) u → IsSettled S (Passes (unrecorded S)) u
