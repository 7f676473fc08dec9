-- Tasks whose records, and those of all that they reach, are the records of their evaluations now.
use Rattle.std.specs.Prelude.{◌≡◌, ◌≤◌, true, Option, Some, List, length}
use Rattle.pie_model.specs.Paths.{among}
use Rattle.pie_model.specs.Tasks.{Task}
use Rattle.pie_model.specs.Trees.{outcome_of, is_done}
use Rattle.pie_model.specs.Evaluation.{World, Project, evaluation}
use Rattle.pie_model.specs.Records.{Record}
use Rattle.pie_model.specs.inner.RecordLaws.{HasItsRecord}
use Rattle.pie_model.specs.inner.Present.{Reaches}
use Rattle.pie_model.specs.inner.Consistent.{IsRecorded}

-- a task is known: it has a record, and all that it reaches by the records have the records of their evaluations
pub record IsKnown (w : World) (P : Project) (R : Task → Option Record) (t : Task) : Type 0 where
  pub recorded : IsRecorded R t
  pub right : (x : Task) → Reaches R t x → HasItsRecord w P R x

-- each of these tasks is known and ended with a value
pub record AreDone (w : World) (P : Project) (R : Task → Option Record) (ts : List Task) : Type 0 where
  pub known : (t : Task) → among t ts ≡ true → IsKnown w P R t
  pub done : (t : Task) → among t ts ≡ true → is_done (outcome_of (evaluation w P t)) ≡ true

-- each recorded task is counted, and no more tasks are than may be
pub record AreCounted (w : World) (R : Task → Option Record) (held : List Task) : Type 0 where
  pub few : length held ≤ w.most_tasks
  pub each : (t : Task) (r : Record) → R t ≡ Some r → among t held ≡ true

-- a task is reached by the records from one of these
pub record ReachedFrom (R : Task → Option Record) (ts : List Task) (x : Task) : Type 0 where
  pub from : Task
  pub listed : among from ts ≡ true
  pub reaches : Reaches R from x
