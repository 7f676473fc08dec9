-- The records of the tasks that are done, among the tasks that were entered.
use Rattle.std.specs.Prelude.{◌≡◌, ◌≤◌, true, Option, Some, List, length}
use Rattle.pie_model.specs.Paths.{among}
use Rattle.pie_model.specs.Tasks.{Task}
use Rattle.pie_model.specs.Trees.{outcome_of, is_done}
use Rattle.pie_model.specs.Evaluation.{World, Project, evaluation}
use Rattle.pie_model.specs.Records.{Record, record_of, needs_of}
use Rattle.pie_model.specs.inner.Consistent.{IsRecorded}
use Rattle.pie_model.specs.Running.{IsDistinct}

-- each recorded task was entered, ended with a value and has the record of its evaluation; the tasks that it requires are recorded too
pub record IsTable (w : World) (P : Project) (R : Task → Option Record) (names : List Task) : Type 0 where
  pub right : (t : Task) (r : Record) → R t ≡ Some r → r ≡ record_of w (evaluation w P t)
  pub done : (t : Task) (r : Record) → R t ≡ Some r → is_done (outcome_of (evaluation w P t)) ≡ true
  pub closed : (t : Task) (r : Record) (u : Task) → R t ≡ Some r → among u (needs_of r.observations) ≡ true → IsRecorded R u
  pub counted : (t : Task) (r : Record) → R t ≡ Some r → among t names ≡ true
  -- each task is entered once, and they are no more than may be
  pub distinct : IsDistinct names
  pub few : length names ≤ w.most_tasks

-- between two roots every entered task is recorded
pub record Rests (w : World) (P : Project) (R : Task → Option Record) (names : List Task) : Type 0 where
  pub table : IsTable w P R names
  pub all : (t : Task) → among t names ≡ true → IsRecorded R t
