-- Between two roots of a build, and the result of a build.
use Rattle.std.specs.Prelude.{◌≡◌, true, Option, List, [], map}
use Rattle.pie_model.specs.Paths.{among}
use Rattle.pie_model.specs.Tasks.{Task}
use Rattle.pie_model.specs.Trees.{outcome_of, is_done}
use Rattle.pie_model.specs.Evaluation.{World, Project, evaluation}
use Rattle.pie_model.specs.Records.{Record}
use Rattle.pie_model.specs.Running.{entered_all}
use Rattle.pie_model.specs.Forest.{entered_tasks}
use Rattle.pie_model.specs.Verdict.{verdict}
use Rattle.pie_model.specs.declared.words.Verdict.{Verdict}
use Rattle.pie_step_laws.specs.Table.{Rests}

-- these roots ended with values, these are the tasks that they entered, and each of those is recorded
pub record Between (w : World) (P : Project) (done : List Task) (R : Task → Option Record) (names : List Task) : Type 0 where
  pub rests : Rests w P R names
  pub ended : (t : Task) → among t done ≡ true → is_done (outcome_of (evaluation w P t)) ≡ true
  pub order : names ≡ entered_all (map (evaluation w P) done) []

-- the build of these roots enters these tasks, and gets this verdict
pub record EvaluatesTo (w : World) (P : Project) (roots names : List Task) (v : Verdict) : Type 0 where
  pub enters : entered_tasks w P roots ≡ names
  pub is : verdict w P roots ≡ v
