-- The tasks that a clean build enters, and tasks of the functions of a pipeline.
use Rattle.std.specs.Prelude.{ℕ, ◌≡◌, true, List, map, Some}
use Rattle.pie_value.specs.declared.task.Task.{Task}
use Rattle.pie_value.specs.Canonical.{enc_task, IsCanonicalTask}
use Rattle.pie_parser.specs.FunctionTrees.{FunctionTree}
use Rattle.pie_types.specs.Whole.{number_from}
use Rattle.pie_files.specs.Directory.{Directory}
use Rattle.pie_model.specs.Paths.{among}
use Rattle.pie_model.specs.Forest.{entered_tasks}
use Rattle.pie_model_pipeline.specs.World.{world, project}

-- bytes are those of a task of a function of the pipeline, with arguments that this takes
pub record IsTaskOf (fs : List FunctionTree) (x : List ℕ) : Type 0 where
  pub task : Task
  pub canonical : IsCanonicalTask task x
  pub number : ℕ
  pub function : number_from 0 fs task ≡ Some number

-- a clean build of these functions and roots enters a task with these bytes
abbrev pub Enters : List FunctionTree → Directory → List Task → List ℕ → Type 0
Enters fs d roots x = among x (entered_tasks world (project fs d) (map enc_task roots)) ≡ true
