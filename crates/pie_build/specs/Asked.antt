-- Which paths a clean build asks for, and which it changes.
use Rattle.std.specs.Prelude.{◌≡◌, ◌⊎◌, ℕ, true, List, map, codes, Option, Ok}
use Rattle.pie_base.specs.Path.{is_source}
use Rattle.pie_value.specs.Canonical.{enc_task}
use Rattle.pie_value.specs.declared.task.Task.{Task}
use Rattle.pie_files.specs.Directory.{Directory}
use Rattle.pie_files.specs.declared.files.Call.{Call}
use Rattle.pie_files.specs.declared.files.Call.TheVariants.{Read, Names, AllUnder, Write, Remove, Sync}
use Rattle.pie_named.specs.Asking.{MakesOnly}
use Rattle.pie_parser.specs.FunctionTrees.{FunctionTree}
use Rattle.pie_model.specs.Evaluation.{evaluation}
use Rattle.pie_model.specs.Forest.{entered_tasks}
use Rattle.pie_model.specs.Paths.{among}
use Rattle.pie_model.specs.Reasons.{observed_paths}
use Rattle.pie_model.specs.Trees.{trace_of}
use Rattle.pie_model_pipeline.specs.World.{world, project}
use Rattle.pie_project.specs.Fronts.{ProjectSays}
use Rattle.pie_project.specs.Looking.{pipeline_path, roots_path}
use Rattle.pie_build.specs.Left.{may_change}

-- the two files of a project, and the list of pending names
abbrev pub IsOwnLook : List ℕ → Type 0
IsOwnLook p = (p ≡ pipeline_path) ⊎ (p ≡ roots_path) ⊎ (p ≡ codes ".pie/pending")

-- a call of a clean build whose tasks observe these paths: it reads one of them or of its own looks, lists one of them or all that lies under `out/`,
-- changes a path that a build may change, or makes the changes last
abbrev pub IsCleanCall : (List ℕ → Type 0) → Call → Type 0
IsCleanCall observed (Read p) = IsOwnLook p ⊎ observed p
IsCleanCall observed (Names p) = observed p
IsCleanCall observed (AllUnder p) = p ≡ codes "out"
IsCleanCall observed (Write p mark) = may_change p ≡ true
IsCleanCall observed (Remove p) = may_change p ≡ true
IsCleanCall observed Sync = Unit {0}

-- a path is a source, and a task that the clean build of the project of a directory enters in the model observes it
pub record IsObservedByEntered (d : Directory) (p : List ℕ) : Type 0 where
  pub functions : List FunctionTree
  pub roots : List Task
  pub says : ProjectSays d (Ok (functions, roots))
  pub task : List ℕ
  pub entered : among task (entered_tasks world (project functions d) (map enc_task roots)) ≡ true
  pub observed : among p (observed_paths (trace_of (evaluation world (project functions d) task))) ≡ true
  pub source : is_source p ≡ true

-- each call that came is that of a clean build, with the tasks that it enters in the model
abbrev pub AsksEntered : Directory → Option (List Call) → Option (List Call) → Type 0
AsksEntered d asked asked_now = MakesOnly (IsCleanCall (IsObservedByEntered d)) asked asked_now
