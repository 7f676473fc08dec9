-- What the plain program keeps of the roots and of the live tasks.
use Rattle.std.specs.Prelude.{◌≡◌, List, map}
use Rattle.std.specs.List.{flat_map}
use Rattle.pie_model.specs.Paths.{Path}
use Rattle.pie_model.specs.Tasks.{Task}
use Rattle.pie_model.specs.Evaluation.{World, Project, evaluation}
use Rattle.pie_model.specs.Running.{entered_all}
use Rattle.pie_model.specs.Forest.{forest, first_stop}
use Rattle.pie_model.specs.Verdict.{written_by, missed_by}
use Rattle.pie_model_program.specs.declared.roots.Forest.{Forest}
use Rattle.pie_model_program.specs.declared.run.Summary.{Summary}
use Rattle.pie_model_program.specs.Runs.{row_of}
use Rattle.pie_model_program.specs.Steps.{IsEvaluated}

-- the evaluation of a task with nothing above, after these tasks were entered
abbrev pub IsAlone : World → Project → Task → List Task → Summary → Type 0
IsAlone w P t entered s = IsEvaluated (evaluation w P t) entered s.outcome (row_of s.run)

-- the first outcome of these roots that is no value, and the tasks entered after these
pub record IsForest (w : World) (P : Project) (roots entered : List Task) (f : Forest) : Type 0 where
  pub stop : f.stop ≡ first_stop (forest w P roots)
  pub enters : f.entered ≡ entered_all (forest w P roots) entered

-- the paths that the evaluations of these tasks wrote, each with its task
abbrev pub written_by_all : World → Project → List Task → List (Path × Task)
written_by_all w P tasks = flat_map written_by (map (evaluation w P) tasks)

-- the paths under `out` that they found absent, each with its task
abbrev pub missed_by_all : World → Project → List Task → List (Path × Task)
missed_by_all w P tasks = flat_map missed_by (map (evaluation w P) tasks)
