-- What a record, with the contents of its writes, is of.
use Rattle.std.specs.Prelude.{◌≡◌, ℕ, ◌<◌, ◌^◌, true, List, length, map, Some}
use Rattle.pie_files.specs.Directory.{Directory}
use Rattle.pie_model.specs.Built.{provided_at}
use Rattle.pie_model.specs.Evaluation.{evaluation}
use Rattle.pie_model.specs.Forest.{live_evaluations}
use Rattle.pie_model.specs.Records.{record_of as model_record}
use Rattle.pie_model.specs.Trees.{outcome_of, trace_of, writes_of, is_done}
use Rattle.pie_model_pipeline.specs.Rows.{record_of}
use Rattle.pie_model_pipeline.specs.World.{world, project}
use Rattle.pie_parser.specs.FunctionTrees.{FunctionTree}
use Rattle.pie_record.specs.declared.task_record.TaskRecord.{TaskRecord}
use Rattle.pie_value.specs.Canonical.{enc_task}

-- a record with contents is of its task's evaluation by these functions in a directory, which ended with a value: it is the record of that, and the contents are
-- what that wrote
pub record IsOfEvaluation (fs : List FunctionTree) (d : Directory) (o : TaskRecord × List (List ℕ)) : Type 0 where
  pub was : record_of o.0 ≡ model_record world (evaluation world (project fs d) (enc_task o.0.task))
  pub done : is_done (outcome_of (evaluation world (project fs d) (enc_task o.0.task))) ≡ true
  pub wrote : map (λ (w : List ℕ × List ℕ). w.1) (writes_of (trace_of (evaluation world (project fs d) (enc_task o.0.task)))) ≡ o.1

-- the length of each content that live tasks provide, by these functions and roots in a directory, has at most 32 bits
abbrev pub AreShort : List FunctionTree → Directory → List (List ℕ) → Type 0
AreShort fs d roots =
    (path bytes : List ℕ) → provided_at (live_evaluations world (project fs d) roots) path ≡ Some bytes → length bytes < 2 ^ 32
