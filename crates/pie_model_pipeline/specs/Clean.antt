-- The result of a clean build of a pipeline over a directory: said by the evaluation in which every required task is evaluated again.
use Rattle.std.specs.Prelude.{◌≡◌, ℕ, List, [], map, take, Some, Contains}
use Rattle.pie_value.specs.declared.task.Task.{Task}
use Rattle.pie_value.specs.declared.value.Value.{Value}
use Rattle.pie_value.specs.declared.verdict.Verdict.{Verdict}
use Rattle.pie_value.specs.declared.verdict.Verdict.TheVariants.{Accepted, Refused}
use Rattle.pie_value.specs.Values.{tree_of}
use Rattle.pie_value.specs.Canonical.{enc, enc_task}
use Rattle.pie_record.specs.declared.task_record.TaskRecord.{TaskRecord}
use Rattle.pie_parser.specs.FunctionTrees.{FunctionTree}
use Rattle.pie_files.specs.Directory.{Directory}
use Rattle.pie_model.specs.declared.words.Outcome.{Outcome}
use Rattle.pie_model.specs.declared.words.Outcome.TheVariants.{Ended, Failed, Cycled, Many}
use Rattle.pie_model.specs.Trees.{outcome_of}
use Rattle.pie_model.specs.Evaluation.{evaluation}
use Rattle.pie_model.specs.Forest.{entered_tasks, live_evaluations}
use Rattle.pie_model.specs.Verdict.{verdict}
use Rattle.pie_model.specs.Built.{store_rows, provided_at}
use Rattle.pie_model_pipeline.specs.World.{world, project}
use Rattle.pie_model_pipeline.specs.Rows.{record_of, verdict_of}

-- the canonical bytes of a value that a task ended with
abbrev pub output_in : Outcome → List ℕ
output_in (Ended v) = v
output_in (Failed t k) = []
output_in (Cycled ts) = []
output_in Many = []

-- a task of the model with its output there
abbrev pub with_output : List FunctionTree → Directory → List ℕ → List ℕ × List ℕ
with_output fs d t = (t, output_in (outcome_of (evaluation world (project fs d) t)))

-- a task with its output, by their canonical bytes
abbrev pub output_bytes : Task × Value → List ℕ × List ℕ
output_bytes o = (enc_task o.0, enc (tree_of o.1))

-- some files are exactly what live tasks provide
abbrev pub AreProvided : List FunctionTree → Directory → List (List ℕ) → List (List ℕ × List ℕ) → Type 0
AreProvided fs d roots files =
    (p bytes : List ℕ) → (Contains files (p, bytes) → provided_at (live_evaluations world (project fs d) roots) p ≡ Some bytes)
    × (provided_at (live_evaluations world (project fs d) roots) p ≡ Some bytes → Contains files (p, bytes))

-- what an accepted build has: the records of the live tasks in store order, the files that they provide, and what each root gave
abbrev pub HasBuilt : Verdict → List FunctionTree → Directory → List (List ℕ) → List TaskRecord → List (List ℕ × List ℕ) → List (Task × Value) → Type 0
HasBuilt Accepted fs d roots rows files outputs =
    (map record_of rows ≡ store_rows world (project fs d) roots) × AreProvided fs d roots files
    × (map output_bytes outputs ≡ map (with_output fs d) roots)
HasBuilt (Refused r) fs d roots rows files outputs = (rows ≡ []) × (files ≡ []) × (outputs ≡ [])

-- the result of a clean build, and the tasks that it started: the entered ones in their order, and of too many the first 50,000
pub record IsCleanBuild (fs : List FunctionTree) (d : Directory) (roots runs : List Task) (said : Verdict) (rows : List TaskRecord)
    (files : List (List ℕ × List ℕ)) (outputs : List (Task × Value)) : Type 0 where
  pub verdict : verdict_of said ≡ verdict world (project fs d) (map enc_task roots)
  pub built : HasBuilt said fs d (map enc_task roots) rows files outputs
  pub started : map enc_task runs ≡ take 50000 (entered_tasks world (project fs d) (map enc_task roots))
