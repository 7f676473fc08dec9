-- That a build tells a new offer of each live task that ran.
use Rattle.std.specs.Prelude.{◌≡◌, ℕ, List, map}
use Rattle.std.specs.List.{filter}
use Rattle.pie_files.specs.Directory.{Directory}
use Rattle.pie_files.specs.inner.Held.{is_among}
use Rattle.pie_model.specs.Built.{store_rows}
use Rattle.pie_model_pipeline.specs.Rows.{record_of}
use Rattle.pie_model_pipeline.specs.World.{world, project}
use Rattle.pie_parser.specs.FunctionTrees.{FunctionTree}
use Rattle.pie_record.specs.declared.task_record.TaskRecord.{TaskRecord}
use Rattle.pie_value.specs.Canonical.{enc_task}
use Rattle.pie_value.specs.declared.task.Task.{Task}
use Rattle.pie_topdown_build.specs.Records.{AreShort}
use Rattle.pie_topdown_build.specs.inner.News.{Told}

-- exactly the records of those live tasks that ran are told, in the order of the store, by these functions and roots in a directory, if all contents are short
-- enough
pub record AreAllThatRan (fs : List FunctionTree) (d : Directory) (roots : List (List ℕ)) (ran : List Task) (told : List Told) : Type 0 where
  pub rows : List TaskRecord
  pub records : map record_of rows ≡ store_rows world (project fs d) roots
  pub all : AreShort fs d roots
      → map (λ (t : Told). t.1.0) told ≡ filter (λ (row : TaskRecord). is_among (enc_task row.task) (map enc_task ran)) rows
