-- What a build of an update reports and leaves, as a clean build does.
use Rattle.std.specs.Prelude.{◌≡◌, ℕ, List, map, Option}
use Rattle.pie_core_laws.specs.Update.{Update, present}
use Rattle.pie_files.specs.Directory.{Directory}
use Rattle.pie_model.specs.Built.{store_rows}
use Rattle.pie_model.specs.Verdict.{verdict}
use Rattle.pie_model_pipeline.specs.Clean.{with_output, output_bytes}
use Rattle.pie_model_pipeline.specs.Rows.{record_of, verdict_of}
use Rattle.pie_model_pipeline.specs.World.{world}
use Rattle.pie_record.specs.declared.task_record.TaskRecord.{TaskRecord}
use Rattle.pie_report.specs.declared.report.Report.{Report}
use Rattle.pie_value.specs.declared.task.Task.{Task}
use Rattle.pie_value.specs.declared.value.Value.{Value}
use Rattle.pie_value.specs.declared.verdict.Verdict.TheVariants.{Accepted}
use Rattle.pie_incremental.specs.inner.Cleaned.{LeavesCleanOf}

-- the directory after is that of the clean build; its store has these functions and roots and the records of the clean build, and the report its outputs
pub record LeavesAsClean (u : Update) (funcs : List (List ℕ × List ℕ)) (roots : List Task) (r : Report) (after : Option Directory) : Type 0 where
  pub rows : List TaskRecord
  pub outputs : List (Task × Value)
  pub rows_are : map record_of rows ≡ store_rows world (present u) u.roots
  pub outputs_are : map output_bytes outputs ≡ map (with_output u.functions u.directory) u.roots
  pub left : LeavesCleanOf u funcs roots rows outputs u.directory r after

-- a report has the verdict of the clean build, and where that accepts, so is what is left
pub record BuildsCleanOf (u : Update) (funcs : List (List ℕ × List ℕ)) (roots : List Task) (r : Report) (after : Option Directory) : Type 0 where
  pub verdict : verdict_of r.verdict ≡ verdict world (present u) u.roots
  pub left : r.verdict ≡ Accepted → LeavesAsClean u funcs roots r after
