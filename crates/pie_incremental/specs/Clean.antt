-- What a build by what changed reports and leaves, as a clean build does.
use Rattle.std.specs.Prelude.{◌≡◌, ◌↔◌, ℕ, true, List, ◌++◌, length, map, Option, Some, None, IsSome, Contains}
use Rattle.std.specs.List.Sorted.{IsStrictlySortedBy}
use Rattle.pie_base.specs.Path.{is_out}
use Rattle.pie_build.specs.Left.{IsProjectOf, Leaves}
use Rattle.pie_build.specs.Stored.{IsStoreOf}
use Rattle.pie_files.specs.Directory.{Directory}
use Rattle.pie_model.specs.Built.{provided_at, store_rows, IsBuilt}
use Rattle.pie_model.specs.Trees.{Node}
use Rattle.pie_model.specs.Verdict.{verdict}
use Rattle.pie_model_pipeline.specs.Clean.{with_output, output_bytes}
use Rattle.pie_model_pipeline.specs.Rows.{record_of, verdict_of}
use Rattle.pie_model_pipeline.specs.World.{world, project}
use Rattle.pie_parser.specs.FunctionTrees.{FunctionTree}
use Rattle.pie_reach.specs.Plan.{path_cmp}
use Rattle.pie_record.specs.declared.task_record.TaskRecord.{TaskRecord}
use Rattle.pie_report.specs.declared.report.Report.{Report}
use Rattle.pie_store.specs.declared.cause.Cause.{Cause}
use Rattle.pie_value.specs.Canonical.{enc_task}
use Rattle.pie_value.specs.declared.task.Task.{Task}
use Rattle.pie_value.specs.declared.verdict.Verdict.TheVariants.{Accepted}
use Rattle.pie_incremental.specs.Before.{AreBefore}
use Rattle.pie_incremental.specs.Causes.{IsCauseFor}
use Rattle.pie_incremental.specs.Earlier.{live_of, Earlier, GoesOnFrom}
use Rattle.pie_incremental.specs.Own.{bytes_at}
use Rattle.pie_incremental.specs.Ran.{RanFor}
use Rattle.pie_incremental.specs.Reached.{RanExactly}

-- a path where live tasks provide bytes that the directory hasn't there
pub record IsOther (live : List Node) (d : Directory) (path : List ℕ) : Type 0 where
  pub bytes : List ℕ
  pub provided : provided_at live path ≡ Some bytes
  pub other : bytes_at d path ≡ Some bytes → ⊥

-- a path under `out` where the directory has a file and live tasks provide none
pub record IsStray (live : List Node) (d : Directory) (path : List ℕ) : Type 0 where
  pub out : is_out path ≡ true
  pub there : IsSome (bytes_at d path)
  pub absent : provided_at live path ≡ None

-- the directory after is that of the clean build, with a store of these functions and roots and of the records of its live tasks; the report tells how many
-- these are, the outputs, which files were written, where the directory had other bytes or none, and which were removed, each once in path order
pub record LeavesClean (fs : List FunctionTree) (funcs : List (List ℕ × List ℕ)) (roots : List Task) (d : Directory) (r : Report) (after : Option Directory)
    : Type 0 where
  pub left : Directory
  pub told : after ≡ Some left
  pub text : List ℕ
  pub rows : List TaskRecord
  pub built : IsBuilt text d left (live_of fs d roots)
  pub records : map record_of rows ≡ store_rows world (project fs d) (map enc_task roots)
  pub store : IsStoreOf funcs roots rows text
  pub live : r.live ≡ length rows
  pub outputs : map output_bytes r.outputs.items ≡ map (with_output fs d) (map enc_task roots)
  pub wrote : (path : List ℕ) → Contains r.wrote.items path ↔ IsOther (live_of fs d roots) d path
  pub removed : (path : List ℕ) → Contains r.removed.items path ↔ IsStray (live_of fs d roots) d path
  pub ordered : IsStrictlySortedBy path_cmp r.wrote.items × IsStrictlySortedBy path_cmp r.removed.items

-- a report has the verdict of the clean build of the project of a directory, and where that accepts, so is what is left
pub record IsAsClean (d : Directory) (r : Report) (after : Option Directory) : Type 0 where
  pub funcs : List (List ℕ × List ℕ)
  pub roots : List Task
  pub found : IsProjectOf d funcs roots
  pub verdict : verdict_of r.verdict ≡ verdict world (project found.functions d) (map enc_task roots)
  pub left : r.verdict ≡ Accepted → LeavesClean found.functions funcs roots d r after

-- a report is that of a clean build of a directory but for its cause and the tasks that ran before; where it is accepted, that build left what is there after
pub record IsAfresh (d : Directory) (r : Report) (after : Option Directory) : Type 0 where
  pub clean : Report
  pub left : Option Directory
  pub leaves : Leaves d clean left
  pub is : r ≡ record clean { fresh = r.fresh; ran = r.ran }
  pub before : List Task
  pub ran : r.ran.items ≡ before ++ clean.ran.items
  pub after_is : r.verdict ≡ Accepted → after ≡ left

-- what a build with this list came to: a report that tells no cause to start afresh is as that of a clean build, where the directory goes on from an earlier
-- one, and tells no task twice that ran, and each that had a reason to: those alone that are reached from a root, and all that a clean build enters; a report
-- that tells one is of a clean build, whatever was there, and where the directory goes on from an earlier one, the cause holds, and the tasks that ran before
-- it started afresh ran each once, for a reason, and are reached from a root
pub record BuildsClean (list : List (List ℕ)) (d : Directory) (r : Report) (after : Option Directory) : Type 0 where
  pub goes_on : r.fresh ≡ None → (e : Earlier) → GoesOnFrom e list d → IsAsClean d r after
  pub ran : r.fresh ≡ None → (e : Earlier) → GoesOnFrom e list d → RanFor e d r.ran.items
  pub afresh : IsSome r.fresh → IsAfresh d r after
  pub cause : (c : Cause) → r.fresh ≡ Some c → (e : Earlier) → GoesOnFrom e list d → IsCauseFor e d c
  pub exactly : r.fresh ≡ None → (e : Earlier) → GoesOnFrom e list d → RanExactly e d r.ran.items
  pub before : (some : IsSome r.fresh) (c : Cause) → r.fresh ≡ Some c → (e : Earlier) → GoesOnFrom e list d → AreBefore e d c (afresh some).before
