-- What a build reports and leaves that has nothing to build from, as a clean build does.
use Rattle.std.specs.Prelude.{◌≡◌, ◌↔◌, ℕ, true, List, [], length, map, Option, Some, Ok, IsSome, Contains}
use Rattle.std.specs.FinMap as fin
use Rattle.std.specs.List.Sorted.{IsStrictlySortedBy}
use Rattle.pie_base.specs.Path.{is_out}
use Rattle.pie_build.specs.Left.{IsProjectOf}
use Rattle.pie_build.specs.Stored.{IsStoreOf}
use Rattle.pie_files.specs.Directory.{Directory}
use Rattle.pie_incremental.specs.Clean.{IsStray}
use Rattle.pie_incremental.specs.Earlier.{live_of}
use Rattle.pie_incremental.specs.Own.{bytes_at}
use Rattle.pie_model.specs.Built.{provided_at, store_rows, IsBuilt}
use Rattle.pie_model.specs.Changes.{BuildsSeparate, IsMet}
use Rattle.pie_model.specs.Paths.{among}
use Rattle.pie_model.specs.Verdict.{verdict}
use Rattle.pie_model_pipeline.specs.Clean.{with_output, output_bytes}
use Rattle.pie_model_pipeline.specs.Rows.{record_of, verdict_of}
use Rattle.pie_model_pipeline.specs.World.{world, project}
use Rattle.pie_parser.specs.FunctionTrees.{FunctionTree}
use Rattle.pie_project.specs.Fronts.{ProjectSays}
use Rattle.pie_reach.specs.Plan.{path_cmp}
use Rattle.pie_record.specs.declared.task_record.TaskRecord.{TaskRecord}
use Rattle.pie_report.specs.declared.report.Report.{Report}
use Rattle.pie_value.specs.Canonical.{enc_task}
use Rattle.pie_value.specs.declared.task.Task.{Task}
use Rattle.pie_value.specs.declared.verdict.Verdict.TheVariants.{Accepted}

-- ---- what is met without an earlier build

-- the directory without files
abbrev pub nothing : Directory
nothing = fin.empty

-- what a clean build of these functions and roots in a directory meets, as after a build of no roots in the directory without files, these strings among it
abbrev pub IsMetAlone : List (List ℕ) → Directory → List FunctionTree → List Task → List ℕ → Type 0
IsMetAlone strings d fs roots = IsMet world (project fs nothing) (project fs d) [] (map enc_task roots) strings

-- no two different byte strings that a clean build of a directory meets have one hash, the files under `out` and these strings among it
pub record IsSeparate (d : Directory) : Type 0 where
  pub strings : List (List ℕ)
  pub out : (path bytes : List ℕ) → is_out path ≡ true → bytes_at d path ≡ Some bytes → among bytes strings ≡ true
  pub now : (fs : List FunctionTree) (roots : List Task) → ProjectSays d (Ok (fs, roots))
      → BuildsSeparate world (project fs nothing) (project fs d) [] (map enc_task roots) strings

-- ---- what is left

-- the directory after is that of the clean build, with a store of these functions and roots and of the records of its live tasks; the report tells how many
-- these are, the outputs, the files that live tasks provide, all of which were written, and the files that were removed, each once in path order
pub record LeavesAnew (fs : List FunctionTree) (funcs : List (List ℕ × List ℕ)) (roots : List Task) (d : Directory) (r : Report) (after : Option Directory)
    : Type 0 where
  pub left : Directory
  pub told : after ≡ Some left
  pub text : List ℕ
  pub rows : List TaskRecord
  pub built : IsBuilt text d left (live_of fs d roots)
  pub records : map record_of rows ≡ store_rows world (project fs d) (map enc_task roots)
  pub store : IsStoreOf funcs roots rows text
  pub live : r.live ≡ length rows
  pub outputs : map output_bytes r.outputs.items ≡ map (with_output fs d) (map enc_task roots)
  pub wrote : (path : List ℕ) → Contains r.wrote.items path ↔ IsSome (provided_at (live_of fs d roots) path)
  pub removed : (path : List ℕ) → Contains r.removed.items path ↔ IsStray (live_of fs d roots) d path
  pub ordered : IsStrictlySortedBy path_cmp r.wrote.items × IsStrictlySortedBy path_cmp r.removed.items

-- a report has the verdict of the clean build of the project of a directory, and where that accepts, so is what is left
pub record IsAsCleanAnew (d : Directory) (r : Report) (after : Option Directory) : Type 0 where
  pub funcs : List (List ℕ × List ℕ)
  pub roots : List Task
  pub found : IsProjectOf d funcs roots
  pub verdict : verdict_of r.verdict ≡ verdict world (project found.functions d) (map enc_task roots)
  pub left : r.verdict ≡ Accepted → LeavesAnew found.functions funcs roots d r after
