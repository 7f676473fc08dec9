-- What clean builds of directories with the same files leave.
use Rattle.std.specs.Prelude.{ℕ, ◌≡◌, false, List, map, Some, Ok}
use Rattle.pie_build.specs.Left.{Accepts, Leaves}
use Rattle.pie_build.specs.Stored.{IsStoreOf}
use Rattle.pie_files.specs.Directory.{Directory, file_at}
use Rattle.pie_model.specs.Built.{built_directory, store_rows}
use Rattle.pie_model.specs.Paths.{kind_of}
use Rattle.pie_model.specs.declared.words.Kind.TheVariants.{Kept, Source}
use Rattle.pie_model_pipeline.specs.Rows.{record_of}
use Rattle.pie_model_pipeline.specs.World.{world, project}
use Rattle.pie_parser.specs.FunctionTrees.{FunctionTree}
use Rattle.pie_project.specs.Digested.{HasDigests}
use Rattle.pie_project.specs.Fronts.{ProjectSays}
use Rattle.pie_record.specs.declared.task_record.TaskRecord.{TaskRecord}
use Rattle.pie_report.specs.declared.report.Report.{Report}
use Rattle.pie_value.specs.Canonical.{enc_task}
use Rattle.pie_value.specs.declared.task.Task.{Task}
use Rattle.pie_value.specs.declared.verdict.Verdict.TheVariants.{Accepted}
use Rattle.pie_incremental.specs.Clean.{IsAfresh, IsAsClean}
use Rattle.pie_incremental.specs.Earlier.{live_of}
use Rattle.pie_incremental.specs.Kept.{is_builders}
use Rattle.pie_incremental.specs.Own.{bytes_at}

-- the project of a directory isn't refused, and the model accepts its clean build
pub record IsAccepted (d : Directory) : Type 0 where
  pub functions : List FunctionTree
  pub roots : List Task
  pub says : ProjectSays d (Ok (functions, roots))
  pub accepted : Accepts functions roots d

-- a directory has what the clean build of these functions and roots leaves of another one: at each path its bytes, with a store of the functions, the roots and
-- the records of the live tasks
pub record HasLeft (fs : List FunctionTree) (roots : List Task) (d left : Directory) : Type 0 where
  pub funcs : List (List ℕ × List ℕ)
  pub digests : HasDigests d funcs
  pub text : List ℕ
  pub rows : List TaskRecord
  pub records : map record_of rows ≡ store_rows world (project fs d) (map enc_task roots)
  pub store : IsStoreOf funcs roots rows text
  pub bytes : (q : List ℕ) → bytes_at left q ≡ built_directory text d (live_of fs d roots) q

-- the model accepts the clean build of a directory, and another one is what that leaves, byte for byte
pub record IsLeftOf (d left : Directory) : Type 0 where
  pub project : IsAccepted d
  pub has : HasLeft project.functions project.roots d left

-- two directories have the same sources, with their marks, and the same bytes at each kept path but the builder's own
pub record HaveSameFiles (d e : Directory) : Type 0 where
  pub sources : (p : List ℕ) → kind_of p ≡ Source → file_at d p ≡ file_at e p
  pub kept : (p : List ℕ) → kind_of p ≡ Kept → is_builders p ≡ false → bytes_at d p ≡ bytes_at e p

-- ---- the laws

-- an accepted clean build leaves that
abbrev pub CleanBuildsLeave : Type 0
CleanBuildsLeave = (d left : Directory) (r : Report) → Leaves d r (Some left) → r.verdict ≡ Accepted → IsLeftOf d left

-- so does an accepted build that is as the clean build
abbrev pub SameBuildsLeave : Type 0
SameBuildsLeave = (d left : Directory) (r : Report) → IsAsClean d r (Some left) → r.verdict ≡ Accepted → IsLeftOf d left

-- and one that started afresh
abbrev pub AfreshBuildsLeave : Type 0
AfreshBuildsLeave = (d left : Directory) (r : Report) → IsAfresh d r (Some left) → r.verdict ≡ Accepted → IsLeftOf d left

-- a build of a directory whose clean build the model accepts is accepted
abbrev pub AcceptedBuildsAreSo : Type 0
AcceptedBuildsAreSo =
    (d left : Directory) (r : Report) → IsAccepted d → ((Leaves d r (Some left) → r.verdict ≡ Accepted)
    × (IsAsClean d r (Some left) → r.verdict ≡ Accepted) × (IsAfresh d r (Some left) → r.verdict ≡ Accepted))

-- of two directories with the same files the model accepts both clean builds, or none
abbrev pub SameFilesAreAccepted : Type 0
SameFilesAreAccepted = (d e : Directory) → HaveSameFiles d e → IsAccepted d → IsAccepted e

-- and what they leave is the same at each path
abbrev pub SameFilesLeaveTheSame : Type 0
SameFilesLeaveTheSame =
    (d e left other : Directory) → HaveSameFiles d e → IsLeftOf d left → IsLeftOf e other → (q : List ℕ) → bytes_at left q ≡ bytes_at other q
