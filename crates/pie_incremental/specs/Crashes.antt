-- What a crash leaves of a build by what changed.
use Rattle.std.specs.Prelude.{◌≡◌, ◌⊎◌, ◌||◌, ℕ, false, List, ◌++◌, map, Option, IfSome}
use Rattle.pie_base.specs.Path.{is_out}
use Rattle.pie_build.specs.Crashes.{IsDone, IsOfThree}
use Rattle.pie_build.specs.Left.{IsProjectOf, Leaves}
use Rattle.pie_build.specs.Stored.{IsStoreOf}
use Rattle.pie_commit.specs.Outcomes.{HasFile}
use Rattle.pie_files.specs.Directory.{Directory, file_at, without_file}
use Rattle.pie_files.specs.Images.{Only}
use Rattle.pie_model.specs.Built.{store_rows, IsBuilt}
use Rattle.pie_model_pipeline.specs.Rows.{record_of}
use Rattle.pie_model_pipeline.specs.World.{world, project}
use Rattle.pie_record.specs.declared.task_record.TaskRecord.{TaskRecord}
use Rattle.pie_store.specs.Pending.{in_order}
use Rattle.pie_value.specs.Canonical.{enc_task}
use Rattle.pie_value.specs.declared.task.Task.{Task}
use Rattle.pie_incremental.specs.declared.base.Base.{Base}
use Rattle.pie_incremental.specs.Earlier.{live_of, Earlier, GoesOnFrom}
use Rattle.pie_incremental.specs.Kept.{is_builders, HasNames}
use Rattle.pie_incremental.specs.Own.{open_path}
use Rattle.pie_incremental.specs.Starts.{IsBase}

-- the marker stands, and each path that isn't under `out/` and isn't one of the builder's own has the file that it had
pub record IsBegun (d c : Directory) : Type 0 where
  pub marked : HasFile c open_path
  pub rest : (q : List ℕ) → (is_out q || is_builders q) ≡ false → file_at c q ≡ file_at d q

-- a directory is that of the clean build of the project of another one, with its store
pub record IsCleanBuilt (d e : Directory) : Type 0 where
  pub funcs : List (List ℕ × List ℕ)
  pub roots : List Task
  pub found : IsProjectOf d funcs roots
  pub text : List ℕ
  pub rows : List TaskRecord
  pub built : IsBuilt text d e (live_of found.functions d roots)
  pub records : map record_of rows ≡ store_rows world (project found.functions d) (map enc_task roots)
  pub store : IsStoreOf funcs roots rows text

-- names of this list and the pending ones are kept
pub record KeepsList (list : List (List ℕ)) (d c : Directory) : Type 0 where
  pub base : Base
  pub is : IsBase d base
  pub names : HasNames (in_order (list ++ base.names.items)) d c

-- names are kept, or a build is done, with or without the marker: as a build that started afresh, or as one that didn't
abbrev pub HasEnded : List (List ℕ) → Directory → Directory → Type 0
HasEnded list d c = KeepsList list d c ⊎ (IsDone Leaves d c ⊎ IsCleanBuilt d (without_file c open_path))

-- a build that goes on from an earlier one has begun, it changed nothing yet, its names are kept, or it is done, with or without the marker: as a build that
-- started afresh, or as one that didn't
abbrev pub StopsGoingOn : List (List ℕ) → Directory → Directory → Type 0
StopsGoingOn list d c = (e : Earlier) → GoesOnFrom e list d → IsBegun d c ⊎ ((c ≡ d) ⊎ HasEnded list d c)

-- there is nothing that a build can go on from
abbrev pub HasNoBase : Directory → Type 0
HasNoBase d = (b : Base) → IsBase d b → ⊥

-- so it is with a build that goes on from an earlier one; and where there is nothing to go on from, a clean build is under way, changed nothing yet, or is done
pub record MayStop (list : List (List ℕ)) (d c : Directory) : Type 0 where
  pub goes_on : StopsGoingOn list d c
  pub afresh : HasNoBase d → IsOfThree Leaves d c

-- ---- at the end

-- the marker stands in every image unless nothing changed, or every image has D
abbrev pub MarkedBy : (Directory → Directory → Type 0) → Directory → (Directory → Type 0) → Type 0
MarkedBy D d images = ((c : Directory) → images c → HasFile c open_path ⊎ (c ≡ d)) ⊎ ((c : Directory) → images c → D d c)

-- so it is where nothing was pending
abbrev pub EndsMarked : {S : Type 0} → (S → Option Directory) → (S → Directory → Type 0) → (Directory → Directory → Type 0) → S → S → Type 0
EndsMarked holds images D old new = IfSome (holds old) (λ d. Only d (images old) → MarkedBy D d (images new))

-- a build that goes on from an earlier one has kept its names, or is done, with or without the marker
abbrev pub EndsGoingOn : List (List ℕ) → Directory → Directory → Type 0
EndsGoingOn list d c = (e : Earlier) → GoesOnFrom e list d → HasEnded list d c

-- so it is with a build that goes on from an earlier one; and where there is nothing to go on from, a clean build is done
pub record MayEnd (list : List (List ℕ)) (d c : Directory) : Type 0 where
  pub goes_on : EndsGoingOn list d c
  pub afresh : HasNoBase d → IsDone Leaves d c
