-- What a crash leaves of a build by what changed, by its parts.
use Rattle.std.specs.Prelude.{◌≡◌, ◌⊎◌, ℕ, List, ◌++◌, map, Option, Some}
use Rattle.pie_bottomup.specs.inner.Loaded.{IsStoredIn}
use Rattle.pie_build.specs.Crashes.{IsDone}
use Rattle.pie_build.specs.Left.{Leaves}
use Rattle.pie_core_laws.specs.Update.{Update, present}
use Rattle.pie_files.specs.Directory.{Directory, without_file}
use Rattle.pie_files.specs.Reading.{LeavesAsBefore}
use Rattle.pie_model.specs.Built.{store_rows}
use Rattle.pie_model_pipeline.specs.Rows.{record_of}
use Rattle.pie_model_pipeline.specs.World.{world}
use Rattle.pie_project.specs.declared.project.Project.{Project}
use Rattle.pie_record.specs.declared.task_record.TaskRecord.{TaskRecord}
use Rattle.pie_store.specs.declared.image.StoreImage.{StoreImage}
use Rattle.pie_store.specs.Pending.{in_order}
use Rattle.pie_value.specs.declared.task.Task.{Task}
use Rattle.pie_incremental.specs.declared.base.Base.{Base}
use Rattle.pie_incremental.specs.declared.base.OwnFiles.{OwnFiles}
use Rattle.pie_incremental.specs.declared.ending.Ending.{Ending}
use Rattle.pie_incremental.specs.declared.run.Done.{Done}
use Rattle.pie_incremental.specs.declared.run.Done.TheVariants.{Reported, Stopped}
use Rattle.pie_incremental.specs.Kept.{HasNames, IsOfNames}
use Rattle.pie_incremental.specs.Own.{open_path}
use Rattle.pie_incremental.specs.Starts.{IsBase}
use Rattle.pie_incremental.specs.Crashes.{IsBegun, StopsGoingOn}
use Rattle.pie_incremental.specs.inner.Built.{IsKnown}
use Rattle.pie_incremental.specs.inner.Changes.{bytes_of}
use Rattle.pie_incremental.specs.inner.Cleaned.{IsClean}
use Rattle.pie_incremental.specs.inner.Evaluated.{IsUpdateHere}
use Rattle.pie_incremental.specs.inner.Updated.{IsUpdateFrom}

-- ---- of an update

-- a directory is that of the clean build of an update, with a store of these functions and roots and of the records of that build
pub record IsCleanOf (u : Update) (funcs : List (List ℕ × List ℕ)) (roots : List Task) (d e : Directory) : Type 0 where
  pub rows : List TaskRecord
  pub rows_are : map record_of rows ≡ store_rows world (present u) u.roots
  pub clean : IsClean u funcs roots rows d e

-- a build has begun, it changed nothing yet, these names are kept, or all is done, with or without the marker
abbrev pub MayLeaveOf : Update → List (List ℕ × List ℕ) → List Task → List (List ℕ) → Directory → Directory → Type 0
MayLeaveOf u funcs roots names d c = IsBegun d c ⊎ ((c ≡ d) ⊎ (HasNames names d c ⊎ IsCleanOf u funcs roots d (without_file c open_path)))

-- so it is from this store, with what the end of the build needs
abbrev pub MayGo : StoreImage → Ending → Project → Directory → Directory → Type 0
MayGo s e p d c = (u : Update) → IsUpdateHere u (Some d) p.typed p.roots.items → IsStoredIn u s.funcs p.digests.items s.rows e.names.items
    → IsKnown e.own e.held d → MayLeaveOf u p.digests.items p.roots.items e.names.items d c

-- and from this base
abbrev pub MayRun : Base → Project → List (List ℕ) → Directory → Directory → Type 0
MayRun b p list d c =
    (u : Update) → IsUpdateFrom u (Some d) b p list → MayLeaveOf u p.digests.items p.roots.items (in_order (list ++ b.names.items)) d c

-- ---- of a build that starts afresh

-- one that has to has left nothing new
abbrev pub StaysBefore : {S : Type 0} → (S → Option Directory) → (S → ℕ) → (S → ℕ → Directory → Type 0) → (S → Directory → Type 0) → S → S → Done → Type 0
StaysBefore holds moment left_since images old new (Reported r) = Unit {0}
StaysBefore holds moment left_since images old new (Stopped stop) = LeavesAsBefore holds moment left_since images old new

-- the clean build is under way, nothing changed yet, it is done, or names are kept where the file of pending names has these bytes
abbrev pub MayRestart : OwnFiles → List (List ℕ) → Directory → Directory → Type 0
MayRestart own names d c = IsBegun d c ⊎ ((c ≡ d) ⊎ (IsDone Leaves d c ⊎ IsOfNames names (bytes_of own.pending) d c))

-- so it is of a build of a project, which may be done as a build that started afresh too
abbrev pub MayBuild : Base → Project → List (List ℕ) → Directory → Directory → Type 0
MayBuild b p list d c = (u : Update) → IsUpdateFrom u (Some d) b p list
    → IsBegun d c ⊎ ((c ≡ d) ⊎ (HasNames (in_order (list ++ b.names.items)) d c
    ⊎ (IsDone Leaves d c ⊎ IsCleanOf u p.digests.items p.roots.items d (without_file c open_path))))

-- ---- of a build

-- so it is from the base that is there
abbrev pub MayFrom : Base → List (List ℕ) → Directory → Directory → Type 0
MayFrom b list d c = IsBase d b → StopsGoingOn list d c
