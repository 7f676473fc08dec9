-- What every image has at the end of a build by what changed, by its parts, unless the marker stands or nothing changed.
use Rattle.std.specs.Prelude.{◌≡◌, ◌⊎◌, ℕ, List, ◌++◌, Option, Some}
use Rattle.std.specs.declared.alloc.Global.{Global}
use Rattle.std.proofs.Common.{Vec}
use Rattle.pie_bottomup.specs.inner.Loaded.{IsStoredIn}
use Rattle.pie_build.specs.Crashes.{IsDone}
use Rattle.pie_build.specs.Left.{Leaves}
use Rattle.pie_checks.specs.declared.built.Built.{Built}
use Rattle.pie_core_laws.specs.Update.{Update}
use Rattle.pie_files.specs.Directory.{Directory, without_file}
use Rattle.pie_project.specs.declared.project.Project.{Project}
use Rattle.pie_record.specs.declared.task_record.TaskRecord.{TaskRecord}
use Rattle.pie_store.specs.declared.image.StoreImage.{StoreImage}
use Rattle.pie_store.specs.Pending.{in_order}
use Rattle.pie_value.specs.declared.task.Task.{Task}
use Rattle.pie_value.specs.declared.verdict.Verdict.{Verdict}
use Rattle.pie_value.specs.declared.verdict.Verdict.TheVariants.{Accepted, Refused}
use Rattle.pie_incremental.specs.declared.base.Base.{Base}
use Rattle.pie_incremental.specs.declared.base.OwnFiles.{OwnFiles}
use Rattle.pie_incremental.specs.declared.ending.Ending.{Ending}
use Rattle.pie_incremental.specs.Crashes.{EndsGoingOn}
use Rattle.pie_incremental.specs.Kept.{HasNames}
use Rattle.pie_incremental.specs.Own.{bytes_at, open_path, pending_path}
use Rattle.pie_incremental.specs.Starts.{IsBase}
use Rattle.pie_incremental.specs.inner.Built.{IsKnown}
use Rattle.pie_incremental.specs.inner.Changes.{bytes_of}
use Rattle.pie_incremental.specs.inner.Cleaned.{IsClean, IsExactBuild}
use Rattle.pie_incremental.specs.inner.Crashed.{IsCleanOf}
use Rattle.pie_incremental.specs.inner.Evaluated.{IsUpdateHere}
use Rattle.pie_incremental.specs.inner.Updated.{IsUpdateFrom}

-- names are kept where the file of pending names had these bytes
abbrev pub EndsNames : List (List ℕ) → Option (List ℕ) → Directory → Directory → Type 0
EndsNames kept before d c = bytes_at d pending_path ≡ before → HasNames kept d c

-- an accepted build is done: the directory is that of the clean build
abbrev pub EndsAccepted : OwnFiles → List (List ℕ × List ℕ) → List (List ℕ × List ℕ) → List Task → List TaskRecord → List (List ℕ × Vec ℕ Global)
    → Directory → Directory → Type 0
EndsAccepted own held funcs roots rows contents d c =
    (u : Update) → IsExactBuild u own held rows contents d → IsClean u funcs roots rows d (without_file c open_path)

-- by its verdict, a build is done, or its names are kept
abbrev pub EndsBy : Verdict → OwnFiles → List (List ℕ × List ℕ) → List (List ℕ × List ℕ) → List Task → Built → List (List ℕ) → Directory → Directory → Type 0
EndsBy Accepted own held funcs roots b names d c = EndsAccepted own held funcs roots b.rows.items b.files.items d c
EndsBy (Refused x) own held funcs roots b names d c = EndsNames names (bytes_of own.pending) d c

-- of an update, names are kept, or the build is done
abbrev pub EndsOf : Update → List (List ℕ × List ℕ) → List Task → List (List ℕ) → Directory → Directory → Type 0
EndsOf u funcs roots names d c = HasNames names d c ⊎ IsCleanOf u funcs roots d (without_file c open_path)

-- so it is from this store, with what the end of the build needs
abbrev pub EndsGo : StoreImage → Ending → Project → Directory → Directory → Type 0
EndsGo s e p d c = (u : Update) → IsUpdateHere u (Some d) p.typed p.roots.items → IsStoredIn u s.funcs p.digests.items s.rows e.names.items
    → IsKnown e.own e.held d → EndsOf u p.digests.items p.roots.items e.names.items d c

-- and from this base
abbrev pub EndsRun : Base → Project → List (List ℕ) → Directory → Directory → Type 0
EndsRun b p list d c =
    (u : Update) → IsUpdateFrom u (Some d) b p list → EndsOf u p.digests.items p.roots.items (in_order (list ++ b.names.items)) d c

-- a build that starts afresh is done, or its names are kept
abbrev pub EndsRestart : OwnFiles → List (List ℕ) → Directory → Directory → Type 0
EndsRestart own names d c = IsDone Leaves d c ⊎ EndsNames names (bytes_of own.pending) d c

-- a build of a project has kept its names, or is done, as a build that started afresh or as one that didn't
abbrev pub EndsBuild : Base → Project → List (List ℕ) → Directory → Directory → Type 0
EndsBuild b p list d c = (u : Update) → IsUpdateFrom u (Some d) b p list
    → HasNames (in_order (list ++ b.names.items)) d c ⊎ (IsDone Leaves d c ⊎ IsCleanOf u p.digests.items p.roots.items d (without_file c open_path))

-- so it has from the base that is there
abbrev pub EndsFrom : Base → List (List ℕ) → Directory → Directory → Type 0
EndsFrom b list d c = IsBase d b → EndsGoingOn list d c
