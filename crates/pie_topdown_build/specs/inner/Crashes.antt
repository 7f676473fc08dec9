-- What a crash leaves of a build without a list, by its parts.
use Rattle.std.specs.Prelude.{◌⊎◌, ℕ, List, Option, Some}
use Rattle.std.specs.declared.alloc.Global.{Global}
use Rattle.std.proofs.Common.{Vec}
use Rattle.pie_build.specs.Crashes.{StaysAtRest}
use Rattle.pie_build.specs.inner.Projects.{IsReady}
use Rattle.pie_checks.specs.declared.built.Built.{Built}
use Rattle.pie_commit.specs.Outcomes.{LeavesFromRest}
use Rattle.pie_core_laws.specs.Update.{Update}
use Rattle.pie_files.specs.Directory.{Directory, without_file}
use Rattle.pie_incremental.specs.declared.base.OwnFiles.{OwnFiles}
use Rattle.pie_incremental.specs.Crashes.{EndsMarked, IsCleanBuilt}
use Rattle.pie_incremental.specs.Earlier.{Earlier}
use Rattle.pie_incremental.specs.Own.{open_path}
use Rattle.pie_incremental.specs.inner.Cleaned.{IsClean}
use Rattle.pie_incremental.specs.inner.Crashed.{IsCleanOf}
use Rattle.pie_project.specs.declared.project.Project.{Project}
use Rattle.pie_record.specs.declared.task_record.TaskRecord.{TaskRecord}
use Rattle.pie_store.specs.inner.Offers.{Offered}
use Rattle.pie_topdown_result_laws.specs.Builds.{AreHonest}
use Rattle.pie_value.specs.declared.task.Task.{Task}
use Rattle.pie_value.specs.declared.verdict.Verdict.{Verdict}
use Rattle.pie_value.specs.declared.verdict.Verdict.TheVariants.{Accepted, Refused}
use Rattle.pie_topdown_build.specs.declared.base.Base.{Base}
use Rattle.pie_topdown_build.specs.Anew.{IsSeparate}
use Rattle.pie_topdown_build.specs.Clean.{CanBegin, HasStoreOf}
use Rattle.pie_topdown_build.specs.Crashes.{KeepsOthers, StopsWith}
use Rattle.pie_topdown_build.specs.inner.Anew.{IsKnownBeside, IsNoBase, IsUpdateAnew, OffersHonestAlone}
use Rattle.pie_topdown_build.specs.inner.Bases.{HasBase}
use Rattle.pie_topdown_build.specs.inner.Clean.{IsUpdateBy, OffersHonest}
use Rattle.pie_topdown_build.specs.inner.Cleaned.{IsExactBuild, IsKnownOf, IsStoreIfAny}

-- where nothing was pending: at each moment a crash leaves one of three; at the end the marker stands in every image unless nothing changed, or every image has D;
-- and once this is settled, nothing is pending
pub record Endures {S : Type 0} (holds : S → Option Directory) (moment : S → ℕ) (left_since : S → ℕ → Directory → Type 0) (images : S → Directory → Type 0)
    (D : Directory → Directory → Type 0) (settled : Type 0) (old new : S) : Type 0 where
  pub crash : LeavesFromRest holds moment left_since images (StopsWith D) old new
  pub marked : EndsMarked holds images D old new
  pub durable : settled → StaysAtRest holds images old new

-- no other path changed, and this holds besides
pub record IsDoneAs (P : Type 0) (d c : Directory) : Type 0 where
  pub rest : KeepsOthers d c
  pub clean : P

-- an accepted build is put into place: where what is held is known, or what is known where there was no store, the directory is that of the clean build,
-- without the marker
abbrev pub EndsPut : OwnFiles → List (List ℕ × List ℕ) → List (List ℕ × List ℕ) → List Task → List TaskRecord → List (List ℕ × Vec ℕ Global)
    → Directory → Directory → Type 0
EndsPut own held funcs roots rows contents d c =
    IsDoneAs (IsKnownOf own held d ⊎ IsKnownBeside own contents held d → (u : Update) → IsExactBuild u rows contents d
    → IsClean u funcs roots rows d (without_file c open_path)) d c

-- so it is where there was no store to build from, or it is that of the directory
abbrev pub EndsWhere : Option (Vec ℕ Global) → List (List ℕ × List ℕ) → List Task → List TaskRecord → List (List ℕ × Vec ℕ Global)
    → Directory → Directory → Type 0
EndsWhere store funcs roots rows contents d c =
    IsDoneAs ((u : Update) → IsExactBuild u rows contents d → IsStoreIfAny store d → IsClean u funcs roots rows d (without_file c open_path)) d c

-- the same of what was made, by its verdict: a refused build is never done
abbrev pub EndsBy : Verdict → Option (Vec ℕ Global) → List (List ℕ × List ℕ) → List Task → Built → Directory → Directory → Type 0
EndsBy Accepted store funcs roots b d c = EndsWhere store funcs roots b.rows.items b.files.items d c
EndsBy (Refused x) store funcs roots b d c = ⊥

-- a directory is that of the clean build of each update to this project from the store of this base, or from its records where there is no store of it, where
-- honest records are offered
abbrev pub IsCleanBy : Base → Project → (Directory → Task → List ℕ → List Offered) → Directory → Directory → Type 0
IsCleanBy b p told d e =
    (u : Update) → IsUpdateBy u (Some d) b p ⊎ IsUpdateAnew u (Some d) b p → AreHonest u p.digests.items told
    → IsCleanOf u p.digests.items p.roots.items d e

-- so it is at the end of a build of a project
abbrev pub EndsRun : Base → Project → (Directory → Task → List ℕ → List Offered) → Directory → Directory → Type 0
EndsRun b p told d c = IsDoneAs (IsCleanBy b p told d (without_file c open_path)) d c

-- and so where the functions are typed and the roots are tasks of them
abbrev pub EndsReady : Base → Project → (Directory → Task → List ℕ → List Offered) → Directory → Directory → Type 0
EndsReady b p told d c = IsDoneAs (IsReady p.typed p.roots.items → IsCleanBy b p told d (without_file c open_path)) d c

-- a directory is that of the clean build, where another one has the store of an earlier build, and honest records are offered
abbrev pub IsCleanFrom : (Directory → Task → List ℕ → List Offered) → Directory → Directory → Type 0
IsCleanFrom told d e = (b : Earlier) (from : HasStoreOf b d) → OffersHonest b from.strings d told → IsCleanBuilt d e

-- so it is, whatever the other one has, where nothing that its clean build meets has the hash of something else, and honest records are offered
abbrev pub IsCleanAnew : (Directory → Task → List ℕ → List Offered) → Directory → Directory → Type 0
IsCleanAnew told d e = (apart : IsSeparate d) → OffersHonestAlone apart.strings d told → IsCleanBuilt d e

-- a build is done, with or without the marker: no other path changed, and the directory is that of the clean build, where it began from a store, or anew
pub record EndsAs (begun anew : Type 0) (told : Directory → Task → List ℕ → List Offered) (d c : Directory) : Type 0 where
  pub rest : KeepsOthers d c
  pub goes_on : begun → IsCleanFrom told d (without_file c open_path)
  pub afresh : anew → IsCleanAnew told d (without_file c open_path)

-- so it is at the end of a build from this base, which has the store of the directory, or no store and no record
abbrev pub EndsFrom : Base → (Directory → Task → List ℕ → List Offered) → Directory → Directory → Type 0
EndsFrom b told d c = EndsAs (HasBase d b) (IsNoBase b) told d c

-- at the end of one from an empty store
abbrev pub EndsAnew : (Directory → Task → List ℕ → List Offered) → Directory → Directory → Type 0
EndsAnew told d c = IsDoneAs (IsCleanAnew told d (without_file c open_path)) d c

-- and at the end of one of a directory whose store could be read, or of one where none could be
abbrev pub EndsOffered : (Directory → Task → List ℕ → List Offered) → Directory → Directory → Type 0
EndsOffered told d c = EndsAs (CanBegin d) (CanBegin d → ⊥) told d c
