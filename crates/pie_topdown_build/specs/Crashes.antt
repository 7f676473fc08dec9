-- What a crash leaves of a build without a list.
use Rattle.std.specs.Prelude.{◌≡◌, ◌⊎◌, ℕ, false, List}
use Rattle.pie_build.specs.Crashes.{IsDone, IsUnderWay}
use Rattle.pie_build.specs.Left.{may_change, Leaves}
use Rattle.pie_files.specs.Directory.{Directory, file_at, without_file}
use Rattle.pie_incremental.specs.Crashes.{IsCleanBuilt}
use Rattle.pie_incremental.specs.Earlier.{Earlier}
use Rattle.pie_incremental.specs.Own.{open_path}
use Rattle.pie_topdown_build.specs.Clean.{CanBegin, HasStoreOf}

-- every path that no build changes has the file that it had
abbrev pub KeepsOthers : Directory → Directory → Type 0
KeepsOthers d c = (q : List ℕ) → may_change q ≡ false → file_at c q ≡ file_at d q

-- a build is done, with or without the marker: no other path changed; where a store could be read, and it is that of an earlier build, the directory is that of
-- the clean build; and where none could be, it is what an accepted clean build leaves
pub record HasEnded (d c : Directory) : Type 0 where
  pub rest : KeepsOthers d c
  pub goes_on : CanBegin d → (e : Earlier) → HasStoreOf e d → IsCleanBuilt d (without_file c open_path)
  pub afresh : (CanBegin d → ⊥) → IsDone Leaves d c

-- a build is under way, changed nothing yet, or is done so
abbrev pub StopsWith : (Directory → Directory → Type 0) → Directory → Directory → Type 0
StopsWith D d c = IsUnderWay d c ⊎ ((c ≡ d) ⊎ D d c)

-- what a crash may leave of a build of a directory
abbrev pub MayStop : Directory → Directory → Type 0
MayStop = StopsWith HasEnded
