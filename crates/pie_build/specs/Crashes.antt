-- What a crash leaves of a build.
use Rattle.std.specs.Prelude.{◌≡◌, ◌⊎◌, ℕ, false, List, codes, Option, Some, IfSome}
use Rattle.pie_commit.specs.Outcomes.{HasFile, IsAtRest, LeavesFromRest}
use Rattle.pie_files.specs.Directory.{Directory, file_at, without_file}
use Rattle.pie_files.specs.Images.{Only}
use Rattle.pie_report.specs.declared.report.Report.{Report}
use Rattle.pie_value.specs.declared.verdict.Verdict.TheVariants.{Accepted}
use Rattle.pie_build.specs.Left.{may_change}

-- the marker stands, and every path that no build changes has the file that it had
pub record IsUnderWay (d c : Directory) : Type 0 where
  pub marked : HasFile c (codes ".pie/open")
  pub rest : (q : List ℕ) → may_change q ≡ false → file_at c q ≡ file_at d q

-- without the marker, where it stands, this is what an accepted build leaves, by what builds leave with their reports
pub record IsDone (leaves : Directory → Report → Option Directory → Type 0) (d c : Directory) : Type 0 where
  pub report : Report
  pub accepted : report.verdict ≡ Accepted
  pub left : leaves d report (Some (without_file c (codes ".pie/open")))

-- a build is under way, changed nothing yet, or is done
abbrev pub IsOfThree : (Directory → Report → Option Directory → Type 0) → Directory → Directory → Type 0
IsOfThree leaves d c = IsUnderWay d c ⊎ ((c ≡ d) ⊎ IsDone leaves d c)

-- the marker stands in every image unless nothing changed, or the build is done in every image
abbrev pub LeavesMarked : (Directory → Report → Option Directory → Type 0) → Directory → (Directory → Type 0) → Type 0
LeavesMarked leaves d images =
    ((c : Directory) → images c → HasFile c (codes ".pie/open") ⊎ (c ≡ d)) ⊎ ((c : Directory) → images c → IsDone leaves d c)

-- where nothing was pending: a crash at each moment leaves one of three, and at the end, whatever was answered, the marker tells
pub record Withstands {S : Type 0} (holds : S → Option Directory) (moment : S → ℕ) (left_since : S → ℕ → Directory → Type 0)
    (images : S → Directory → Type 0) (leaves : Directory → Report → Option Directory → Type 0) (old new : S) : Type 0 where
  pub crash : LeavesFromRest holds moment left_since images (IsOfThree leaves) old new
  pub marked : IfSome (holds old) (λ d. Only d (images old) → LeavesMarked leaves d (images new))

-- where nothing was pending, nothing is
abbrev pub StaysAtRest : {S : Type 0} → (S → Option Directory) → (S → Directory → Type 0) → S → S → Type 0
StaysAtRest holds images old new = IfSome (holds old) (λ d. Only d (images old) → IsAtRest (holds new) (images new))
