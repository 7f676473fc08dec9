-- A script: edits of a directory, and a build by a change list after each.
use Rattle.std.specs.Prelude.{◌≡◌, ℕ, List, [], ◌∷◌, All, Some, None, IsSome}
use Rattle.pie_files.specs.Directory.{Directory}
use Rattle.pie_report.specs.declared.report.Report.{Report}
use Rattle.pie_store.specs.Pending.{IsName}
use Rattle.pie_value.proofs.Taking.{IsBytes}
use Rattle.pie_value.specs.declared.verdict.Verdict.{Verdict}
use Rattle.pie_value.specs.declared.verdict.Verdict.TheVariants.{Accepted, Refused}
use Rattle.pie_incremental.specs.Clean.{BuildsClean, IsAfresh, IsAsClean}
use Rattle.pie_incremental.specs.Earlier.{Earlier}
use Rattle.pie_incremental.specs.Own.{bytes_at}
use Rattle.pie_incremental.specs.Ran.{RanFor}
use Rattle.pie_incremental.specs.Treated.{TreatsNames}
use Rattle.pie_clean_laws.specs.Basing.{IsBasedOn, IsEdit, IsApart}

-- one build of a script: the directory that it found, its list, its report, and the directory that it left
pub record Step : Type 0 where
  pub now : Directory
  pub list : List (List ℕ)
  pub report : Report
  pub left : Directory

-- it did what a build by what changed does
pub record IsBuilt (s : Step) : Type 0 where
  pub names : TreatsNames s.list s.now s.report (Some s.left)
  pub clean : BuildsClean s.list s.now s.report (Some s.left)

-- the files of a directory are of bytes
abbrev pub HasBytes : Directory → Type 0
HasBytes d = (q text : List ℕ) → bytes_at d q ≡ Some text → IsBytes text

-- the build that the next one is based on: this one where it was accepted, and else the one before
abbrev pub NextBase : Verdict → Step → Earlier → Earlier → Type 0
NextBase Accepted s e next = (next.built ≡ s.now) × (next.left ≡ s.left)
NextBase (Refused x) s e next = next ≡ e

-- a script goes on from a directory that is based on a build: its change lists are of paths and miss nothing, and what is met is separate
abbrev pub IsScript : Earlier → Directory → List Step → Type 0
IsScript e left [] = Unit {0}
IsScript e left (s ∷ steps) =
    IsEdit left s.now s.list × All IsName s.list × IsApart e s.now × HasBytes s.now
    × ((next : Earlier) → NextBase s.report.verdict s e next → IsScript next s.left steps)

-- a build is as the clean build of the directory that it found, and ran no task twice and each for a reason by the build that it is based on; or it told a cause to
-- start afresh, and is a clean build
pub record IsCleanStep (s : Step) : Type 0 where
  pub goes_on : s.report.fresh ≡ None → IsAsClean s.now s.report (Some s.left)
  pub ran : s.report.fresh ≡ None → (e : Earlier) × RanFor e s.now s.report.ran.items
  pub afresh : IsSome s.report.fresh → IsAfresh s.now s.report (Some s.left)

-- each build of a script is as a clean build
abbrev pub ScriptsAreClean : Type 0
ScriptsAreClean =
    (e : Earlier) (left : Directory) (steps : List Step) → IsBasedOn e left → IsScript e left steps → All IsBuilt steps → All IsCleanStep steps
