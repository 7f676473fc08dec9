-- What commands say that read a list of paths.
use Rattle.std.specs.Prelude.{◌≡◌, ℕ, true, List, Option}
use Rattle.pie_base.specs.declared.status.Status.{Status}
use Rattle.pie_files.specs.Directory.{Directory}
use Rattle.pie_files.specs.declared.files.Call.{Call}
use Rattle.pie_files.specs.Reading.{LeavesAsBefore}
use Rattle.pie_cli.specs.declared.listed.ByList.{ByList}
use Rattle.pie_cli.specs.declared.listed.ByList.TheVariants.{Auto, Build, Scan}
use Rattle.pie_auto.specs.Found.{KeepsOutside}
use Rattle.pie_build.specs.Crashes.{StaysAtRest}
use Rattle.pie_build.specs.Left.{KeepsRest}
use Rattle.pie_commit.specs.Outcomes.{LeavesFromRest}
use Rattle.pie_incremental.specs.Crashes.{EndsMarked, MayEnd, MayStop}
use Rattle.pie_cli.specs.Auto.{AutoSays}
use Rattle.pie_cli.specs.Build.{MakeSays}
use Rattle.pie_cli.specs.Listed.{ListEnds, ListLeaves}
use Rattle.pie_cli.specs.Run.{is_answer}
use Rattle.pie_cli.specs.Scan.{ScanSays}

-- what a command says of its paths, before and after which these calls had been made
abbrev pub says_of : ByList → Option (List Call) → Option (List Call) → List (List ℕ) → Option Directory → Option Directory → List ℕ → Status → Type 0
says_of (Build json) asked asked_now = MakeSays json asked asked_now
says_of Scan asked asked_now = ScanSays
says_of Auto asked asked_now = AutoSays

-- a command that scans changes no file
abbrev pub ChangesNone : {S : Type 0} → (S → Option Directory) → (S → ℕ) → (S → ℕ → Directory → Type 0) → (S → Directory → Type 0) → ByList → S → S → Type 0
ChangesNone holds moment left_since images (Build json) old new = Unit {0}
ChangesNone holds moment left_since images Auto old new = Unit {0}
ChangesNone holds moment left_since images Scan old new = (holds new ≡ holds old) × LeavesAsBefore holds moment left_since images old new

-- what a crash leaves of a build with these paths
abbrev pub LeavesWith : {S : Type 0} → (S → Option Directory) → (S → ℕ) → (S → ℕ → Directory → Type 0) → (S → Directory → Type 0) → ByList → List (List ℕ)
    → S → S → Type 0
LeavesWith holds moment left_since images (Build json) paths old new = LeavesFromRest holds moment left_since images (MayStop paths) old new
LeavesWith holds moment left_since images Scan paths old new = Unit {0}
LeavesWith holds moment left_since images Auto paths old new = Unit {0}

-- and of one with the paths of its input
abbrev pub LeavesRead : {S : Type 0} → (S → Option Directory) → (S → ℕ) → (S → ℕ → Directory → Type 0) → (S → Directory → Type 0) → ByList → S → S
    → Option (List ℕ) → Option (List ℕ) → Type 0
LeavesRead holds moment left_since images (Build json) old new left after = ListLeaves MayStop holds moment left_since images old new left after
LeavesRead holds moment left_since images Scan old new left after = Unit {0}
LeavesRead holds moment left_since images Auto old new left after = Unit {0}

-- what every image has at the end of a build with these paths
abbrev pub EndsWith : {S : Type 0} → (S → Option Directory) → (S → Directory → Type 0) → ByList → List (List ℕ) → S → S → Type 0
EndsWith holds images (Build json) paths old new = EndsMarked holds images (MayEnd paths) old new
EndsWith holds images Scan paths old new = Unit {0}
EndsWith holds images Auto paths old new = Unit {0}

-- and of one with the paths of its input
abbrev pub EndsRead : {S : Type 0} → (S → Option Directory) → (S → Directory → Type 0) → ByList → S → S → Option (List ℕ) → Option (List ℕ) → Type 0
EndsRead holds images (Build json) old new left after = ListEnds MayEnd holds images old new left after
EndsRead holds images Scan old new left after = Unit {0}
EndsRead holds images Auto old new left after = Unit {0}

-- nothing is pending after a build, where nothing was
abbrev pub RestsBy : {S : Type 0} → (S → Option Directory) → (S → Directory → Type 0) → ByList → S → S → Type 0
RestsBy holds images (Build json) old new = StaysAtRest holds images old new
RestsBy holds images Scan old new = Unit {0}
RestsBy holds images Auto old new = Unit {0}

-- what a crash leaves of a command with the paths of its input, what every image has at its end, and that nothing is pending after an answer
pub record StopsRead {S : Type 0} (holds : S → Option Directory) (moment : S → ℕ) (left_since : S → ℕ → Directory → Type 0) (images : S → Directory → Type 0)
    (which : ByList) (old new : S) (left after : Option (List ℕ)) (ended : Status) : Type 0 where
  pub crash : LeavesRead holds moment left_since images which old new left after
  pub marked : EndsRead holds images which old new left after
  pub durable : is_answer ended ≡ true → RestsBy holds images which old new

-- the paths that have the files that they had
abbrev pub KeepsBy : ByList → Option Directory → Option Directory → Type 0
KeepsBy (Build json) before after = KeepsRest before after
KeepsBy Scan before after = KeepsRest before after
KeepsBy Auto before after = KeepsOutside before after
