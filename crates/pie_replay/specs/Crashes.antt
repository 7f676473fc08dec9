-- What a crash leaves of a script while its steps are done.
use Rattle.std.specs.Prelude.{◌≡◌, ◌⊎◌, ℕ, List, Option, Some, IfSome}
use Rattle.pie_files.specs.Directory.{Directory}
use Rattle.pie_files.specs.Images.{MayRemove, MayWrite}
use Rattle.pie_files.specs.Reading.{Leaves}
use Rattle.pie_incremental.specs.Crashes.{MayStop}
use Rattle.pie_report.specs.declared.report.Report.{Report}
use Rattle.pie_script.specs.Steps.{Plain, PutFile, DelFile, Name, BuildNow}
use Rattle.pie_replay.specs.Trace.{Trace}
use Rattle.pie_replay.specs.Trace.Trace.{nothing, put, deleted, named, built}

-- what a crash may leave at the end of a trace: from what it could leave as the script began, or from the directory that the last build left, each file that
-- was put since then is there, has any bytes or is as it was, and each that was removed is gone or as it was
abbrev pub LeavesNow : {S : Type 0} (holds : S → Option Directory) (images : S → Directory → Type 0) (start : S) {steps : List Plain} {names : List (List ℕ)}
    {reports : List Report} {now : S} → Trace holds start steps names reports now → Directory → Type 0
LeavesNow holds images start nothing c = images start c
LeavesNow holds images start (put path bytes t h) c = (d : Directory) × LeavesNow holds images start t d × MayWrite path d c
LeavesNow holds images start (deleted path t h) c = (d : Directory) × LeavesNow holds images start t d × MayRemove path d c
LeavesNow holds images start (named path t) c = LeavesNow holds images start t c
LeavesNow holds images start (built {new = new} report t h) c = holds new ≡ Some c

-- what it may leave of one step more, done or not: of a put or a removal what it may leave then; of a build, what a build with these names may leave of the
-- directory that it found
abbrev pub StepLeaves : {S : Type 0} (holds : S → Option Directory) (images : S → Directory → Type 0) (start : S) {steps : List Plain} {names : List (List ℕ)}
    {reports : List Report} {now : S} → Trace holds start steps names reports now → Plain → Directory → Type 0
StepLeaves holds images start t (PutFile path bytes) c = (d : Directory) × LeavesNow holds images start t d × MayWrite path d c
StepLeaves holds images start t (DelFile path) c = (d : Directory) × LeavesNow holds images start t d × MayRemove path d c
StepLeaves holds images start t (Name path) c = ⊥
StepLeaves holds images start {names = names} {now = now} t BuildNow c = (d : Directory) × (holds now ≡ Some d) × MayStop names d c

-- what it may have left since the script began: what it could leave then, or what it may leave of one of the steps
abbrev pub LeavesSince : {S : Type 0} (holds : S → Option Directory) (images : S → Directory → Type 0) (start : S) {steps : List Plain} {names : List (List ℕ)}
    {reports : List Report} {now : S} → Trace holds start steps names reports now → Directory → Type 0
LeavesSince holds images start nothing c = images start c
LeavesSince holds images start (put path bytes t h) c = LeavesSince holds images start t c ⊎ StepLeaves holds images start t (PutFile path bytes) c
LeavesSince holds images start (deleted path t h) c = LeavesSince holds images start t c ⊎ StepLeaves holds images start t (DelFile path) c
LeavesSince holds images start (named path t) c = LeavesSince holds images start t c
LeavesSince holds images start (built report t h) c = LeavesSince holds images start t c ⊎ StepLeaves holds images start t BuildNow c

-- where the directory is observable, a crash now, or at a moment since a script began, leaves only what it may leave of the steps of this trace, and now only
-- what it may leave at their end
pub record Survives {S : Type 0} (holds : S → Option Directory) (moment : S → ℕ) (left_since : S → ℕ → Directory → Type 0) (images : S → Directory → Type 0)
    (old new : S) {steps : List Plain} {names : List (List ℕ)} {reports : List Report} (trace : Trace holds old steps names reports new) : Type 0 where
  pub since : IfSome (holds old) (λ d. Leaves moment left_since images (LeavesSince holds images old trace) old new)
  pub ended : IfSome (holds old) (λ d. (c : Directory) → images new c → LeavesNow holds images old trace c)
