-- At which paths the builds of a script look.
use Rattle.std.specs.Prelude.{ℕ, List, Option, IfSome}
use Rattle.pie_files.specs.Directory.{Directory}
use Rattle.pie_files.specs.declared.files.Call.{Call}
use Rattle.pie_incremental.specs.Asked.{AsksRight}
use Rattle.pie_report.specs.declared.report.Report.{Report}
use Rattle.pie_script.specs.Steps.{Plain}
use Rattle.pie_replay.specs.Trace.{Trace}
use Rattle.pie_replay.specs.Trace.Trace.{nothing, put, deleted, named, built}

-- each build of a trace looked only at the paths that a build with its names and its report may look at, in the directory that it found
abbrev pub LooksRight : {S : Type 0} (holds : S → Option Directory) (asked : S → Option (List Call)) (start : S) {steps : List Plain} {names : List (List ℕ)}
    {reports : List Report} {now : S} → Trace holds start steps names reports now → Type 0
LooksRight holds asked start nothing = Unit {0}
LooksRight holds asked start (put path bytes t h) = LooksRight holds asked start t
LooksRight holds asked start (deleted path t h) = LooksRight holds asked start t
LooksRight holds asked start (named path t) = LooksRight holds asked start t
LooksRight holds asked start (built {names = names} {old = old} {new = new} report t h) =
    LooksRight holds asked start t × IfSome (holds old) (λ d. AsksRight names d report (asked old) (asked new))
