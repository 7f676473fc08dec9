-- What `topdown` prints, and the status that it ends with.
use Rattle.std.specs.Prelude.{◌≡◌, ◌⊎◌, ◌≤◌, ℕ, Bool, true, List, length, Option, IfSome}
use Rattle.pie_base.specs.declared.status.Status.{Status}
use Rattle.pie_build.specs.Crashes.{StaysAtRest}
use Rattle.pie_commit.specs.Outcomes.{LeavesFromRest}
use Rattle.pie_files.specs.Directory.{Directory}
use Rattle.pie_incremental.specs.Crashes.{EndsMarked}
use Rattle.pie_report.specs.declared.report.Report.{Report}
use Rattle.pie_topdown_build.specs.Clean.{BuildsAsClean}
use Rattle.pie_topdown_build.specs.Crashes.{HasEnded, MayStop}
use Rattle.pie_topdown_build.specs.Ran.{RunsForReasons}
use Rattle.pie_topdown_build.specs.Refusals.{KeepsRefused}
use Rattle.pie_cli.specs.Build.{RefusesProject}
use Rattle.pie_cli.specs.Fresh.{IsPrinted, verdict_status}
use Rattle.pie_cli.specs.Listed.{RunsSaying}
use Rattle.pie_cli.specs.Run.{is_answer}

-- there is a report of at most 50,000 tasks, a refused build left the directory as it was, the report and what is left are those of a clean build, no task of a
-- build from an earlier store ran twice, and each for a reason, and the text is that of the report
pub record TellsTopdown (json : Bool) (before after : Option Directory) (text : List ℕ) (ended : Status) : Type 0 where
  pub report : Report
  pub few : length report.ran.items ≤ 50000
  pub kept : IfSome before (λ d. KeepsRefused report.verdict d after)
  pub clean : IfSome before (λ d. BuildsAsClean d report after)
  pub runs : IfSome before (λ d. RunsForReasons d report)
  pub is : IsPrinted json report text
  pub status : ended ≡ verdict_status report.verdict

-- what a build without a list says
abbrev pub TopdownSays : Bool → Option Directory → Option Directory → List ℕ → Status → Type 0
TopdownSays json before after text ended = RefusesProject before after text ended ⊎ TellsTopdown json before after text ended

-- what `topdown` says, whatever it ended with, what a crash leaves, what every image has at the end, and that nothing is pending after an answer
pub record RunsTopdown {S : Type 0} (holds : S → Option Directory) (moment : S → ℕ) (left_since : S → ℕ → Directory → Type 0)
    (images : S → Directory → Type 0) (faults : S → ℕ) (json : Bool) (old new : S) (held gained : Option (List ℕ)) (ended : Status) : Type 0 where
  pub built : RunsSaying (TopdownSays json) holds faults old new held gained ended
  pub crash : LeavesFromRest holds moment left_since images MayStop old new
  pub marked : EndsMarked holds images HasEnded old new
  pub durable : is_answer ended ≡ true → StaysAtRest holds images old new
