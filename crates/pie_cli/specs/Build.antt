-- What `build` prints, and the status that it ends with.
use Rattle.std.specs.Prelude.{◌≡◌, ◌⊎◌, ℕ, Bool, true, List, Option, IfSome, Err}
use Rattle.pie_base.specs.declared.status.Status.{Status}
use Rattle.pie_base.specs.declared.status.Status.TheVariants as status
use Rattle.pie_build.specs.Crashes.{StaysAtRest}
use Rattle.pie_files.specs.Directory.{Directory}
use Rattle.pie_files.specs.declared.files.Call.{Call}
use Rattle.pie_incremental.specs.Asked.{AsksRight}
use Rattle.pie_incremental.specs.Clean.{BuildsClean}
use Rattle.pie_incremental.specs.Crashes.{MayEnd, MayStop}
use Rattle.pie_incremental.specs.Runs.{TellsFew}
use Rattle.pie_incremental.specs.Treated.{TreatsNames}
use Rattle.pie_project.specs.Fronts.{ProjectSays}
use Rattle.pie_project.specs.Refusals.{Refusal}
use Rattle.pie_report.specs.declared.report.Report.{Report}
use Rattle.pie_report.specs.Refused.{refusal_line}
use Rattle.pie_cli.specs.Fresh.{IsPrinted, verdict_status}
use Rattle.pie_cli.specs.Listed.{ListEnds, ListLeaves, RunsByList}
use Rattle.pie_cli.specs.Run.{is_answer}

-- the project that is there is refused: the line tells why, and the directory is as it was
abbrev pub RefusesProject : Option Directory → Option Directory → List ℕ → Status → Type 0
RefusesProject before after text ended =
    (e : Refusal) × IfSome before (λ d. ProjectSays d (Err e)) × (after ≡ before) × (text ≡ refusal_line e) × (ended ≡ status.Pipeline)

-- a build with these names came to this report: what it did with names, how many tasks it started, that it is a clean build's, and at which paths it looked
pub record IsBuilt (asked asked_now : Option (List Call)) (names : List (List ℕ)) (before after : Option Directory) (report : Report) : Type 0 where
  pub treated : IfSome before (λ d. TreatsNames names d report after)
  pub few : TellsFew report
  pub clean : IfSome before (λ d. BuildsClean names d report after)
  pub asks : IfSome before (λ d. AsksRight names d report asked asked_now)

-- there is a report, and the text is that of the report
abbrev pub TellsReport : Bool → Option (List Call) → Option (List Call) → List (List ℕ) → Option Directory → Option Directory → List ℕ → Status → Type 0
TellsReport json asked asked_now names before after text ended =
    (report : Report) × IsBuilt asked asked_now names before after report × IsPrinted json report text × (ended ≡ verdict_status report.verdict)

-- what a build with these names says, before and after which these calls had been made
abbrev pub MakeSays : Bool → Option (List Call) → Option (List Call) → List (List ℕ) → Option Directory → Option Directory → List ℕ → Status → Type 0
MakeSays json asked asked_now names before after text ended =
    RefusesProject before after text ended ⊎ TellsReport json asked asked_now names before after text ended

-- what `build` says, whatever it ended with, what a crash leaves, what every image has at the end, and that nothing is pending after an answer
pub record RunsBuild {S I : Type 0} (holds : S → Option Directory) (moment : S → ℕ) (left_since : S → ℕ → Directory → Type 0) (images : S → Directory → Type 0)
    (asked : S → Option (List Call)) (faults : S → ℕ) (left : I → Option (List ℕ)) (input_faults : I → ℕ) (json : Bool) (old new : S) (input after : I)
    (held gained : Option (List ℕ)) (ended : Status) : Type 0 where
  pub built : RunsByList (MakeSays json (asked old) (asked new)) holds faults left input_faults old new input after held gained ended
  pub crash : ListLeaves MayStop holds moment left_since images old new (left input) (left after)
  pub marked : ListEnds MayEnd holds images old new (left input) (left after)
  pub durable : is_answer ended ≡ true → StaysAtRest holds images old new
