-- What `auto` prints, the status that it ends with, and what it leaves.
use Rattle.std.specs.Prelude.{◌≡◌, ◌⊎◌, ◌≤◌, ℕ, false, List, ◌++◌, length, codes, Option, IfSome}
use Rattle.std.specs.Fmt.{decimal}
use Rattle.pie_auto.specs.Found.{HasFound, KeepsOutside}
use Rattle.pie_base.specs.declared.status.Status.{Status}
use Rattle.pie_files.specs.Directory.{Directory}
use Rattle.pie_listing.specs.declared.listing.Listing.{Listing}
use Rattle.pie_listing.specs.declared.listing.Listing.TheVariants.{Listed, Unlisted}
use Rattle.pie_report.specs.declared.report.Report.{Report}
use Rattle.pie_script_laws.specs.Finding.{FindsCleanBy}
use Rattle.pie_cli.specs.Build.{RefusesProject}
use Rattle.pie_cli.specs.Fresh.{IsPrinted, verdict_status}
use Rattle.pie_cli.specs.Listed.{RunsByList}
use Rattle.pie_cli.specs.Scan.{unlisted_line}

-- what stands before the report: how many paths were found, or why there is no list
abbrev pub head_line : Listing → List ℕ
head_line (Listed paths) = codes "listed " ++ (decimal (length paths.items) ++ codes "\n")
head_line (Unlisted reason) = unlisted_line reason

-- a text is that of what was found and of a report
abbrev pub IsAutoText : Listing → Report → List ℕ → Type 0
IsAutoText l report text = (lines : List ℕ) × IsPrinted false report lines × (text ≡ head_line l ++ lines)

-- by what scanning below these tops found there is a report, of at most 100,000 tasks, and by a list of paths it is that of a clean build; the text is that of both
pub record TellsAuto (tops : List (List ℕ)) (before after : Option Directory) (text : List ℕ) (ended : Status) : Type 0 where
  pub listing : Listing
  pub report : Report
  pub found : IfSome before (λ d. HasFound tops d listing report after)
  pub clean : IfSome before (λ d. FindsCleanBy listing tops d report after)
  pub few : length report.ran.items ≤ 100000
  pub is : IsAutoText listing report text
  pub status : ended ≡ verdict_status report.verdict

-- what a build by what scanning below these tops finds says
abbrev pub AutoSays : List (List ℕ) → Option Directory → Option Directory → List ℕ → Status → Type 0
AutoSays tops before after text ended = RefusesProject before after text ended ⊎ TellsAuto tops before after text ended

-- what `auto` says, whatever it ended with, and that each path has the file that it had which isn't under `out/`, the manifest or one of the builder's own
pub record RunsAuto {S I : Type 0} (holds : S → Option Directory) (faults : S → ℕ) (left : I → Option (List ℕ)) (input_faults : I → ℕ) (old new : S)
    (input after : I) (held gained : Option (List ℕ)) (ended : Status) : Type 0 where
  pub found : RunsByList AutoSays holds faults left input_faults old new input after held gained ended
  pub rest : KeepsOutside (holds old) (holds new)
