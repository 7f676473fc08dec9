-- A build by what was found, and the manifest after it.
use Rattle.std.specs.Prelude.{◌≡◌, ◌≤◌, ℕ, ◌+◌, List, ◌++◌, length, All, Option, Result, IfOk}
use Rattle.pie_files.specs.Directory.{Directory}
use Rattle.pie_listing.specs.declared.listing.Listing.{Listing}
use Rattle.pie_report.specs.declared.report.Report.{Report}
use Rattle.pie_value.specs.Canonical.{IsEncodableTask}
use Rattle.pie_value.specs.declared.task.Task.{Task}
use Rattle.pie_auto.specs.Found.{BuildsBy, Follows}

-- a build by this listing left a directory, and then the manifest was kept
abbrev pub IsFollowed : List (List ℕ) → Directory → Listing → Report → Option Directory → Type 0
IsFollowed tops d l r after = (between : Option Directory) × BuildsBy l d r between × Follows r.verdict tops between after

-- at most 100,000 tasks were started, a report tells them, and each has canonical bytes
pub record TellsRuns {A E : Type 0} (old new : List Task) (result : Result A E) (report : A → Report) : Type 0 where
  pub ran : IfOk result (λ a. new ≡ old ++ (report a).ran.items)
  pub few : length new ≤ length old + 100000
  pub encodable : IfOk result (λ a. All IsEncodableTask (report a).ran.items)
