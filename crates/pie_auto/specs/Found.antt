-- What a build came to that finds its change list by scanning.
use Rattle.std.specs.Prelude.{◌≡◌, ◌||◌, ℕ, Bool, true, false, List, Option, Some, IfSome}
use Rattle.pie_base.specs.Path.{same_text}
use Rattle.pie_build.specs.Left.{may_change}
use Rattle.pie_files.specs.Directory.{Directory, file_at}
use Rattle.pie_incremental.specs.Clean.{BuildsClean}
use Rattle.pie_incremental.specs.Treated.{TreatsNames}
use Rattle.pie_listing.specs.Held.{manifest_path}
use Rattle.pie_listing.specs.Listings.{IsListing}
use Rattle.pie_listing.specs.declared.listing.Listing.{Listing}
use Rattle.pie_listing.specs.declared.listing.Listing.TheVariants.{Listed, Unlisted}
use Rattle.pie_report.specs.declared.report.Report.{Report}
use Rattle.pie_topdown_build.specs.Clean.{BuildsAsClean}
use Rattle.pie_value.specs.declared.verdict.Verdict.{Verdict}
use Rattle.pie_value.specs.declared.verdict.Verdict.TheVariants.{Accepted, Refused}
use Rattle.pie_auto.specs.Kept.{Wrote}

-- a build by what was found of a directory: by the change list, or without one
abbrev pub BuildsBy : Listing → Directory → Report → Option Directory → Type 0
BuildsBy (Listed paths) d r after = TreatsNames paths.items d r after × BuildsClean paths.items d r after
BuildsBy (Unlisted reason) d r after = BuildsAsClean d r after

-- after an accepted build the manifest of what it left was written; after another one nothing
abbrev pub Follows : Verdict → List (List ℕ) → Option Directory → Option Directory → Type 0
Follows Accepted tops between after = IfSome between (λ d. (wrote : Bool) × Wrote wrote tops d after)
Follows (Refused x) tops between after = after ≡ between

-- what was found of a directory by scanning below these tops, what a build by that came to, and what stands after it
pub record HasFound (tops : List (List ℕ)) (d : Directory) (l : Listing) (r : Report) (after : Option Directory) : Type 0 where
  pub listing : IsListing d tops l
  pub between : Option Directory
  pub build : BuildsBy l d r between
  pub manifest : Follows r.verdict tops between after

-- a path that such a build may change
abbrev pub may_find : List ℕ → Bool
may_find q = may_change q || same_text q manifest_path

-- where the directory is observable, it is told still, and every other path has the file that it had
pub record KeepsOutside (before after : Option Directory) : Type 0 where
  pub kept : IfSome before (λ d. (e : Directory) × (after ≡ Some e) × ((q : List ℕ) → may_find q ≡ false → file_at e q ≡ file_at d q))
