-- A build that finds its change list by scanning, and what it goes on from.
use Rattle.std.specs.Prelude.{◌≡◌, ℕ, true, List, Option, None, Some, Vec}
use Rattle.std.specs.declared.alloc.Global.{Global}
use Rattle.pie_auto.specs.Found.{Follows}
use Rattle.pie_files.specs.Directory.{Directory}
use Rattle.pie_incremental.specs.Clean.{IsAsClean}
use Rattle.pie_incremental.specs.Earlier.{Earlier, GoesOnFrom}
use Rattle.pie_incremental.specs.Kept.{is_builders}
use Rattle.pie_incremental.specs.Own.{bytes_at}
use Rattle.pie_incremental.specs.Ran.{RanFor}
use Rattle.pie_listing.specs.Listings.{IsListing, IsManifestOf}
use Rattle.pie_listing.specs.declared.listing.Listing.{Listing}
use Rattle.pie_listing.specs.declared.listing.Listing.TheVariants.{Listed, Unlisted}
use Rattle.pie_report.specs.declared.report.Report.{Report}
use Rattle.pie_scan.specs.Covering.{DiffersBelow, IsSeparate}
use Rattle.pie_value.specs.declared.verdict.Verdict.TheVariants.{Accepted}
use Rattle.pie_clean_laws.specs.Basing.{IsApart, IsBasedOn}

-- a directory goes on from one whose manifest it holds, and which was based on an earlier build: the builder's own files stayed, each source that differs
-- lies at or below a top, no path has two contents with one hash, and what is met is separate
pub record GoesOnByScan (e : Earlier) (tops : List (List ℕ)) (d : Directory) : Type 0 where
  pub left : Directory
  pub based : IsBasedOn e left
  pub manifest : IsManifestOf left tops d
  pub own : (q : List ℕ) → is_builders q ≡ true → bytes_at d q ≡ bytes_at left q
  pub below : DiffersBelow tops left d
  pub separate : IsSeparate left d
  pub apart : IsApart e d

-- what a build by the paths that were found did, where the directory goes on from an earlier one: a report that tells no cause to start afresh is as that of a
-- clean build, which left what was there before the manifest was written, and tells no task twice that ran, and each that had a reason to
pub record IsCleanFind (e : Earlier) (tops : List (List ℕ)) (d : Directory) (r : Report) (after : Option Directory) : Type 0 where
  pub between : Option Directory
  pub clean : IsAsClean d r between
  pub ran : RanFor e d r.ran.items
  pub manifest : Follows r.verdict tops between after

-- the same by what was found: without a list nothing is said
abbrev pub FindsCleanBy : Listing → List (List ℕ) → Directory → Report → Option Directory → Type 0
FindsCleanBy (Listed paths) tops d r after = (e : Earlier) → GoesOnByScan e tops d → r.fresh ≡ None → IsCleanFind e tops d r after
FindsCleanBy (Unlisted reason) tops d r after = Unit {0}

-- a directory was built, and what was left is based on that build, and holds its own manifest of these tops
pub record IsBaseByScan (tops : List (List ℕ)) (d left : Directory) : Type 0 where
  pub earlier : Earlier
  pub built : earlier.built ≡ d
  pub based : IsBasedOn earlier left
  pub manifest : IsManifestOf left tops left

-- ---- the laws

-- a directory goes on from the earlier build by the paths that are found
abbrev pub ListsGoOn : Type 0
ListsGoOn =
    (e : Earlier) (tops : List (List ℕ)) (d : Directory) (paths : Vec (List ℕ) Global) → GoesOnByScan e tops d → IsListing d tops (Listed paths)
    → GoesOnFrom e paths.items d

-- an accepted build by what was found, which is as the clean build, is one that the next can be based on
abbrev pub FoundBuildsAreBases : Type 0
FoundBuildsAreBases =
    (e : Earlier) (tops : List (List ℕ)) (d left : Directory) (r : Report) → IsCleanFind e tops d r (Some left) → r.verdict ≡ Accepted → IsBaseByScan tops d left
