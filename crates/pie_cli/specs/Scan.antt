-- What `scan` prints of a directory, and the status that it ends with.
use Rattle.std.specs.Prelude.{◌≡◌, ℕ, List, ◌++◌, codes, Option, IfSome}
use Rattle.std.specs.List.{flat_map}
use Rattle.pie_base.specs.declared.status.Status.{Status}
use Rattle.pie_base.specs.declared.status.Status.TheVariants as status
use Rattle.pie_files.specs.Directory.{Directory}
use Rattle.pie_files.specs.Reading.{LeavesAsBefore}
use Rattle.pie_listing.specs.declared.listing.Listing.{Listing}
use Rattle.pie_listing.specs.declared.listing.Listing.TheVariants.{Listed, Unlisted}
use Rattle.pie_listing.specs.declared.listing.Reason.{Reason}
use Rattle.pie_listing.specs.declared.listing.Reason.TheVariants.{NoManifest, BadManifest, OtherStore, OtherTops}
use Rattle.pie_listing.specs.Listings.{IsListing, IsManifestOf, OnListed, IsExactlyChanged}
use Rattle.pie_scan.specs.Covering.{IsSeparate, DiffersBelow, Covers}
use Rattle.pie_cli.specs.Listed.{RunsByList}

-- why there is no list, in a word
abbrev pub reason_name : Reason → List ℕ
reason_name NoManifest = codes "NoManifest"
reason_name (BadManifest fault) = codes "BadManifest"
reason_name OtherStore = codes "OtherStore"
reason_name OtherTops = codes "OtherTops"

-- the line of a reason
abbrev pub unlisted_line : Reason → List ℕ
unlisted_line reason = codes "unlisted " ++ (reason_name reason ++ codes "\n")

-- a path in a line of its own
abbrev pub path_line : List ℕ → List ℕ
path_line path = path ++ codes "\n"

-- what is printed of a listing: each path in a line, or why there is no list
abbrev pub listing_text : Listing → List ℕ
listing_text (Listed paths) = flat_map path_line paths.items
listing_text (Unlisted reason) = unlisted_line reason

-- where the manifest of a directory is that of an earlier one, a listing with paths has exactly those at which scanning finds the two to differ
abbrev pub ListsExactly : List (List ℕ) → Listing → Directory → Type 0
ListsExactly tops l d = (earlier : Directory) → IsManifestOf earlier tops d → OnListed l (IsExactlyChanged earlier d tops)

-- and where no other source differs, and no path has two contents with one SHA-256, it names all that a build has to be told
abbrev pub ListsAll : List (List ℕ) → Listing → Directory → Type 0
ListsAll tops l d =
    (earlier : Directory) → IsManifestOf earlier tops d → IsSeparate earlier d → DiffersBelow tops earlier d → OnListed l (Covers earlier d)

-- what scanning below these tops says of a directory: the text of its listing. The directory is as it was
abbrev pub ScanSays : List (List ℕ) → Option Directory → Option Directory → List ℕ → Status → Type 0
ScanSays tops before after text ended =
    (l : Listing) × IfSome before (λ d. IsListing d tops l) × IfSome before (ListsExactly tops l) × IfSome before (ListsAll tops l)
    × (text ≡ listing_text l) × (ended ≡ status.Ok) × (after ≡ before)

-- what `scan` says, whatever it ended with, and that it changes no file
pub record RunsScan {S I : Type 0} (holds : S → Option Directory) (moment : S → ℕ) (left_since : S → ℕ → Directory → Type 0) (images : S → Directory → Type 0)
    (faults : S → ℕ) (left : I → Option (List ℕ)) (input_faults : I → ℕ) (old new : S) (input after : I) (held gained : Option (List ℕ)) (ended : Status)
    : Type 0 where
  pub scanned : RunsByList ScanSays holds faults left input_faults old new input after held gained ended
  pub same : holds new ≡ holds old
  pub crash : LeavesAsBefore holds moment left_since images old new
