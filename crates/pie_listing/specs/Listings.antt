-- What scanning finds, or why it finds nothing.
use Rattle.std.specs.Prelude.{◌≡◌, ℕ, true, false, not, cond, List, Option, Some, None, Err}
use Rattle.std.specs.List.{list_any}
use Rattle.std.specs.List.Sorted.{IsStrictlySortedBy}
use Rattle.pie_base.specs.Path.{same_text}
use Rattle.pie_files.specs.Directory.{Directory, file_at, in_path_order}
use Rattle.pie_scan.specs.declared.entry.Entry.{Entry}
use Rattle.pie_scan.specs.declared.manifest.Manifest.{Manifest}
use Rattle.pie_scan.specs.Changes.{AreChanged}
use Rattle.pie_scan.specs.Entries.{path_cmp, alike}
use Rattle.pie_scan.specs.Scanned.{is_scanned, entry_in, AreScanned}
use Rattle.pie_scan.specs.Texts.{IsManifestText}
use Rattle.pie_scan.specs.Reading.{manifest_says}
use Rattle.pie_listing.specs.declared.listing.Listing.{Listing}
use Rattle.pie_listing.specs.declared.listing.Listing.TheVariants.{Listed, Unlisted}
use Rattle.pie_listing.specs.declared.listing.Reason.TheVariants.{NoManifest, BadManifest, OtherStore, OtherTops}
use Rattle.pie_listing.specs.Held.{manifest_path, store_path, bytes_at, hash_in, is_hash, same_paths}

-- the directory holds this manifest
pub record HoldsManifest (d : Directory) (m : Manifest) : Type 0 where
  pub bytes : List ℕ
  pub there : bytes_at d manifest_path ≡ Some bytes
  pub text : IsManifestText m bytes

-- what is listed by a manifest: the paths at which its entries differ from those of the files that are scanned now
pub record IsListed (d : Directory) (tops : List (List ℕ)) (paths : List (List ℕ)) : Type 0 where
  pub manifest : Manifest
  pub held : HoldsManifest d manifest
  pub store : is_hash (hash_in d store_path) manifest.store ≡ true
  pub same_tops : same_paths (in_path_order tops) manifest.tops ≡ true
  pub now : List Entry
  pub scanned : AreScanned d tops now
  pub changed : AreChanged manifest.entries now paths

-- each answer has its cause, and the causes of two answers don't hold together
abbrev pub IsListing : Directory → List (List ℕ) → Listing → Type 0
IsListing d tops (Listed paths) = IsListed d tops paths.items
IsListing d tops (Unlisted NoManifest) = file_at d manifest_path ≡ None
IsListing d tops (Unlisted (BadManifest fault)) = (bytes : List ℕ) × (bytes_at d manifest_path ≡ Some bytes) × (manifest_says bytes ≡ Err fault)
IsListing d tops (Unlisted OtherStore) = (m : Manifest) × HoldsManifest d m × (is_hash (hash_in d store_path) m.store ≡ false)
IsListing d tops (Unlisted OtherTops) =
    (m : Manifest) × HoldsManifest d m × (is_hash (hash_in d store_path) m.store ≡ true) × (same_paths (in_path_order tops) m.tops ≡ false)

-- the directory holds the manifest of an earlier one, which was scanned below these tops
pub record IsManifestOf (before : Directory) (tops : List (List ℕ)) (d : Directory) : Type 0 where
  pub manifest : Manifest
  pub held : HoldsManifest d manifest
  pub scanned : AreScanned before tops manifest.entries

-- a fact of the paths that are listed
abbrev pub OnListed : Listing → (List (List ℕ) → Type 0) → Type 0
OnListed (Listed paths) P = P paths.items
OnListed (Unlisted reason) P = Unit {0}

-- the entry of a scanned path
abbrev pub scanned_at : Directory → List (List ℕ) → List ℕ → Option Entry
scanned_at d tops path = cond (is_scanned tops path) (entry_in d path) None

-- exactly the scanned paths at which two directories differ, in path order, each once
pub record IsExactlyChanged (before d : Directory) (tops paths : List (List ℕ)) : Type 0 where
  pub ordered : IsStrictlySortedBy path_cmp paths
  pub exactly : (path : List ℕ) → list_any (same_text path) paths ≡ not (alike (scanned_at before tops path) (scanned_at d tops path))
