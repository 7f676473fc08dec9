-- The steps of a listing.
use Rattle.std.specs.Prelude.{◌≡◌, ℕ, true, false, List, All, Option, Some, Err, IfSome, Vec}
use Rattle.std.specs.declared.alloc.Global.{Global}
use Rattle.pie_files.specs.Directory.{Directory, in_path_order}
use Rattle.pie_scan.specs.declared.entry.Entry.{Entry}
use Rattle.pie_scan.specs.declared.manifest.Manifest.{Manifest}
use Rattle.pie_scan.specs.Changes.{AreChanged}
use Rattle.pie_scan.specs.Entries.{AreInOrder}
use Rattle.pie_scan.specs.Scanned.{AreScanned}
use Rattle.pie_scan.specs.Texts.{HasMark, IsManifest, IsManifestText}
use Rattle.pie_scan.specs.Reading.{manifest_says}
use Rattle.pie_listing.specs.declared.kept.Kept.{Kept}
use Rattle.pie_listing.specs.declared.kept.Kept.TheVariants.{Good, Bad}
use Rattle.pie_listing.specs.declared.listing.Listing.{Listing}
use Rattle.pie_listing.specs.declared.listing.Listing.TheVariants.{Listed, Unlisted}
use Rattle.pie_listing.specs.declared.listing.Scan.{Scan}
use Rattle.pie_listing.specs.declared.listing.Reason.TheVariants.{NoManifest, BadManifest, OtherStore, OtherTops}
use Rattle.pie_listing.specs.Held.{store_path, hash_in, is_hash, same_paths}
use Rattle.pie_listing.specs.Listings.{HoldsManifest, IsListing}

-- what is read of a manifest's bytes
abbrev pub IsRead : List ℕ → Kept → Type 0
IsRead bytes (Good m) = IsManifestText m.value bytes
IsRead bytes (Bad NoManifest) = ⊥
IsRead bytes (Bad (BadManifest fault)) = manifest_says bytes ≡ Err fault
IsRead bytes (Bad OtherStore) = ⊥
IsRead bytes (Bad OtherTops) = ⊥

-- what is kept in a directory
abbrev pub IsKept : Directory → Kept → Type 0
IsKept d (Good m) = HoldsManifest d m.value
IsKept d (Bad reason) = (tops : List (List ℕ)) → IsListing d tops (Unlisted reason)

-- a manifest that was read is one
abbrev pub HasGood : Kept → Type 0
HasGood (Good m) = IsManifest m.value
HasGood (Bad reason) = Unit {0}

-- what is kept is this manifest
abbrev pub IsGood : Manifest → Kept → Type 0
IsGood m (Good n) = n.value ≡ m
IsGood m (Bad reason) = ⊥

-- what follows from a manifest
abbrev pub FollowsFrom : Directory → List (List ℕ) → Manifest → Listing → Type 0
FollowsFrom d tops m (Listed paths) =
    (is_hash (hash_in d store_path) m.store ≡ true) × (same_paths (in_path_order tops) m.tops ≡ true)
    × ((now : List Entry) × AreScanned d tops now × AreChanged m.entries now paths.items)
FollowsFrom d tops m (Unlisted NoManifest) = ⊥
FollowsFrom d tops m (Unlisted (BadManifest fault)) = ⊥
FollowsFrom d tops m (Unlisted OtherStore) = is_hash (hash_in d store_path) m.store ≡ false
FollowsFrom d tops m (Unlisted OtherTops) = (is_hash (hash_in d store_path) m.store ≡ true) × (same_paths (in_path_order tops) m.tops ≡ false)

-- where a directory was scanned for a listing, its entries were seen
abbrev pub HasSeen : Directory → List (List ℕ) → Scan → Type 0
HasSeen d tops s = IfSome s.entries (λ entries. AreScanned d tops entries.items)

-- entries that were seen, if any, stand in path order, and a manifest has room for their marks
abbrev pub AreOrdered : Option (Vec Entry Global) → Type 0
AreOrdered seen = IfSome seen (λ entries. AreInOrder entries.items × All HasMark entries.items)
