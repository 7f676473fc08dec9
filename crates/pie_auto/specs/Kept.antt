-- The manifest that a build leaves which finds its change list by scanning.
use Rattle.std.specs.Prelude.{◌≡◌, ◌||◌, ℕ, Bool, true, false, List, Option, Some, None, IfSome}
use Rattle.pie_base.specs.Path.{same_text}
use Rattle.pie_files.specs.Directory.{Directory, file_at, in_path_order}
use Rattle.pie_incremental.specs.Kept.{is_builders}
use Rattle.pie_incremental.specs.Own.{open_path, IsClosed}
use Rattle.pie_listing.specs.Held.{manifest_path, store_path, hash_in}
use Rattle.pie_listing.specs.Listings.{HoldsManifest}
use Rattle.pie_scan.specs.declared.manifest.Manifest.{Manifest}
use Rattle.pie_scan.specs.Scanned.{AreScanned}

-- a directory holds its own manifest: of its store, of these tops, and of its files that are scanned
pub record HasManifest (tops : List (List ℕ)) (d : Directory) : Type 0 where
  pub manifest : Manifest
  pub held : HoldsManifest d manifest
  pub its_store : hash_in d store_path ≡ Some manifest.store
  pub its_tops : manifest.tops ≡ in_path_order tops
  pub scanned : AreScanned d tops manifest.entries

-- each path but those of the manifest and of the marker has the file that it had
abbrev pub KeepsButManifest : Directory → Directory → Type 0
KeepsButManifest d e = (q : List ℕ) → (same_text q manifest_path || same_text q open_path) ≡ false → file_at e q ≡ file_at d q

-- where the directory is observable, it is told still, and each path but those of the manifest and of the builder's own has the file that it had
abbrev pub KeepsAllButManifest : Option Directory → Option Directory → Type 0
KeepsAllButManifest before after = IfSome before (λ d. (e : Directory) × (after ≡ Some e)
    × ((q : List ℕ) → (same_text q manifest_path || is_builders q) ≡ false → file_at e q ≡ file_at d q))

-- the manifest of a directory was written, and nothing else changed
pub record HasWritten (tops : List (List ℕ)) (d : Directory) (after : Option Directory) : Type 0 where
  pub left : Directory
  pub told : after ≡ Some left
  pub manifest : HasManifest tops left
  pub rest : KeepsButManifest d left
  pub closed : IsClosed left

-- it was written, or there was no store to write it with, and nothing changed
abbrev pub Wrote : Bool → List (List ℕ) → Directory → Option Directory → Type 0
Wrote true tops d after = HasWritten tops d after
Wrote false tops d after = (hash_in d store_path ≡ None) × (after ≡ Some d)
