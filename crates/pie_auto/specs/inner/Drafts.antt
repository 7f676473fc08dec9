-- The plan that writes a manifest.
use Rattle.std.specs.Prelude.{◌≡◌, ℕ, true, List, [], ◌∷◌, Option, Some, None, IfSome, Vec}
use Rattle.std.specs.declared.alloc.Global.{Global}
use Rattle.pie_commit.specs.declared.plan.Pending.TheVariants.{Keep}
use Rattle.pie_commit.specs.declared.plan.Plan.{Plan}
use Rattle.pie_commit.specs.inner.Plans.{has_own_places, is_sound}
use Rattle.pie_files.specs.Directory.{Directory, in_path_order}
use Rattle.pie_incremental.specs.Own.{IsClosed}
use Rattle.pie_listing.specs.Held.{bytes_at, manifest_path}
use Rattle.pie_listing.specs.inner.Sources.{AreSources}
use Rattle.pie_scan.specs.declared.entry.Entry.{Entry}
use Rattle.pie_scan.specs.declared.manifest.Manifest.{Manifest}
use Rattle.pie_scan.specs.Texts.{IsManifestText}
use Rattle.pie_auto.specs.Kept.{KeepsButManifest}

-- these bytes are the text of a manifest of this store, these tops and these entries
pub record IsTextOf (tops : List (List ℕ)) (store : List ℕ) (entries : List Entry) (bytes : List ℕ) : Type 0 where
  pub manifest : Manifest
  pub text : IsManifestText manifest bytes
  pub its_store : manifest.store ≡ store
  pub its_tops : manifest.tops ≡ in_path_order tops
  pub its_entries : manifest.entries ≡ entries

-- a plan writes the manifest alone, with these bytes
pub record WritesOne (bytes : Vec ℕ Global) (p : Plan) : Type 0 where
  pub sound : is_sound p ≡ true
  pub places : has_own_places p ≡ true
  pub writes : p.writes.items ≡ (manifest_path, bytes) ∷ []
  pub removals : p.removals.items ≡ []
  pub pending : p.pending ≡ Keep
  pub store : p.store ≡ None

-- with some bytes
abbrev pub WritesManifest : Plan → Type 0
WritesManifest p = (bytes : Vec ℕ Global) × WritesOne bytes p

-- a text stands at the place of the manifest, and no marker does
pub record StandsThere (d : Directory) (text : List ℕ) : Type 0 where
  pub there : bytes_at d manifest_path ≡ Some text
  pub closed : IsClosed d

-- it stands there after this, and nothing else changed
pub record HoldsText (text : List ℕ) (d : Directory) (after : Option Directory) : Type 0 where
  pub left : Directory
  pub told : after ≡ Some left
  pub stands : StandsThere left text
  pub rest : KeepsButManifest d left

-- the entries of sources that were seen, if any, are those of a directory
abbrev pub AreSeen : Directory → List (List ℕ) → Option (Vec Entry Global) → Type 0
AreSeen d tops seen = IfSome seen (λ entries. AreSources d tops entries.items)

-- so they are of each directory that is told
abbrev pub AreSeenIn : Option Directory → List (List ℕ) → Option (Vec Entry Global) → Type 0
AreSeenIn held tops seen = IfSome held (λ d. AreSeen d tops seen)
