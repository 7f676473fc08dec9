-- What follows from the manifest that a directory holds.
use Rattle.std.proofs.Common.{◌≡◌, ℕ, not, cond, List, sym, ap, ◌∙◌, subst}
use Rattle.std.specs.Prelude.{Option, Some, None, IfSome}
use Rattle.pie_files.specs.Directory.{Directory, file_at}
use Rattle.pie_scan.specs.declared.entry.Entry.{Entry}
use Rattle.pie_scan.specs.declared.manifest.Manifest.{Manifest}
use Rattle.pie_scan.specs.Covering.{IsSeparate, DiffersBelow, Covers}
use Rattle.pie_scan.specs.Entries.{entry_at, alike}
use Rattle.pie_scan.specs.Scanned.{AreScanned}
use Rattle.pie_scan.specs.Texts.{IsManifestText}
use Rattle.pie_scan.proofs.Separating.{changed_covers}
use Rattle.pie_scan.proofs.Wholes.{read_again}
use Rattle.std.specs.Option.{option_map}
use Rattle.pie_files.specs.declared.files.Found.{Found}
use Rattle.pie_listing.specs.Held.{manifest_path, bytes_at}
use Rattle.pie_listing.specs.declared.kept.Kept.{Kept}
use Rattle.pie_listing.specs.declared.kept.Kept.TheVariants.{Good, Bad}
use Rattle.pie_listing.specs.declared.listing.Reason.{Reason}
use Rattle.pie_listing.specs.declared.listing.Listing.{Listing}
use Rattle.pie_listing.specs.declared.listing.Listing.TheVariants.{Listed, Unlisted}
use Rattle.pie_listing.specs.declared.listing.Reason.TheVariants.{NoManifest, BadManifest, OtherStore, OtherTops}
use Rattle.pie_listing.specs.Listings.{HoldsManifest, IsListed, IsListing, IsManifestOf, OnListed, IsExactlyChanged, scanned_at}
use Rattle.pie_listing.specs.inner.Steps.{IsRead, IsKept, FollowsFrom}

-- a listing by the manifest that is held
pub listing_by : (d : Directory) (tops : List (List ℕ)) (m : Manifest) (l : Listing) → HoldsManifest d m → FollowsFrom d tops m l → IsListing d tops l
listing_by d tops m (Listed paths) held f =
    record { manifest = m; held = held; store = f.0; same_tops = f.1; now = f.2.0; scanned = f.2.1; changed = f.2.2 }
listing_by d tops m (Unlisted NoManifest) held f = absurd f
listing_by d tops m (Unlisted (BadManifest fault)) held f = absurd f
listing_by d tops m (Unlisted OtherStore) held f = (m, held, f)
listing_by d tops m (Unlisted OtherTops) held f = (m, held, f.0, f.1)

pub listing_if : (o : Option Directory) (tops : List (List ℕ)) (m : Manifest) (l : Listing) → IfSome o (λ d. HoldsManifest d m)
    → IfSome o (λ d. FollowsFrom d tops m l) → IfSome o (λ d. IsListing d tops l)
listing_if None tops m l held f = tt
listing_if (Some d) tops m l held f = listing_by d tops m l held f

some_is : (a b : List ℕ) → Some a ≡ Some b → a ≡ b
some_is a b e = cc

-- a directory holds one manifest
one_manifest : (d : Directory) (m n : Manifest) → HoldsManifest d m → HoldsManifest d n → m ≡ n
one_manifest d m n a b =
    let same : b.bytes ≡ a.bytes = some_is b.bytes a.bytes (sym b.there ∙ a.there) in
    let first = read_again m a.bytes a.text in
    let second = read_again n a.bytes (subst (IsManifestText n) same b.text) in
    cc (first, second)

-- the entries of the manifest are those of the earlier directory
was_scanned : (before d : Directory) (tops : List (List ℕ)) (m : Manifest) → HoldsManifest d m → IsManifestOf before tops d → AreScanned before tops m.entries
was_scanned before d tops m held of =
    subst (λ (n : Manifest). AreScanned before tops n.entries) (one_manifest d of.manifest m of.held held) of.scanned

listed_exactly : (before d : Directory) (tops paths : List (List ℕ)) → IsListed d tops paths → IsManifestOf before tops d → IsExactlyChanged before d tops paths
listed_exactly before d tops paths l of =
    let was = was_scanned before d tops l.manifest l.held of in
    record {
      ordered = l.changed.ordered;
      exactly = λ path.
          l.changed.exactly path ∙ ap (λ (o : Option Entry). not (alike o (entry_at l.now path))) (was.each path)
          ∙ ap (λ (o : Option Entry). not (alike (scanned_at before tops path) o)) (l.scanned.each path);
    }

pub exactly_listed : (before d : Directory) (tops : List (List ℕ)) (l : Listing) → IsListing d tops l → IsManifestOf before tops d
    → OnListed l (IsExactlyChanged before d tops)
exactly_listed before d tops (Listed paths) l of = listed_exactly before d tops paths.items l of
exactly_listed before d tops (Unlisted reason) l of = tt

pub covering_listed : (before d : Directory) (tops : List (List ℕ)) (l : Listing) → IsListing d tops l → IsManifestOf before tops d → IsSeparate before d
    → DiffersBelow tops before d → OnListed l (Covers before d)
covering_listed before d tops (Listed paths) l of separate below =
    changed_covers l.manifest.entries l.now paths.items l.changed before d tops (was_scanned before d tops l.manifest l.held of) l.scanned separate below
covering_listed before d tops (Unlisted reason) l of separate below = tt

pub exactly_if : (o : Option Directory) (tops : List (List ℕ)) (l : Listing) → IfSome o (λ d. IsListing d tops l)
    → IfSome o (λ d. (before : Directory) → IsManifestOf before tops d → OnListed l (IsExactlyChanged before d tops))
exactly_if None tops l is = tt
exactly_if (Some d) tops l is = λ before of. exactly_listed before d tops l is of

pub covering_if : (o : Option Directory) (tops : List (List ℕ)) (l : Listing) → IfSome o (λ d. IsListing d tops l)
    → IfSome o (λ d. (before : Directory) → IsManifestOf before tops d → IsSeparate before d → DiffersBelow tops before d → OnListed l (Covers before d))
covering_if None tops l is = tt
covering_if (Some d) tops l is = λ before of separate below. covering_listed before d tops l is of separate below

-- ---- the manifest that is kept

file_bytes : (d : Directory) (path : List ℕ) (file : List ℕ × ℕ) → Some file ≡ file_at d path → bytes_at d path ≡ Some file.0
file_bytes d path file e = ap (option_map (λ (f : List ℕ × ℕ). f.0)) (sym e)

kept_by : (d : Directory) (bytes : List ℕ) (k : Kept) → bytes_at d manifest_path ≡ Some bytes → IsRead bytes k → IsKept d k
kept_by d bytes (Good m) there read = record { bytes = bytes; there = there; text = read }
kept_by d bytes (Bad NoManifest) there read = absurd read
kept_by d bytes (Bad (BadManifest fault)) there read = λ tops. (bytes, there, read)
kept_by d bytes (Bad OtherStore) there read = absurd read
kept_by d bytes (Bad OtherTops) there read = absurd read

pub kept_if : (o : Option Directory) (path : List ℕ) (seen : Option Found) (found : Found) (k : Kept) → path ≡ manifest_path → seen ≡ Some found
    → IfSome o (λ d. option_map (λ (f : Found). (f.bytes.items, f.mark)) seen ≡ file_at d path) → IsRead found.bytes.items k → IfSome o (λ d. IsKept d k)
kept_if None path seen found k at some e read = tt
kept_if (Some d) path seen found k at some e read =
    let file : Some (found.bytes.items, found.mark) ≡ file_at d manifest_path =
    ap (option_map (λ (f : Found). (f.bytes.items, f.mark))) (sym some) ∙ e ∙ ap (λ (p : List ℕ). file_at d p) at in
    kept_by d found.bytes.items k (file_bytes d manifest_path (found.bytes.items, found.mark) file) read

pub bad_if : (o : Option Directory) (tops : List (List ℕ)) (k : Kept) (reason : Reason) → k ≡ Bad reason → IfSome o (λ d. IsKept d k)
    → IfSome o (λ d. IsListing d tops (Unlisted reason))
bad_if None tops k reason e h = tt
bad_if (Some d) tops k reason e h =
    let bad : (ts : List (List ℕ)) → IsListing d ts (Unlisted reason) = subst (λ (x : Kept). IsKept d x) e h in bad tops
