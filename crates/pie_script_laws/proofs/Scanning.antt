-- A build that finds its change list goes on from the build whose manifest it has.
use Rattle.std.proofs.Common.{ℕ, ◌≡◌, ◌||◌, Bool, true, false, List, Option, None, Some, ap, refl, sym, subst, ◌∙◌}
use Rattle.std.specs.Option.{option_map}
use Rattle.std.specs.Prelude.{IfSome, Vec}
use Rattle.std.specs.declared.alloc.Global.{Global}
use Rattle.sha2.specs.Sha256.{sha256}
use Rattle.pie_auto.specs.Found.{BuildsBy, Follows, HasFound}
use Rattle.pie_auto.specs.Kept.{HasManifest, HasWritten, KeepsButManifest, Wrote}
use Rattle.pie_base.specs.Path.{same_text}
use Rattle.pie_files.specs.Directory.{Directory, file_at}
use Rattle.pie_incremental.specs.Clean.{IsAsClean}
use Rattle.pie_incremental.specs.Earlier.{Earlier, GoesOnFrom}
use Rattle.pie_incremental.specs.Own.{bytes_at, open_path, store_path}
use Rattle.pie_listing.proofs.Following.{covering_listed}
use Rattle.pie_listing.specs.Held.{hash_in, manifest_path}
use Rattle.pie_listing.specs.Listings.{IsListing}
use Rattle.pie_listing.specs.declared.listing.Listing.{Listing}
use Rattle.pie_listing.specs.declared.listing.Listing.TheVariants.{Listed, Unlisted}
use Rattle.pie_left_laws.proofs.Putting.{is_false, kept_open}
use Rattle.pie_model.proofs.Basics.{same_bytes}
use Rattle.pie_model.specs.Paths.{Path, kind_of}
use Rattle.pie_model.specs.declared.words.Kind.TheVariants.{Kept, Out, Source}
use Rattle.pie_model.specs.Changes.{NamesAllChanges}
use Rattle.pie_report.specs.declared.report.Report.{Report}
use Rattle.pie_scan_laws.proofs.Covered.{covering}
use Rattle.pie_value.specs.declared.verdict.Verdict.TheVariants.{Accepted}
use Rattle.pie_script_laws.specs.Finding.{FindsCleanBy, GoesOnByScan, IsBaseByScan, IsCleanFind}
use Rattle.pie_clean_laws.proofs.Cleaning.{clean_base_later, its_store}
use Rattle.pie_clean_laws.proofs.Going.{edits_go_on}

-- ---- the paths that are found tell all that changed

pub lists_go_on : (e : Earlier) (tops : List (List ℕ)) (d : Directory) (paths : Vec (List ℕ) Global) → GoesOnByScan e tops d → IsListing d tops (Listed paths)
    → GoesOnFrom e paths.items d
lists_go_on e tops d paths goes listed =
    let covers = covering_listed goes.left d tops (Listed paths) listed goes.manifest goes.separate goes.below in
    edits_go_on e goes.left d paths.items goes.based (record { named = covering goes.left d paths.items covers; own = goes.own }) goes.apart

found_clean : (tops : List (List ℕ)) (d : Directory) (l : Listing) (r : Report) (after between : Option Directory) → IsListing d tops l → BuildsBy l d r between
    → Follows r.verdict tops between after → FindsCleanBy l tops d r after
found_clean tops d (Listed paths) r after between listed built follows = λ e goes none.
    let from : GoesOnFrom e paths.items d = lists_go_on e tops d paths goes listed in
    record { between = between; clean = built.1.goes_on none e from; ran = built.1.ran none e from; manifest = follows }
found_clean tops d (Unlisted reason) r after between listed built follows = tt

-- what was found, and what a build by it came to
pub finds_clean : (o : Option Directory) (tops : List (List ℕ)) (l : Listing) (r : Report) (after : Option Directory) → IfSome o (λ d. HasFound tops d l r after)
    → IfSome o (λ d. FindsCleanBy l tops d r after)
finds_clean None tops l r after found = tt
finds_clean (Some d) tops l r after found = found_clean tops d l r after found.between found.listing found.build found.manifest

-- ---- an accepted one is one that the next can be based on

kept_manifest : kind_of manifest_path ≡ Kept
unfolding kind_of
kept_manifest = refl

other_path : (p q : Path) → kind_of q ≡ Kept → (kind_of p ≡ Kept → ⊥) → same_text p q ≡ false
other_path p q kept off = is_false (same_text p q) (λ e. off (ap kind_of (same_bytes p q e) ∙ kept))

-- a path of another kind isn't that of the manifest, or of the marker
neither : (p : Path) → (kind_of p ≡ Kept → ⊥) → (same_text p manifest_path || same_text p open_path) ≡ false
neither p off = both (same_text p manifest_path) (same_text p open_path) (other_path p manifest_path kept_manifest off) (other_path p open_path kept_open off)
  where
    both : (a b : Bool) → a ≡ false → b ≡ false → (a || b) ≡ false
    both false false h i = refl
    both false true h i = cc
    both true b h i = cc

module _ (m left : Directory) (rest : KeepsButManifest m left) where
  same_store : bytes_at left store_path ≡ bytes_at m store_path
  same_store = ap (option_map (λ f. f.0)) (rest store_path refl)

  alike : (names : List Path) → NamesAllChanges m left names
  alike names = record {
    sources = λ p k free. sym (rest p (neither p (λ kept. source_kept (sym k ∙ kept))));
    provided = λ p k free. ap (option_map (λ (f : List ℕ × ℕ). f.0)) (sym (rest p (neither p (λ kept. out_kept (sym k ∙ kept)))));
  }
    where
      source_kept : Source ≡ Kept → ⊥
      source_kept e = cc

      out_kept : Out ≡ Kept → ⊥
      out_kept e = cc

some_same : {A : Type 0} {x y : A} → Some x ≡ Some y → x ≡ y
some_same e = cc

module _ (tops : List (List ℕ)) (d left : Directory) (r : Report) (m : Directory) (clean : IsAsClean d r (Some m)) (accepted : r.verdict ≡ Accepted) where
  after_written : HasWritten tops m (Some left) → IsBaseByScan tops d left
  after_written w =
      let is : w.left ≡ left = sym (some_same w.told) in
      let rest : KeepsButManifest m left = subst (KeepsButManifest m) is w.rest in
      let base = clean_base_later d m r clean accepted left (same_store m left rest) (alike m left rest) in
      let has = subst (HasManifest tops) is w.manifest in
      record {
        earlier = base.0;
        built = base.1;
        based = base.2;
        manifest = record { manifest = has.manifest; held = has.held; scanned = has.scanned };
      }

  no_store : hash_in m store_path ≡ None → ⊥
  no_store none = by (file_at m store_path) none (its_store d m r clean accepted)
    where
      by : (o : Option (List ℕ × ℕ)) → option_map (λ (f : List ℕ × ℕ). sha256 f.0) o ≡ None → {b : List ℕ} → option_map (λ (f : List ℕ × ℕ). f.0) o ≡ Some b → ⊥
      by None e f = cc
      by (Some x) e f = cc

  after_keeping : (wrote : Bool) → Wrote wrote tops m (Some left) → IsBaseByScan tops d left
  after_keeping true w = after_written w
  after_keeping false w = absurd (no_store w.0)

pub found_base : (e : Earlier) (tops : List (List ℕ)) (d left : Directory) (r : Report) → IsCleanFind e tops d r (Some left) → r.verdict ≡ Accepted
    → IsBaseByScan tops d left
found_base e tops d left r c accepted =
    let told = (c.clean.left accepted).told in
    let m = (c.clean.left accepted).left in
    let clean : IsAsClean d r (Some m) = subst (λ o. IsAsClean d r o) told c.clean in
    let follows : Follows Accepted tops (Some m) (Some left) =
    subst (λ o. Follows Accepted tops o (Some left)) told (subst (λ v. Follows v tops c.between (Some left)) accepted c.manifest) in
    after_keeping tops d left r m clean accepted follows.0 follows.1
