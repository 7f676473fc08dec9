-- What the plan leaves that writes a manifest.
use Rattle.std.proofs.Common.{◌≡◌, ℕ, Bool, true, false, cond, List, [], ◌∷◌, refl, sym, ap, subst, ◌∙◌}
use Rattle.std.specs.Prelude.{◌&&◌, ◌||◌, is_some, Option, None, Some, Result, Ok, Err, IfSome, OnOk, Vec}
use Rattle.std.specs.List.{list_all, list_any}
use Rattle.std.specs.Option.{option_map}
use Rattle.std.specs.declared.alloc.Global.{Global}
use Rattle.std.proofs.lemmas.Bool.{false≢true}
use Rattle.sha2.specs.Sha256.{sha256}
use Rattle.pie_base.specs.Path.{is_out, same_text}
use Rattle.pie_commit.proofs.Standing.{same_path}
use Rattle.pie_commit.specs.Outcomes.{HasBrought, KeepsOthers}
use Rattle.pie_commit.specs.declared.plan.Plan.{Plan}
use Rattle.pie_commit.specs.inner.Plans.{Brings, Bytes, Gone, Meets, Same, Wanted, at, changes, has_own_places, is_empty, is_none, is_own, is_sound, keeps, later, may_be_written, pended, removed, stored, stores_none, wanted_by, written}
use Rattle.pie_files.specs.Directory.{Directory, file_at}
use Rattle.pie_files.specs.declared.files.FilesError.{FilesError}
use Rattle.pie_files.specs.declared.files.Found.{Found}
use Rattle.pie_incremental.proofs.Commits.{changes_wanted, cond_same}
use Rattle.pie_incremental.proofs.OwnPaths.{or_left, or_right, five_off, places}
use Rattle.pie_incremental.specs.Kept.{is_builders}
use Rattle.pie_incremental.specs.Own.{open_path, pending_path}
use Rattle.pie_listing.specs.Held.{bytes_at, hash_in, manifest_path, store_path}
use Rattle.pie_scan.proofs.Naming.{same_is}
use Rattle.pie_scan.specs.Scanned.{AreScanned, entry_in, entry_of, is_scanned}
use Rattle.pie_scan.specs.declared.entry.Entry.{Entry}
use Rattle.pie_auto.specs.Kept.{HasWritten, KeepsAllButManifest, KeepsButManifest, Wrote}
use Rattle.pie_auto.specs.inner.Drafts.{AreSeen, HoldsText, IsTextOf, StandsThere, WritesManifest, WritesOne}

later_same : (x : Wanted) → later x Same ≡ x
later_same Same = refl
later_same Gone = refl
later_same (Bytes bytes) = refl

module _ (p : Plan) (b : Vec ℕ Global) (one : WritesOne b p) where
  -- the manifest alone is wanted
  wanted : (q : List ℕ) → changes p q ≡ cond (same_text q manifest_path) (Bytes b.items) Same
  wanted q =
      let files = later (written p.writes.items q) (removed p.removals.items q) in
      let names = later (at p.names_place (pended p.pending) q) files in
      ap (λ o. later (at p.place (stored o) q) names) one.store
      ∙ ap (λ x. later x names) (cond_same (same_text q p.place))
      ∙ ap (λ o. later (at p.names_place (pended o) q) files) one.pending
      ∙ ap (λ x. later x files) (cond_same (same_text q p.names_place))
      ∙ ap (λ ws. later (written ws q) (removed p.removals.items q)) one.writes
      ∙ ap (λ ps. later (written ((manifest_path, b) ∷ []) q) (removed ps q)) one.removals
      ∙ later_same (at manifest_path (Bytes b.items) q)

  module _ (d left : Directory) (changed : (q : List ℕ) → same_text q open_path ≡ false → Meets (changes p q) (file_at d q) (file_at left q)) where
    there : bytes_at left manifest_path ≡ Some b.items
    there =
        let met = subst (λ w. Meets w (file_at d manifest_path) (file_at left manifest_path)) (wanted manifest_path) (changed manifest_path refl) in
        ap (option_map (λ (f : List ℕ × ℕ). f.0)) met.1

    elsewhere : KeepsButManifest d left
    elsewhere q off =
        let m = same_text q manifest_path in
        let o = same_text q open_path in
        subst (λ w. Meets w (file_at d q) (file_at left q)) (wanted q ∙ ap (λ t. cond t (Bytes b.items) Same) (or_left m o off))
        (changed q (or_right m o off))

marker_gone : (p : Plan) → has_own_places p ≡ true → wanted_by p open_path ≡ Gone
marker_gone p own = ap (λ m. later (at m Gone open_path) (changes p open_path)) (places p own).marker

-- a path for which a test holds is none for which it doesn't
pub apart : (test : List ℕ → Bool) (q path : List ℕ) → test q ≡ true → test path ≡ false → same_text q path ≡ false
apart test q path on off = elim (same_text q path) as (λ b. same_text q path ≡ b → b ≡ false) [
  | true ↦ λ e. absurd (false≢true (sym off ∙ (ap test (sym (same_path q path e)) ∙ on)))
  | false ↦ λ e. refl
] refl

-- the manifest and the marker aren't scanned
scanned_off : (tops : List (List ℕ)) (q : List ℕ) → is_scanned tops q ≡ true → (same_text q manifest_path || same_text q open_path) ≡ false
scanned_off tops q on =
    ap (λ b. b || same_text q open_path) (apart (is_scanned tops) q manifest_path on refl) ∙ apart (is_scanned tops) q open_path on refl

module _ (tops : List (List ℕ)) (d left : Directory) (rest : KeepsButManifest d left) where
  entry_still : (q : List ℕ) → cond (is_scanned tops q) (entry_in d q) None ≡ cond (is_scanned tops q) (entry_in left q) None
  entry_still q = elim (is_scanned tops q) as (λ b. is_scanned tops q ≡ b → cond b (entry_in d q) None ≡ cond b (entry_in left q) None) [
    | true ↦ λ e. ap (option_map (entry_of q)) (sym (rest q (scanned_off tops q e)))
    | false ↦ λ e. refl
  ] refl

  scanned_still : (entries : List Entry) → AreScanned d tops entries → AreScanned left tops entries
  scanned_still entries are = record { ordered = are.ordered; each = λ q. are.each q ∙ entry_still q }

  store_still : hash_in left store_path ≡ hash_in d store_path
  store_still = ap (option_map (λ (f : List ℕ × ℕ). sha256 f.0)) (rest store_path refl)

-- such a plan can be committed
pub sound_one : (p : Plan) (b : Vec ℕ Global) → has_own_places p ≡ true → p.removals.items ≡ [] → p.writes.items ≡ (manifest_path, b) ∷ [] → is_sound p ≡ true
sound_one p b own removals writes =
    ap (λ o. o && list_all is_out p.removals.items && list_all (λ (w : List ℕ × Vec ℕ Global). may_be_written w.0) p.writes.items) own
    ∙ ap (λ rs. true && list_all is_out rs && list_all (λ (w : List ℕ × Vec ℕ Global). may_be_written w.0) p.writes.items) removals
    ∙ ap (λ ws. true && true && list_all (λ (w : List ℕ × Vec ℕ Global). may_be_written w.0) ws) writes

-- the plan isn't empty
pub has_work : (p : Plan) → WritesManifest p → is_empty p ≡ false
has_work p (b, one) =
    ap (λ rs. is_none rs && is_none p.writes.items && stores_none p.store && keeps p.pending) one.removals
    ∙ ap (λ ws. true && is_none ws && stores_none p.store && keeps p.pending) one.writes

-- the plan done
held_by : (d left : Directory) (p : Plan) (b : Vec ℕ Global) → WritesOne b p → Brings (wanted_by p) d left → HoldsText b.items d (Some left)
held_by d left p b one brings =
    let changed : (q : List ℕ) → same_text q open_path ≡ false → Meets (changes p q) (file_at d q) (file_at left q) =
    λ q off. subst (λ w. Meets w (file_at d q) (file_at left q)) (changes_wanted p one.places q off) (brings q) in
    let gone = subst (λ w. Meets w (file_at d open_path) (file_at left open_path)) (marker_gone p one.places) (brings open_path) in
    record {
      left = left;
      told = refl;
      stands = record { there = there p b one d left changed; closed = ap (option_map (λ (f : List ℕ × ℕ). f.0)) gone };
      rest = elsewhere p b one d left changed;
    }

pub held_if : {A : Type 0} (o after : Option Directory) (p : Plan) (b : Vec ℕ Global) (result : Result A FilesError) → WritesOne b p
    → OnOk result (HasBrought (wanted_by p) o after) → IfSome o (λ d. OnOk result (HoldsText b.items d after))
held_if None after p b result one done = tt
held_if (Some d) after p b (Ok a) one done = subst (HoldsText b.items d) (sym done.1) (held_by d done.0 p b one done.2)
held_if (Some d) after p b (Err e) one done = tt

no_file : (o : Option (List ℕ × ℕ)) → false ≡ is_some o → o ≡ None
no_file None e = refl
no_file (Some f) e = absurd (false≢true e)

-- a file with this text is at the place of the manifest, and there is none at that of the marker
module _ (marker place text bytes : List ℕ) (there same : Bool) (seen : Option Found) (found : Found) (at_marker : marker ≡ open_path)
    (at_place : place ≡ manifest_path) (some : seen ≡ Some found) (none : there ≡ false) (its : bytes ≡ found.bytes.items) (is : same ≡ same_text bytes text) where
  stands_in : (d : Directory) → there ≡ is_some (file_at d marker) → option_map (λ (f : Found). (f.bytes.items, f.mark)) seen ≡ file_at d place → same ≡ true
      → StandsThere d text
  stands_in d looked read on =
      let file : Some (found.bytes.items, found.mark) ≡ file_at d manifest_path =
      ap (option_map (λ (f : Found). (f.bytes.items, f.mark))) (sym some) ∙ read ∙ ap (λ (q : List ℕ). file_at d q) at_place in
      let no_marker : file_at d open_path ≡ None =
      no_file (file_at d open_path) (sym none ∙ looked ∙ ap (λ (q : List ℕ). is_some (file_at d q)) at_marker) in
      let text_is : found.bytes.items ≡ text = sym its ∙ same_is bytes text (sym is ∙ on) in
      record {
        there = ap (option_map (λ (f : List ℕ × ℕ). f.0)) (sym file) ∙ ap Some text_is;
        closed = ap (option_map (λ (f : List ℕ × ℕ). f.0)) no_marker;
      }

  pub stands_if : (o mid : Option Directory) → mid ≡ o → IfSome o (λ d. there ≡ is_some (file_at d marker))
      → IfSome mid (λ d. option_map (λ (f : Found). (f.bytes.items, f.mark)) seen ≡ file_at d place) → IfSome o (λ d. same ≡ true → StandsThere d text)
  stands_if o mid still looked read =
      by o looked (subst (λ m. IfSome m (λ d. option_map (λ (f : Found). (f.bytes.items, f.mark)) seen ≡ file_at d place)) still read)
    where
      by : (m : Option Directory) → IfSome m (λ d. there ≡ is_some (file_at d marker))
          → IfSome m (λ d. option_map (λ (f : Found). (f.bytes.items, f.mark)) seen ≡ file_at d place) → IfSome m (λ d. same ≡ true → StandsThere d text)
      by None a b = tt
      by (Some d) a b = stands_in d a b

-- where the look found that it stands
pub held_there : (o after : Option Directory) (text items : List ℕ) (stood : Bool) → after ≡ o → text ≡ items → stood ≡ true
    → IfSome o (λ d. stood ≡ true → StandsThere d text) → IfSome o (λ d. HoldsText items d after)
held_there None after text items stood same is on h = tt
held_there (Some d) after text items stood same is on h =
    record { left = d; told = same; stands = subst (StandsThere d) is (h on); rest = λ q off. refl }

-- where it was put there after the look
pub held_then : {A : Type 0} (o mid after : Option Directory) (p : Plan) (b : Vec ℕ Global) (result : Result A FilesError) → mid ≡ o → WritesOne b p
    → OnOk result (HasBrought (wanted_by p) mid after) → IfSome o (λ d. OnOk result (HoldsText b.items d after))
held_then o mid after p b result same one done = held_if o after p b result one (subst (λ m. OnOk result (HasBrought (wanted_by p) m after)) same done)

-- the text of a manifest of a directory, once it stands there
written_by : (d : Directory) (after : Option Directory) (tops : List (List ℕ)) (store text : List ℕ) (entries : List Entry) → AreScanned d tops entries
    → IsTextOf tops store entries text → hash_in d store_path ≡ Some store → HoldsText text d after → HasWritten tops d after
written_by d after tops store text entries scanned of is h = record {
  left = h.left;
  told = h.told;
  manifest = record {
    manifest = of.manifest;
    held = record { bytes = text; there = h.stands.there; text = of.text };
    its_store = store_still tops d h.left h.rest ∙ (is ∙ ap Some (sym of.its_store));
    its_tops = of.its_tops;
    scanned = subst (AreScanned h.left tops) (sym of.its_entries) (scanned_still tops d h.left h.rest entries scanned);
  };
  rest = h.rest;
  closed = h.stands.closed;
}

module _ {A : Type 0} (o mid after : Option Directory) (tops : List (List ℕ)) (store text : List ℕ) (entries : List Entry)
    (seen : Option (Vec Entry Global)) (result : Result A FilesError) where
  pub written_if : IfSome o (λ d. AreSeen d tops seen → AreScanned d tops entries) → IsTextOf tops store entries text → mid ≡ o
      → IfSome mid (λ d. OnOk result (HoldsText text d after))
      → IfSome o (λ d. AreSeen d tops seen → hash_in d store_path ≡ Some store → OnOk result (Wrote true tops d after))
  written_if scanned of same h = by o scanned (subst (λ m. IfSome m (λ d. OnOk result (HoldsText text d after))) same h)
    where
      by_result : (r : Result A FilesError) (d : Directory) → AreScanned d tops entries → hash_in d store_path ≡ Some store → OnOk r (HoldsText text d after)
          → OnOk r (HasWritten tops d after)
      by_result (Ok a) d are is k = written_by d after tops store text entries are of is k
      by_result (Err e) d are is k = tt

      by : (m : Option Directory) → IfSome m (λ d. AreSeen d tops seen → AreScanned d tops entries)
          → IfSome m (λ d. OnOk result (HoldsText text d after))
          → IfSome m (λ d. AreSeen d tops seen → hash_in d store_path ≡ Some store → OnOk result (HasWritten tops d after))
      by None are k = tt
      by (Some d) are k = λ right is. by_result result d (are right) is k

-- with the store that was hashed before
pub wrote_if : (o mid after : Option Directory) (tops : List (List ℕ)) (seen : Option (Vec Entry Global)) (hash : Option (List ℕ)) (store : List ℕ) → mid ≡ o
    → hash ≡ Some store → IfSome o (λ d. hash ≡ hash_in d store_path)
    → IfSome mid (λ d. AreSeen d tops seen → hash_in d store_path ≡ Some store → HasWritten tops d after)
    → IfSome o (λ d. AreSeen d tops seen → HasWritten tops d after)
wrote_if o mid after tops seen hash store same is hashed kept =
    by o hashed (subst (λ m. IfSome m (λ d. AreSeen d tops seen → hash_in d store_path ≡ Some store → HasWritten tops d after)) same kept)
  where
    by : (m : Option Directory) → IfSome m (λ d. hash ≡ hash_in d store_path)
        → IfSome m (λ d. AreSeen d tops seen → hash_in d store_path ≡ Some store → HasWritten tops d after)
        → IfSome m (λ d. AreSeen d tops seen → HasWritten tops d after)
    by None a b = tt
    by (Some d) a b = λ right. b right (sym a ∙ is)

-- ---- the paths that it may change

not_own : (p : Plan) (b : Vec ℕ Global) → WritesOne b p → (q : List ℕ) → (same_text q manifest_path || is_builders q) ≡ false → is_own p q ≡ false
not_own p b one q off =
    let m = same_text q manifest_path in
    let o = same_text q open_path in
    let s = same_text q store_path in
    let n = same_text q pending_path in
    let own = or_right m (is_builders q) off in
    let at = places p one.places in
    five_off (same_text q p.marker) (same_text q p.place) (same_text q p.names_place) (list_any (same_text q) p.removals.items)
    (list_any (λ w. same_text q w.0) p.writes.items)
    (ap (same_text q) at.marker ∙ or_left o s (or_left (o || s) n own))
    (ap (same_text q) at.store ∙ or_right o s (or_left (o || s) n own))
    (ap (same_text q) at.names ∙ or_right (o || s) n own)
    (ap (list_any (same_text q)) one.removals)
    (ap (list_any (λ w. same_text q w.0)) one.writes ∙ ap (λ b. b || false) (or_left m (is_builders q) off))

keeps_by : (p : Plan) (b : Vec ℕ Global) → WritesOne b p → (held after : Option Directory)
    → IfSome held (λ d. (e : Directory) × (after ≡ Some e) × ((q : List ℕ) → is_own p q ≡ false → file_at e q ≡ file_at d q)) → KeepsAllButManifest held after
keeps_by p b one None after h = tt
keeps_by p b one (Some d) after h = (h.0, h.1, λ q off. h.2 q (not_own p b one q off))

pub keeps_one : (p : Plan) → WritesManifest p → (held after : Option Directory) → KeepsOthers p held after → KeepsAllButManifest held after
keeps_one p (b, one) held after h = keeps_by p b one held after h.kept

pub keeps_same : (held after : Option Directory) → after ≡ held → KeepsAllButManifest held after
keeps_same None after is = tt
keeps_same (Some d) after is = (d, is, λ q off. refl)

pub keeps_then : (held mid after : Option Directory) → mid ≡ held → KeepsAllButManifest mid after → KeepsAllButManifest held after
keeps_then held mid after same h = subst (λ o. KeepsAllButManifest o after) same h

-- what the search takes for a function that writes a manifest
pub ruleset all_but = (keeps_one, keeps_same, keeps_then)
