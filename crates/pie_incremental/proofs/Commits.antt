-- What a plan that was committed leaves.
use Rattle.std.proofs.Common.{◌≡◌, ℕ, Bool, true, false, cond, List, [], ◌∷◌, refl, sym, ap, subst, ◌∙◌}
use Rattle.std.specs.Prelude.{◌&&◌, Option, None, Some, Result, Ok, Err, IfSome, OnOk}
use Rattle.std.specs.Option.{option_map}
use Rattle.std.proofs.lemmas.Bool.{false≢true}
use Rattle.pie_base.specs.Path.{same_text}
use Rattle.pie_files.specs.declared.files.FilesError.{FilesError}
use Rattle.pie_files.specs.Directory.{Directory, file_at}
use Rattle.pie_files.specs.Images.{Only}
use Rattle.pie_files.specs.Reading.{Leaves}
use Rattle.pie_files.proofs.Reading.{if_each, weaker}
use Rattle.pie_commit.specs.declared.plan.Pending.{Pending}
use Rattle.pie_commit.specs.declared.plan.Pending.TheVariants.{Keep, Put, Drop}
use Rattle.pie_commit.specs.declared.plan.Plan.{Plan}
use Rattle.pie_commit.specs.inner.Plans.{Same, Gone, Meets, later, at, removed, written, pended, stored, changes, wanted_by}
use Rattle.pie_commit.specs.inner.Plans.{has_own_places, is_empty, is_none, stores_none, keeps}
use Rattle.pie_commit.specs.Outcomes.{HasBrought, IsAtRest, LeavesFromRest}
use Rattle.pie_incremental.specs.Own.{open_path, IsClosed}
use Rattle.pie_incremental.specs.inner.Changes.{Changes}
use Rattle.pie_incremental.specs.inner.Plans.{HasChanged}
use Rattle.pie_incremental.proofs.OwnPaths.{and_left, and_right, places}

pub cond_same : (t : Bool) → cond t Same Same ≡ Same
cond_same true = refl
cond_same false = refl

-- what is wanted of a file of pending names comes to be
pub met : (before wanted : Option (List ℕ)) (pending : Pending) (f g : Option (List ℕ × ℕ)) → Changes before wanted pending
    → option_map (λ (x : List ℕ × ℕ). x.0) f ≡ before → Meets (later (pended pending) Same) f g → option_map (λ (x : List ℕ × ℕ). x.0) g ≡ wanted
met before wanted Keep f g c is m = ap (option_map (λ (x : List ℕ × ℕ). x.0)) m ∙ is ∙ c
met before wanted (Put bytes) f g c is m = ap (option_map (λ (x : List ℕ × ℕ). x.0)) m.1 ∙ sym c.0
met before wanted Drop f g c is m = ap (option_map (λ (x : List ℕ × ℕ). x.0)) m ∙ sym c.0

-- ---- an empty plan

nil_of : {A : Type 0} (xs : List A) → is_none xs ≡ true → xs ≡ []
nil_of [] e = refl
nil_of (x ∷ xs) e = absurd (false≢true e)

none_of : {A : Type 0} (o : Option A) → stores_none o ≡ true → o ≡ None
none_of None e = refl
none_of (Some a) e = absurd (false≢true e)

keep_of : (pending : Pending) → keeps pending ≡ true → pending ≡ Keep
keep_of Keep e = refl
keep_of (Put bytes) e = absurd (false≢true e)
keep_of Drop e = absurd (false≢true e)

-- it wants all as it is
empty_wants : (p : Plan) → is_empty p ≡ true → (q : List ℕ) → changes p q ≡ Same
empty_wants p h q =
    let r = is_none p.removals.items in
    let w = is_none p.writes.items in
    let s = stores_none p.store in
    let k = keeps p.pending in
    let files = later (written p.writes.items q) (removed p.removals.items q) in
    let names = later (at p.names_place (pended p.pending) q) files in
    ap (λ o. later (at p.place (stored o) q) names) (none_of p.store (and_right (r && w) s (and_left (r && w && s) k h)))
    ∙ ap (λ x. later x names) (cond_same (same_text q p.place))
    ∙ ap (λ o. later (at p.names_place (pended o) q) files) (keep_of p.pending (and_right (r && w && s) k h))
    ∙ ap (λ x. later x files) (cond_same (same_text q p.names_place))
    ∙ ap (λ ws. later (written ws q) (removed p.removals.items q)) (nil_of p.writes.items (and_right r w (and_left (r && w) s (and_left (r && w && s) k h))))
    ∙ ap (λ ps. removed ps q) (nil_of p.removals.items (and_left r w (and_left (r && w) s (and_left (r && w && s) k h))))

-- ---- the marker

marker_gone : (p : Plan) → has_own_places p ≡ true → wanted_by p open_path ≡ Gone
marker_gone p own = ap (λ m. later (at m Gone open_path) (changes p open_path)) (places p own).marker

-- elsewhere the changes are wanted
pub changes_wanted : (p : Plan) → has_own_places p ≡ true → (q : List ℕ) → same_text q open_path ≡ false → wanted_by p q ≡ changes p q
changes_wanted p own q off = ap (λ b. later (cond b Gone Same) (changes p q)) (ap (same_text q) (places p own).marker ∙ off)

-- ---- what a commit leaves

module _ (p : Plan) (own : has_own_places p ≡ true) (d : Directory) (after : Option Directory) where
  changed_of : IsClosed d → (is_empty p ≡ false → HasBrought (wanted_by p) (Some d) after) → (is_empty p ≡ true → after ≡ Some d) → HasChanged p d after
  changed_of closed done same = by (is_empty p) refl
    where
      by : (b : Bool) → is_empty p ≡ b → HasChanged p d after
      by true e = record {
        left = d;
        told = same e;
        closed = closed;
        changed = λ q off. subst (λ w. Meets w (file_at d q) (file_at d q)) (sym (empty_wants p e q)) refl;
      }
      by false e =
          let brought = done e in
          let gone : Meets Gone (file_at d open_path) (file_at brought.0 open_path) =
          subst (λ w. Meets w (file_at d open_path) (file_at brought.0 open_path)) (marker_gone p own) (brought.2 open_path) in
          record {
            left = brought.0;
            told = brought.1;
            closed = ap (option_map (λ f. f.0)) gone;
            changed = λ q off. subst (λ w. Meets w (file_at d q) (file_at brought.0 q)) (changes_wanted p own q off) (brought.2 q);
          }

pub commit_done : {A : Type 0} (p : Plan) → has_own_places p ≡ true → (before after : Option Directory) (result : Result A FilesError)
    → (is_empty p ≡ false → OnOk result (HasBrought (wanted_by p) before after)) → (is_empty p ≡ true → after ≡ before)
    → IfSome before (λ d. IsClosed d → OnOk result (HasChanged p d after))
commit_done p own None after result done same = tt
commit_done p own (Some d) after (Ok a) done same = λ closed. changed_of p own d after closed done same
commit_done p own (Some d) after (Err e) done same = λ closed. tt

module _ {S : Type 0} (holds : S → Option Directory) (images : S → Directory → Type 0) (p : Plan) (old new : S) where
  rests_still : (o : Option Directory) → holds old ≡ o → IfSome o (λ d. Only d (images old) → IsAtRest (holds old) (images old))
  rests_still None e = tt
  rests_still (Some d) e = λ only. (d, e, only)

  rests_by : (is_empty p ≡ false → IfSome (holds old) (λ d. IsAtRest (holds new) (images new))) → (is_empty p ≡ true → new ≡ old)
      → (b : Bool) → is_empty p ≡ b → IfSome (holds old) (λ d. Only d (images old) → IsAtRest (holds new) (images new))
  rests_by done same true e =
      subst (λ s. IfSome (holds old) (λ d. Only d (images old) → IsAtRest (holds s) (images s))) (sym (same e)) (rests_still (holds old) refl)
  rests_by done same false e = if_each
      (λ d. IsAtRest (holds new) (images new))
      (λ d. Only d (images old) → IsAtRest (holds new) (images new)) (holds old) (λ d r only. r) (done e)

  pub commit_rests : {A : Type 0} (result : Result A FilesError) → (is_empty p ≡ false → OnOk result (IfSome (holds old) (λ d. IsAtRest (holds new) (images new))))
      → (is_empty p ≡ true → new ≡ old) → OnOk result (IfSome (holds old) (λ d. Only d (images old) → IsAtRest (holds new) (images new)))
  commit_rests (Ok a) done same = rests_by done same (is_empty p) refl
  commit_rests (Err e) done same = tt

module _ {S : Type 0} (holds : S → Option Directory) (moment : S → ℕ) (left_since : S → ℕ → Directory → Type 0) (images : S → Directory → Type 0) where
  -- where less is said of what a crash leaves
  pub leaves_as : (P Q : Directory → Directory → Type 0) → ((d c : Directory) → P d c → Q d c) → (old new : S)
      → LeavesFromRest holds moment left_since images P old new → LeavesFromRest holds moment left_since images Q old new
  leaves_as P Q f old new h = if_each
      (λ d. Only d (images old) → Leaves moment left_since images (P d) old new)
      (λ d. Only d (images old) → Leaves moment left_since images (Q d) old new) (holds old)
      (λ d a only. weaker moment left_since images (P d) (Q d) old new (f d) (a only)) h
