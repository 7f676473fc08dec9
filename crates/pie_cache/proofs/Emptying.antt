-- Opening the cache: at each moment the gate stands, or all is as before, or it stood and no file is in the cache.
use Rattle.std.proofs.Common.{◌≡◌, ℕ, Bool, true, false, cond, List, [], ◌∷◌, refl, sym, ap, ◌∙◌, subst, inl, inr, ⊎_elim}
use Rattle.std.specs.Prelude.{not, ◌||◌, All, Option, None, Some, IfSome, codes, is_some}
use Rattle.std.specs.List.{filter, list_any}
use Rattle.std.proofs.lemmas.Bool.{false≢true, and_parts}
use Rattle.std.proofs.lemmas.List.Elements.{All-nil, All-cons}
use Rattle.pie_base.specs.Path.{same_text}
use Rattle.pie_commit.proofs.Bringing.{get_without}
use Rattle.pie_commit.proofs.Standing.{removal_apart, same_path}
use Rattle.pie_commit.specs.Outcomes.{HasBrought, IsAtRest, IsEnding, LeavesFromRest}
use Rattle.pie_commit.specs.inner.Plans.{Same, Gone, Meets, later, at, removed}
use Rattle.pie_files.proofs.Reading.{if_each, if_two, in_turn, one_call, starts, weaker}
use Rattle.pie_files.specs.Directory.{Directory, file_at, files_under, without_file}
use Rattle.pie_files.specs.Images.{Elapses, MayLeave, Only, Stays}
use Rattle.pie_files.specs.Reading.{Leaves}
use Rattle.pie_cache.specs.inner.Clearing.{IsApart, is_other}
use Rattle.pie_cache.specs.inner.Gated.{HasGate, IsEmptied, KeepsGate, OpensWhole}
use Rattle.pie_cache.specs.inner.Places.{gate, is_in_cache}
use Rattle.pie_cache.proofs.Clearing.{none_inside, removed_is}
use Rattle.pie_cache.proofs.Gating.{from_some}

-- ---- the paths that are removed

same_back : (p : List ℕ) → same_text p gate ≡ false → same_text gate p ≡ false
same_back p off = by (same_text gate p) refl
  where
    by : (b : Bool) → same_text gate p ≡ b → same_text gate p ≡ false
    by true e = absurd (false≢true (sym off ∙ subst (λ (x : List ℕ). same_text x gate ≡ true) (same_path gate p e) refl))
    by false e = e

not_true : (b : Bool) → not b ≡ true → b ≡ false
not_true true e = absurd (false≢true e)
not_true false e = refl

pub others_apart : (paths : List (List ℕ)) → All IsApart (filter is_other paths)
others_apart [] = All-nil IsApart
others_apart (p ∷ paths) = by (others_apart paths) (is_other p) refl
  where
    by : All IsApart (filter is_other paths) → (b : Bool) → is_other p ≡ b → All IsApart (cond b (p ∷ filter is_other paths) (filter is_other paths))
    by rest true e = All-cons IsApart p (filter is_other paths)
        (same_back p (not_true (same_text p gate) (and_parts (is_in_cache p) (not (same_text p gate)) e).1)) rest
    by rest false e = rest

gate_free : (paths : List (List ℕ)) → list_any (same_text gate) (filter is_other paths) ≡ false
gate_free [] = refl
gate_free (p ∷ paths) = by (gate_free paths) (is_other p) refl
  where
    by : list_any (same_text gate) (filter is_other paths) ≡ false → (b : Bool) → is_other p ≡ b
        → list_any (same_text gate) (cond b (p ∷ filter is_other paths) (filter is_other paths)) ≡ false
    by rest true e =
        let off : same_text gate p ≡ false = same_back p (not_true (same_text p gate) (and_parts (is_in_cache p) (not (same_text p gate)) e).1) in
        ap (λ (x : Bool). x || list_any (same_text gate) (filter is_other paths)) off ∙ rest
    by rest false e = rest

-- ---- what is left once they are gone

module _ (d e : Directory) (there : HasGate d)
    (brings : (q : List ℕ) → Meets (removed (filter is_other (files_under d (codes ".pie/cache"))) q) (file_at d q) (file_at e q)) where
  still_gated : HasGate e
  still_gated = (there.0, stays ∙ there.1)
    where
      stays : file_at e gate ≡ file_at d gate
      stays = subst (λ w. Meets w (file_at d gate) (file_at e gate))
          (removed_is (filter is_other (files_under d (codes ".pie/cache"))) gate
          ∙ ap (λ (b : Bool). cond b Gone Same) (gate_free (files_under d (codes ".pie/cache")))) (brings gate)

  emptied : IsEmptied (without_file e gate)
  emptied = none_inside d (without_file e gate) (λ q. by q (same_text q gate) refl)
    where
      by : (q : List ℕ) (b : Bool) → same_text q gate ≡ b
          → Meets (later (at gate Gone q) (removed (filter is_other (files_under d (codes ".pie/cache"))) q)) (file_at d q) (file_at (without_file e gate) q)
      by q true f = subst
          (λ (b : Bool). Meets (later (cond b Gone Same) (removed (filter is_other (files_under d (codes ".pie/cache"))) q)) (file_at d q)
          (file_at (without_file e gate) q)) (sym f) (get_without e gate q ∙ ap (λ (b : Bool). cond b None (file_at e q)) f)
      by q false f = subst
          (λ (b : Bool). Meets (later (cond b Gone Same) (removed (filter is_other (files_under d (codes ".pie/cache"))) q)) (file_at d q)
          (file_at (without_file e gate) q)) (sym f)
          (subst (λ x. Meets (removed (filter is_other (files_under d (codes ".pie/cache"))) q) (file_at d q) x) (sym (removal_apart e gate q f)) (brings q))

  at_end : (c : Directory) → IsEnding gate e c → OpensWhole d c
  at_end c ending = ⊎_elim (λ same. inl (subst HasGate (sym same) still_gated)) (λ gone. inr (inr (there, subst IsEmptied (sym gone) emptied))) ending

-- ---- moment by moment

if_all : (A : Directory → Type 0) (o : Option Directory) → ((d : Directory) → A d) → IfSome o A
if_all A None f = tt
if_all A (Some d) f = f d

module _ {S : Type 0} (holds : S → Option Directory) (moment : S → ℕ) (left_since : S → ℕ → Directory → Type 0) (images : S → Directory → Type 0) where
  abbrev Opens : S → S → Directory → Type 0
  Opens old new d = Only d (images old) → Leaves moment left_since images (OpensWhole d) old new

  -- nothing was asked
  pub opens_none : (old : S) → LeavesFromRest holds moment left_since images OpensWhole old old
  opens_none old = if_all (Opens old old) (holds old)
      (λ d only. starts moment left_since images (OpensWhole d) old (λ c is. subst (OpensWhole d) (sym (only c is)) (inr (inl refl))))

  looked : (d : Directory) (old new : S) → Elapses Stays (moment old) (moment new) (left_since old) (left_since new) (images old) (images new) → Opens old new d
  looked d old new time only = one_call moment left_since images (OpensWhole d) Stays old new (λ b c same is. subst (OpensWhole d) (sym same) is)
      (λ c is. subst (OpensWhole d) (sym (only c is)) (inr (inl refl))) time

  -- it was looked
  pub opens_looked : (old new : S) → MayLeave holds moment left_since images Stays old new → LeavesFromRest holds moment left_since images OpensWhole old new
  opens_looked old new may = if_each
      (λ d. Elapses Stays (moment old) (moment new) (left_since old) (left_since new) (images old) (images new)) (Opens old new) (holds old)
      (λ d time. looked d old new time) may

  -- it was looked, and then more was done
  pub opens_then : (old mid new : S) → holds mid ≡ holds old → MayLeave holds moment left_since images Stays old mid
      → LeavesFromRest holds moment left_since images OpensWhole mid new → LeavesFromRest holds moment left_since images OpensWhole old new
  opens_then old mid new same may next = if_two
      (λ d. Elapses Stays (moment old) (moment mid) (left_since old) (left_since mid) (images old) (images mid)) (Opens mid new) (Opens old new) (holds old)
      (λ d time goes only. in_turn moment left_since images (OpensWhole d) old mid new (looked d old mid time only)
      (goes (λ c left. let from = time.follows c left in from.2 ∙ only from.0 from.1))) may (subst (λ o. IfSome o (Opens mid new)) same next)

  -- files were removed while the gate stood
  pub opens_gated : (old new : S) → IfSome (holds old) HasGate → KeepsGate holds moment left_since images old new
      → LeavesFromRest holds moment left_since images OpensWhole old new
  opens_gated old new there keeps = if_two HasGate (λ d. ((c : Directory) → images old c → HasGate c) → Leaves moment left_since images HasGate old new)
      (Opens old new) (holds old)
      (λ d gated keep only. weaker moment left_since images HasGate (OpensWhole d) old new (λ c has. inl has)
      (keep (λ c is. subst HasGate (sym (only c is)) gated))) there keeps

  -- and the gate after them
  ended : (o m : Option Directory) (old mid new : S) (paths : List (List ℕ)) → IfSome o (λ d. paths ≡ filter is_other (files_under d (codes ".pie/cache")))
      → HasBrought (removed paths) o m → IfSome o HasGate → IfSome o (λ d. IsAtRest m (images mid))
      → IfSome m (λ e. Only e (images mid) → Leaves moment left_since images (IsEnding gate e) mid new) → IfSome o (Opens old mid) → IfSome o (Opens old new)
  ended None m old mid new paths listed brought there rest ending so_far = tt
  ended (Some d) m old mid new paths listed brought there rest ending so_far =
      let e : Directory = brought.0 in
      let same : rest.0 ≡ e = ap (from_some d) (sym rest.1 ∙ brought.1) in
      let only : Only e (images mid) = subst (λ x. Only x (images mid)) same rest.2 in
      let last : Leaves moment left_since images (IsEnding gate e) mid new =
      subst (λ o. IfSome o (λ x. Only x (images mid) → Leaves moment left_since images (IsEnding gate x) mid new)) brought.1 ending only in
      let brings : (q : List ℕ) → Meets (removed (filter is_other (files_under d (codes ".pie/cache"))) q) (file_at d q) (file_at e q) =
      λ q. subst (λ (l : List (List ℕ)). Meets (removed l q) (file_at d q) (file_at e q)) listed (brought.2 q) in
      λ start. in_turn moment left_since images (OpensWhole d) old mid new (so_far start)
      (weaker moment left_since images (IsEnding gate e) (OpensWhole d) mid new (λ c is. at_end d e there brings c is) last)

  pub opens_ended : (old mid new : S) (paths : List (List ℕ)) → IfSome (holds old) (λ d. paths ≡ filter is_other (files_under d (codes ".pie/cache")))
      → HasBrought (removed paths) (holds old) (holds mid) → IfSome (holds old) HasGate → IfSome (holds old) (λ d. IsAtRest (holds mid) (images mid))
      → LeavesFromRest holds moment left_since images (IsEnding gate) mid new → LeavesFromRest holds moment left_since images OpensWhole old mid
      → LeavesFromRest holds moment left_since images OpensWhole old new
  opens_ended old mid new paths listed brought there rest ending so_far = ended (holds old) (holds mid) old mid new paths listed brought there rest ending so_far

-- ---- the gate that was found

found_by : (o : Option (List ℕ × ℕ)) → true ≡ is_some o → (file : List ℕ × ℕ) × (o ≡ Some file)
found_by None e = absurd (false≢true (sym e))
found_by (Some file) e = (file, refl)

pub found_gate : (o : Option Directory) (there : Bool) → there ≡ true → IfSome o (λ d. there ≡ is_some (file_at d gate)) → IfSome o HasGate
found_gate None there is found = tt
found_gate (Some d) there is found = found_by (file_at d gate) (sym is ∙ found)
