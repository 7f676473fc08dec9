-- Each file of the cache is written once.
use Rattle.std.proofs.Common.{◌≡◌, ◌≢◌, ℕ, suc, zero, Bool, true, false, cond, List, [], ◌∷◌, ◌++◌, Option, None, Some, sym, subst, ap, ◌∙◌, arith, ⊎_elim, refl}
use Rattle.std.specs.List.{AllPairs}
use Rattle.std.specs.Prelude.{All, Box, Vec}
use Rattle.std.specs.Global.{Global}
use Rattle.std.specs.BTreeMap.{BTreeMap, get}
use Rattle.std.specs.Cmp.Lexicographic.{slice_cmp}
use Rattle.std.specs.Ordering.{nat_cmp}
use Rattle.std.proofs.lemmas.List.Elements.{All-head, All-tail, All-push, All-weaker}
use Rattle.std.proofs.lemmas.List.Kept.{AllPairs-cons}
use Rattle.pie_store.specs.declared.offers.Offer.{Offer}
use Rattle.pie_commit.proofs.Standing.{same_itself}
use Rattle.pie_cache.proofs.Kept.{tied}
use Rattle.pie_cache.specs.inner.Keeping.{is_at, AddsAt, IsDone}
use Rattle.pie_cache.specs.inner.Steps.{HaveOwnPaths}

module _ {X : Type 0} (R : X → X → Type 0) where
  pairs_push : (xs : List X) (y : X) → AllPairs R xs → All (λ a. R a y) xs → AllPairs R (xs ++ y ∷ [])
  pairs_push [] y h a = λ i j d lt within. absurd (omega (arith, lt, within))
  pairs_push (x ∷ xs) y h a =
      let head : All (R x) xs = λ j d within. h zero (suc j) d (omega arith) (omega (arith, within)) in
      let tail : AllPairs R xs = λ i j d lt within. h (suc i) (suc j) d (omega (arith, lt)) (omega (arith, within)) in
      AllPairs-cons R x (xs ++ y ∷ []) (All-push (R x) xs y head (All-head (λ b. R b y) x xs a)) (pairs_push xs y tail (All-tail (λ b. R b y) x xs a))

-- what was taken out isn't there any more
pub out_itself : (old new : BTreeMap (List ℕ) (Box Offer Global)) (path : List ℕ)
    → ((q : List ℕ) → get (slice_cmp nat_cmp) new q ≡ cond (is_at path q) None (get (slice_cmp nat_cmp) old q)) → get (slice_cmp nat_cmp) new path ≡ None
out_itself old new path out = out path ∙ ap (λ (b : Bool). cond b None (get (slice_cmp nat_cmp) old path)) (tied path path ∙ same_itself path)

module _ (old new : BTreeMap (List ℕ) (Box Offer Global)) (path : List ℕ) (offer : Box Offer Global)
    (has : get (slice_cmp nat_cmp) old path ≡ Some offer) (out : (q : List ℕ) → get (slice_cmp nat_cmp) new q ≡ cond (is_at path q) None (get (slice_cmp nat_cmp) old q))
    (gone : get (slice_cmp nat_cmp) new path ≡ None) where
  -- what is done stays so
  still : (draft : List ℕ × Vec ℕ Global) → IsDone old draft → IsDone new draft
  still draft done = out draft.0 ∙ by (is_at path draft.0)
    where
      by : (b : Bool) → cond b None (get (slice_cmp nat_cmp) old draft.0) ≡ None
      by true = refl
      by false = done

  none_some : None ≡ Some offer → ⊥
  none_some e = cc

  other : (text : Vec ℕ Global) (draft : List ℕ × Vec ℕ Global) → IsDone old draft → draft.0 ≢ path
  other text draft done = λ is. none_some (sym done ∙ ap (get (slice_cmp nat_cmp) old) is ∙ has)

  pub done_more : (drafts after : List (List ℕ × Vec ℕ Global)) → All (IsDone old) drafts → AddsAt path drafts after → All (IsDone new) after
  done_more drafts after done adds = ⊎_elim
      (λ same. subst (All (IsDone new)) (sym same) (All-weaker (IsDone old) (IsDone new) still drafts done))
      (λ one. subst (All (IsDone new)) (sym one.1)
      (All-push (IsDone new) drafts (path, one.0) (All-weaker (IsDone old) (IsDone new) still drafts done) gone)) adds

  pub own_more : (drafts after : List (List ℕ × Vec ℕ Global)) → HaveOwnPaths drafts → All (IsDone old) drafts → AddsAt path drafts after → HaveOwnPaths after
  own_more drafts after own done adds = ⊎_elim (λ same. subst HaveOwnPaths (sym same) own)
      (λ one. subst HaveOwnPaths (sym one.1)
      (pairs_push (λ (a b : List ℕ × Vec ℕ Global). a.0 ≢ b.0) drafts (path, one.0) own
      (All-weaker (IsDone old) (λ draft. draft.0 ≢ path) (other one.0) drafts done))) adds
