-- What a scan notes path after path stands in their order.
use Rattle.std.proofs.Common.{◌≡◌, ℕ, ◌+◌, ◌<◌, ◌≤◌, List, [], ◌∷◌, length, get_or, sym, ◌∙◌, subst, arith, inl, inr}
use Rattle.std.specs.Prelude.{All}
use Rattle.std.specs.List.Sorted.{IsStrictlySortedBy}
use Rattle.std.specs.declared.cmp.Ordering.TheVariants.{Less}
use Rattle.std.proofs.lemmas.Bool.{cases_lt}
use Rattle.std.proofs.lemmas.List.{get_or_append_left, get_or_push, length_push, get_or_default}
use Rattle.std.proofs.lemmas.List.Elements.{All-push}
use Rattle.std.proofs.lemmas.List.Quantifiers.{all_pairs_push}
use Rattle.pie_scan.specs.declared.entry.Entry.{Entry}
use Rattle.pie_scan.specs.Entries.{path_cmp, AreInOrder}
use Rattle.pie_scan.specs.Texts.{HasMark}
use Rattle.pie_scan.specs.Reading.{path_key, entry_key}
use Rattle.pie_scan.specs.inner.Noting.{NotesAt}
use Rattle.pie_scan.proofs.Pairs.{Before, Rising, rising_sorted, sorted_rising}
use Rattle.pie_scan.proofs.Wholes.{map_path}

-- entries in order, each before all paths from a place on
pub record Below (paths : List (List ℕ)) (i : ℕ) (es : List Entry) : Type 0 where
  pub rising : Rising entry_key es
  pub under : (k j : ℕ) (e : Entry) (p : List ℕ) → k < length es → i ≤ j → j < length paths → path_cmp (get_or es k e).path (get_or paths j p) ≡ Less

pub rising_paths : (paths : List (List ℕ)) → IsStrictlySortedBy path_cmp paths → Rising path_key paths
rising_paths paths h = sorted_rising path_key paths (subst (IsStrictlySortedBy path_cmp) (sym (map_path paths)) h)

pub below_none : (paths : List (List ℕ)) → Below paths 0 []
below_none paths = record {
  rising = λ i j d lt inside. absurd (omega (arith, inside));
  under = λ k j e p lt from inside. absurd (omega (arith, lt));
}

pub below_on : (paths : List (List ℕ)) (i : ℕ) (path : List ℕ) (old new : List Entry) → Rising path_key paths → i < length paths → path ≡ get_or paths i path
    → NotesAt path old new → Below paths i old → Below paths (i + 1) new
below_on paths i path old new up lt is (inl same) below = subst (Below paths (i + 1)) (sym same) (record {
  rising = below.rising;
  under = λ k j e p low from inside. below.under k j e p low (omega (arith, from)) inside;
})
below_on paths i path old new up lt is (inr noted) below = subst (Below paths (i + 1)) (sym noted.1) (record {
  rising = all_pairs_push (Before entry_key) old noted.0 below.rising (λ k d low.
      subst (λ (p : List ℕ). path_cmp (get_or old k d).path p ≡ Less) (sym (is_at path)) (below.under k i d path low (omega arith) lt));
  under = λ k j e p low from inside. elim (cases_lt k (length old)) [
    | inl before ↦
        subst (λ (x : Entry). path_cmp x.path (get_or paths j p) ≡ Less) (sym (get_or_append_left old (noted.0 ∷ []) e k before))
        (below.under k j e p before (omega (arith, from)) inside)
    | inr after ↦
        let last : k ≡ length old = omega (arith, low, length_push old noted.0, after) in
        subst (λ (x : Entry). path_cmp x.path (get_or paths j p) ≡ Less) (sym (get_or_push old noted.0 e k (sym last)))
        (subst (λ (q : List ℕ). path_cmp q (get_or paths j p) ≡ Less) (sym (is_at p)) (up i j p (omega (arith, from)) inside))
  ];
})
  where
    is_at : (p : List ℕ) → noted.0.path ≡ get_or paths i p
    is_at p = noted.2.0 ∙ is ∙ get_or_default paths i path p lt

pub marks_on : (path : List ℕ) (old new : List Entry) → NotesAt path old new → All HasMark old → All HasMark new
marks_on path old new (inl same) h = subst (All HasMark) (sym same) h
marks_on path old new (inr noted) h = subst (All HasMark) (sym noted.1) (All-push HasMark old noted.0 h noted.2.1)

pub below_ordered : (paths : List (List ℕ)) (i : ℕ) (es : List Entry) → Below paths i es → AreInOrder es
below_ordered paths i es below = rising_sorted entry_key es below.rising
