-- Rows that are sorted by distinct names ascend.
use Rattle.std.proofs.Common.{◌≡◌, ℕ, Bool, true, false, cond, List, length, get_or, refl, sym, ap, ap₂, ◌∙◌, arith}
use Rattle.std.specs.Prelude.{◌==◌, ◌&&◌, ◌||◌, nat_lt, IsTrue, bytes_eq}
use Rattle.std.specs.List.{AllPairs, IsDistinct}
use Rattle.std.specs.List.Sorted.{IsSortedByKey}
use Rattle.std.specs.declared.cmp.Ordering.{Ordering}
use Rattle.std.specs.declared.cmp.Ordering.TheVariants.{Less, Equal, Greater}
use Rattle.std.specs.Ordering.{is_lt, nat_cmp, ordering_then, ordering_reverse}
use Rattle.std.specs.Cmp.{IsTotalOrder}
use Rattle.std.specs.Cmp.Lexicographic.{slice_cmp}
use Rattle.std.specs.FinMap as fin
use Rattle.std.proofs.lemmas.Bool.{false≢true}
use Rattle.std.proofs.lemmas.Cmp.{then_total, on_total, nat_cmp_total, nat_list_cmp_total}
use Rattle.std.proofs.lemmas.List.{get_or-map, length-map}
use Rattle.std.proofs.lemmas.List.Sorted.{sorted_far, ranks_by}
use Rattle.std.proofs.lemmas.Map.Keys.{apart_from_distinct}
use Rattle.std.proofs.lemmas.Slice.Eq.{bytes_eq-Decides}
use Rattle.pie_digest.specs.Digests.{name_cmp, row_names}
use Rattle.pie_store.specs.Canonical.{name_before}

names_total : IsTotalOrder name_cmp
names_total = then_total (on_total length nat_cmp_total) nat_list_cmp_total

same_name : (a b : List ℕ) → slice_cmp nat_cmp a b ≡ Equal → a ≡ b
same_name a b e = fin.slice_cmp-IsAntisymmetric fin.nat_cmp-IsAntisymmetric a b e

-- of two that differ the first doesn't come later, so it comes first
comes_first : (s t : Bool) (r : Ordering) → (r ≡ Equal → ⊥) → is_lt (ordering_reverse (ordering_then (cond s Less (cond t Equal Greater)) r)) ≡ false
    → (s || (t && is_lt r)) ≡ true
comes_first true t r other up = refl
comes_first false true Less other up = refl
comes_first false true Equal other up = absurd (other refl)
comes_first false true Greater other up = sym up
comes_first false false r other up = sym up

-- of two other names the first in their order stands before the second
before : (a b : List ℕ) → bytes_eq a b ≡ false → is_lt (name_cmp b a) ≡ false → IsTrue (name_before a b)
before a b other up = comes_first (nat_lt (length a) (length b)) (length a == length b) (slice_cmp nat_cmp a b)
    (λ e. false≢true (sym other ∙ (bytes_eq-Decides a b).1 (same_name a b e))) (sym (ap (λ r. is_lt r) (names_total.antisymm b a)) ∙ up)

pub ascending : (rows : List (List ℕ × List ℕ)) → IsSortedByKey (λ (row : List ℕ × List ℕ). row.0) name_cmp rows → IsDistinct bytes_eq (row_names rows)
    → AllPairs (λ (f g : List ℕ × List ℕ). IsTrue (name_before f.0 g.0)) rows
ascending rows up once i j d below within =
    let far = sorted_far (λ (x y : List ℕ × List ℕ). is_lt (name_cmp x.0 y.0)) (ranks_by names_total (λ (row : List ℕ × List ℕ). row.0)) rows up i j d
    (omega (arith, below)) within in
    let other = apart_from_distinct bytes_eq (row_names rows) i j d.0 once below (omega (arith, within, length-map rows (λ (row : List ℕ × List ℕ). row.0))) in
    before (get_or rows i d).0 (get_or rows j d).0
    (sym (ap₂ bytes_eq (get_or-map (λ (row : List ℕ × List ℕ). row.0) rows i d d.0 (omega (arith, below, within)))
    (get_or-map (λ (row : List ℕ × List ℕ). row.0) rows j d d.0 within)) ∙ other) far
