-- The order of pairs tells all pairs apart.
use Rattle.std.proofs.Common.{◌≡◌, ◌&&◌, ℕ, true, List, refl, ap, ◌∙◌, eqb}
use Rattle.std.specs.declared.cmp.Ordering.{Ordering}
use Rattle.std.specs.declared.cmp.Ordering.TheVariants.{Less, Equal, Greater}
use Rattle.std.specs.Ordering.{nat_cmp, is_eq}
use Rattle.std.specs.Cmp.{IsTotalOrder}
use Rattle.std.specs.Cmp.Lexicographic.{slice_cmp}
use Rattle.std.proofs.lemmas.Cmp.{nat_cmp_total, nat_list_cmp_total, on_total, then_total, eq_by_cmp_equiv}
use Rattle.std.proofs.lemmas.Map.Lookups.{CmpEqualImpliesEq, exact_unsigned, exact_bytes, exact_pairs}
use Rattle.pie_base.specs.Path.{same_text}
use Rattle.pie_graph.proofs.EdgeOrder.{nat_tie, text_tie, then_tie}
use Rattle.pie_union.specs.inner.Writers.{pair_cmp}

pub pair_total : IsTotalOrder pair_cmp
pair_total = then_total (on_total (λ (p : List ℕ × ℕ). p.0) nat_list_cmp_total) (on_total (λ (p : List ℕ × ℕ). p.1) nat_cmp_total)

pub pair_exact : CmpEqualImpliesEq pair_cmp
pair_exact = exact_pairs (slice_cmp nat_cmp) nat_cmp exact_bytes exact_unsigned

tied : (o : Ordering) → is_eq o ≡ true → o ≡ Equal
tied Less h = cc
tied Equal h = refl
tied Greater h = cc

pub same_pair : (a b : List ℕ × ℕ) → is_eq (pair_cmp a b) ≡ true → a ≡ b
same_pair a b h = pair_exact a b (tied (pair_cmp a b) h)

pub pair_swap : (a b : List ℕ × ℕ) → is_eq (pair_cmp a b) ≡ is_eq (pair_cmp b a)
pair_swap a b = (eq_by_cmp_equiv pair_total).symm a b

-- the test for one pair, part by part
pub pair_tie : (path : List ℕ) (n : ℕ) (pair : List ℕ × ℕ) → is_eq (pair_cmp (path, n) pair) ≡ (same_text path pair.0 && eqb n pair.1)
pair_tie path n pair =
    then_tie (slice_cmp nat_cmp path pair.0) (nat_cmp n pair.1) ∙ ap (λ b. b && is_eq (nat_cmp n pair.1)) (text_tie path pair.0)
    ∙ ap (λ b. same_text path pair.0 && b) (nat_tie n pair.1)
