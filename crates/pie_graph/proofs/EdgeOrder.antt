-- The order of edges tells all edges apart.
use Rattle.std.proofs.Common.{◌≡◌, ◌&&◌, ℕ, true, List, refl, ap, eqb, arith}
use Rattle.std.specs.declared.cmp.Ordering.{Ordering}
use Rattle.std.specs.declared.cmp.Ordering.TheVariants.{Less, Equal, Greater}
use Rattle.std.specs.Ordering.{nat_cmp, ordering_then, is_eq}
use Rattle.std.specs.Cmp.{IsTotalOrder}
use Rattle.std.specs.Cmp.Lexicographic.{slice_cmp}
use Rattle.std.proofs.lemmas.Cmp.{nat_cmp_total, on_total, then_total, tied_itself, eq_by_cmp_equiv, same_from_slice_cmp}
use Rattle.std.proofs.lemmas.Map.Lookups.{CmpEqualImpliesEq, exact_unsigned, exact_bytes, exact_pairs}
use Rattle.std.proofs.lemmas.Bool.Decides.{nat_tests}
use Rattle.pie_base.specs.Path.{same_text}
use Rattle.pie_graph.specs.declared.edges.TaskNo.{TaskNo}
use Rattle.pie_graph.specs.declared.uses.Use.{Use}
use Rattle.pie_graph.specs.declared.uses.Use.TheVariants.{Calls, Reads, Lists, Writes}
use Rattle.pie_graph.specs.contracts.uses.UseOrd.TheImpl.Laws as use_laws
use Rattle.pie_graph.specs.Index.{use_cmp, edge_cmp}

pub edge_total : IsTotalOrder edge_cmp
edge_total = then_total (on_total (λ (e : Use × ℕ). e.0) use_laws.total-law) (on_total (λ (e : Use × ℕ). e.1) nat_cmp_total)

tied : (o : Ordering) → is_eq o ≡ true → o ≡ Equal
tied Less h = cc
tied Equal h = refl
tied Greater h = cc

task_exact : (a b : TaskNo) → nat_cmp a.0 b.0 ≡ Equal → a ≡ b
task_exact a b e = ap (λ (n : ℕ). let t : TaskNo = record { 0 = n } in t) (exact_unsigned a.0 b.0 e)

pub use_exact : CmpEqualImpliesEq use_cmp
use_exact (Calls a) (Calls b) e = ap Calls (task_exact a b e)
use_exact (Calls a) (Reads q) e = cc
use_exact (Calls a) (Lists q) e = cc
use_exact (Calls a) (Writes q) e = cc
use_exact (Reads p) (Calls b) e = cc
use_exact (Reads p) (Reads q) e = ap Reads (exact_bytes p q e)
use_exact (Reads p) (Lists q) e = cc
use_exact (Reads p) (Writes q) e = cc
use_exact (Lists p) (Calls b) e = cc
use_exact (Lists p) (Reads q) e = cc
use_exact (Lists p) (Lists q) e = ap Lists (exact_bytes p q e)
use_exact (Lists p) (Writes q) e = cc
use_exact (Writes p) (Calls b) e = cc
use_exact (Writes p) (Reads q) e = cc
use_exact (Writes p) (Lists q) e = cc
use_exact (Writes p) (Writes q) e = ap Writes (exact_bytes p q e)

pub edge_exact : CmpEqualImpliesEq edge_cmp
edge_exact = exact_pairs use_cmp nat_cmp use_exact exact_unsigned

pub same_edge : (a b : Use × ℕ) → is_eq (edge_cmp a b) ≡ true → a ≡ b
same_edge a b h = edge_exact a b (tied (edge_cmp a b) h)

pub edge_itself : (a : Use × ℕ) → is_eq (edge_cmp a a) ≡ true
edge_itself a = ap is_eq (tied_itself edge_total a)

pub nat_tie : (x y : ℕ) → is_eq (nat_cmp x y) ≡ eqb x y
nat_tie x y = grind (arith, nat_tests)

pub text_tie : (p q : List ℕ) → is_eq (slice_cmp nat_cmp p q) ≡ same_text p q
text_tie p q = same_from_slice_cmp nat_cmp is_eq same_text refl (λ _ _. refl) (λ _ _. refl) (λ x y xs ys o h. grind (arith, nat_tests)) p q
    (slice_cmp nat_cmp p q) refl

pub then_tie : (o r : Ordering) → is_eq (ordering_then o r) ≡ (is_eq o && is_eq r)
then_tie Less r = refl
then_tie Equal r = refl
then_tie Greater r = refl

pub edge_swap : (a b : Use × ℕ) → is_eq (edge_cmp a b) ≡ is_eq (edge_cmp b a)
edge_swap a b = (eq_by_cmp_equiv edge_total).symm a b
