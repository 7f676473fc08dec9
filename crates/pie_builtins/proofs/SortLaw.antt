-- A sorted list has the same items in ascending order.
use Rattle.std.proofs.Common.{◌≡◌, ◌≤ℤ◌, ◌<ℤ◌, ℕ, ℤ, false, List, [], ◌∷◌, map, refl, sym, ap, ◌∙◌, subst, arith, Option, Some, None, Result, Ok, Err, Ordering}
use Rattle.std.proofs.Common.{Less, Equal, Greater, is_gt}
use Rattle.std.specs.Prelude.{IfOk, option_map}
use Rattle.std.specs.Ordering.{int_cmp, nat_cmp, MatchOrdering}
use Rattle.std.specs.Cmp.{IsTotalOrder, int_cmp_total, int_ranks}
use Rattle.std.specs.Cmp.Lexicographic.{slice_cmp, nat_list_cmp_total}
use Rattle.std.specs.List.Sorted.{IsPermutation}
use Rattle.std.proofs.lemmas.Int.{ints}
use Rattle.std.proofs.lemmas.List.Sorted.{IsPermutation-map}
use Rattle.pie_value.specs.declared.value.Value.{Value}
use Rattle.pie_value.specs.Tree.{Tree, Trees, TInt, TList, TNull, TPath, TText, Nil, Cons, items_of, list_of}
use Rattle.pie_value.specs.Values.{tree_of}
use Rattle.pie_value.specs.BuiltinForms.{made}
use Rattle.pie_value.specs.BuiltinItems.{all_as, as_int, as_path, as_text, sorted_by}
use Rattle.pie_value.specs.BuiltinTexts.{and_then}
use Rattle.pie_value.specs.Builtins.{sort_answer}
use Rattle.pie_builtins.specs.declared.fault.BuiltinFault.{BuiltinFault}
use Rattle.pie_builtins.specs.Agreement.{AnswerAgrees}
use Rattle.pie_builtins.specs.Laws.{IsAtMost, IsSortedList}
use Rattle.pie_builtins.proofs.Sorting.{sorted_permutes, sorted_rises}
use Rattle.pie_builtins.proofs.Splitting.{made_is}

int_at_most : (a b : ℤ) (r : Ordering) → MatchOrdering r (a <ℤ b) (a ≡ b) (b <ℤ a) → is_gt r ≡ false → a ≤ℤ b
int_at_most a b Less h e = omega (arith, ints, h)
int_at_most a b Equal h e = omega (arith, ints, h)
int_at_most a b Greater h e = cc

-- where each item is of a kind, the items are those of that kind in their form as values
module _ {A : Type 0} (kind : Tree → Option A) (form : A → Tree) (formed : (t : Tree) (a : A) → kind t ≡ Some a → t ≡ form a) where
  one_formed : (t : Tree) (o : Option A) (rest all : Option (List A)) (ts : List Tree) (xs : List A) → kind t ≡ o
      → ((ys : List A) → rest ≡ Some ys → ts ≡ map form ys)
      → and_then o (λ a. option_map (λ ys. a ∷ ys) rest) ≡ Some xs → t ∷ ts ≡ map form xs
  one_formed t None rest all ts xs k ih e = cc
  one_formed t (Some a) None all ts xs k ih e = cc
  one_formed t (Some a) (Some ys) all ts xs k ih e =
      let same : a ∷ ys ≡ xs = cc in
      subst (λ (zs : List A). t ∷ ts ≡ map form zs) same (ap (λ u. u ∷ ts) (formed t a k) ∙ ap (λ us. form a ∷ us) (ih ys refl))

  all_formed : (ts : Trees) (xs : List A) → all_as kind ts ≡ Some xs → list_of ts ≡ map form xs
  all_formed Nil xs e = let same : [] ≡ xs = cc in subst (λ (zs : List A). [] ≡ map form zs) same refl
  all_formed (Cons t ts) xs e = one_formed t (kind t) (all_as kind ts) (all_as kind (Cons t ts)) (list_of ts) xs refl (all_formed ts) e

  module _ (R : A → A → Ordering) (o : IsTotalOrder R) (at_most : (x y : A) → is_gt (R x y) ≡ false → IsAtMost (form x) (form y)) where
    sorted_so : (ts : Trees) (xs : List A) (v : Value) → all_as kind ts ≡ Some xs → made (TList (items_of (map form (sorted_by R xs)))) ≡ Ok (tree_of v)
        → IsSortedList ts (tree_of v)
    sorted_so ts xs v e m = (
      map form (sorted_by R xs),
      made_is (TList (items_of (map form (sorted_by R xs)))) (tree_of v) m,
      record {
        same = subst (λ (items : List Tree). IsPermutation items (map form (sorted_by R xs))) (sym (all_formed ts xs e))
            (IsPermutation-map form xs (sorted_by R xs) (sorted_permutes R o xs));
        ascending = sorted_rises R o form IsAtMost at_most TNull xs;
      },
    )

is_int : (t : Tree) (n : ℤ) → as_int t ≡ Some n → t ≡ TInt n
is_int (TInt m) n e = cc
is_int t n e = cc

is_text : (t : Tree) (s : List ℕ) → as_text t ≡ Some s → t ≡ TText s
is_text (TText r) s e = cc
is_text t s e = cc

is_path : (t : Tree) (s : List ℕ) → as_path t ≡ Some s → t ≡ TPath s
is_path (TPath r) s e = cc
is_path t s e = cc

answered : (ts : Trees) (v : Value) (ns : Option (List ℤ)) (texts paths : Option (List (List ℕ))) → all_as as_int ts ≡ ns → all_as as_text ts ≡ texts
    → all_as as_path ts ≡ paths
    → sort_answer ts ns texts paths ≡ Ok (tree_of v) → IsSortedList ts (tree_of v)
answered ts v (Some ns) texts paths i t p e = sorted_so as_int (λ n. TInt n) is_int int_cmp int_cmp_total
    (λ x y. int_at_most x y (int_cmp x y) (int_ranks x y)) ts ns v i e
answered ts v None (Some texts) paths i t p e = sorted_so as_text (λ s. TText s) is_text (slice_cmp nat_cmp) nat_list_cmp_total (λ x y h. h) ts texts v t e
answered ts v None None (Some paths) i t p e = sorted_so as_path (λ s. TPath s) is_path (slice_cmp nat_cmp) nat_list_cmp_total (λ x y h. h) ts paths v p e
answered ts v None None None i t p e = cc

pub sort_law : (ts : Trees) (r : Result Value BuiltinFault) → AnswerAgrees r (sort_answer ts (all_as as_int ts) (all_as as_text ts) (all_as as_path ts))
    → IfOk r (λ v. IsSortedList ts (tree_of v))
sort_law ts (Ok v) agrees = answered ts v (all_as as_int ts) (all_as as_text ts) (all_as as_path ts) refl refl refl agrees
sort_law ts (Err e) agrees = tt
