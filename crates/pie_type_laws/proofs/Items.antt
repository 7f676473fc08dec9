-- Items of lists that built-in functions make.
use Rattle.std.proofs.Common.{◌≡◌, ℕ, true, List, [], ◌∷◌, ◌++◌, map, reverse, refl, ap, sym, ◌∙◌, subst}
use Rattle.std.specs.Prelude.{ℤ, pos, ◌+ℤ◌, Option, Some, None, option_map, slice_get, zero, suc}
use Rattle.std.proofs.lemmas.List.{reverse-append}
use Rattle.pie_base.specs.declared.fault.FaultKind.TheVariants.{Range as RangeFault}
use Rattle.pie_value.specs.Tree.{Tree as Val, Trees as Vals, Nil, Cons, items_of, list_of}
use Rattle.pie_value.specs.Types.{TyTree, IntTy}
use Rattle.pie_value.specs.HasType.{has_type, all_items}
use Rattle.pie_value.specs.BuiltinTexts.{and_then}
use Rattle.pie_value.specs.BuiltinItems.{all_as, ints_from, all_joined}
use Rattle.pie_value.specs.Builtins.{item_or_fault}
use Rattle.pie_type_laws.specs.Fitting.{IsOf}
use Rattle.pie_type_laws.proofs.Safe.{IsKnown}
use Rattle.pie_type_laws.proofs.Acts.{Good}
use Rattle.pie_type_laws.proofs.Inhabitants.{AllOf, both, and_true}
use Rattle.pie_type_laws.proofs.Operators.{joined_all}

pub range_known : IsKnown RangeFault
range_known h = cc

-- items made from something, one each
pub mapped_all : {A : Type 0} (t : TyTree) (f : A → Val) → ((a : A) → IsOf t (f a)) → (xs : List A) → AllOf t (items_of (map f xs))
mapped_all t f h [] = refl
mapped_all t f h (x ∷ xs) = and_true (has_type t (f x)) (all_items (has_type t) (items_of (map f xs))) (h x) (mapped_all t f h xs)

listed_all : (t : TyTree) (vs : Vals) → AllOf t vs → AllOf t (items_of (list_of vs))
listed_all t Nil h = refl
listed_all t (Cons v vs) h =
    let b = both (has_type t v) (all_items (has_type t) vs) h in
    and_true (has_type t v) (all_items (has_type t) (items_of (list_of vs))) b.0 (listed_all t vs b.1)

more_all : (t : TyTree) (xs ys : List Val) → AllOf t (items_of xs) → AllOf t (items_of ys) → AllOf t (items_of (xs ++ ys))
more_all t [] ys p q = q
more_all t (x ∷ xs) ys p q =
    let b = both (has_type t x) (all_items (has_type t) (items_of xs)) p in
    and_true (has_type t x) (all_items (has_type t) (items_of (xs ++ ys))) b.0 (more_all t xs ys b.1 q)

turned_all : (t : TyTree) (xs : List Val) → AllOf t (items_of xs) → AllOf t (items_of (reverse xs))
turned_all t [] h = refl
turned_all t (x ∷ xs) h =
    let b = both (has_type t x) (all_items (has_type t) (items_of xs)) h in
    subst (λ (ys : List Val). AllOf t (items_of ys)) (sym (reverse-append (x ∷ []) xs))
    (more_all t (reverse xs) (x ∷ []) (turned_all t xs b.1) (and_true (has_type t x) true b.0 refl))

-- the items of a list in the other order
pub reversed_all : (t : TyTree) (vs : Vals) → AllOf t vs → AllOf t (items_of (reverse (list_of vs)))
reversed_all t vs h = turned_all t (list_of vs) (listed_all t vs h)

-- an item of a list
pub at_good : (t : TyTree) (vs : Vals) → AllOf t vs → (n : ℕ) → Good t (item_or_fault (slice_get (list_of vs) n))
at_good t Nil h n = range_known
at_good t (Cons v vs) h zero = (both (has_type t v) (all_items (has_type t) vs) h).0
at_good t (Cons v vs) h (suc n) = at_good t vs (both (has_type t v) (all_items (has_type t) vs) h).1 n

-- so many integers
pub ints_all : (k : ℕ) (n : ℤ) → AllOf IntTy (ints_from n k)
ints_all zero n = refl
ints_all (suc k) n = ints_all k (n +ℤ pos 1)

-- all of a list
abbrev pub Each : {A : Type 0} → (A → Type 0) → List A → Type 0
Each P [] = Unit {0}
Each P (x ∷ xs) = P x × Each P xs

-- each item is something, where each value of its type is
pub all_as_some : {A : Type 0} (P : A → Type 0) (t : TyTree) (f : Val → Option A) → ((v : Val) → IsOf t v → (a : A) × (f v ≡ Some a) × P a)
    → (vs : Vals) → AllOf t vs → (xs : List A) × (all_as f vs ≡ Some xs) × Each P xs
all_as_some P t f h Nil p = ([], refl, tt)
all_as_some {A} P t f h (Cons v vs) p =
    let b = both (has_type t v) (all_items (has_type t) vs) p in
    let first = h v b.0 in
    let rest = all_as_some P t f h vs b.1 in (
      first.0 ∷ rest.0,
      ap (λ (o : Option A). and_then o (λ a. option_map (λ rest. a ∷ rest) (all_as f vs))) first.1
          ∙ ap (λ (o : Option (List A)). option_map (λ (rest : List A). first.0 ∷ rest) o) rest.1,
      (first.2, rest.2),
    )

-- no item is something, where the first one isn't
pub all_as_none : {A : Type 0} (f : Val → Option A) (v : Val) (vs : Vals) → f v ≡ None → all_as f (Cons v vs) ≡ None
all_as_none {A} f v vs e = ap (λ (o : Option A). and_then o (λ a. option_map (λ rest. a ∷ rest) (all_as f vs))) e

-- the items of some lists
pub joined_lists : (t : TyTree) (lists : List Vals) → Each (AllOf t) lists → AllOf t (all_joined lists)
joined_lists t [] h = refl
joined_lists t (vs ∷ rest) h = joined_all t vs (all_joined rest) h.0 (joined_lists t rest h.1)
