-- Operators answer typed operands by a value of their type, or by a fault that isn't Unknown.
use Rattle.std.proofs.Common.{◌≡◌, ℕ, Bool, true, false, cond, List, [], ◌∷◌, ◌++◌, refl, ap, sym, ◌∙◌}
use Rattle.std.specs.Prelude.{ℤ, pos, negsuc, ◌+ℤ◌, ◌-ℤ◌, ◌*ℤ◌, neg_ℤ, int_div, int_rem, Some, Ok, Err, slice_get, zero, suc}
use Rattle.std.specs.Ordering.{int_eq}
use Rattle.std.specs.declared.cmp.Ordering.{Ordering}
use Rattle.pie_base.specs.declared.fault.FaultKind.TheVariants.{Big, Overflow, Zero}
use Rattle.pie_value.specs.Tree.{Tree as Val, Trees as Vals, TInt, TText, TPath, TList, TTuple, TBytes, Nil, Cons, list_of}
use Rattle.pie_value.specs.Types.{TyTree, TyTrees, UnitTy, BoolTy, IntTy, TextTy, PathTy, ListTy, TupleTy, NullableTy, BytesTy, NoTy, MoreTy, parts_of}
use Rattle.pie_value.specs.HasType.{has_type, have_types, all_items}
use Rattle.pie_value.specs.Limits.{is_small}
use Rattle.pie_value.specs.BuiltinForms.{Answered, made}
use Rattle.pie_value.specs.BuiltinItems.{joined}
use Rattle.pie_operators.specs.Operators.{fits, checked, unary_answer, sum_of, of_ints, divided, remainder, compared, binary_answer}
use Rattle.pie_operators.specs.Operators.{list_with, tuple_with, item_or_unknown}
use Rattle.pie_parser.specs.declared.tree.Operator.{Operator}
use Rattle.pie_parser.specs.declared.tree.Operator.TheVariants as operators
use Rattle.pie_parser.specs.declared.tree.Comparison.{Comparison}
use Rattle.pie_parser.specs.declared.tree.Comparison.TheVariants as comparisons
use Rattle.pie_parser.specs.declared.tree.Prefix.{Prefix}
use Rattle.pie_parser.specs.declared.tree.Prefix.TheVariants as prefixes
use Rattle.pie_types.specs.Operators.{is_addable, is_equality, is_ordered, prefix_type, part_at, numbered}
use Rattle.pie_types.specs.inner.Rules.{LeftHas, of_any, by_size}
use Rattle.pie_semantics.specs.Words.{infix_of, comparison_of, prefix_of, item_numbered}
use Rattle.pie_type_laws.specs.Fitting.{IsOf}
use Rattle.pie_type_laws.proofs.Safe.{IsKnown}
use Rattle.pie_type_laws.proofs.Acts.{Good}
use Rattle.pie_type_laws.proofs.Inhabitants.{AllOf, EachOf, both, and_true, of_bool, of_int, of_text, of_path, of_bytes, of_list, of_tuple}

pub big_known : IsKnown Big
big_known h = cc

pub overflow_known : IsKnown Overflow
overflow_known h = cc

pub zero_known : IsKnown Zero
zero_known h = cc

-- one of two answers
pub either_good : (t : TyTree) (b : Bool) (x y : Answered) → Good t x → Good t y → Good t (cond b x y)
either_good t true x y p q = p
either_good t false x y p q = q

-- a new value
pub made_good : (t : TyTree) (v : Val) → IsOf t v → Good t (made v)
made_good t v h = either_good t (is_small v) (Ok v) (Err Big) h big_known

checked_good : (n : ℤ) → Good IntTy (checked n)
checked_good n = either_good IntTy (fits n) (Ok (TInt n)) (Err Overflow) refl overflow_known

-- items and then others
pub joined_all : (t : TyTree) (vs ws : Vals) → AllOf t vs → AllOf t ws → AllOf t (joined vs ws)
joined_all t Nil ws p q = q
joined_all t (Cons v vs) ws p q =
    let h = both (has_type t v) (all_items (has_type t) vs) p in
    and_true (has_type t v) (all_items (has_type t) (joined vs ws)) h.0 (joined_all t vs ws h.1 q)

-- an operator before its operand
pub prefix_good : (p : Prefix) (v : Val) → IsOf (prefix_type p) v → Good (prefix_type p) (unary_answer (prefix_of p) v)
prefix_good prefixes.Not v h = of_bool (λ v. Good BoolTy (unary_answer (prefix_of prefixes.Not) v)) (λ b. refl) v h
prefix_good prefixes.Minus v h = of_int (λ v. Good IntTy (unary_answer (prefix_of prefixes.Minus) v)) (λ n. checked_good (neg_ℤ n)) v h

-- operands of one type by `+`
pub sum_good : (t : TyTree) → is_addable t ≡ true → (v w : Val) → IsOf t v → IsOf t w → Good t (sum_of v w)
sum_good IntTy a v w p q =
    of_int (λ v. Good IntTy (sum_of v w)) (λ n. of_int (λ w. Good IntTy (sum_of (TInt n) w)) (λ m. checked_good (n +ℤ m)) w q) v p
sum_good TextTy a v w p q =
    of_text (λ v. Good TextTy (sum_of v w)) (λ s. of_text (λ w. Good TextTy (sum_of (TText s) w)) (λ u. made_good TextTy (TText (s ++ u)) refl) w q) v p
sum_good BytesTy a v w p q =
    of_bytes (λ v. Good BytesTy (sum_of v w)) (λ s. of_bytes (λ w. Good BytesTy (sum_of (TBytes s) w)) (λ u. made_good BytesTy (TBytes (s ++ u)) refl) w q) v p
sum_good (ListTy t) a v w p q =
    of_list t (λ v. Good (ListTy t) (sum_of v w))
    (λ vs f. of_list t (λ w. Good (ListTy t) (sum_of (TList vs) w)) (λ ws g. made_good (ListTy t) (TList (joined vs ws)) (joined_all t vs ws f g)) w q) v p
sum_good UnitTy a v w p q = let f : ⊥ = cc in absurd f
sum_good BoolTy a v w p q = let f : ⊥ = cc in absurd f
sum_good PathTy a v w p q = let f : ⊥ = cc in absurd f
sum_good (TupleTy ts) a v w p q = let f : ⊥ = cc in absurd f
sum_good (NullableTy t) a v w p q = let f : ⊥ = cc in absurd f

ints_good : (answer : ℤ → ℤ → Answered) → ((n m : ℤ) → Good IntTy (answer n m)) → (v w : Val) → IsOf IntTy v → IsOf IntTy w → Good IntTy (of_ints answer v w)
ints_good answer g v w p q =
    of_int (λ v. Good IntTy (of_ints answer v w)) (λ n. of_int (λ w. Good IntTy (of_ints answer (TInt n) w)) (λ m. g n m) w q) v p

divided_good : (f : ℤ → ℤ → ℤ) (n m : ℤ) → Good IntTy (divided f n m)
divided_good f n m = either_good IntTy (int_eq m (pos 0)) (Err Zero) (checked (f n m)) zero_known (checked_good (f n m))

remainder_good : (n m : ℤ) → Good IntTy (remainder n m)
remainder_good n m = either_good IntTy (int_eq m (pos 0)) (Err Zero) (cond (fits (int_div n m)) (Ok (TInt (int_rem n m))) (Err Overflow)) zero_known
    (either_good IntTy (fits (int_div n m)) (Ok (TInt (int_rem n m))) (Err Overflow) refl overflow_known)

pub infix_good : (o : Operator) (v w : Val) → IsOf IntTy v → IsOf IntTy w → Good IntTy (binary_answer (infix_of o) v w)
infix_good operators.Plus v w p q = sum_good IntTy refl v w p q
infix_good operators.Minus v w p q = ints_good (λ n m. checked (n -ℤ m)) (λ n m. checked_good (n -ℤ m)) v w p q
infix_good operators.Times v w p q = ints_good (λ n m. checked (n *ℤ m)) (λ n m. checked_good (n *ℤ m)) v w p q
infix_good operators.Divide v w p q = ints_good (divided int_div) (divided_good int_div) v w p q
infix_good operators.Remainder v w p q = ints_good remainder remainder_good v w p q
infix_good operators.Or v w p q = sum_good IntTy refl v w p q
infix_good operators.And v w p q = sum_good IntTy refl v w p q

ordered_good : (t : TyTree) → is_ordered t ≡ true → (holds : Ordering → Bool) (v w : Val) → IsOf t v → IsOf t w → Good BoolTy (compared holds v w)
ordered_good IntTy a holds v w p q =
    of_int (λ v. Good BoolTy (compared holds v w)) (λ n. of_int (λ w. Good BoolTy (compared holds (TInt n) w)) (λ m. refl) w q) v p
ordered_good TextTy a holds v w p q =
    of_text (λ v. Good BoolTy (compared holds v w)) (λ n. of_text (λ w. Good BoolTy (compared holds (TText n) w)) (λ m. refl) w q) v p
ordered_good PathTy a holds v w p q =
    of_path (λ v. Good BoolTy (compared holds v w)) (λ n. of_path (λ w. Good BoolTy (compared holds (TPath n) w)) (λ m. refl) w q) v p
ordered_good UnitTy a holds v w p q = let f : ⊥ = cc in absurd f
ordered_good BoolTy a holds v w p q = let f : ⊥ = cc in absurd f
ordered_good BytesTy a holds v w p q = let f : ⊥ = cc in absurd f
ordered_good (ListTy t) a holds v w p q = let f : ⊥ = cc in absurd f
ordered_good (TupleTy ts) a holds v w p q = let f : ⊥ = cc in absurd f
ordered_good (NullableTy t) a holds v w p q = let f : ⊥ = cc in absurd f

compare_by : (c : Comparison) (t : TyTree) → is_equality c ≡ false → is_ordered t ≡ true → (v w : Val) → IsOf t v → IsOf t w
    → Good BoolTy (binary_answer (comparison_of c) v w)
compare_by comparisons.Equal t e a v w p q = let f : ⊥ = cc in absurd f
compare_by comparisons.NotEqual t e a v w p q = let f : ⊥ = cc in absurd f
compare_by comparisons.Less t e a v w p q = ordered_good t a _ v w p q
compare_by comparisons.LessEqual t e a v w p q = ordered_good t a _ v w p q
compare_by comparisons.Greater t e a v w p q = ordered_good t a _ v w p q
compare_by comparisons.GreaterEqual t e a v w p q = ordered_good t a _ v w p q

compare_any : (c : Comparison) → is_equality c ≡ true → (v w : Val) → Good BoolTy (binary_answer (comparison_of c) v w)
compare_any comparisons.Equal e v w = refl
compare_any comparisons.NotEqual e v w = refl
compare_any comparisons.Less e v w = let f : ⊥ = cc in absurd f
compare_any comparisons.LessEqual e v w = let f : ⊥ = cc in absurd f
compare_any comparisons.Greater e v w = let f : ⊥ = cc in absurd f
compare_any comparisons.GreaterEqual e v w = let f : ⊥ = cc in absurd f

-- a comparison
pub compare_good : (c : Comparison) (t : TyTree) → LeftHas c t → (v w : Val) → IsOf t v → IsOf t w → Good BoolTy (binary_answer (comparison_of c) v w)
compare_good _ _ (of_any {c = c} {t = t} e) v w p q = compare_any c e v w
compare_good _ _ (by_size {c = c} {t = t} e o) v w p q = compare_by c t e o v w p q

-- a list with one more item
pub list_good : (t : TyTree) (all v : Val) → IsOf (ListTy t) all → IsOf t v → Good (ListTy t) (list_with all v)
list_good t all v p q = of_list t (λ all. Good (ListTy t) (list_with all v))
    (λ vs f. made_good (ListTy t) (TList (joined vs (Cons v Nil)))
    (joined_all t vs (Cons v Nil) f (and_true (has_type t v) true q refl))) all p

-- types and one more
more_each : (ts : List TyTree) (t : TyTree) (vs : Vals) (v : Val) → EachOf (parts_of ts) vs → IsOf t v
    → EachOf (parts_of (ts ++ t ∷ [])) (joined vs (Cons v Nil))
more_each [] t Nil v p q = and_true (has_type t v) true q refl
more_each [] t (Cons w vs) v p q = let f : ⊥ = cc in absurd f
more_each (u ∷ ts) t Nil v p q = let f : ⊥ = cc in absurd f
more_each (u ∷ ts) t (Cons w vs) v p q =
    let h = both (has_type u w) (have_types (parts_of ts) vs) p in
    and_true (has_type u w) (have_types (parts_of (ts ++ t ∷ [])) (joined vs (Cons v Nil))) h.0 (more_each ts t vs v h.1 q)

-- a tuple with one more item
pub tuple_good : (ts : List TyTree) (t : TyTree) (all v : Val) → IsOf (TupleTy (parts_of ts)) all → IsOf t v
    → Good (TupleTy (parts_of (ts ++ t ∷ []))) (tuple_with all v)
tuple_good ts t all v p q = of_tuple (parts_of ts) (λ all. Good (TupleTy (parts_of (ts ++ t ∷ []))) (tuple_with all v))
    (λ vs f. made_good (TupleTy (parts_of (ts ++ t ∷ []))) (TTuple (joined vs (Cons v Nil))) (more_each ts t vs v f q)) all p

-- an item of a tuple
part_good : (n : ℕ) (ts : TyTrees) (t : TyTree) (vs : Vals) → part_at n ts ≡ Some t → EachOf ts vs → Good t (item_or_unknown (slice_get (list_of vs) n))
part_good n NoTy t vs e h = let f : ⊥ = cc in absurd f
part_good n (MoreTy u ts) t Nil e h = let f : ⊥ = cc in absurd f
part_good zero (MoreTy u ts) t (Cons v vs) e h =
    let s : u ≡ t = cc in ap (λ (x : TyTree). has_type x v) (sym s) ∙ (both (has_type u v) (have_types ts vs) h).0
part_good (suc n) (MoreTy u ts) t (Cons v vs) e h = part_good n ts t vs e (both (has_type u v) (have_types ts vs) h).1

pub item_good : (n : ℤ) (ts : TyTrees) (t : TyTree) (v : Val) → numbered n ts ≡ Some t → IsOf (TupleTy ts) v → Good t (item_numbered n v)
item_good (pos n) ts t v e h = of_tuple ts (λ v. Good t (item_numbered (pos n) v)) (λ vs f. part_good n ts t vs e f) v h
item_good (negsuc n) ts t v e h = let f : ⊥ = cc in absurd f
