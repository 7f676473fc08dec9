-- The test for sameness answers whether two values are equal.
use Rattle.std.proofs.Common.{◌≡◌, ◌↔◌, IsTrue, Bool, true, false, not, ◌&&◌, cond, ℕ, List, refl, sym, ap, subst, ◌∙◌, rules}
use Rattle.std.proofs.lemmas.Bool.Decides.{Decides-int_eq}
use Rattle.pie_value.specs.declared.value.Value.{Value}
use Rattle.pie_value.specs.declared.value.Value.TheVariants.{Unit as VUnit, Bool as VBool, Int as VInt, Text as VText, Path as VPath}
use Rattle.pie_value.specs.declared.value.Value.TheVariants.{List as VList, Tuple as VTuple, Null as VNull, Bytes as VBytes}
use Rattle.pie_value.specs.Values.{tree_of}
use Rattle.pie_value.specs.Tree.{Tree, Trees, TUnit, TBool, TInt, TText, TPath, TList, TTuple, TNull, TBytes, Nil, Cons, list_of}
use Rattle.pie_value.specs.BuiltinTexts.{same_bytes}
use Rattle.pie_value.proofs.Elements.{list_of_items}
use Rattle.pie_operators.specs.Operators.{same_tree, same_trees}

both : (a b : Bool) → (a && b) ≡ true → (a ≡ true) × (b ≡ true)
both true b h = (refl, h)
both false b h = absurd cc

bytes_self : (s : List ℕ) → same_bytes s s ≡ true
bytes_self s = search rules

bytes_same : (s t : List ℕ) → same_bytes s t ≡ true → s ≡ t
bytes_same s t h = search rules

bool_self : (b : Bool) → cond b b (not b) ≡ true
bool_self true = refl
bool_self false = refl

bool_same : (a b : Bool) → cond a b (not b) ≡ true → a ≡ b
bool_same true true h = refl
bool_same true false h = absurd cc
bool_same false true h = absurd cc
bool_same false false h = refl

mutual
  pub same_self : (t : Tree) → same_tree t t ≡ true
  same_self TUnit = refl
  same_self (TBool b) = bool_self b
  same_self (TInt n) = (Decides-int_eq n n).1 refl
  same_self (TText s) = bytes_self s
  same_self (TPath s) = bytes_self s
  same_self (TList ts) = sames_self ts
  same_self (TTuple ts) = sames_self ts
  same_self TNull = refl
  same_self (TBytes s) = bytes_self s

  sames_self : (ts : Trees) → same_trees ts ts ≡ true
  sames_self Nil = refl
  sames_self (Cons t ts) = ap (λ (b : Bool). b && same_trees ts ts) (same_self t) ∙ sames_self ts

mutual
  pub same_is : (t u : Tree) → same_tree t u ≡ true → t ≡ u
  same_is TUnit TUnit h = refl
  same_is (TBool a) (TBool b) h = ap TBool (bool_same a b h)
  same_is (TInt n) (TInt m) h = ap TInt ((Decides-int_eq n m).0 h)
  same_is (TText s) (TText t) h = ap TText (bytes_same s t h)
  same_is (TPath s) (TPath t) h = ap TPath (bytes_same s t h)
  same_is (TList ts) (TList us) h = ap TList (sames_are ts us h)
  same_is (TTuple ts) (TTuple us) h = ap TTuple (sames_are ts us h)
  same_is TNull TNull h = refl
  same_is (TBytes s) (TBytes t) h = ap TBytes (bytes_same s t h)
  same_is t u h = absurd cc

  sames_are : (ts us : Trees) → same_trees ts us ≡ true → ts ≡ us
  sames_are Nil Nil h = refl
  sames_are (Cons t ts) (Cons u us) h =
      let p = both (same_tree t u) (same_trees ts us) h in ap (λ x. Cons x ts) (same_is t u p.0) ∙ ap (Cons u) (sames_are ts us p.1)
  sames_are ts us h = absurd cc

-- a value of the program from its tree
abbrev value_in : Tree → Value
value_in TUnit = VUnit
value_in (TBool b) = VBool b
value_in (TInt n) = VInt n
value_in (TText s) = VText s
value_in (TPath s) = VPath s
value_in (TList ts) = VList (list_of ts)
value_in (TTuple ts) = VTuple (list_of ts)
value_in TNull = VNull
value_in (TBytes s) = VBytes s

value_again : (v : Value) → value_in (tree_of v) ≡ v
value_again VUnit = refl
value_again (VBool b) = refl
value_again (VInt n) = refl
value_again (VText s) = refl
value_again (VPath s) = refl
value_again (VList ts) = ap VList (list_of_items ts)
value_again (VTuple ts) = ap VTuple (list_of_items ts)
value_again VNull = refl
value_again (VBytes s) = refl

-- equal trees are those of equal values
pub same_value : (v w : Value) → tree_of v ≡ tree_of w → v ≡ w
same_value v w e = sym (value_again v) ∙ ap value_in e ∙ value_again w

-- an answer that tells whether two values are equal is that of the test
pub decided : (b : Bool) (v w : Value) → IsTrue b ↔ (v ≡ w) → b ≡ same_tree (tree_of v) (tree_of w)
decided true v w h = sym (subst (λ x. same_tree (tree_of v) (tree_of x) ≡ true) (h.0 refl) (same_self (tree_of v)))
decided false v w h = by_test (same_tree (tree_of v) (tree_of w)) refl
  where
    by_test : (c : Bool) → same_tree (tree_of v) (tree_of w) ≡ c → false ≡ c
    by_test true e = h.1 (same_value v w (same_is (tree_of v) (tree_of w) e))
    by_test false e = refl
