-- A value is that of its tree.
use Rattle.std.proofs.Common.{◌≡◌, ℕ, ◌≤◌, List, take, drop, length, Ok, refl, ap, ◌∙◌, ◌-◌, arith}
use Rattle.std.proofs.lemmas.List.{take_all, length-drop}
use Rattle.pie_value.specs.declared.value.Value.{Value}
use Rattle.pie_value.specs.declared.value.Value.TheVariants.{Unit as VUnit, Bool as VBool, Int as VInt, Text as VText, Path as VPath}
use Rattle.pie_value.specs.declared.value.Value.TheVariants.{List as VList, Tuple as VTuple, Null as VNull, Bytes as VBytes}
use Rattle.pie_value.specs.Tree.{Tree, Trees, TUnit, TBool, TInt, TText, TPath, TList, TTuple, TNull, TBytes, Nil, Cons, items_of, list_of}
use Rattle.pie_value.specs.Values.{tree_of}
use Rattle.pie_value.specs.Reading.{Parsed as Decoded, value_prefix}
use Rattle.pie_value.proofs.Elements.{list_of_items}
use Rattle.pie_record.specs.inner.Parts.{value_of}
use Rattle.pie_record.specs.Reading.{Parsed, then_on, told, value_at}

pub value_back : (v : Value) → value_of (tree_of v) ≡ v
value_back VUnit = refl
value_back (VBool b) = refl
value_back (VInt n) = refl
value_back (VText bs) = refl
value_back (VPath bs) = refl
value_back (VList ts) = ap VList (list_of_items ts)
value_back (VTuple ts) = ap VTuple (list_of_items ts)
value_back VNull = refl
value_back (VBytes bs) = refl

items_back : (ts : Trees) → items_of (list_of ts) ≡ ts
items_back Nil = refl
items_back (Cons t ts) = ap (λ (us : Trees). Cons t us) (items_back ts)

pub tree_back : (t : Tree) → tree_of (value_of t) ≡ t
tree_back TUnit = refl
tree_back (TBool b) = refl
tree_back (TInt n) = refl
tree_back (TText bs) = refl
tree_back (TPath bs) = refl
tree_back (TList ts) = ap TList (items_back ts)
tree_back (TTuple ts) = ap TTuple (items_back ts)
tree_back TNull = refl
tree_back (TBytes bs) = refl

abbrev pair : {A : Type 0} → A → List ℕ → Parsed A
pair a rest = Ok (a, rest)

-- what the decoder says of the tree is said of the value
pub value_read : (v : Value) (bs rest : List ℕ) → value_prefix bs ≡ Ok (tree_of v, rest) → value_at bs ≡ Ok (v, rest)
value_read v bs rest e =
    ap (λ (p : Decoded Tree). then_on (told p) (λ t after. pair (value_of t) after)) e ∙ ap (λ (u : Value). pair u rest) (value_back v)

-- the same, of the bytes that are left
pub value_taken : (v : Value) (bs : List ℕ) (n : ℕ) → (value_prefix bs ≡ Ok (tree_of v, drop n bs)) × (n ≤ length bs)
    → value_at bs ≡ Ok (v, take (length bs - n) (drop n bs))
value_taken v bs n h = rw (take_all (length bs - n) (drop n bs) (omega (arith, length-drop n bs))) (value_read v bs (drop n bs) h.0)
