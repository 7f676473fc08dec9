-- Trees tell values apart, and an item weighs less than the items.
use Rattle.std.proofs.Common.{◌≡◌, ℕ, zero, suc, ◌+◌, ◌<◌, List, [], ◌∷◌, length, get_or, drop, refl, ap, sym, ◌∙◌, arith}
use Rattle.std.proofs.lemmas.List.{drop_more}
use Rattle.pie_value.specs.declared.value.Value.{Value}
use Rattle.pie_value.specs.declared.value.Value.TheVariants.{Unit as VUnit, Bool as VBool, Int as VInt, Text as VText}
use Rattle.pie_value.specs.declared.value.Value.TheVariants.{Path as VPath, List as VList, Tuple as VTuple, Null as VNull}
use Rattle.pie_value.specs.declared.value.Value.TheVariants.{Bytes as VBytes}
use Rattle.pie_value.specs.Tree.{Tree, items_of, list_of, count_of, mass, weight}
use Rattle.pie_value.specs.Values.{tree_of, trees_of}

-- the list of the items of a list is that list
pub list_of_items : (ts : List Tree) → list_of (items_of ts) ≡ ts
list_of_items [] = refl
list_of_items (t ∷ ts) = ap (λ us. t ∷ us) (list_of_items ts)

pub items_inj : (ts us : List Tree) → items_of ts ≡ items_of us → ts ≡ us
items_inj ts us e = sym (list_of_items ts) ∙ ap list_of e ∙ list_of_items us

-- values with equal trees are equal
pub tree_inj : (x y : Value) → tree_of x ≡ tree_of y → x ≡ y
tree_inj VUnit VUnit e = refl
tree_inj (VBool a) (VBool b) e = cc
tree_inj (VInt a) (VInt b) e = cc
tree_inj (VText a) (VText b) e = cc
tree_inj (VPath a) (VPath b) e = cc
tree_inj (VList a) (VList b) e = let h : a ≡ b = items_inj a b (cc) in cc
tree_inj (VTuple a) (VTuple b) e = let h : a ≡ b = items_inj a b (cc) in cc
tree_inj VNull VNull e = refl
tree_inj (VBytes a) (VBytes b) e = cc
tree_inj x y e = cc

pub trees_inj : (xs ys : List Value) → trees_of xs ≡ trees_of ys → xs ≡ ys
trees_inj [] [] e = refl
trees_inj (x ∷ xs) (y ∷ ys) e =
    let h : x ≡ y = tree_inj x y (cc) in
    let k : xs ≡ ys = trees_inj xs ys (cc) in cc
trees_inj [] (y ∷ ys) e = cc
trees_inj (x ∷ xs) [] e = cc

pub mass_at : (vs : List Value) (i : ℕ) (d : Value) → i < length vs → mass (tree_of (get_or vs i d)) < weight (trees_of vs)
mass_at [] i d h = absurd (omega arith)
mass_at (v ∷ vs) zero d h = omega arith
mass_at (v ∷ vs) (suc i) d h = omega (arith, mass_at vs i d (omega arith))

-- what decides whether values are equal decides it for their trees
pub trees_decided : (ts us : List Tree) (xs ys : List Value) {P : Type 0} → trees_of xs ≡ ts → trees_of ys ≡ us
    → (P → xs ≡ ys) × (xs ≡ ys → P) → (P → ts ≡ us) × (ts ≡ us → P)
trees_decided ts us xs ys ex ey e =
    (λ p. sym ex ∙ ap trees_of (e.0 p) ∙ ey, λ q. e.1 (trees_inj xs ys (ex ∙ q ∙ sym ey)))

pub count_of_items : (ts : List Tree) → count_of (items_of ts) ≡ length ts
count_of_items [] = refl
count_of_items (t ∷ ts) = omega (arith, count_of_items ts)

-- what is left of some values from a place on: the value there, and the rest
pub trees_left : (vs : List Value) (i : ℕ) (v : Value) → i < length vs → v ≡ get_or vs i v
    → trees_of (drop i vs) ≡ tree_of v ∷ trees_of (drop (i + 1) vs)
trees_left vs i v h e = ap trees_of (drop_more vs i v h) ∙ ap (λ (w : Value). tree_of w ∷ trees_of (drop (i + 1) vs)) (sym e)

pub count_of_trees : (vs : List Value) → count_of (items_of (trees_of vs)) ≡ length vs
count_of_trees [] = refl
count_of_trees (v ∷ vs) = omega (arith, count_of_trees vs)
