-- Trees tell types apart, and types one after another.
use Rattle.std.proofs.Common.{◌≡◌, ◌≢◌, ℕ, zero, suc, ◌+◌, ◌<◌, Bool, true, false, ◌&&◌, List, [], ◌∷◌, length, get_or, drop}
use Rattle.std.proofs.Common.{refl, ap, sym, ◌∙◌, arith}
use Rattle.std.proofs.lemmas.List.{drop_more}
use Rattle.pie_value.specs.declared.ty.Ty.{Ty}
use Rattle.pie_value.specs.declared.ty.Ty.TheVariants.{Unit as VUnit, Bool as VBool, Int as VInt, Text as VText, Path as VPath}
use Rattle.pie_value.specs.declared.ty.Ty.TheVariants.{List as VList, Tuple as VTuple, Nullable as VNullable, Bytes as VBytes}
use Rattle.pie_value.specs.declared.value.Value.{Value}
use Rattle.pie_value.specs.Tree.{Tree, items_of}
use Rattle.pie_value.specs.Values.{tree_of, trees_of}
use Rattle.pie_value.specs.Types.{TyTree, TyTrees, NoTy, MoreTy, parts_of, ty_mass, parts_weight}
use Rattle.pie_value.specs.TypeTrees.{ty_tree, ty_trees}
use Rattle.pie_value.specs.HasType.{has_type, have_types}
use Rattle.pie_value.proofs.Elements.{trees_left}

list_of_parts : TyTrees → List TyTree
list_of_parts NoTy = []
list_of_parts (MoreTy t ts) = t ∷ list_of_parts ts

list_again : (ts : List TyTree) → list_of_parts (parts_of ts) ≡ ts
unfolding list_of_parts
list_again [] = refl
list_again (t ∷ ts) = ap (λ (us : List TyTree). t ∷ us) (list_again ts)

parts_inj : (ts us : List TyTree) → parts_of ts ≡ parts_of us → ts ≡ us
parts_inj ts us e = sym (list_again ts) ∙ ap list_of_parts e ∙ list_again us

-- types with equal trees are equal
pub ty_tree_inj : (x y : Ty) → ty_tree x ≡ ty_tree y → x ≡ y
ty_tree_inj VUnit VUnit e = refl
ty_tree_inj VBool VBool e = refl
ty_tree_inj VInt VInt e = refl
ty_tree_inj VText VText e = refl
ty_tree_inj VPath VPath e = refl
ty_tree_inj (VList a) (VList b) e = cc
ty_tree_inj (VTuple a) (VTuple b) e = let h : a ≡ b = parts_inj a b (cc) in cc
ty_tree_inj (VNullable a) (VNullable b) e = cc
ty_tree_inj VBytes VBytes e = refl
ty_tree_inj x y e = cc

ty_trees_inj : (xs ys : List Ty) → ty_trees xs ≡ ty_trees ys → xs ≡ ys
ty_trees_inj [] [] e = refl
ty_trees_inj (x ∷ xs) (y ∷ ys) e =
    let h : x ≡ y = ty_tree_inj x y (cc) in
    let k : xs ≡ ys = ty_trees_inj xs ys (cc) in cc
ty_trees_inj [] (y ∷ ys) e = cc
ty_trees_inj (x ∷ xs) [] e = cc

-- what decides whether types are equal decides it for their trees
pub ty_decided : (a b : TyTree) (x y : Ty) {P : Type 0} → ty_tree x ≡ a → ty_tree y ≡ b
    → (P → x ≡ y) × (x ≡ y → P) → (P → a ≡ b) × (a ≡ b → P)
ty_decided a b x y ex ey e = (λ p. sym ex ∙ ap ty_tree (e.0 p) ∙ ey, λ q. e.1 (ty_tree_inj x y (ex ∙ q ∙ sym ey)))

pub tys_decided : (ts us : List TyTree) (xs ys : List Ty) {P : Type 0} → ty_trees xs ≡ ts → ty_trees ys ≡ us
    → (P → xs ≡ ys) × (xs ≡ ys → P) → (P → ts ≡ us) × (ts ≡ us → P)
tys_decided ts us xs ys ex ey e = (λ p. sym ex ∙ ap ty_trees (e.0 p) ∙ ey, λ q. e.1 (ty_trees_inj xs ys (ex ∙ q ∙ sym ey)))

pub ty_mass_at : (ts : List Ty) (i : ℕ) (d : Ty) → i < length ts → ty_mass (ty_tree (get_or ts i d)) < parts_weight (ty_trees ts)
ty_mass_at [] i d h = absurd (omega arith)
ty_mass_at (t ∷ ts) zero d h = omega arith
ty_mass_at (t ∷ ts) (suc i) d h = omega (arith, ty_mass_at ts i d (omega arith))

types_left : (ts : List Ty) (i : ℕ) (t : Ty) → i < length ts → t ≡ get_or ts i t
    → ty_trees (drop i ts) ≡ ty_tree t ∷ ty_trees (drop (i + 1) ts)
types_left ts i t h e = ap ty_trees (drop_more ts i t h) ∙ ap (λ (w : Ty). ty_tree w ∷ ty_trees (drop (i + 1) ts)) (sym e)

-- ---- values of types

-- whether what is left has the types that are left
abbrev pub types_from : ℕ → List Ty → List Value → Bool
types_from i types values = have_types (parts_of (ty_trees (drop i types))) (items_of (trees_of (drop i values)))

pub types_step : (types : List Ty) (values : List Value) (i : ℕ) (t : Ty) (v : Value) → i < length types → i < length values
    → t ≡ get_or types i t → v ≡ get_or values i v → types_from i types values ≡ (has_type (ty_tree t) (tree_of v) && types_from (i + 1) types values)
types_step types values i t v ht hv et ev =
    ap (λ (ts : List TyTree). have_types (parts_of ts) (items_of (trees_of (drop i values)))) (types_left types i t ht et)
    ∙ ap (λ (vs : List Tree). have_types (MoreTy (ty_tree t) (parts_of (ty_trees (drop (i + 1) types)))) (items_of vs)) (trees_left values i v hv ev)

and_false : (a b : Bool) → b ≡ false → (a && b) ≡ false
and_false true b h = h
and_false false b h = refl

pub other_lengths : (types : List Ty) (values : List Value) → length types ≢ length values
    → have_types (parts_of (ty_trees types)) (items_of (trees_of values)) ≡ false
other_lengths [] [] h = absurd (h refl)
other_lengths [] (v ∷ vs) h = refl
other_lengths (t ∷ ts) [] h = refl
other_lengths (t ∷ ts) (v ∷ vs) h =
    and_false (has_type (ty_tree t) (tree_of v)) _ (other_lengths ts vs (λ e. h (omega arith)))
