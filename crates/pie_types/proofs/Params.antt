-- Arguments against parameters, one after another.
use Rattle.std.proofs.Common.{◌≡◌, ◌≢◌, ℕ, ◌+◌, ◌<◌, Bool, true, false, ◌&&◌, List, [], ◌∷◌, length, get_or, drop, ap, ◌∙◌, refl, arith}
use Rattle.pie_value.specs.Tree.{Tree, items_of}
use Rattle.pie_value.specs.declared.value.Value.{Value}
use Rattle.pie_value.specs.Values.{tree_of, trees_of}
use Rattle.pie_value.specs.Types.{MoreTy, parts_of}
use Rattle.pie_value.specs.TypeTrees.{ty_tree}
use Rattle.pie_value.specs.HasType.{has_type, have_types}
use Rattle.pie_value.proofs.Elements.{trees_left}
use Rattle.pie_types.specs.declared.scope.Bound.{Bound}
use Rattle.pie_types.specs.Scope.{Entry}
use Rattle.pie_types.specs.inner.Shown.{entries_of}
use Rattle.pie_types.specs.Whole.{types_in}
use Rattle.pie_types.proofs.Left.{entries_left}

-- whether what is left has the types of the parameters that are left
abbrev pub fit_from : ℕ → List Bound → List Value → Bool
fit_from i params values = have_types (parts_of (types_in (entries_of (drop i params)))) (items_of (trees_of (drop i values)))

pub fit_turn : (params : List Bound) (values : List Value) (i : ℕ) (b : Bound) (v : Value) → i < length params → i < length values
    → b ≡ get_or params i b → v ≡ get_or values i v → fit_from i params values ≡ (has_type (ty_tree b.ty) (tree_of v) && fit_from (i + 1) params values)
fit_turn params values i b v hp hv ep ev =
    ap (λ (es : List Entry). have_types (parts_of (types_in es)) (items_of (trees_of (drop i values)))) (entries_left params i b hp ep)
    ∙ ap (λ (vs : List Tree). have_types (MoreTy (ty_tree b.ty) (parts_of (types_in (entries_of (drop (i + 1) params))))) (items_of vs))
    (trees_left values i v hv ev)

and_false : (a b : Bool) → b ≡ false → (a && b) ≡ false
and_false true b h = h
and_false false b h = refl

pub other_lengths : (params : List Bound) (values : List Value) → length params ≢ length values
    → have_types (parts_of (types_in (entries_of params))) (items_of (trees_of values)) ≡ false
other_lengths [] [] h = absurd (h refl)
other_lengths [] (v ∷ vs) h = refl
other_lengths (p ∷ ps) [] h = refl
other_lengths (p ∷ ps) (v ∷ vs) h = and_false (has_type (ty_tree p.ty) (tree_of v)) _ (other_lengths ps vs (λ e. h (omega arith)))
