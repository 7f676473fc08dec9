-- Items weigh more than what they hold.
use Rattle.std.proofs.Common.{ℕ, ◌≤◌, max, List, [], ◌∷◌, arith}
use Rattle.std.specs.Prelude.{Some, None}
use denote.Param.Weighed.{most}
use Rattle.pie_value.specs.declared.value.Value.{Value}
use Rattle.pie_value.specs.declared.value.Value.TheVariants.{Unit as VUnit, Bool as VBool, Int as VInt, Text as VText, Path as VPath}
use Rattle.pie_value.specs.declared.value.Value.TheVariants.{List as VList, Tuple as VTuple, Null as VNull, Bytes as VBytes}
use Rattle.pie_value.specs.declared.value.Items.TheInside.{Inside}
use Rattle.pie_value.specs.declared.value.Items.TheDeep.{deep-Value, deep-Items}
use Rattle.pie_value.specs.Tree.{mass, weight}
use Rattle.pie_value.specs.inner.Shared.{behind}
use Rattle.pie_value.specs.Values.{tree_of, trees_of}

deep_le_mass : (v : Value) → deep-Value v ≤ mass (tree_of v)
deep_le_mass VUnit = omega arith
deep_le_mass (VBool b) = omega arith
deep_le_mass (VInt n) = omega arith
deep_le_mass (VText bs) = omega arith
deep_le_mass (VPath bs) = omega arith
deep_le_mass (VList ts) = omega arith
deep_le_mass (VTuple ts) = omega arith
deep_le_mass VNull = omega arith
deep_le_mass (VBytes bs) = omega arith

most_le_weight : (vs : List Value) → most deep-Value vs ≤ weight (trees_of vs)
most_le_weight [] = omega arith
most_le_weight (v ∷ vs) = omega (arith, deep_le_mass v, most_le_weight vs)

max_zero_le : (n m : ℕ) → n ≤ m → max n 0 ≤ m
max_zero_le n m h = omega arith

-- what stands behind the pointer is no deeper than the items weigh
pub inside_le_weight : (a : Inside) → deep-Items a ≤ weight (behind (λ rc. trees_of rc.value.items) a.values)
inside_le_weight a =
    elim a.values as (λ o. deep-Items (record a { values = o }) ≤ weight (behind (λ rc. trees_of rc.value.items) o))
    [ None ↦ omega arith | Some rc ↦ max_zero_le _ _ (max_zero_le _ _ (most_le_weight rc.value.items)) ]
