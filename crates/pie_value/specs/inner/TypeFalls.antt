-- A type weighs more than its parts.
use Rattle.std.proofs.Common.{ℕ, ◌≤◌, max, List, [], ◌∷◌, arith}
use denote.Param.Weighed.{most}
use Rattle.pie_value.specs.declared.ty.Ty.{Ty}
use Rattle.pie_value.specs.declared.ty.Ty.TheVariants.{Unit as VUnit, Bool as VBool, Int as VInt, Text as VText, Path as VPath}
use Rattle.pie_value.specs.declared.ty.Ty.TheVariants.{List as VList, Tuple as VTuple, Nullable as VNullable, Bytes as VBytes}
use Rattle.pie_value.specs.declared.ty.Part.TheInside as part
use Rattle.pie_value.specs.declared.ty.Parts.TheInside as parts
use Rattle.pie_value.specs.declared.ty.Part.TheDeep.{deep-Ty, deep-Part, deep-Parts}
use Rattle.pie_value.specs.Types.{ty_mass, part_weight, parts_weight}
use Rattle.pie_value.specs.TypeTrees.{ty_tree, ty_trees}

deep_le_mass : (t : Ty) → deep-Ty t ≤ ty_mass (ty_tree t)
deep_le_mass VUnit = omega arith
deep_le_mass VBool = omega arith
deep_le_mass VInt = omega arith
deep_le_mass VText = omega arith
deep_le_mass VPath = omega arith
deep_le_mass (VList t) = omega arith
deep_le_mass (VTuple ts) = omega arith
deep_le_mass (VNullable t) = omega arith
deep_le_mass VBytes = omega arith

most_le_weight : (ts : List Ty) → most deep-Ty ts ≤ parts_weight (ty_trees ts)
most_le_weight [] = omega arith
most_le_weight (t ∷ ts) = omega (arith, deep_le_mass t, most_le_weight ts)

max_zero_le : (n m : ℕ) → n ≤ m → max n 0 ≤ m
max_zero_le n m h = omega arith

-- what stands behind the pointer is no deeper than the part weighs
pub part_le_weight : (a : part.Inside) → deep-Part a ≤ part_weight (ty_tree a.ty.value)
part_le_weight a = max_zero_le _ _ (omega (arith, deep_le_mass a.ty.value))

-- what stands behind the pointer is no deeper than the parts weigh
pub parts_le_weight : (a : parts.Inside) → deep-Parts a ≤ parts_weight (ty_trees a.types.value.items)
parts_le_weight a = max_zero_le _ _ (most_le_weight a.types.value.items)
