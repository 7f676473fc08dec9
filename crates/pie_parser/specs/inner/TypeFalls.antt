-- Each part of a type is smaller than the type.
use Rattle.std.specs.Prelude.{ℕ, ◌+◌, ◌≤◌, max, List, [], ◌∷◌}
use Rattle.std.proofs.Common.{arith}
use denote.Param.Weighed.{most}
use Rattle.pie_parser.specs.PlainTypes.{TypeTree}
use Rattle.pie_parser.specs.declared.type_tree.TypeForm.{TypeForm}
use Rattle.pie_parser.specs.declared.type_tree.TypeForm.TheVariants as forms
use Rattle.pie_parser.specs.declared.type_tree.Type.TheDeep.{deep-TypeForm}
use Rattle.pie_parser.specs.TypeView.{types_of, type_tree_of, type_mass, types_mass}

most_types : (ts : List TypeTree) → most (λ t. type_mass t + 1) ts ≤ types_mass (types_of ts) + 1
most_types [] = omega arith
most_types (t ∷ ts) = omega (arith, most_types ts)

pub type_deep_le : (i j : ℕ) (f : TypeForm) → max (deep-TypeForm f) 0 ≤ type_mass (type_tree_of i j f)
type_deep_le i j (forms.Plain p) = omega arith
type_deep_le i j (forms.Named n) = omega arith
type_deep_le i j (forms.List t) = omega arith
type_deep_le i j (forms.Tuple ts) = omega (arith, most_types ts.items)
type_deep_le i j (forms.Nullable t) = omega arith
