-- The plain tree of a type.
use Rattle.std.specs.Prelude.{ℕ, ◌+◌, List, [], ◌∷◌}
use Rattle.pie_parser.specs.PlainTypes.{TypeTree, PlainT, NamedT, ListT, TupleT, NullableT, TypeTrees, NilT, ConsT}
use Rattle.pie_parser.specs.declared.type_tree.TypeForm.{TypeForm}
use Rattle.pie_parser.specs.declared.type_tree.TypeForm.TheVariants as forms

-- a list of types as one tree
abbrev pub types_of : List TypeTree → TypeTrees
types_of [] = NilT
types_of (t ∷ ts) = ConsT t (types_of ts)

-- the tree of a type at these places
abbrev pub type_tree_of : ℕ → ℕ → TypeForm → TypeTree
type_tree_of i j (forms.Plain p) = PlainT i j p
type_tree_of i j (forms.Named n) = NamedT i j n
type_tree_of i j (forms.List t) = ListT i j t.value
type_tree_of i j (forms.Tuple ts) = TupleT i j (types_of ts.items)
type_tree_of i j (forms.Nullable t) = NullableT i j t.value

-- how many nodes a type has
abbrev mutual
  pub type_mass : TypeTree → ℕ
  type_mass (PlainT i j p) = 1
  type_mass (NamedT i j n) = 1
  type_mass (ListT i j t) = type_mass t + 2
  type_mass (TupleT i j ts) = types_mass ts + 2
  type_mass (NullableT i j t) = type_mass t + 2

  pub types_mass : TypeTrees → ℕ
  types_mass NilT = 0
  types_mass (ConsT t ts) = type_mass t + types_mass ts + 1
