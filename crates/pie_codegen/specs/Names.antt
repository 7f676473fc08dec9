-- The names of parameters, the last one first.
use Rattle.std.specs.Prelude.{ℕ, List, [], ◌∷◌}
use Rattle.pie_parser.specs.declared.tree.Param.{Param}

abbrev pub names_onto : List Param → List (List ℕ) → List (List ℕ)
names_onto [] ns = ns
names_onto (p ∷ ps) ns = names_onto ps (p.name.text ∷ ns)

abbrev pub names_of : List Param → List (List ℕ)
names_of ps = names_onto ps []
