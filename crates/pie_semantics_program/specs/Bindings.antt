-- The names in scope as the evaluator keeps them.
use Rattle.std.specs.Prelude.{ℕ, List, map}
use Rattle.pie_value.specs.Tree.{Tree}
use Rattle.pie_value.specs.Values.{tree_of}
use Rattle.pie_semantics.specs.Words.{Env}
use Rattle.pie_semantics_program.specs.declared.names.Bound.{Bound}

-- a name with its value
abbrev pub binding_of : Bound → List ℕ × Tree
binding_of b = (b.name, tree_of b.value)

-- names with their values
abbrev pub env_of : List Bound → Env
env_of bs = map binding_of bs
