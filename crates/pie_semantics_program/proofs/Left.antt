-- What is left of the names in scope from a place on: the name there, and the rest.
use Rattle.std.proofs.Common.{◌≡◌, ℕ, ◌+◌, ◌<◌, List, ◌∷◌, length, get_or, drop, ap}
use Rattle.pie_types.proofs.Left.{list_left}
use Rattle.pie_semantics_program.specs.declared.names.Bound.{Bound}
use Rattle.pie_semantics_program.specs.Bindings.{binding_of, env_of}

pub env_left : (bs : List Bound) (i : ℕ) (b : Bound) → i < length bs → b ≡ get_or bs i b
    → env_of (drop i bs) ≡ binding_of b ∷ env_of (drop (i + 1) bs)
env_left bs i b h e = ap env_of (list_left bs i b h e)
