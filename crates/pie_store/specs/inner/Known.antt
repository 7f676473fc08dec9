-- Which names a set of names has.
use Rattle.std.specs.Prelude.{ℕ, Bool, true, List, Option, Some, None}
use Rattle.std.proofs.Common.{Vec, Global}
use Rattle.std.specs.List.{list_any}
use Rattle.std.specs.Str.{bytes_eq}
use Rattle.indexmap.specs.IndexSet.{IndexSet}
use Rattle.pie_store.specs.declared.known.Known.{Known}

-- a name is in the set
abbrev pub set_has : {S : Type 0} → IndexSet (Vec ℕ Global) S → List ℕ → Bool
set_has s name = list_any (λ (k : Vec ℕ Global). bytes_eq name k.items) s.keys

abbrev pub in_names : {S : Type 0} → Option (IndexSet (Vec ℕ Global) S) → List ℕ → Bool
in_names None name = true
in_names (Some s) name = set_has s name

-- a name is known
abbrev pub known_in : Known → List ℕ → Bool
known_in k name = in_names k.names name
