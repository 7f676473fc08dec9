use Rattle.std.proofs.Common.{◌≡◌, ◌||◌, ℕ, List, drop}
use Rattle.std.specs.List.{list_any}
use Rattle.std.specs.Str.{bytes_eq}
use Rattle.pie_store.specs.inner.Known.{set_has}
use Rattle.pie_storable.proofs.known.names_of.Given as goal

abbrev pub invariant-loop-name : goal.invariant-loop-name
invariant-loop-name l =
    (name : List ℕ) → (set_has l.names name || list_any (λ (f : List ℕ × List ℕ). bytes_eq name f.0) (drop l.name-index l.funcs))
    ≡ list_any (λ (f : List ℕ × List ℕ). bytes_eq name f.0) l.funcs
