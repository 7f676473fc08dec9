-- The names in scope as the emitter keeps them.
use Rattle.std.specs.Prelude.{ℕ, ◌-◌, List, map, reverse, length, drop}
use base.Stored.{Coded, coded_ℕ, coded_list, coded×}
use Rattle.pie_codegen.specs.declared.scope.Bound.{Bound}
use Rattle.pie_codegen.specs.Compiled.{Scope}

-- a name with its slot
abbrev pub entry_of : Bound → List ℕ × ℕ
entry_of b = (b.name, b.slot)

-- names in the order in which they came, as a scope
abbrev pub as_scope : List Bound → Scope
as_scope bs = reverse (map entry_of bs)

abbrev pub coded_scope : Coded Scope
coded_scope = coded_list (coded× (coded_list coded_ℕ) coded_ℕ)

-- the names that came first, so many
abbrev pub oldest : ℕ → Scope → Scope
oldest n sc = drop (length sc - n) sc
