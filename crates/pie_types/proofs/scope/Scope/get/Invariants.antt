use Rattle.std.proofs.Common.{◌≡◌, drop}
use Rattle.pie_types.specs.Scope.{type_in}
use Rattle.pie_types.specs.inner.Shown.{entries_of}
use Rattle.pie_types.proofs.scope.Scope.get.Given as goal

abbrev pub invariant-loop-bound : goal.invariant-loop-bound
invariant-loop-bound l = type_in l.name (entries_of (drop l.bound-index l.bound-items)) ≡ type_in l.name l.self
