use Rattle.std.proofs.Common.{◌≡◌, ◌++◌, drop, map, Some}
use Rattle.std.specs.Prelude.{All, Contains}
use Rattle.pie_store.specs.inner.Ties.{named_by, needs_in}
use Rattle.pie_old.proofs.tying.needs_of.Given as goal

abbrev pub invariant-loop-dep : goal.invariant-loop-dep
invariant-loop-dep l =
    (named_by l.names l.needs.items ++ map Some (needs_in (drop l.dep-index l.deps)) ≡ map Some (needs_in l.deps))
    × All (Contains l.names) (needs_in (drop l.dep-index l.deps))
