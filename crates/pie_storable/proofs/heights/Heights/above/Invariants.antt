use Rattle.std.proofs.Common.{◌≡◌, drop, take}
use Rattle.std.specs.Prelude.{All}
use Rattle.pie_record.specs.declared.dep.Dep.{Dep}
use Rattle.pie_store.specs.Ranks.{Ranked, above, IsStoredOn}
use Rattle.pie_storable.specs.inner.Heights.{AreHeights}
use Rattle.pie_storable.proofs.heights.Heights.above.Given as goal

abbrev pub invariant-loop-dep : goal.invariant-loop-dep
invariant-loop-dep l =
    ((rows : Ranked) → AreHeights rows l.self → above rows (drop l.dep-index l.deps) l.height ≡ above rows l.deps 0)
    × All (λ (d : Dep). IsStoredOn d.what) (take l.dep-index l.deps)
