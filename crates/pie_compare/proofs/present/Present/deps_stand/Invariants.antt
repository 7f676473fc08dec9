use Rattle.std.proofs.Common.{[], length, drop}
use Rattle.std.specs.Prelude.{◌↔◌}
use Rattle.pie_graph.specs.Numbers.{numbers, AllBelow}
use Rattle.pie_compare.specs.inner.Here.{around}
use Rattle.pie_compare.specs.inner.Standing.{DepsStand}
use Rattle.pie_compare.proofs.present.Present.deps_stand.Given as goal

-- the required tasks have rows, and all observations stand exactly where the others do after these
abbrev pub invariant-loop-dep : goal.invariant-loop-dep
invariant-loop-dep g l =
    let rows = g.R.TaskRows.rows l.self.rows.now in
    AllBelow (length rows) (numbers l.required.items)
    × (DepsStand (around rows l.self) [] l.deps
    ↔ DepsStand (around rows l.self) (numbers l.required.items) (drop l.dep-index l.deps))
