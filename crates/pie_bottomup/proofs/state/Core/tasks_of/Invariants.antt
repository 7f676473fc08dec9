use Rattle.std.proofs.Common.{◌≡◌, ◌++◌, map, drop, Some}
use Rattle.std.specs.Prelude.{All}
use Rattle.pie_value.specs.Canonical.{IsEncodableTask}
use Rattle.pie_graph.specs.Numbers.{numbers}
use Rattle.pie_old.specs.inner.Rows.{tasks_at}
use Rattle.pie_bottomup.proofs.state.Core.tasks_of.Given as goal

abbrev pub invariant-loop-no : goal.invariant-loop-no
invariant-loop-no l =
    All IsEncodableTask l.tasks.items
    × (map Some l.tasks.items ++ tasks_at l.self.tables.names (numbers (drop l.no-index l.cycle)) ≡ tasks_at l.self.tables.names (numbers l.cycle))
