use Rattle.std.proofs.Common.{◌+◌, length}
use Rattle.pie_graph.specs.Numbers.{numbers}
use Rattle.pie_reach.specs.inner.Walks.{Walking, unmarked}
use Rattle.pie_graph.specs.Rows.{Calls}
use Rattle.pie_view.proofs.reached.reached.Given as goal

abbrev pub invariant-loop-alloc : goal.invariant-loop-alloc
invariant-loop-alloc g l =
    let rows = g.R.TaskRows.rows l.rows in
    Walking (length rows) (Calls rows) (numbers l.required) l.walk

abbrev pub decreases-loop-alloc : goal.decreases-loop-alloc
decreases-loop-alloc g l = unmarked l.walk.marks + length l.walk.work
