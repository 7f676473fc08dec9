use Rattle.std.proofs.Common.{◌≡◌, length}
use Rattle.pie_order.specs.Places.{PlacesAgree}
use Rattle.bench_leaves.proofs.graphs.insert_all.Given as goal

abbrev pub invariant-loop-i : goal.invariant-loop-i
invariant-loop-i l = PlacesAgree l.rows l.order × (length l.rows ≡ l.count)
