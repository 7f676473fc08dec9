use Rattle.std.proofs.Common.{◌≡◌, ◌+◌, drop}
use Rattle.pie_value.specs.TypeTrees.{ty_trees}
use Rattle.pie_parser.specs.TypeView.{types_of, type_mass, types_mass}
use Rattle.pie_types.specs.Written.{written_each}
use Rattle.pie_types.proofs.Steps.{onto}
use Rattle.pie_types.proofs.written.+written.Given as goal

abbrev pub decreases-written : goal.decreases-written
decreases-written l = type_mass l.ty.now

abbrev pub decreases-written_each : goal.decreases-written_each
decreases-written_each l = types_mass (types_of l.items.now) + 1

abbrev pub invariant-written_each-loop-item : goal.invariant-written_each-loop-item
invariant-written_each-loop-item l = onto (ty_trees l.types.items) (written_each (types_of (drop l.item-index l.items))) ≡ written_each (types_of l.items)
