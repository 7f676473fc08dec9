use Rattle.std.proofs.Common.{◌≡◌, drop}
use Rattle.pie_value.specs.TypeTrees.{ty_tree}
use Rattle.pie_types.specs.Operators.{later_items}
use Rattle.pie_types.proofs.part.later_items.Given as goal

abbrev pub invariant-loop-index : goal.invariant-loop-index
invariant-loop-index l = later_items (ty_tree l.ty) (drop l.index-index l.indices) ≡ later_items (ty_tree l.fn.ty) l.indices
