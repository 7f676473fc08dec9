use Rattle.std.proofs.Common.{◌≡◌, take}
use Rattle.pie_value.specs.Types.{ty_mass, parts_weight}
use Rattle.pie_value.specs.TypeTrees.{ty_tree, ty_trees}
use Rattle.pie_value.proofs.+same_types.Given as goal

abbrev pub invariant-typing::same_each-loop-i : goal.invariant-typing::same_each-loop-i
invariant-typing::same_each-loop-i l = take l.i l.a ≡ take l.i l.b

abbrev pub decreases-ty::Ty::same : goal.decreases-ty::Ty::same
decreases-ty::Ty::same l = ty_mass (ty_tree l.self.now)

abbrev pub decreases-typing::same_each : goal.decreases-typing::same_each
decreases-typing::same_each l = parts_weight (ty_trees l.a.now)
