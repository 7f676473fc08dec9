use Rattle.std.proofs.Common.{◌≡◌, take}
use Rattle.pie_value.specs.Tree.{mass, weight}
use Rattle.pie_value.specs.Values.{tree_of, trees_of}
use Rattle.pie_value.proofs.+same.Given as goal

abbrev pub invariant-same::same_values-loop-i : goal.invariant-same::same_values-loop-i
invariant-same::same_values-loop-i l = take l.i l.a ≡ take l.i l.b

abbrev pub decreases-value::Value::same : goal.decreases-value::Value::same
decreases-value::Value::same l = mass (tree_of l.self.now)

abbrev pub decreases-same::same_values : goal.decreases-same::same_values
decreases-same::same_values l = weight (trees_of l.a.now)
