use Rattle.std.proofs.Common.{◌≡◌, drop}
use Rattle.pie_value.specs.Tree.{items_of}
use Rattle.pie_value.specs.Values.{trees_of}
use Rattle.pie_value.specs.Types.{parts_of, ty_mass, part_weight, parts_weight}
use Rattle.pie_value.specs.TypeTrees.{ty_tree, ty_trees}
use Rattle.pie_value.specs.HasType.{all_items, has_type, have_types}
use Rattle.pie_value.proofs.TypeElements.{types_from}
use Rattle.pie_value.proofs.+typing.Given as goal

abbrev pub decreases-value::Value::has_type : goal.decreases-value::Value::has_type
decreases-value::Value::has_type l = ty_mass (ty_tree l.ty.now)

abbrev pub decreases-typing::all_have_type : goal.decreases-typing::all_have_type
decreases-typing::all_have_type l = part_weight l.part.now

abbrev pub decreases-typing::have_types : goal.decreases-typing::have_types
decreases-typing::have_types l = parts_weight (ty_trees l.types.now)

abbrev pub invariant-typing::all_have_type-loop-value : goal.invariant-typing::all_have_type-loop-value
invariant-typing::all_have_type-loop-value l =
    all_items (has_type (ty_tree l.ty)) (items_of (trees_of (drop l.value-index l.values))) ≡ all_items (has_type (ty_tree l.ty)) (items_of (trees_of l.values))

abbrev pub invariant-typing::have_types-loop-i : goal.invariant-typing::have_types-loop-i
invariant-typing::have_types-loop-i l = types_from l.i l.types l.values ≡ have_types (parts_of (ty_trees l.types)) (items_of (trees_of l.values))
