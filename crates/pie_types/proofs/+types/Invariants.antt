use Rattle.std.proofs.Common.{◌≡◌, ◌+◌, ◌*◌, drop}
use Rattle.pie_value.specs.TypeTrees.{ty_tree, ty_trees}
use Rattle.pie_parser.specs.TreeView.{trees_of, steps_of, lines_of, last_of, block_of, mass, trees_mass, steps_mass, block_mass, lines_mass, last_mass}
use Rattle.pie_types.specs.Checking.{operands, types_of, more_items, arguments, after_lines}
use Rattle.pie_types.specs.inner.Callees.{callee_tree}
use Rattle.pie_types.proofs.Left.{line_mass}
use Rattle.pie_types.proofs.Steps.{onto}
use Rattle.pie_types.proofs.+types.Given as goal

abbrev pub decreases-expr::type_of : goal.decreases-expr::type_of
decreases-expr::type_of l = 2 * mass l.e.now

abbrev pub decreases-expr::expected : goal.decreases-expr::expected
decreases-expr::expected l = 2 * mass l.e.now + 1

abbrev pub decreases-expr::projection : goal.decreases-expr::projection
decreases-expr::projection l = 2 * mass l.e.now + 1

abbrev pub decreases-expr::tuple : goal.decreases-expr::tuple
decreases-expr::tuple l = 2 * trees_mass (trees_of l.items.now) + 2

abbrev pub decreases-expr::types_of : goal.decreases-expr::types_of
decreases-expr::types_of l = 2 * trees_mass (trees_of l.items.now) + 1

abbrev pub decreases-expr::list : goal.decreases-expr::list
decreases-expr::list l = 2 * trees_mass (trees_of l.items.now) + 3

abbrev pub decreases-expr::list_items : goal.decreases-expr::list_items
decreases-expr::list_items l = 2 * trees_mass (trees_of l.items.now) + 2

abbrev pub decreases-expr::more_items : goal.decreases-expr::more_items
decreases-expr::more_items l = 2 * trees_mass (trees_of l.items.now) + 1

abbrev pub decreases-expr::each : goal.decreases-expr::each
decreases-expr::each l = 2 * (mass l.item.now + mass l.list.now) + 2

abbrev pub decreases-expr::within : goal.decreases-expr::within
decreases-expr::within l = 2 * mass l.e.now + 1

abbrev pub decreases-expr::effect : goal.decreases-expr::effect
decreases-expr::effect l = 2 * mass l.e.now + 2

abbrev pub decreases-expr::write : goal.decreases-expr::write
decreases-expr::write l = 2 * (mass l.path.now + mass l.value.now) + 2

abbrev pub decreases-expr::fail : goal.decreases-expr::fail
decreases-expr::fail l = 2 * mass l.text.now + 2

abbrev pub decreases-chain::chain : goal.decreases-chain::chain
decreases-chain::chain l = 2 * (mass l.first.now + steps_mass (steps_of l.steps.now)) + 2

abbrev pub decreases-chain::operands : goal.decreases-chain::operands
decreases-chain::operands l = 2 * steps_mass (steps_of l.steps.now) + 1

abbrev pub decreases-chain::comparison : goal.decreases-chain::comparison
decreases-chain::comparison l = 2 * (mass l.a.now + mass l.b.now) + 2

abbrev pub decreases-block::alone : goal.decreases-block::alone
decreases-block::alone l = 2 * (mass l.test.now + block_mass (block_of l.then.now)) + 2

abbrev pub decreases-block::choice : goal.decreases-block::choice
decreases-block::choice l = 2 * (mass l.test.now + block_mass (block_of l.then.now) + block_mass (block_of l.otherwise.now)) + 2

abbrev pub decreases-block::expected_block : goal.decreases-block::expected_block
decreases-block::expected_block l = 2 * block_mass (block_of l.block.now) + 1

abbrev pub decreases-block::block_type : goal.decreases-block::block_type
decreases-block::block_type l = 2 * block_mass (block_of l.block.now)

abbrev pub decreases-block::last_type : goal.decreases-block::last_type
decreases-block::last_type l = 2 * last_mass (last_of l.last.now)

abbrev pub decreases-block::after_lines : goal.decreases-block::after_lines
decreases-block::after_lines l = 2 * lines_mass (lines_of l.lines.now) + 1

abbrev pub decreases-block::after_line : goal.decreases-block::after_line
decreases-block::after_line l = 2 * line_mass l.line.now

abbrev pub decreases-block::after_val : goal.decreases-block::after_val
decreases-block::after_val l = 2 * mass l.value.now + 1

abbrev pub decreases-call::call : goal.decreases-call::call
decreases-call::call l = 2 * trees_mass (trees_of l.items.now) + 2

abbrev pub decreases-call::arguments : goal.decreases-call::arguments
decreases-call::arguments l = 2 * trees_mass (trees_of l.items.now) + 1

abbrev pub invariant-expr::types_of-loop-item : goal.invariant-expr::types_of-loop-item
invariant-expr::types_of-loop-item l = record {
  scope : l.scope ≡ l.fn.scope;
  typed : onto (ty_trees l.types.items)
      (types_of l.headings l.scope (trees_of (drop l.item-index l.items))) ≡ types_of l.headings l.scope (trees_of l.items);
}

abbrev pub invariant-expr::more_items-loop-item : goal.invariant-expr::more_items-loop-item
invariant-expr::more_items-loop-item l = record {
  scope : l.scope ≡ l.fn.scope;
  typed : more_items l.headings l.scope (ty_tree l.ty)
      (trees_of (drop l.item-index l.items)) ≡ more_items l.headings l.scope (ty_tree l.ty) (trees_of l.items);
}

abbrev pub invariant-chain::operands-loop-step : goal.invariant-chain::operands-loop-step
invariant-chain::operands-loop-step l = record {
  scope : l.scope ≡ l.fn.scope;
  typed : operands l.headings l.scope (ty_tree l.ty)
      (steps_of (drop l.step-index l.steps)) ≡ operands l.headings l.scope (ty_tree l.ty) (steps_of l.steps);
}

abbrev pub invariant-call::arguments-loop-i : goal.invariant-call::arguments-loop-i
invariant-call::arguments-loop-i l = record {
  scope : l.scope ≡ l.fn.scope;
  typed : onto (ty_trees l.types.items)
      (arguments l.headings l.scope (callee_tree l.callee) l.i (trees_of (drop l.i l.items))) ≡ arguments l.headings l.scope (callee_tree l.callee) 0
      (trees_of l.items);
}

abbrev pub invariant-block::after_lines-loop-line : goal.invariant-block::after_lines-loop-line
invariant-block::after_lines-loop-line l = after_lines l.headings l.scope (lines_of (drop l.line-index l.lines)) ≡ after_lines l.headings l.fn.scope
    (lines_of l.lines)
