use Rattle.std.proofs.Common.{◌≡◌, ◌+◌, ◌*◌, drop}
use Rattle.pie_parser.specs.TreeView.{trees_of, steps_of, lines_of, last_of, block_of, mass, trees_mass, steps_mass, lines_mass, block_mass, last_mass}
use Rattle.pie_types.proofs.Left.{line_mass}
use Rattle.pie_codegen.specs.Spots.{after_either, after_both, after_steps, after_items, after_args, after_lines}
use Rattle.pie_codegen.proofs.+after.Given as goal

abbrev pub decreases-behind::after : goal.decreases-behind::after
decreases-behind::after l = 2 * mass l.e.now

abbrev pub decreases-behind::after_one : goal.decreases-behind::after_one
decreases-behind::after_one l = 2 * mass l.a.now + 1

abbrev pub decreases-behind::after_two : goal.decreases-behind::after_two
decreases-behind::after_two l = 2 * (mass l.a.now + mass l.b.now) + 2

abbrev pub decreases-behind::after_project : goal.decreases-behind::after_project
decreases-behind::after_project l = 2 * mass l.a.now + 1

abbrev pub decreases-behind::after_list : goal.decreases-behind::after_list
decreases-behind::after_list l = 2 * trees_mass (trees_of l.items.now) + 2

abbrev pub decreases-behind::after_items : goal.decreases-behind::after_items
decreases-behind::after_items l = 2 * trees_mass (trees_of l.items.now) + 1

abbrev pub decreases-behind::after_each : goal.decreases-behind::after_each
decreases-behind::after_each l = 2 * (mass l.item.now + mass l.list.now) + 2

abbrev pub decreases-behind::after_call : goal.decreases-behind::after_call
decreases-behind::after_call l = 2 * trees_mass (trees_of l.items.now) + 2

abbrev pub decreases-behind::after_args : goal.decreases-behind::after_args
decreases-behind::after_args l = 2 * trees_mass (trees_of l.items.now) + 1

abbrev pub decreases-behind::after_fail : goal.decreases-behind::after_fail
decreases-behind::after_fail l = 2 * mass l.text.now + 1

abbrev pub decreases-behind_chain::after_chain : goal.decreases-behind_chain::after_chain
decreases-behind_chain::after_chain l = 2 * (mass l.first.now + steps_mass (steps_of l.steps.now)) + 2

abbrev pub decreases-behind_chain::after_either : goal.decreases-behind_chain::after_either
decreases-behind_chain::after_either l = 2 * steps_mass (steps_of l.steps.now) + 1

abbrev pub decreases-behind_chain::after_both : goal.decreases-behind_chain::after_both
decreases-behind_chain::after_both l = 2 * steps_mass (steps_of l.steps.now) + 1

abbrev pub decreases-behind_chain::after_steps : goal.decreases-behind_chain::after_steps
decreases-behind_chain::after_steps l = 2 * steps_mass (steps_of l.steps.now) + 1

abbrev pub decreases-behind_block::after_alone : goal.decreases-behind_block::after_alone
decreases-behind_block::after_alone l = 2 * (mass l.test.now + block_mass (block_of l.then.now)) + 3

abbrev pub decreases-behind_block::after_choice : goal.decreases-behind_block::after_choice
decreases-behind_block::after_choice l = 2 * (mass l.test.now + block_mass (block_of l.then.now) + block_mass (block_of l.other.now)) + 3

abbrev pub decreases-behind_block::after_then : goal.decreases-behind_block::after_then
decreases-behind_block::after_then l = 2 * (mass l.test.now + block_mass (block_of l.then.now)) + 2

abbrev pub decreases-behind_block::after_block : goal.decreases-behind_block::after_block
decreases-behind_block::after_block l = 2 * block_mass (block_of l.block.now)

abbrev pub decreases-behind_block::after_lines : goal.decreases-behind_block::after_lines
decreases-behind_block::after_lines l = 2 * lines_mass (lines_of l.lines.now) + 1

abbrev pub decreases-behind_block::after_line : goal.decreases-behind_block::after_line
decreases-behind_block::after_line l = 2 * line_mass l.line.now

abbrev pub decreases-behind_block::after_last : goal.decreases-behind_block::after_last
decreases-behind_block::after_last l = 2 * last_mass (last_of l.last.now)

abbrev pub invariant-behind::after_items-loop-item : goal.invariant-behind::after_items-loop-item
invariant-behind::after_items-loop-item l = after_items (trees_of (drop l.item-index l.items)) l.spot ≡ after_items (trees_of l.items) l.fn.spot

abbrev pub invariant-behind::after_args-loop-item : goal.invariant-behind::after_args-loop-item
invariant-behind::after_args-loop-item l = after_args (trees_of (drop l.item-index l.items)) l.spot ≡ after_args (trees_of l.items) l.fn.spot

abbrev pub invariant-behind_chain::after_either-loop-step : goal.invariant-behind_chain::after_either-loop-step
invariant-behind_chain::after_either-loop-step l = after_either (steps_of (drop l.step-index l.steps)) l.spot ≡ after_either (steps_of l.steps) l.fn.spot

abbrev pub invariant-behind_chain::after_both-loop-step : goal.invariant-behind_chain::after_both-loop-step
invariant-behind_chain::after_both-loop-step l = after_both (steps_of (drop l.step-index l.steps)) l.spot ≡ after_both (steps_of l.steps) l.fn.spot

abbrev pub invariant-behind_chain::after_steps-loop-step : goal.invariant-behind_chain::after_steps-loop-step
invariant-behind_chain::after_steps-loop-step l = after_steps (steps_of (drop l.step-index l.steps)) l.spot ≡ after_steps (steps_of l.steps) l.fn.spot

abbrev pub invariant-behind_block::after_lines-loop-line : goal.invariant-behind_block::after_lines-loop-line
invariant-behind_block::after_lines-loop-line l = after_lines (lines_of (drop l.line-index l.lines)) l.spot ≡ after_lines (lines_of l.lines) l.fn.spot
