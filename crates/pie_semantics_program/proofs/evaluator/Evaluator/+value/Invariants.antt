-- Each form weighs more than its parts; in a loop, what the parts that are left give is what all give.
use Rattle.std.proofs.Common.{◌≡◌, ◌+◌, ◌*◌, ◌∷◌, [], drop, reverse}
use Rattle.pie_value.specs.Tree.{items_of, TList, Nil}
use Rattle.pie_value.specs.Values.{tree_of, trees_of as all_of}
use Rattle.pie_parser.specs.TreeView.{trees_of, steps_of, lines_of, last_of, block_of, mass, trees_mass, steps_mass, lines_mass, block_mass, last_mass}
use Rattle.pie_semantics.specs.Meaning.{value_of, either_value, both_value, steps_value, items_onto, values_of, turns}
use Rattle.pie_semantics_program.specs.Grown.{grow_of, empty_of}
use Rattle.pie_semantics_program.specs.Lines.{behind_lines}
use Rattle.pie_types.proofs.Left.{line_mass}
use Rattle.pie_semantics_program.proofs.evaluator.Evaluator.+value.Given as goal

abbrev pub decreases-value : goal.decreases-value
decreases-value l = 4 * mass l.e.now

abbrev pub decreases-compare : goal.decreases-compare
decreases-compare l = 4 * (mass l.a.now + mass l.b.now) + 4

abbrev pub decreases-prefixed : goal.decreases-prefixed
decreases-prefixed l = 4 * mass l.a.now + 4

abbrev pub decreases-project : goal.decreases-project
decreases-project l = 4 * mass l.a.now + 4

abbrev pub decreases-chain : goal.decreases-chain
decreases-chain l = 4 * (mass l.first.now + steps_mass (steps_of l.steps.now)) + 4

abbrev pub decreases-either : goal.decreases-either
decreases-either l = 4 * steps_mass (steps_of l.steps.now) + 3

abbrev pub decreases-both : goal.decreases-both
decreases-both l = 4 * steps_mass (steps_of l.steps.now) + 3

abbrev pub decreases-steps : goal.decreases-steps
decreases-steps l = 4 * steps_mass (steps_of l.steps.now) + 3

abbrev pub decreases-items : goal.decreases-items
decreases-items l = 4 * trees_mass (trees_of l.items.now) + 4

abbrev pub decreases-items_onto : goal.decreases-items_onto
decreases-items_onto l = 4 * trees_mass (trees_of l.items.now) + 3

abbrev pub decreases-each : goal.decreases-each
decreases-each l = 4 * (mass l.item.now + mass l.list.now) + 4

abbrev pub decreases-turns : goal.decreases-turns
decreases-turns l = 4 * mass l.item.now + 3

abbrev pub decreases-within : goal.decreases-within
decreases-within l = 4 * mass l.e.now + 1

abbrev pub decreases-alone : goal.decreases-alone
decreases-alone l = 4 * (mass l.test.now + block_mass (block_of l.then.now)) + 4

abbrev pub decreases-choice : goal.decreases-choice
decreases-choice l = 4 * (mass l.test.now + block_mass (block_of l.then.now) + block_mass (block_of l.other.now)) + 4

abbrev pub decreases-block : goal.decreases-block
decreases-block l = 4 * block_mass (block_of l.block.now)

abbrev pub decreases-lines : goal.decreases-lines
decreases-lines l = 4 * lines_mass (lines_of l.lines.now) + 1

abbrev pub decreases-line : goal.decreases-line
decreases-line l = 4 * line_mass l.line.now

abbrev pub decreases-last : goal.decreases-last
decreases-last l = 4 * last_mass (last_of l.last.now)

abbrev pub decreases-call : goal.decreases-call
decreases-call l = 4 * trees_mass (trees_of l.items.now) + 4

abbrev pub decreases-arguments : goal.decreases-arguments
decreases-arguments l = 4 * trees_mass (trees_of l.items.now) + 3

abbrev pub decreases-effect : goal.decreases-effect
decreases-effect l = 4 * mass l.a.now + 4

abbrev pub decreases-write : goal.decreases-write
decreases-write l = 4 * (mass l.path.now + mass l.content.now) + 4

abbrev pub decreases-fail : goal.decreases-fail
decreases-fail l = 4 * mass l.text.now + 4

abbrev pub invariant-either-loop-step : goal.invariant-either-loop-step
invariant-either-loop-step l = either_value (steps_of (drop l.step-index l.steps)) l.names (tree_of l.value) l.self
    ≡ either_value (steps_of l.steps) l.names (tree_of l.fn.value) l.fn.self

abbrev pub invariant-both-loop-step : goal.invariant-both-loop-step
invariant-both-loop-step l = both_value (steps_of (drop l.step-index l.steps)) l.names (tree_of l.value) l.self
    ≡ both_value (steps_of l.steps) l.names (tree_of l.fn.value) l.fn.self

abbrev pub invariant-steps-loop-step : goal.invariant-steps-loop-step
invariant-steps-loop-step l = steps_value (steps_of (drop l.step-index l.steps)) l.names (tree_of l.value) l.self
    ≡ steps_value (steps_of l.steps) l.names (tree_of l.fn.value) l.fn.self

abbrev pub invariant-items_onto-loop-item : goal.invariant-items_onto-loop-item
invariant-items_onto-loop-item l = items_onto (grow_of l.shape) (trees_of (drop l.item-index l.items)) l.names (tree_of l.all) l.self
    ≡ items_onto (grow_of l.shape) (trees_of l.items) l.names (empty_of l.shape) l.fn.self

abbrev pub invariant-turns-loop-value : goal.invariant-turns-loop-value
invariant-turns-loop-value l = turns (λ w. value_of l.item ((l.name, w) ∷ l.names)) (items_of (all_of (drop l.value-index l.values))) (tree_of l.all) l.self
    ≡ turns (λ w. value_of l.item ((l.name, w) ∷ l.names)) (items_of (all_of l.values)) (TList Nil) l.fn.self

abbrev pub invariant-lines-loop-line : goal.invariant-lines-loop-line
invariant-lines-loop-line l = behind_lines (lines_of (drop l.line-index l.lines)) l.inner l.self ≡ behind_lines (lines_of l.lines) l.names l.fn.self

abbrev pub invariant-arguments-loop-item : goal.invariant-arguments-loop-item
invariant-arguments-loop-item l = values_of (trees_of (drop l.item-index l.items)) l.names (reverse l.args) l.self
    ≡ values_of (trees_of l.items) l.names [] l.fn.self
