-- Each form weighs more than its parts; in a loop, what is emitted and the parts that are left make up the whole.
use Rattle.std.proofs.Common.{◌≡◌, ◌≤◌, ◌+◌, ◌*◌, ◌++◌, length, drop}
use Rattle.pie_parser.specs.TreeView.{trees_of, steps_of, lines_of, last_of, block_of, mass, trees_mass, steps_mass, block_mass, last_mass}
use Rattle.pie_types.proofs.Left.{line_mass}
use Rattle.pie_codegen.specs.Spots.{after_either, after_both, after_steps, after_items, after_args, after_lines}
use Rattle.pie_codegen.specs.Texts.{steps_texts, trees_texts, lines_texts}
use Rattle.pie_codegen.specs.Compiled.{either_code, both_code, steps_code, items_code, args_code, lines_code, last_code}
use Rattle.pie_codegen.specs.Scopes.{oldest}
use Rattle.pie_codegen.proofs.emitter.Emitter.+emit.Given as goal

abbrev pub decreases-expr : goal.decreases-expr
decreases-expr l = 4 * mass l.e.now

abbrev pub decreases-compare : goal.decreases-compare
decreases-compare l = 4 * (mass l.a.now + mass l.b.now) + 4

abbrev pub decreases-write : goal.decreases-write
decreases-write l = 4 * (mass l.path.now + mass l.value.now) + 4

abbrev pub decreases-prefixed : goal.decreases-prefixed
decreases-prefixed l = 4 * mass l.a.now + 4

abbrev pub decreases-effect : goal.decreases-effect
decreases-effect l = 4 * mass l.a.now + 4

abbrev pub decreases-fail : goal.decreases-fail
decreases-fail l = 4 * mass l.text.now + 4

abbrev pub decreases-project : goal.decreases-project
decreases-project l = 4 * mass l.a.now + 4

abbrev pub decreases-tuple : goal.decreases-tuple
decreases-tuple l = 4 * trees_mass (trees_of l.items.now) + 4

abbrev pub decreases-list : goal.decreases-list
decreases-list l = 4 * trees_mass (trees_of l.items.now) + 4

abbrev pub decreases-items : goal.decreases-items
decreases-items l = 4 * trees_mass (trees_of l.items.now) + 3

abbrev pub decreases-call : goal.decreases-call
decreases-call l = 4 * trees_mass (trees_of l.items.now) + 4

abbrev pub decreases-arguments : goal.decreases-arguments
decreases-arguments l = 4 * trees_mass (trees_of l.items.now) + 3

abbrev pub decreases-chain : goal.decreases-chain
decreases-chain l = 4 * (mass l.first.now + steps_mass (steps_of l.steps.now)) + 4

abbrev pub decreases-either : goal.decreases-either
decreases-either l = 4 * steps_mass (steps_of l.steps.now) + 3

abbrev pub decreases-both : goal.decreases-both
decreases-both l = 4 * steps_mass (steps_of l.steps.now) + 3

abbrev pub decreases-either_operands : goal.decreases-either_operands
decreases-either_operands l = 4 * steps_mass (steps_of l.steps.now) + 2

abbrev pub decreases-both_operands : goal.decreases-both_operands
decreases-both_operands l = 4 * steps_mass (steps_of l.steps.now) + 2

abbrev pub decreases-either_operand : goal.decreases-either_operand
decreases-either_operand l = 4 * mass l.e.now + 1

abbrev pub decreases-both_operand : goal.decreases-both_operand
decreases-both_operand l = 4 * mass l.e.now + 1

abbrev pub decreases-steps : goal.decreases-steps
decreases-steps l = 4 * steps_mass (steps_of l.steps.now) + 2

abbrev pub decreases-each : goal.decreases-each
decreases-each l = 4 * (mass l.item.now + mass l.list.now) + 5

abbrev pub decreases-loop_turn : goal.decreases-loop_turn
decreases-loop_turn l = 4 * mass l.item.now + 4

abbrev pub decreases-within : goal.decreases-within
decreases-within l = 4 * mass l.e.now + 1

abbrev pub decreases-alone : goal.decreases-alone
decreases-alone l = 4 * (mass l.test.now + block_mass (block_of l.then.now)) + 6

abbrev pub decreases-choice : goal.decreases-choice
decreases-choice l = 4 * (mass l.test.now + block_mass (block_of l.then.now) + block_mass (block_of l.other.now)) + 6

abbrev pub decreases-tested : goal.decreases-tested
decreases-tested l = 4 * (mass l.test.now + block_mass (block_of l.then.now)) + 5

abbrev pub decreases-block : goal.decreases-block
decreases-block l = 4 * block_mass (block_of l.block.now)

abbrev pub decreases-line : goal.decreases-line
decreases-line l = 4 * line_mass l.line.now + 1

abbrev pub decreases-val : goal.decreases-val
decreases-val l = 4 * mass l.value.now + 2

abbrev pub decreases-dropped : goal.decreases-dropped
decreases-dropped l = 4 * mass l.value.now + 2

abbrev pub decreases-last : goal.decreases-last
decreases-last l = 4 * last_mass (last_of l.last.now)

abbrev pub invariant-items-loop-item : goal.invariant-items-loop-item
invariant-items-loop-item l = record {
  spot : after_items (trees_of (drop l.item-index l.items)) l.spot ≡ after_items (trees_of l.items) l.fn.spot;
  code : l.self.code.items ++ items_code l.grow (trees_of (drop l.item-index l.items)) l.spot l.mark l.self.names ≡ l.fn.self.code.items
      ++ items_code l.grow (trees_of l.items) l.fn.spot l.mark l.fn.self.names;
  texts : l.self.texts.items ++ trees_texts (trees_of (drop l.item-index l.items)) ≡ l.fn.self.texts.items ++ trees_texts (trees_of l.items);
  names : l.self.names ≡ l.fn.self.names;
}

abbrev pub invariant-arguments-loop-item : goal.invariant-arguments-loop-item
invariant-arguments-loop-item l = record {
  spot : after_args (trees_of (drop l.item-index l.items)) l.spot ≡ after_args (trees_of l.items) l.fn.spot;
  code : l.self.code.items ++ args_code (trees_of (drop l.item-index l.items)) l.spot l.mark l.self.names ≡ l.fn.self.code.items
      ++ args_code (trees_of l.items) l.fn.spot l.mark l.fn.self.names;
  texts : l.self.texts.items ++ trees_texts (trees_of (drop l.item-index l.items)) ≡ l.fn.self.texts.items ++ trees_texts (trees_of l.items);
  names : l.self.names ≡ l.fn.self.names;
}

abbrev pub invariant-either_operands-loop-step : goal.invariant-either_operands-loop-step
invariant-either_operands-loop-step l = record {
  spot : after_either (steps_of (drop l.step-index l.steps)) l.spot ≡ after_either (steps_of l.steps) l.fn.spot;
  code : l.self.code.items ++ either_code (steps_of (drop l.step-index l.steps)) l.spot l.fn.to.at l.mark l.self.names ≡ l.fn.self.code.items
      ++ either_code (steps_of l.steps) l.fn.spot l.fn.to.at l.mark l.fn.self.names;
  texts : l.self.texts.items ++ steps_texts (steps_of (drop l.step-index l.steps)) ≡ l.fn.self.texts.items ++ steps_texts (steps_of l.steps);
  names : l.self.names ≡ l.fn.self.names;
}

abbrev pub invariant-both_operands-loop-step : goal.invariant-both_operands-loop-step
invariant-both_operands-loop-step l = record {
  spot : after_both (steps_of (drop l.step-index l.steps)) l.spot ≡ after_both (steps_of l.steps) l.fn.spot;
  code : l.self.code.items ++ both_code (steps_of (drop l.step-index l.steps)) l.spot l.fn.to.at l.mark l.self.names ≡ l.fn.self.code.items
      ++ both_code (steps_of l.steps) l.fn.spot l.fn.to.at l.mark l.fn.self.names;
  texts : l.self.texts.items ++ steps_texts (steps_of (drop l.step-index l.steps)) ≡ l.fn.self.texts.items ++ steps_texts (steps_of l.steps);
  names : l.self.names ≡ l.fn.self.names;
}

abbrev pub invariant-steps-loop-step : goal.invariant-steps-loop-step
invariant-steps-loop-step l = record {
  spot : after_steps (steps_of (drop l.step-index l.steps)) l.spot ≡ after_steps (steps_of l.steps) l.fn.spot;
  code : l.self.code.items ++ steps_code (steps_of (drop l.step-index l.steps)) l.spot l.mark l.self.names ≡ l.fn.self.code.items
      ++ steps_code (steps_of l.steps) l.fn.spot l.mark l.fn.self.names;
  texts : l.self.texts.items ++ steps_texts (steps_of (drop l.step-index l.steps)) ≡ l.fn.self.texts.items ++ steps_texts (steps_of l.steps);
  names : l.self.names ≡ l.fn.self.names;
}

abbrev pub invariant-block-loop-line : goal.invariant-block-loop-line
invariant-block-loop-line l = record {
  spot : after_lines (lines_of (drop l.line-index l.lines)) l.place.spot ≡ after_lines (lines_of l.lines) l.fn.spot;
  code : l.self.code.items ++ lines_code (lines_of (drop l.line-index l.lines)) l.place.spot l.place.mark l.self.names (last_code (last_of l.block.last))
      ≡ l.fn.self.code.items ++ lines_code (lines_of l.lines) l.fn.spot l.fn.mark l.fn.self.names (last_code (last_of l.block.last));
  texts : l.self.texts.items ++ lines_texts (lines_of (drop l.line-index l.lines)) ≡ l.fn.self.texts.items ++ lines_texts (lines_of l.lines);
  kept : oldest (length l.fn.self.names) l.self.names ≡ l.fn.self.names;
  deep : length l.fn.self.names ≤ length l.self.names;
}
