use Rattle.std.proofs.Common.{arith}
use Rattle.pie_codegen.proofs.Rests.{args_turn, both_turn, either_turn, line_mass_at, step_mass_at, tree_mass_at}
use Rattle.pie_codegen.proofs.Scoped.{oldest_one}
use Rattle.pie_codegen.proofs.Turns.{args_code_turn, both_code_turn, either_code_turn, line_deepens, line_keeps}
use Rattle.pie_codegen.proofs.Turns.{lines_code_turn, lines_spot_turn, lines_texts_turn, steps_texts_turn, trees_texts_turn}
use Rattle.pie_codegen.proofs.emitter.Emitter.+emit.Goals as goal

pub either_operands-either_operand-requires : goal.either_operands-either_operand-requires
either_operands-either_operand-requires t c = grind (arith, step_mass_at)

pub either_operands-loop-step-preserved : goal.either_operands-loop-step-preserved
either_operands-loop-step-preserved t c = grind (arith, either_turn, either_code_turn, steps_texts_turn)

pub both_operands-both_operand-requires : goal.both_operands-both_operand-requires
both_operands-both_operand-requires t c = grind (arith, step_mass_at)

pub both_operands-loop-step-preserved : goal.both_operands-loop-step-preserved
both_operands-loop-step-preserved t c = grind (arith, both_turn, both_code_turn, steps_texts_turn)

pub steps-expr-requires : goal.steps-expr-requires
steps-expr-requires t c = grind (arith, step_mass_at)

pub items-expr-requires : goal.items-expr-requires
items-expr-requires t c = grind (arith, tree_mass_at)

pub arguments-expr-requires : goal.arguments-expr-requires
arguments-expr-requires t c = grind (arith, tree_mass_at)

pub arguments-loop-item-preserved : goal.arguments-loop-item-preserved
arguments-loop-item-preserved t c = grind (arith, args_turn, args_code_turn, trees_texts_turn)

pub block-line-requires : goal.block-line-requires
block-line-requires t c = grind (arith, line_mass_at)

pub block-loop-line-preserved : goal.block-loop-line-preserved
block-loop-line-preserved t c = grind (arith, lines_code_turn, lines_texts_turn, lines_spot_turn, line_keeps, line_deepens)

pub within-returns-clause-added : goal.within-returns-clause-added
within-returns-clause-added t c = grind (arith, oldest_one)
