use Rattle.std.proofs.Common.{arith}
use Rattle.pie_codegen.proofs.Rests.{args_turn, both_turn, either_turn, items_turn, line_mass_at, lines_turn, step_mass_at, steps_turn, tree_mass_at}
use Rattle.pie_codegen.proofs.+after.Goals as goal

pub behind::after_items-after-requires : goal.behind::after_items-after-requires
behind::after_items-after-requires t c = grind (arith, tree_mass_at)

pub behind::after_items-loop-item-preserved : goal.behind::after_items-loop-item-preserved
behind::after_items-loop-item-preserved t c = grind (arith, items_turn)

pub behind::after_args-after-requires : goal.behind::after_args-after-requires
behind::after_args-after-requires t c = grind (arith, tree_mass_at)

pub behind::after_args-loop-item-preserved : goal.behind::after_args-loop-item-preserved
behind::after_args-loop-item-preserved t c = grind (arith, args_turn)

pub behind_chain::after_either-after-requires : goal.behind_chain::after_either-after-requires
behind_chain::after_either-after-requires t c = grind (arith, step_mass_at)

pub behind_chain::after_either-loop-step-preserved : goal.behind_chain::after_either-loop-step-preserved
behind_chain::after_either-loop-step-preserved t c = grind (arith, either_turn)

pub behind_chain::after_both-after-requires : goal.behind_chain::after_both-after-requires
behind_chain::after_both-after-requires t c = grind (arith, step_mass_at)

pub behind_chain::after_both-loop-step-preserved : goal.behind_chain::after_both-loop-step-preserved
behind_chain::after_both-loop-step-preserved t c = grind (arith, both_turn)

pub behind_chain::after_steps-after-requires : goal.behind_chain::after_steps-after-requires
behind_chain::after_steps-after-requires t c = grind (arith, step_mass_at)

pub behind_chain::after_steps-loop-step-preserved : goal.behind_chain::after_steps-loop-step-preserved
behind_chain::after_steps-loop-step-preserved t c = grind (arith, steps_turn)

pub behind_block::after_lines-after_line-requires : goal.behind_block::after_lines-after_line-requires
behind_block::after_lines-after_line-requires t c = grind (arith, line_mass_at)

pub behind_block::after_lines-loop-line-preserved : goal.behind_block::after_lines-loop-line-preserved
behind_block::after_lines-loop-line-preserved t c = grind (arith, lines_turn)
