-- The lemmas of one walk under one name.
use Rattle.pie_codegen.proofs.Turns.{
  lines_code_turn,
  lines_texts_turn,
  lines_spot_turn,
  line_keeps,
  line_deepens,
  items_code_turn,
  trees_texts_turn,
  either_code_turn,
  steps_texts_turn,
  both_code_turn,
  steps_code_turn,
  args_code_turn,
}
use Rattle.pie_codegen.proofs.Scoped.{oldest_all}
use Rattle.pie_codegen.proofs.Rests.{line_mass_at, items_turn, tree_mass_at, either_turn, step_mass_at, both_turn, steps_turn, args_turn}

pub ruleset lines_walk = (lines_code_turn, lines_texts_turn, lines_spot_turn, line_keeps, line_deepens, oldest_all, line_mass_at)

pub ruleset items_walk = (items_turn, items_code_turn, trees_texts_turn, tree_mass_at)

pub ruleset either_walk = (either_turn, either_code_turn, steps_texts_turn, step_mass_at)

pub ruleset both_walk = (both_turn, both_code_turn, steps_texts_turn, step_mass_at)

pub ruleset steps_walk = (steps_turn, steps_code_turn, steps_texts_turn, step_mass_at)

pub ruleset args_walk = (args_turn, args_code_turn, trees_texts_turn, tree_mass_at)
