-- The lemmas of one walk under one name.
use Rattle.pie_builtins.proofs.Spaces.{past_space, cut_past_space, at_no_space, at_no_byte, before_space, cut_before_space, to_no_space, to_no_byte}
use Rattle.pie_builtins.proofs.Parting.{lines_grow, lines_end, lines_ended, shorter}
use Rattle.pie_builtins.proofs.Joining.{too_many_items}

pub ruleset front_walk = (past_space, cut_past_space, at_no_space, at_no_byte)

pub ruleset back_walk = (before_space, cut_before_space, to_no_space, to_no_byte)

pub ruleset lines_walk = (lines_grow, lines_end, lines_ended, shorter, too_many_items)
