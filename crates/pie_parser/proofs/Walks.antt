-- The lemmas of one walk under one name.
use Rattle.pie_parser.proofs.PieceLoop.{line_goes_on, last_ends, stops, fails, runs_out}

pub ruleset lines_walk = (line_goes_on, last_ends, stops, fails, runs_out)
