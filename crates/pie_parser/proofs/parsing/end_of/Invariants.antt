use Rattle.std.proofs.Common.{◌≡◌, drop}
use Rattle.pie_parser.specs.FunctionReading.{last_end}
use Rattle.pie_parser.proofs.parsing.end_of.Given as goal

abbrev pub invariant-loop-token : goal.invariant-loop-token
invariant-loop-token l = last_end l.end (drop l.token-index l.tokens) ≡ last_end 0 l.tokens
