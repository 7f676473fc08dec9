use Rattle.std.proofs.Common.{◌<◌, ℕ}
use Rattle.pie_code.specs.Searches.{IsLow}
use Rattle.pie_code.proofs.lows.are_lows.Given as goal

abbrev pub invariant-loop-at : goal.invariant-loop-at
invariant-loop-at l = (place : ℕ) → place < l.at → IsLow l.code l.lows place
