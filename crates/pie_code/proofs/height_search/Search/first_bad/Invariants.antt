use Rattle.std.proofs.Common.{◌<◌, ℕ}
use Rattle.pie_code.specs.Searches.{FitsAlone}
use Rattle.pie_code.proofs.height_search.Search.first_bad.Given as goal

abbrev pub invariant-loop-at : goal.invariant-loop-at
invariant-loop-at l = (place : ℕ) → place < l.at → FitsAlone l.code l.self place
