use Rattle.pie_topdown.proofs.Distinct.{HasPaths}
use Rattle.pie_topdown.proofs.offering.are_distinct.Given as goal

-- the set has the paths so far, none of them twice
abbrev pub invariant-loop-path : goal.invariant-loop-path
invariant-loop-path l = HasPaths l.writes l.path-index l.seen.keys
