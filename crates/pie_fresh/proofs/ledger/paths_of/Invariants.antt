use Rattle.std.proofs.Common.{◌≡◌, ◌++◌, map, drop}
use Rattle.pie_fresh.proofs.ledger.paths_of.Given as goal

-- the paths so far and those that are left are those of the writes
abbrev pub invariant-loop-path : goal.invariant-loop-path
invariant-loop-path l = l.paths.items ++ map (λ w. w.0) (drop l.path-index l.writes) ≡ map (λ w. w.0) l.writes
