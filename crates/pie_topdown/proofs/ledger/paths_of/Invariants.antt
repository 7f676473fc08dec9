use Rattle.std.proofs.Common.{◌≡◌, ◌++◌, drop}
use Rattle.pie_old.specs.inner.Rows.{paths_in}
use Rattle.pie_topdown.proofs.ledger.paths_of.Given as goal

-- the paths so far and those that are left are those of the writes
abbrev pub invariant-loop-path : goal.invariant-loop-path
invariant-loop-path l = l.paths.items ++ paths_in (drop l.path-index l.writes) ≡ paths_in l.writes
