use Rattle.std.proofs.Common.{◌≡◌, ◌++◌, drop}
use Rattle.pie_old.specs.inner.Rows.{paths_in}
use Rattle.pie_old.proofs.row.paths_of.Given as goal

abbrev pub invariant-loop-path : goal.invariant-loop-path
invariant-loop-path l = l.paths.items ++ paths_in (drop l.path-index l.writes) ≡ paths_in l.writes
