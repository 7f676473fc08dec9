use Rattle.std.proofs.Common.{◌≡◌, ◌++◌, drop}
use Rattle.pie_old.specs.inner.Rows.{paths_in}
use Rattle.pie_bottomup.proofs.placing.paths_of.Given as goal

abbrev pub invariant-loop-write : goal.invariant-loop-write
invariant-loop-write l = l.paths.items ++ paths_in (drop l.write-index l.writes) ≡ paths_in l.writes
