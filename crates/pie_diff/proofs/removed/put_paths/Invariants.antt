use Rattle.std.proofs.Common.{◌≡◌, ◌++◌, drop}
use Rattle.pie_diff.specs.Removals.{writes_paths}
use Rattle.pie_diff.proofs.removed.put_paths.Given as goal

abbrev pub invariant-loop-path : goal.invariant-loop-path
invariant-loop-path l = l.paths.items ++ writes_paths (drop l.path-index l.writes) ≡ l.fn.paths.items ++ writes_paths l.writes
