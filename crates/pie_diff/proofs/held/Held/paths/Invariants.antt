use Rattle.std.proofs.Common.{◌≡◌, ◌++◌}
use Rattle.pie_diff.specs.inner.Held.{paths_in}
use Rattle.pie_diff.proofs.held.Held.paths.Given as goal

abbrev pub invariant-loop-path : goal.invariant-loop-path
invariant-loop-path l = l.paths.items ++ l.path-iterator ≡ paths_in l.self
