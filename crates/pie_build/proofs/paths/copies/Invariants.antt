use Rattle.std.proofs.Common.{◌≡◌, ◌++◌, drop}
use Rattle.pie_build.proofs.paths.copies.Given as goal

abbrev pub invariant-loop-path : goal.invariant-loop-path
invariant-loop-path l = l.copied.items ++ drop l.path-index l.paths ≡ l.paths
