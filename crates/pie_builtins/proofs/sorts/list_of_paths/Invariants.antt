-- What is done, and then what the rest gives.
use Rattle.std.proofs.Common.{◌≡◌, ◌++◌, drop, map}
use Rattle.pie_value.specs.Tree.{TPath}
use Rattle.pie_builtins.proofs.sorts.list_of_paths.Given as goal

abbrev pub invariant-loop-path : goal.invariant-loop-path
invariant-loop-path l = l.items ++ map TPath (drop l.path-index l.paths) ≡ map TPath l.paths
