use Rattle.std.proofs.Common.{◌≡◌, ◌++◌, map}
use Rattle.pie_value.specs.Tree.{TPath}
use Rattle.pie_running.proofs.listing.entries_of.Given as goal

-- the values so far and those of the paths that are left are those of all
abbrev pub invariant-loop-path : goal.invariant-loop-path
invariant-loop-path l = l.entries ++ map TPath l.path-iterator.rest.items ≡ map TPath l.fn.paths.items
