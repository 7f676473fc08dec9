-- What is done, and then what the rest gives.
use Rattle.std.proofs.Common.{◌≡◌, ◌++◌, drop, map}
use Rattle.pie_value.specs.Tree.{TInt}
use Rattle.pie_builtins.proofs.sorts.list_of_ints.Given as goal

abbrev pub invariant-loop-n : goal.invariant-loop-n
invariant-loop-n l = l.items ++ map TInt (drop l.n-index l.ints) ≡ map TInt l.ints
