-- What is done, and then what the rest gives.
use Rattle.std.proofs.Common.{◌≡◌, ◌++◌, drop}
use Rattle.std.specs.Prelude.{string_bytes}
use Rattle.pie_value.specs.Values.{trees_of}
use Rattle.pie_builtins.specs.Gathered.{each_after}
use Rattle.pie_builtins.proofs.joins.each_joined.Given as goal

abbrev pub invariant-loop-other : goal.invariant-loop-other
invariant-loop-other l = string_bytes l.out ++ each_after l.between (trees_of (drop l.other-index l.others)) ≡ l.first ++ each_after l.between
    (trees_of l.others)
