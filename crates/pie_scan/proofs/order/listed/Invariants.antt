use Rattle.std.proofs.Common.{◌≡◌, ◌++◌}
use Rattle.pie_scan.proofs.order.listed.Given as goal

abbrev pub invariant-loop-path : goal.invariant-loop-path
invariant-loop-path l = l.list.items ++ l.path-iterator ≡ l.initial.path-iterator
