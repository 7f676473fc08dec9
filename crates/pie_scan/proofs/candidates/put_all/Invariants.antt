use Rattle.std.proofs.Common.{◌≡◌, ◌++◌, drop}
use Rattle.pie_scan.proofs.candidates.put_all.Given as goal

abbrev pub invariant-loop-path : goal.invariant-loop-path
invariant-loop-path l = l.found.items ++ drop l.path-index l.paths ≡ l.fn.found.items ++ l.paths
