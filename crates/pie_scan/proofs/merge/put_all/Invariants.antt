use Rattle.std.proofs.Common.{◌≡◌, ◌++◌, drop}
use Rattle.pie_scan.specs.Entries.{paths_in}
use Rattle.pie_scan.proofs.merge.put_all.Given as goal

abbrev pub invariant-loop-entry : goal.invariant-loop-entry
invariant-loop-entry l = l.found.items ++ paths_in (drop l.entry-index l.entries) ≡ l.fn.found.items ++ paths_in l.entries
