use Rattle.std.proofs.Common.{◌≡◌, ◌++◌, drop}
use Rattle.pie_scan.specs.inner.Merge.{merged}
use Rattle.pie_scan.proofs.merge.merge.Given as goal

abbrev pub invariant-loop-entry : goal.invariant-loop-entry
invariant-loop-entry l = l.found.items ++ merged (drop l.entry-index l.old) l.rest ≡ merged l.old l.now
