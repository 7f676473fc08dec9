use Rattle.std.proofs.Common.{◌≡◌, ◌++◌, length}
use Rattle.pie_scan.specs.inner.Merge.{ahead, others}
use Rattle.pie_scan.proofs.merge.pass.Given as goal

abbrev pub invariant-loop-rest : goal.invariant-loop-rest
invariant-loop-rest l =
    (l.found.items ++ ahead l.entry l.rest ≡ l.fn.found.items ++ ahead l.entry l.now) × (others l.entry l.rest ≡ others l.entry l.now)

abbrev pub decreases-loop-rest : goal.decreases-loop-rest
decreases-loop-rest l = length l.rest
