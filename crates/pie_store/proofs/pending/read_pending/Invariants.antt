use Rattle.std.proofs.Common.{length}
use Rattle.pie_store.proofs.PendingLemmas.{ReadsTo}
use Rattle.pie_store.proofs.pending.read_pending.Given as goal

abbrev pub invariant-loop-end : goal.invariant-loop-end
invariant-loop-end l = ReadsTo l.bytes l.paths.items l.rest

abbrev pub decreases-loop-end : goal.decreases-loop-end
decreases-loop-end l = length l.rest
