use Rattle.pie_incremental.proofs.Joining.{AreSmall}
use Rattle.pie_topdown_build.proofs.finishing.are_small.Given as goal

abbrev pub invariant-loop-root : goal.invariant-loop-root
invariant-loop-root l = AreSmall l.roots l.root-index
