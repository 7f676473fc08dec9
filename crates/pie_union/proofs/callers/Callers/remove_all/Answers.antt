use Rattle.std.proofs.Common.{length}
use Rattle.pie_union.proofs.Callees.{below_now}
use Rattle.pie_union.proofs.callers.Callers.remove_all.Goals as goal

pub remove_unless-requires : goal.remove_unless-requires
remove_unless-requires c =
    below_now (length c.args.self.now) (length c.loop-callee.self) c.args.callees.now c.loop-callee.callee-index _ c.requires c.loop-callee.invariant.0
    c.loop-callee-test.true
