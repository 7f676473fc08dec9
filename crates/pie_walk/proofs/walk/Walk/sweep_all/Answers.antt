use Rattle.std.proofs.Common.{refl}
use Rattle.pie_graph.specs.Numbers.{numbers}
use Rattle.pie_reach.proofs.WalkSteps.{number_below}
use Rattle.pie_walk.specs.inner.Sweeping.{sweep_all, swept_to}
use Rattle.pie_walk.proofs.SweepSteps.{sweep_on}
use Rattle.pie_walk.proofs.walk.Walk.sweep_all.Goals as goal

pub loop-no-init : goal.loop-no-init
loop-no-init c = record { swept = c.requires.swept; scheduled = c.requires.scheduled; all = refl }

pub sweep_one-requires-clause-swept : goal.sweep_one-requires-clause-swept
sweep_one-requires-clause-swept c = number_below _ c.args.nos.now c.loop-no.no-index _ c.loop-no.invariant.swept c.loop-no-test.true

pub sweep_one-requires-clause-scheduled : goal.sweep_one-requires-clause-scheduled
sweep_one-requires-clause-scheduled c = number_below _ c.args.nos.now c.loop-no.no-index _ c.loop-no.invariant.scheduled c.loop-no-test.true

pub loop-no-preserved : goal.loop-no-preserved
loop-no-preserved c =
    sweep_on c.args.nos.now c.loop-no.no-index _ (swept_to c.loop-no.self (numbers c.loop-no.work.items))
    (swept_to c.sweep_one.new.self (numbers c.sweep_one.new.work.items))
    (sweep_all (numbers c.args.nos.now) (swept_to c.args.self.now (numbers c.args.work.now.items))) c.loop-no-test.true c.in_ok-sweep_one.ensures
    c.loop-no.invariant
