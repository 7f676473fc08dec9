use Rattle.pie_reach.proofs.WalkSteps.{number_below}
use Rattle.pie_reach.proofs.LeastSteps.{best_step, best_within, best_end}
use Rattle.pie_reach.proofs.best.least.Goals as goal

pub better-best-requires-clause-marked : goal.better-best-requires-clause-marked
better-best-requires-clause-marked c = number_below _ c.args.among.now c.loop-no.no-index _ c.requires.marked c.loop-no-test.true

pub better-best-requires-clause-keyed : goal.better-best-requires-clause-keyed
better-best-requires-clause-keyed c = number_below _ c.args.among.now c.loop-no.no-index _ c.requires.keyed c.loop-no-test.true

pub better-best-requires-clause-best : goal.better-best-requires-clause-best
better-best-requires-clause-best c = best_within c.args.among.now c.loop-no.no-index c.args.marks.now c.args.keys.now _ c.loop-no.best c.requires.keyed
    c.loop-no.invariant

pub loop-no-preserved : goal.loop-no-preserved
loop-no-preserved c = best_step c.args.among.now c.loop-no.no-index
    (record { 0 = 0 }) c.args.marks.now c.args.keys.now c.loop-no.best c.better-best.result c.loop-no-test.true c.loop-no.invariant c.better-best.ensures

pub returns : goal.returns
returns c = best_end c.args.among.now c.loop-no.no-index c.args.marks.now c.args.keys.now c.loop-no.best c.loop-no-test.false c.loop-no.invariant
