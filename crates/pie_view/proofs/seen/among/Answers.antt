use Rattle.std.proofs.Common.{refl}
use Rattle.pie_reach.proofs.WalkSteps.{number_below}
use Rattle.pie_view.proofs.Choosing.{turn_at, all_at, number_at}
use Rattle.pie_view.proofs.seen.among.Goals as goal

pub bounds-marks-no : goal.bounds-marks-no
bounds-marks-no c = number_below _ c.args.writers.now c.loop-no.no-index _ c.requires.below c.loop-no-test.true

pub loop-no-preserved : goal.loop-no-preserved
loop-no-preserved c =
    turn_at c.args.writers.now c.args.marks.now c.loop-no.no-index _ c.loop-no.seen c.with-seen.result _ c.loop-no-test.true
    (number_at c.args.writers.now c.loop-no.no-index _ c.loop-no-test.true) c.requires.ascending refl c.loop-no.invariant c.with-seen.ensures

pub returns : goal.returns
returns c = all_at c.args.writers.now c.args.marks.now c.loop-no.no-index c.loop-no.seen c.loop-no-test.false c.loop-no.invariant
