use Rattle.pie_checks.proofs.LeastTask.{turn, all}
use Rattle.pie_checks.proofs.least.least_but.Goals as goal

pub loop-no-preserved : goal.loop-no-preserved
loop-no-preserved c = (
  c.better-best.ensures.bound,
  turn c.args.tasks.now c.args.among.now c.args.but c.loop-no.best c.better-best.result c.loop-no.no-index c.loop-no-test.true c.better-best.ensures.better
      c.loop-no.invariant.1,
)

pub returns : goal.returns
returns c = all c.args.tasks.now c.args.among.now c.args.but c.loop-no.best c.loop-no.no-index c.loop-no-test.false c.loop-no.invariant.1
