use Rattle.std.proofs.Common.{arith}
use Rattle.pie_order.proofs.CycleSteps.{none_more, none_at_all}
use Rattle.pie_order.proofs.cycle.first_marked.Goals as goal

pub loop-task-preserved : goal.loop-task-preserved
loop-task-preserved c = none_more c.args.tasks.now c.args.marks.now c.loop-task.task-index _ c.loop-task-test.true
    (λ m. let t = c.has_mark.ensures.1 m in cc) c.loop-task.invariant

pub returns : goal.returns
returns c = none_at_all c.args.tasks.now c.args.marks.now c.loop-task.task-index (omega (arith, c.loop-task-test.false)) c.loop-task.invariant
