use Rattle.std.proofs.Common.{rules}
use Rattle.pie_storable.specs.inner.Heights.{HasRank}
use Rattle.pie_storable.proofs.Placing.{all_more, all_whole, has_rank}
use Rattle.pie_storable.proofs.walk.have_records.Goals as goal

pub loop-task-preserved : goal.loop-task-preserved
loop-task-preserved c = λ rows are.
    all_more (HasRank rows) c.args.tasks.now c.loop-task.task-index c.task-item.result c.loop-task-test.true c.task-item.is (c.loop-task.invariant rows are)
    (has_rank rows c.task-item.result c.in_ok-rank.field-0 (c.in_ok-rank.ensures.rank rows are) (search rules) c.in_ok-rank.ensures.stored)

pub returns-clause-all : goal.returns-clause-all
returns-clause-all c = λ yes rows are.
    all_whole (HasRank rows) c.args.tasks.now c.loop-task.task-index c.loop-task-test.false (c.loop-task.invariant rows are)
