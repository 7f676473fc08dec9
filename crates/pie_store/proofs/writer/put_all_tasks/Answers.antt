use Rattle.pie_value.specs.Canonical.{enc_task}
use Rattle.pie_store.specs.Ranks.{IsStored}
use Rattle.pie_record.proofs.Writing.{grown, all_more, all_done}
use Rattle.pie_store.proofs.writer.put_all_tasks.Goals as goal

pub loop-task-preserved : goal.loop-task-preserved
loop-task-preserved c = (
  grown enc_task _ _ _ _ _ _ c.loop-task-test.true c.task-item.is c.in_ok-put_stored.ensures.written c.loop-task.invariant.0,
  all_more IsStored _ _ _ c.loop-task-test.true c.task-item.is c.in_ok-put_stored.ensures.parts c.loop-task.invariant.1,
)

pub returns-clause-parts : goal.returns-clause-parts
returns-clause-parts c = all_done IsStored _ _ c.loop-task-test.false c.loop-task.invariant.1
