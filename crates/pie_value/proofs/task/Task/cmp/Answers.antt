use Rattle.pie_value.proofs.Orders.{task_second}
use Rattle.pie_value.proofs.task.Task.cmp.Goals as goal

pub returns-in-Equal : goal.returns-in-Equal
returns-in-Equal c = task_second _ _ _ _ c.in-Equal.is c.text_order.ensures c.items_order.ensures
