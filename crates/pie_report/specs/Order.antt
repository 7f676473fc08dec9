-- Tasks in task order.
use Rattle.std.specs.Prelude.{List, IsPermutation, IsSortedBy}
use Rattle.std.specs.Ordering.{is_lt}
use Rattle.pie_value.specs.declared.task.Task.{Task}
use Rattle.pie_value.specs.Canonical.{enc_task}
use Rattle.pie_value.specs.Order.{byte_order}

-- a list in task order with the same members, each as often: no task's canonical bytes come before those of the task before it
pub record InTaskOrder (tasks sorted : List Task) : Type 0 where
  pub same : IsPermutation tasks sorted
  pub ascending : IsSortedBy (λ t u. is_lt (byte_order (enc_task t) (enc_task u))) sorted
