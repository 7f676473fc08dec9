use Rattle.std.proofs.Common.{arith}
use Rattle.pie_value.proofs.Decoded.{task_is_canonical, task_is_refused}
use Rattle.pie_value.proofs.decoding.decode_task_front.Goals as goal

pub returns-clause-canonical : goal.returns-clause-canonical
returns-clause-canonical c = task_is_canonical _ _ (λ i. omega (arith, c.type_inv.bytes i)) c.task_in_front.ensures

pub returns-clause-refused : goal.returns-clause-refused
returns-clause-refused c = task_is_refused _ _ c.task_in_front.ensures
