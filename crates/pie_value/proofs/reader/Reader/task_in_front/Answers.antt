use Rattle.std.proofs.Common.{arith}
use Rattle.pie_value.proofs.Decoded.{task_counted}
use Rattle.pie_value.proofs.reader.Reader.task_in_front.Goals as goal

pub returns : goal.returns
returns c = task_counted _ _ _ _ (λ i. omega (arith, c.type_inv.bytes i)) (rw (c.in_ok-func.ensures, c.in_ok-args.ensures)) c.taken_of-len.ensures
