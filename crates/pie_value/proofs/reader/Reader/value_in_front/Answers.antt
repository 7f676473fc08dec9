use Rattle.std.proofs.Common.{arith}
use Rattle.pie_value.proofs.Decoded.{value_counted}
use Rattle.pie_value.proofs.reader.Reader.value_in_front.Goals as goal

pub returns : goal.returns
returns c = value_counted _ _ _ _ (λ i. omega (arith, c.type_inv.bytes i)) c.in_ok-value.ensures c.taken_of-len.ensures
