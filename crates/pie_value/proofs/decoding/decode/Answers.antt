use Rattle.std.proofs.Common.{arith}
use Rattle.pie_value.proofs.Decoded.{decoded_canonical, decoded_refused}
use Rattle.pie_value.proofs.decoding.decode.Goals as goal

pub returns-clause-canonical : goal.returns-clause-canonical
returns-clause-canonical c = decoded_canonical _ _ (λ i. omega (arith, c.type_inv.bytes i)) c.whole.ensures

pub returns-clause-refused : goal.returns-clause-refused
returns-clause-refused c = decoded_refused _ _ c.whole.ensures
