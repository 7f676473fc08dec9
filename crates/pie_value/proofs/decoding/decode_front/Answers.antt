use Rattle.std.proofs.Common.{arith}
use Rattle.pie_value.proofs.Decoded.{prefix_is_canonical, prefix_is_refused}
use Rattle.pie_value.proofs.decoding.decode_front.Goals as goal

pub returns-clause-canonical : goal.returns-clause-canonical
returns-clause-canonical c = prefix_is_canonical _ _ (λ i. omega (arith, c.type_inv.bytes i)) c.value_in_front.ensures

pub returns-clause-refused : goal.returns-clause-refused
returns-clause-refused c = prefix_is_refused _ _ c.value_in_front.ensures
