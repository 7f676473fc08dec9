use Rattle.std.proofs.Common.{arith}
use Rattle.pie_record.proofs.RecordCodec.{record_is_canonical, record_is_refused}
use Rattle.pie_record.proofs.decoding.decode_among.Goals as goal

pub returns-clause-canonical : goal.returns-clause-canonical
returns-clause-canonical c = record_is_canonical _ _ (λ i. omega (arith, c.type_inv.bytes i)) c.front.ensures

pub returns-clause-refused : goal.returns-clause-refused
returns-clause-refused c = record_is_refused _ _ c.front.ensures
