use Rattle.std.proofs.Common.{◌≡◌, Ok, arith}
use Rattle.pie_record.specs.Reading.{record_at}
use Rattle.pie_record.proofs.RecordCodec.{record_counted}
use Rattle.pie_record.proofs.decoding.front.Goals as goal

pub returns : goal.returns
returns c =
    let e : record_at c.args.bytes.now ≡ Ok (c.in_ok-rec.rec, c.parts.new.self) = rw (← c.new-reader.ensures) c.in_ok-rec.ensures in
    record_counted c.args.bytes.now c.in_ok-rec.rec c.parts.new.self c.saturating_sub-len.result (λ i. omega (arith, c.type_inv.bytes i)) e
    (omega (arith, c.saturating_sub-len.ensures, c.left.ensures))
