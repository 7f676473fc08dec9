use Rattle.pie_record.specs.Canonical.{enc_record}
use Rattle.pie_record.specs.Canonical.{IsTrueRecord}
use Rattle.pie_record.proofs.Writing.{grown, all_more, all_done}
use Rattle.pie_store.proofs.writer.put_all_rows.Goals as goal

pub loop-rec-preserved : goal.loop-rec-preserved
loop-rec-preserved c = (
  grown enc_record _ _ _ _ _ _ c.loop-rec-test.true c.rec-item.is c.in_ok-put_record.ensures.written c.loop-rec.invariant.0,
  all_more IsTrueRecord _ _ _ c.loop-rec-test.true c.rec-item.is c.in_ok-put_record.ensures.parts c.loop-rec.invariant.1,
)

pub returns-clause-parts : goal.returns-clause-parts
returns-clause-parts c = all_done IsTrueRecord _ _ c.loop-rec-test.false c.loop-rec.invariant.1
