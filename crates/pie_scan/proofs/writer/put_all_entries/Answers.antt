use Rattle.pie_scan.specs.Texts.{enc_entry, IsTrueEntry}
use Rattle.pie_record.proofs.Writing.{grown, all_more, all_done}
use Rattle.pie_scan.proofs.writer.put_all_entries.Goals as goal

pub loop-entry-preserved : goal.loop-entry-preserved
loop-entry-preserved c = (
  grown enc_entry _ _ _ _ _ _ c.loop-entry-test.true c.entry-item.is c.in_ok-put_entry.ensures.written c.loop-entry.invariant.0,
  all_more IsTrueEntry _ _ _ c.loop-entry-test.true c.entry-item.is c.in_ok-put_entry.ensures.parts c.loop-entry.invariant.1,
)

pub returns-clause-parts : goal.returns-clause-parts
returns-clause-parts c = all_done IsTrueEntry _ _ c.loop-entry-test.false c.loop-entry.invariant.1
