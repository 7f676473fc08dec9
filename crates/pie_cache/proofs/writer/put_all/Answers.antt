use Rattle.pie_record.proofs.Writing.{grown, all_more, all_done}
use Rattle.pie_cache.specs.inner.Contents.{enc_offer, IsTrueOffer}
use Rattle.pie_cache.proofs.writer.put_all.Goals as goal

pub loop-entry-preserved : goal.loop-entry-preserved
loop-entry-preserved c = (
  grown enc_offer _ _ _ _ _ _ c.loop-entry-test.true c.entry-item.is c.in_ok-put_entry.ensures.written c.loop-entry.invariant.0,
  all_more IsTrueOffer _ _ _ c.loop-entry-test.true c.entry-item.is c.in_ok-put_entry.ensures.parts c.loop-entry.invariant.1,
)

pub returns-clause-parts : goal.returns-clause-parts
returns-clause-parts c = all_done IsTrueOffer _ _ c.loop-entry-test.false c.loop-entry.invariant.1
