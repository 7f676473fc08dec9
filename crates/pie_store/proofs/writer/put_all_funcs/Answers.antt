use Rattle.pie_store.specs.Canonical.{enc_func}
use Rattle.pie_store.specs.Texts.{IsFunc}
use Rattle.pie_record.proofs.Writing.{grown, all_more, all_done}
use Rattle.pie_store.proofs.writer.put_all_funcs.Goals as goal

pub loop-name-preserved : goal.loop-name-preserved
loop-name-preserved c = (
  grown enc_func _ _ _ _ _ _ c.loop-name-test.true c.loop-name-item.is c.in_ok-put_func.ensures.written c.loop-name.invariant.0,
  all_more IsFunc _ _ _ c.loop-name-test.true c.loop-name-item.is c.in_ok-put_func.ensures.parts c.loop-name.invariant.1,
)

pub returns-clause-parts : goal.returns-clause-parts
returns-clause-parts c = all_done IsFunc _ _ c.loop-name-test.false c.loop-name.invariant.1
