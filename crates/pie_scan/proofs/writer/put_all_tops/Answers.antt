use Rattle.pie_value.specs.Canonical.{counted}
use Rattle.pie_record.specs.Canonical.{IsTruePath}
use Rattle.pie_record.proofs.Writing.{grown, all_more, all_done}
use Rattle.pie_scan.proofs.writer.put_all_tops.Goals as goal

pub loop-top-preserved : goal.loop-top-preserved
loop-top-preserved c = (
  grown counted _ _ _ _ _ _ c.loop-top-test.true c.top-item.is c.in_ok-put_path.ensures.written c.loop-top.invariant.0,
  all_more IsTruePath _ _ _ c.loop-top-test.true c.top-item.is c.in_ok-put_path.ensures.parts c.loop-top.invariant.1,
)

pub returns-clause-parts : goal.returns-clause-parts
returns-clause-parts c = all_done IsTruePath _ _ c.loop-top-test.false c.loop-top.invariant.1
