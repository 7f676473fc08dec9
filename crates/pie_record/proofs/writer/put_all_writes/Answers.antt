use Rattle.pie_record.specs.Canonical.{enc_write, IsTrueWrite}
use Rattle.pie_record.proofs.Writing.{grown, all_more, all_done}
use Rattle.std.proofs.Common.{arith}
use Rattle.std.proofs.lemmas.Grind.{common_steps}
use Rattle.pie_record.proofs.writer.put_all_writes.Goals as goal

pub loop-path-preserved : goal.loop-path-preserved
loop-path-preserved c = (
  grown enc_write _ _ _ _ _ _ c.loop-path-test.true c.loop-path-item.is c.in_ok-put_write.ensures.written c.loop-path.invariant.0,
  all_more IsTrueWrite _ _ _ c.loop-path-test.true c.loop-path-item.is c.in_ok-put_write.ensures.parts c.loop-path.invariant.1,
)

pub returns-clause-parts : goal.returns-clause-parts
returns-clause-parts c = all_done IsTrueWrite _ _ c.loop-path-test.false c.loop-path.invariant.1

pub loop-path-init : goal.loop-path-init
loop-path-init c = grind (arith, common_steps)

pub returns-clause-written : goal.returns-clause-written
returns-clause-written c = grind (arith, common_steps)
