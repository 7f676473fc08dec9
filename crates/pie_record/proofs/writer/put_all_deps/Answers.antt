use Rattle.pie_record.specs.Canonical.{enc_dep, IsTrueDep}
use Rattle.pie_record.proofs.Writing.{grown, all_more}
use Rattle.std.proofs.Common.{arith}
use Rattle.pie_record.proofs.Writing.{all_done}
use Rattle.pie_record.proofs.writer.put_all_deps.Goals as goal

pub loop-dep-preserved : goal.loop-dep-preserved
loop-dep-preserved c = (
  grown enc_dep _ _ _ _ _ _ c.loop-dep-test.true c.dep-item.is c.in_ok-put_dep.ensures.written c.loop-dep.invariant.0,
  all_more IsTrueDep _ _ _ c.loop-dep-test.true c.dep-item.is c.in_ok-put_dep.ensures.parts c.loop-dep.invariant.1,
)

pub returns-clause-parts : goal.returns-clause-parts
returns-clause-parts c = grind (arith, all_done)
