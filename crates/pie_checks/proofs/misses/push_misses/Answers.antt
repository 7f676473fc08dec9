use Rattle.std.proofs.Common.{arith}
use Rattle.std.proofs.lemmas.Grind.{common_steps}
use Rattle.pie_checks.proofs.misses.push_misses.Goals as goal

pub loop-dep-preserved : goal.loop-dep-preserved
loop-dep-preserved c = grind (arith, common_steps)
