use Rattle.std.proofs.Common.{arith}
use Rattle.std.proofs.lemmas.Grind.{common_steps}
use Rattle.pie_codegen.proofs.kinds.plain_call.Goals as goal

pub returns-else-count-callee : goal.returns-else-count-callee
returns-else-count-callee c = grind (arith, common_steps)

pub returns-then-count-callee : goal.returns-then-count-callee
returns-then-count-callee c = grind (arith, common_steps)
