use Rattle.std.proofs.Common.{arith}
use Rattle.std.proofs.lemmas.Grind.{common_steps}
use Rattle.pie_store.proofs.decoding.body_image.Goals as goal

pub returns-else-body-eq1 : goal.returns-else-body-eq1
returns-else-body-eq1 c = grind (arith, common_steps)
