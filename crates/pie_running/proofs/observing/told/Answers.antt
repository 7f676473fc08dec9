use Rattle.std.proofs.Common.{arith}
use Rattle.pie_running.proofs.Noting.{observed_sound, observed_advanced}
use Rattle.pie_running.proofs.observing.told.Goals as goal

pub returns-clause-ready : goal.returns-clause-ready
returns-clause-ready c = grind (arith, observed_sound, observed_advanced)
