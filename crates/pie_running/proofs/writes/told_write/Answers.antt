use Rattle.std.proofs.Common.{arith}
use Rattle.pie_running.proofs.Noting.{wrote_sound, wrote_advanced}
use Rattle.pie_running.proofs.writes.told_write.Goals as goal

pub returns-clause-ready : goal.returns-clause-ready
returns-clause-ready c = grind (arith, wrote_sound, wrote_advanced)
