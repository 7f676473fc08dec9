use Rattle.pie_commit.proofs.Stepping.{makes_sync}
use Rattle.pie_commit.proofs.parts.make_last.Goals as goal

pub returns-clause-makes : goal.returns-clause-makes
returns-clause-makes g c = makes_sync g.F.Files.asked c.sync.result g.F.Files.faults c.args.files.now c.sync.new.self c.sync.ensures.called
