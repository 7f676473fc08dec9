use Rattle.pie_topdown.proofs.Writing.{gone_here, wrote_there}
use Rattle.pie_topdown.proofs.writes.write_stands.Goals as goal

pub returns-clause-there : goal.returns-clause-there
returns-clause-there g c =
    wrote_there (g.F.Files.holds c.args.files.now) c.args.named.now c.write_differs.new.self c.args.write.now c.in_ok-differs.differs c.in_ok-differs.ensures.compares

pub returns-clause-gone : goal.returns-clause-gone
returns-clause-gone g c =
    gone_here (g.F.Files.holds c.args.files.now) c.args.named.now c.write_differs.new.self c.args.write.now c.in_ok-differs.differs c.in_ok-differs.ensures.compares
