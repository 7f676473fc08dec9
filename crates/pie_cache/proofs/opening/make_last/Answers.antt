use Rattle.pie_commit.proofs.Stepping.{makes_sync}
use Rattle.pie_cache.proofs.Changing.{keeps_same, stays_leaves}
use Rattle.pie_cache.proofs.opening.make_last.Goals as goal

pub returns-clause-kept : goal.returns-clause-kept
returns-clause-kept g c = keeps_same (g.F.Files.holds c.args.files.now) (g.F.Files.holds c.sync.new.self) c.sync.ensures.same

pub returns-clause-crash : goal.returns-clause-crash
returns-clause-crash g c =
    stays_leaves g.F.Files.holds g.F.Files.moment g.F.Files.left_since g.F.Files.images c.args.files.now c.sync.new.self c.sync.ensures.crash

pub returns-clause-makes : goal.returns-clause-makes
returns-clause-makes g c = makes_sync g.F.Files.asked c.sync.result g.F.Files.faults c.args.files.now c.sync.new.self c.sync.ensures.called
