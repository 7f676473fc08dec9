use Rattle.pie_commit.proofs.Bringing.{removal_done}
use Rattle.pie_commit.proofs.Stepping.{makes_remove}
use Rattle.pie_cache.proofs.Changing.{removal_keeps, removal_leaves}
use Rattle.pie_cache.proofs.opening.remove.Goals as goal

pub returns-clause-kept : goal.returns-clause-kept
returns-clause-kept g c =
    removal_keeps (g.F.Files.holds c.args.files.now) (g.F.Files.holds c.remove.new.self) c.args.path.now c.remove.result c.requires
    c.remove.ensures.removed c.remove.ensures.failed c.remove.ensures.unchanged

pub returns-clause-crash : goal.returns-clause-crash
returns-clause-crash g c =
    removal_leaves g.F.Files.holds g.F.Files.moment g.F.Files.left_since g.F.Files.images c.args.path.now c.args.files.now c.remove.new.self c.requires
    c.remove.ensures.crash

pub returns-clause-done : goal.returns-clause-done
returns-clause-done g c =
    removal_done (g.F.Files.holds c.args.files.now) (g.F.Files.holds c.remove.new.self) c.args.path.now c.remove.result c.remove.ensures.removed

pub returns-clause-makes : goal.returns-clause-makes
returns-clause-makes g c =
    makes_remove g.F.Files.asked c.remove.result g.F.Files.faults c.args.path.now c.args.files.now c.remove.new.self c.remove.ensures.called
