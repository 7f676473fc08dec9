use Rattle.pie_commit.proofs.Bringing.{removal_done}
use Rattle.pie_files.specs.Images.{MayRemove}
use Rattle.pie_commit.proofs.Standing.{call_marked, removal_keeps}
use Rattle.pie_commit.proofs.Others.{own, removal_keeps_others}
use Rattle.pie_commit.proofs.Stepping.{makes_remove}
use Rattle.pie_commit.proofs.parts.remove.Goals as goal

pub returns-clause-done : goal.returns-clause-done
returns-clause-done g c = removal_done (g.F.Files.holds c.args.files.now) (g.F.Files.holds c.remove.new.self) c.args.path.now c.remove.result
    c.remove.ensures.removed

pub returns-clause-crash : goal.returns-clause-crash
returns-clause-crash g c =
    let p = c.args.plan.now in
    let path = c.args.path.now in
    call_marked g.F.Files.holds g.F.Files.moment g.F.Files.left_since g.F.Files.images (MayRemove path) p c.args.files.now c.remove.new.self
    (λ d b e may way. removal_keeps p d b e path c.requires may way) c.remove.ensures.crash

pub returns-clause-outside : goal.returns-clause-outside
returns-clause-outside g c =
    let p = c.args.plan.now in
    let path = c.args.path.now in
    removal_keeps_others p (g.F.Files.holds c.args.files.now) (g.F.Files.holds c.remove.new.self) path c.remove.result (own p path c.requires)
    c.remove.ensures.removed c.remove.ensures.failed c.remove.ensures.unchanged

pub returns-clause-makes : goal.returns-clause-makes
returns-clause-makes g c =
    makes_remove g.F.Files.asked c.remove.result g.F.Files.faults c.args.path.now c.args.files.now c.remove.new.self c.remove.ensures.called
