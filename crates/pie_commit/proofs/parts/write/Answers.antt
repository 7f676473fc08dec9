use Rattle.pie_commit.proofs.Bringing.{write_done}
use Rattle.pie_files.specs.Images.{MayWrite}
use Rattle.pie_commit.proofs.Standing.{call_marked, write_keeps}
use Rattle.pie_commit.proofs.Others.{own, write_keeps_others}
use Rattle.pie_commit.proofs.Stepping.{makes_write}
use Rattle.pie_commit.proofs.parts.write.Goals as goal

pub returns-clause-done : goal.returns-clause-done
returns-clause-done g c = write_done _ (g.F.Files.holds c.args.files.now) (g.F.Files.holds c.write.new.self) c.args.path.now c.args.bytes.now
    c.write.result c.write.ensures.written

pub returns-clause-crash : goal.returns-clause-crash
returns-clause-crash g c =
    let p = c.args.plan.now in
    let path = c.args.path.now in
    call_marked g.F.Files.holds g.F.Files.moment g.F.Files.left_since g.F.Files.images (MayWrite path) p c.args.files.now c.write.new.self
    (λ d b e may way. write_keeps p d b e path c.requires may way) c.write.ensures.crash

pub returns-clause-outside : goal.returns-clause-outside
returns-clause-outside g c =
    let p = c.args.plan.now in
    let path = c.args.path.now in
    write_keeps_others _ p (g.F.Files.holds c.args.files.now) (g.F.Files.holds c.write.new.self) path c.args.bytes.now c.write.result (own p path c.requires)
    c.write.ensures.written c.write.ensures.failed c.write.ensures.unchanged

pub returns-clause-makes : goal.returns-clause-makes
returns-clause-makes g c =
    makes_write g.F.Files.asked c.write.result g.F.Files.faults c.args.path.now c.args.files.now c.write.new.self c.write.ensures.called
