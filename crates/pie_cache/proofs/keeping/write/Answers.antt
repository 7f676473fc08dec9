use Rattle.pie_commit.proofs.Bringing.{write_done}
use Rattle.pie_commit.proofs.Stepping.{makes_write}
use Rattle.pie_cache.proofs.Changing.{write_keeps, write_leaves}
use Rattle.pie_cache.proofs.keeping.write.Goals as goal

pub returns-clause-kept : goal.returns-clause-kept
returns-clause-kept g c =
    write_keeps _ (g.F.Files.holds c.args.files.now) (g.F.Files.holds c.write.new.self) c.args.path.now c.args.bytes.now c.write.result c.requires
    c.write.ensures.written c.write.ensures.failed c.write.ensures.unchanged

pub returns-clause-crash : goal.returns-clause-crash
returns-clause-crash g c =
    write_leaves g.F.Files.holds g.F.Files.moment g.F.Files.left_since g.F.Files.images c.args.path.now c.args.files.now c.write.new.self c.requires
    c.write.ensures.crash

pub returns-clause-done : goal.returns-clause-done
returns-clause-done g c =
    write_done _ (g.F.Files.holds c.args.files.now) (g.F.Files.holds c.write.new.self) c.args.path.now c.args.bytes.now c.write.result c.write.ensures.written

pub returns-clause-makes : goal.returns-clause-makes
returns-clause-makes g c =
    makes_write g.F.Files.asked c.write.result g.F.Files.faults c.args.path.now c.args.files.now c.write.new.self c.write.ensures.called
