use Rattle.pie_build.proofs.OwnPaths.{same_keeps}
use Rattle.pie_replay.proofs.Building.{fails_then, goes_then, tells_then}
use Rattle.pie_replay.proofs.Leaving.{from_rest, not_synced}
use Rattle.pie_replay.proofs.step.build_from_rest.Goals as goal

pub returns-in-Ok-clause-goes : goal.returns-in-Ok-clause-goes
returns-in-Ok-clause-goes g c =
    goes_then g.F.Files.holds c.args.files.now c.sync.new.self c.build_into.new.files c.sync.ensures.same g.F.Files.asked c.in-Ok.ensures.called.noted
    c.build_into.result c.args.names.now.items c.build_into.new.names.items c.args.done.now.items c.build_into.new.done.items c.args.runs.now
    c.build_into.new.runs c.build_into.ensures.goes

pub returns-in-Ok-clause-fails : goal.returns-in-Ok-clause-fails
returns-in-Ok-clause-fails g c =
    fails_then g.F.Files.holds c.args.files.now c.sync.new.self c.build_into.new.files c.sync.ensures.same c.build_into.result c.build_into.ensures.fails

pub returns-in-Ok-clause-crash : goal.returns-in-Ok-clause-crash
returns-in-Ok-clause-crash g c =
    from_rest g.F.Files.holds g.F.Files.moment g.F.Files.left_since g.F.Files.images c.args.names.now.items c.args.files.now c.sync.new.self
    c.build_into.new.files c.sync.ensures.same c.sync.ensures.crash c.in-Ok.ensures.durable c.build_into.ensures.crash

pub returns-in-Ok-clause-told : goal.returns-in-Ok-clause-told
returns-in-Ok-clause-told g c =
    tells_then g.F.Files.faults c.args.files.now c.sync.new.self c.build_into.new.files c.build_into.result c.in-Ok.ensures.called.steady
    c.build_into.ensures.told

pub returns-in-Err-Failed-clause-crash : goal.returns-in-Err-Failed-clause-crash
returns-in-Err-Failed-clause-crash g c =
    not_synced g.F.Files.holds g.F.Files.moment g.F.Files.left_since g.F.Files.images c.args.names.now.items c.args.files.now c.sync.new.self
    c.sync.ensures.crash

pub returns-in-Err-OutOfMemory-clause-crash : goal.returns-in-Err-OutOfMemory-clause-crash
returns-in-Err-OutOfMemory-clause-crash g c =
    not_synced g.F.Files.holds g.F.Files.moment g.F.Files.left_since g.F.Files.images c.args.names.now.items c.args.files.now c.sync.new.self
    c.sync.ensures.crash

pub returns-in-Err-Failed-clause-fails : goal.returns-in-Err-Failed-clause-fails
returns-in-Err-Failed-clause-fails g c =
    (same_keeps (g.F.Files.holds c.args.files.now) (g.F.Files.holds c.sync.new.self) c.sync.ensures.same, λ refuses. c.sync.ensures.same)

pub returns-in-Err-OutOfMemory-clause-fails : goal.returns-in-Err-OutOfMemory-clause-fails
returns-in-Err-OutOfMemory-clause-fails g c =
    (same_keeps (g.F.Files.holds c.args.files.now) (g.F.Files.holds c.sync.new.self) c.sync.ensures.same, λ refuses. c.sync.ensures.same)
