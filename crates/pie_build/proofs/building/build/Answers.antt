use Rattle.std.proofs.Common.{◌≡◌, rules}
use Rattle.std.specs.Prelude.{Err}
use Rattle.pie_files.specs.declared.files.FilesError.TheVariants.{OutOfMemory}
use Rattle.pie_build.proofs.Changing.{failed_rebuilds, rebuilds_then}
use Rattle.pie_build.proofs.Cleaning.{clean_by}
use Rattle.pie_build.specs.inner.Projects.{LeavesFor}
use Rattle.pie_build.proofs.Crashing.{withstands_still, withstands_then}
use Rattle.pie_build.proofs.Ran.{still_there, reports_none, reports_ran}
use Rattle.pie_build.proofs.Crashing.{rests_ok}
use Rattle.pie_build.proofs.AskingClean.{built_asks, built_asks_seen}
use Rattle.pie_build.proofs.building.build.Goals as goal

pub since-requires : goal.since-requires
since-requires g c = still_there c.count-before.result c.args.runs.now c.evaluate.new.runs c.count-before.ensures c.in_ok-built.ensures.runs

pub returns-in_err-built-clause-rebuilds : goal.returns-in_err-built-clause-rebuilds
returns-in_err-built-clause-rebuilds g c =
    let failed : Err c.in_err-built.field-0.0 ≡ c.from_residual.result = search rules in
    failed_rebuilds c.args.project (g.F.Files.holds c.args.files.now) (g.F.Files.holds c.evaluate.new.files) c.from_residual.result
    c.in_err-built.field-0.0 failed c.in_err-built.ensures.reads.same

pub returns-in_err-ran-clause-rebuilds : goal.returns-in_err-ran-clause-rebuilds
returns-in_err-ran-clause-rebuilds g c =
    let failed : Err OutOfMemory ≡ c.from_residual-in_err-ran.result = search rules in
    failed_rebuilds c.args.project (g.F.Files.holds c.args.files.now) (g.F.Files.holds c.evaluate.new.files) c.from_residual-in_err-ran.result
    OutOfMemory failed c.in_ok-built.ensures.reads.same

pub returns-clause-rebuilds : goal.returns-clause-rebuilds
returns-clause-rebuilds g c =
    rebuilds_then c.args.project (g.F.Files.holds c.args.files.now) (g.F.Files.holds c.evaluate.new.files) (g.F.Files.holds c.finish.new.files)
    c.finish.result c.in_ok-built.ensures.reads.same c.finish.ensures.rebuilds

pub returns-in_err-built-clause-started : goal.returns-in_err-built-clause-started
returns-in_err-built-clause-started g c =
    let failed : Err c.in_err-built.field-0.0 ≡ c.from_residual.result = search rules in
    reports_none c.args.runs.now c.evaluate.new.runs c.from_residual.result c.in_err-built.field-0.0 failed c.evaluate.ensures.runs

pub returns-in_err-ran-clause-started : goal.returns-in_err-ran-clause-started
returns-in_err-ran-clause-started g c =
    let failed : Err OutOfMemory ≡ c.from_residual-in_err-ran.result = search rules in
    reports_none c.args.runs.now c.evaluate.new.runs c.from_residual-in_err-ran.result OutOfMemory failed c.evaluate.ensures.runs

pub returns-clause-started : goal.returns-clause-started
returns-clause-started g c =
    reports_ran c.count-before.result c.args.runs.now c.evaluate.new.runs c.in_ok-ran.ran c.finish.result c.count-before.ensures
    c.in_ok-built.ensures.runs c.in_ok-ran.ensures c.finish.ensures.ran

pub finish-requires-clause-placed : goal.finish-requires-clause-placed
finish-requires-clause-placed g c =
    record { table = c.requires.table; kept = c.in_ok-built.ensures.kept; stored = c.in_ok-built.ensures.stored }

pub finish-requires-clause-clean : goal.finish-requires-clause-clean
finish-requires-clause-clean g c = clean_by (g.F.Files.holds c.args.files.now) (g.F.Files.holds c.evaluate.new.files) c.count-before.result c.args.runs.now
    c.evaluate.new.runs c.in_ok-ran.ran.items c.args.project.typed c.args.project.roots.items c.in_ok-built.built c.count-before.ensures
    c.in_ok-ran.ensures c.in_ok-built.ensures.reads.same c.in_ok-built.ensures.clean

pub returns-in_err-ran-clause-crash : goal.returns-in_err-ran-clause-crash
returns-in_err-ran-clause-crash g c = withstands_still g.F.Files.holds g.F.Files.moment g.F.Files.left_since g.F.Files.images (LeavesFor c.args.project)
    c.args.files.now c.evaluate.new.files c.in_ok-built.ensures.reads.crash

pub returns-clause-crash : goal.returns-clause-crash
returns-clause-crash g c = withstands_then g.F.Files.holds g.F.Files.moment g.F.Files.left_since g.F.Files.images (LeavesFor c.args.project)
    c.args.files.now c.evaluate.new.files c.finish.new.files c.in_ok-built.ensures.reads.same c.in_ok-built.ensures.reads.crash c.finish.ensures.crash

pub returns-clause-durable : goal.returns-clause-durable
returns-clause-durable g c =
    rests_ok g.F.Files.holds g.F.Files.moment g.F.Files.left_since g.F.Files.images c.args.files.now c.evaluate.new.files c.finish.new.files c.finish.result
    c.in_ok-built.ensures.reads.same c.in_ok-built.ensures.reads.crash c.finish.ensures.durable

pub returns-in_err-built-clause-crash : goal.returns-in_err-built-clause-crash
returns-in_err-built-clause-crash g c =
    withstands_still g.F.Files.holds g.F.Files.moment g.F.Files.left_since g.F.Files.images (LeavesFor c.args.project) c.args.files.now c.evaluate.new.files
    c.in_err-built.ensures.reads.crash

pub returns-in_err-built-clause-asks : goal.returns-in_err-built-clause-asks
returns-in_err-built-clause-asks g c =
    built_asks_seen (g.F.Files.holds c.args.files.now) c.args.project.typed c.args.runs.now c.evaluate.new.runs (g.F.Files.asked c.args.files.now) (g.F.Files.asked c.evaluate.new.files)
    c.evaluate.ensures.asks

pub returns-in_err-ran-clause-asks : goal.returns-in_err-ran-clause-asks
returns-in_err-ran-clause-asks g c =
    built_asks_seen (g.F.Files.holds c.args.files.now) c.args.project.typed c.args.runs.now c.evaluate.new.runs (g.F.Files.asked c.args.files.now) (g.F.Files.asked c.evaluate.new.files)
    c.evaluate.ensures.asks

pub returns-clause-asks : goal.returns-clause-asks
returns-clause-asks g c =
    built_asks (g.F.Files.holds c.args.files.now) c.args.project.typed c.args.runs.now c.evaluate.new.runs (g.F.Files.asked c.args.files.now) (g.F.Files.asked c.evaluate.new.files)
    (g.F.Files.asked c.finish.new.files) c.evaluate.ensures.asks c.finish.ensures.asks
