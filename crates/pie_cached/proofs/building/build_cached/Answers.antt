use Rattle.std.specs.Prelude.{Vec}
use Rattle.std.specs.declared.alloc.Global.{Global}
use Rattle.pie_project.specs.declared.fault.BuildError.{BuildError}
use Rattle.pie_project.specs.declared.fault.BuildError.TheVariants as errors
use Rattle.pie_value.specs.declared.task.Task.{Task}
use Rattle.pie_cached.proofs.Keeping.{after_open}
use Rattle.pie_cached.proofs.Staying.{keeps_cached}
use Rattle.pie_cached.proofs.Cleanly.{opened_clean}
use Rattle.pie_cached.proofs.Ran.{opened_runs}
use Rattle.pie_cached.proofs.Others.{both, of_cache}
use Rattle.pie_cached.proofs.Saying.{opening_endures, refuses_fault, refuses_opened, tells_none}
use Rattle.pie_cached.proofs.Stopping.{opened_marked, opened_stops, opening_stops, rests_both}
use Rattle.pie_cached.proofs.building.build_cached.Goals as goal

pub returns-in-Ok-clause-stays : goal.returns-in-Ok-clause-stays
returns-in-Ok-clause-stays g c =
    let F = g.F.Files in
    let before = c.args.files.now in
    let mid = c.open.new.files in
    let after = c.with_cache.new.files in
    let e = c.in-Ok.ensures in
    let stays = c.with_cache.ensures.stays in
    record {
      rest = both (F.holds before) (F.holds mid) (F.holds after) (of_cache (F.holds before) (F.holds mid) e.kept) stays.rest;
      crash = opened_stops F.holds F.moment F.left_since F.images before mid after e.kept e.cleared e.durable
          (opening_stops F.holds F.moment F.left_since F.images before mid e.whole e.crash) stays.crash;
      marked = opened_marked F.holds F.moment F.left_since F.images before mid after e.kept e.cleared e.durable stays.marked;
      durable = λ says. rests_both F.holds F.moment F.left_since F.images before mid after e.durable (stays.durable says);
    }

pub returns-in-Err-Failed-clause-stays : goal.returns-in-Err-Failed-clause-stays
returns-in-Err-Failed-clause-stays g c =
    opening_endures g.F.Files.holds g.F.Files.moment g.F.Files.left_since g.F.Files.images ⊥ c.args.files.now c.open.new.files (λ is. is)
    c.in-Err-Failed.ensures.kept c.in-Err-Failed.ensures.whole c.in-Err-Failed.ensures.crash

pub returns-in-Err-OutOfMemory-clause-stays : goal.returns-in-Err-OutOfMemory-clause-stays
returns-in-Err-OutOfMemory-clause-stays g c =
    opening_endures g.F.Files.holds g.F.Files.moment g.F.Files.left_since g.F.Files.images ⊥ c.args.files.now c.open.new.files (λ is. is)
    c.in-Err-OutOfMemory.ensures.kept c.in-Err-OutOfMemory.ensures.whole c.in-Err-OutOfMemory.ensures.crash

pub returns-in-Ok-clause-refuses : goal.returns-in-Ok-clause-refuses
returns-in-Ok-clause-refuses g c =
    refuses_opened (g.F.Files.holds c.args.files.now) (g.F.Files.holds c.open.new.files) (g.F.Files.holds c.with_cache.new.files) c.with_cache.result
    c.in-Ok.ensures.kept c.with_cache.ensures.refuses

pub returns-in-Err-Failed-clause-refuses : goal.returns-in-Err-Failed-clause-refuses
returns-in-Err-Failed-clause-refuses g c =
    refuses_fault (g.F.Files.holds c.args.files.now) (g.F.Files.holds c.open.new.files) errors.Files (λ is. is)

pub returns-in-Err-OutOfMemory-clause-refuses : goal.returns-in-Err-OutOfMemory-clause-refuses
returns-in-Err-OutOfMemory-clause-refuses g c =
    refuses_fault (g.F.Files.holds c.args.files.now) (g.F.Files.holds c.open.new.files) errors.OutOfMemory (λ is. is)

pub returns-in-Err-Failed-clause-ran : goal.returns-in-Err-Failed-clause-ran
returns-in-Err-Failed-clause-ran g c = tells_none c.args.runs.now errors.Files

pub returns-in-Err-OutOfMemory-clause-ran : goal.returns-in-Err-OutOfMemory-clause-ran
returns-in-Err-OutOfMemory-clause-ran g c = tells_none c.args.runs.now errors.OutOfMemory

pub returns-in-Ok-clause-cache : goal.returns-in-Ok-clause-cache
returns-in-Ok-clause-cache g c =
    after_open (Vec Task Global) BuildError (g.F.Files.holds c.args.files.now) (g.F.Files.holds c.open.new.files) (g.F.Files.holds c.with_cache.new.files)
    c.with_cache.result c.in-Ok.ensures.cleared c.in-Ok.ensures.kept c.with_cache.ensures.cache

pub returns-in-Ok-clause-others : goal.returns-in-Ok-clause-others
returns-in-Ok-clause-others g c =
    keeps_cached (Vec Task Global) BuildError (g.F.Files.holds c.args.files.now) (g.F.Files.holds c.with_cache.new.files) c.with_cache.result
    (returns-in-Ok-clause-cache g c)

pub returns-in-Ok-clause-clean : goal.returns-in-Ok-clause-clean
returns-in-Ok-clause-clean g c =
    opened_clean c.with_cache.result (g.F.Files.holds c.args.files.now) (g.F.Files.holds c.open.new.files) (g.F.Files.holds c.with_cache.new.files)
    c.in-Ok.ensures.cleared c.in-Ok.ensures.kept c.with_cache.ensures.clean

pub returns-in-Ok-clause-runs : goal.returns-in-Ok-clause-runs
returns-in-Ok-clause-runs g c =
    opened_runs c.with_cache.result (g.F.Files.holds c.args.files.now) (g.F.Files.holds c.open.new.files) c.in-Ok.ensures.cleared c.in-Ok.ensures.kept
    c.with_cache.ensures.runs
