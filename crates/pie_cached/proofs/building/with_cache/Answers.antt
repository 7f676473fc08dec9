use Rattle.std.proofs.Common.{map}
use Rattle.std.specs.Prelude.{Vec}
use Rattle.std.specs.declared.alloc.Global.{Global}
use Rattle.pie_project.specs.declared.fault.BuildError.{BuildError}
use Rattle.pie_report.specs.declared.report.Report.{Report}
use Rattle.pie_topdown_build.proofs.Crashing.{error_verdict}
use Rattle.pie_topdown_build.specs.declared.offered.Offered.{Offered}
use Rattle.pie_topdown_build.specs.inner.News.{as_told}
use Rattle.pie_value.specs.declared.task.Task.{Task}
use Rattle.pie_cached.proofs.Keeping.{after_build}
use Rattle.pie_cached.proofs.Cleanly.{all_kept, finished_clean}
use Rattle.pie_cached.proofs.Ran.{finished_runs}
use Rattle.pie_cached.proofs.Others.{both, of_build, of_cache}
use Rattle.pie_cached.proofs.Saying.{refuses_built, refuses_done, tells_built}
use Rattle.pie_cached.proofs.Stopping.{built_marked, built_only, kept_marked, kept_then, rests_both}
use Rattle.pie_cached.proofs.building.with_cache.Goals as goal

pub finish-requires : goal.finish-requires
finish-requires g c = c.in-Ok.ensures.tells.new

pub returns-in-Ok-clause-stays : goal.returns-in-Ok-clause-stays
returns-in-Ok-clause-stays g c =
    let F = g.F.Files in
    let before = c.args.files.now in
    let mid = c.build_offered.new.files in
    let after = c.finish.new.files in
    let news = c.in-Ok.offered.new.items in
    let e = c.in-Ok.ensures in
    let rests = e.stays.crash.durable tt in
    let keeping = c.finish.ensures.stays in
    record {
      rest = both (F.holds before) (F.holds mid) (F.holds after) (of_build (F.holds before) (F.holds mid) e.stays.rest)
          (of_cache (F.holds mid) (F.holds after) c.finish.ensures.rest);
      crash = kept_then F.holds F.moment F.left_since F.images before mid after c.in-Ok.offered.report.value (map as_told news) (all_kept news e.tells.new)
          e.clean e.tells.honest e.stays.crash.crash rests keeping.whole keeping.alike;
      marked = kept_marked F.holds F.moment F.left_since F.images before mid after e.stays.crash.marked rests keeping.alike;
      durable = λ says. rests_both F.holds F.moment F.left_since F.images before mid after rests (keeping.durable says);
    }

pub returns-in-Err-clause-stays : goal.returns-in-Err-clause-stays
returns-in-Err-clause-stays g c =
    let F = g.F.Files in
    let before = c.args.files.now in
    let after = c.build_offered.new.files in
    let e = c.in-Err.ensures.stays in
    record {
      rest = of_build (F.holds before) (F.holds after) e.rest;
      crash = built_only F.holds F.moment F.left_since F.images before after e.crash.crash;
      marked = built_marked F.holds F.moment F.left_since F.images before after e.crash.marked;
      durable = λ says. e.crash.durable (error_verdict (Report × Vec Task Global) Offered c.in-Err.error says);
    }

pub returns-in-Ok-clause-refuses : goal.returns-in-Ok-clause-refuses
returns-in-Ok-clause-refuses g c =
    refuses_done (g.F.Files.holds c.args.files.now) (g.F.Files.holds c.build_offered.new.files) (g.F.Files.holds c.finish.new.files)
    c.in-Ok.offered.report.value c.finish.result c.in-Ok.ensures.refuses.kept c.finish.ensures.rest c.finish.ensures.report c.finish.ensures.accepted

pub returns-in-Err-clause-refuses : goal.returns-in-Err-clause-refuses
returns-in-Err-clause-refuses g c =
    refuses_built (g.F.Files.holds c.args.files.now) (g.F.Files.holds c.build_offered.new.files) c.in-Err.error c.in-Err.ensures.refuses

pub returns-in-Ok-clause-ran : goal.returns-in-Ok-clause-ran
returns-in-Ok-clause-ran g c =
    tells_built c.args.runs.now c.build_offered.new.runs c.in-Ok.offered c.finish.result c.in-Ok.ensures.ran c.in-Ok.ensures.tells.reused
    c.finish.ensures.report c.finish.ensures.reused

pub returns-in-Err-clause-ran : goal.returns-in-Err-clause-ran
returns-in-Err-clause-ran g c = record { ran = tt; few = c.build_offered.ensures.ran.few; encodable = tt; reused = tt }

pub returns-in-Ok-clause-cache : goal.returns-in-Ok-clause-cache
returns-in-Ok-clause-cache g c =
    let made = c.in-Ok.offered.report.value in
    after_build (Vec Task Global) BuildError (g.F.Files.holds c.args.files.now) (g.F.Files.holds c.build_offered.new.files) (g.F.Files.holds c.finish.new.files)
    made (map as_told c.in-Ok.offered.new.items) c.finish.result c.in-Ok.ensures.tells.news c.in-Ok.ensures.stays.rest c.finish.ensures.report
    c.finish.ensures.rest c.finish.ensures.cache

pub returns-in-Ok-clause-clean : goal.returns-in-Ok-clause-clean
returns-in-Ok-clause-clean g c =
    let news = c.in-Ok.offered.new.items in
    finished_clean c.in-Ok.offered.report.value (map as_told news) (all_kept news c.in-Ok.ensures.tells.new) c.finish.result (g.F.Files.holds c.args.files.now)
    (g.F.Files.holds c.build_offered.new.files) (g.F.Files.holds c.finish.new.files) c.in-Ok.ensures.stays.rest c.in-Ok.ensures.clean
    c.in-Ok.ensures.tells.honest c.finish.ensures.rest c.finish.ensures.cache c.finish.ensures.report

pub returns-in-Ok-clause-runs : goal.returns-in-Ok-clause-runs
returns-in-Ok-clause-runs g c =
    finished_runs c.in-Ok.offered.report.value c.in-Ok.offered.reused c.finish.result (g.F.Files.holds c.args.files.now) c.in-Ok.ensures.runs
    c.finish.ensures.report c.finish.ensures.reused
