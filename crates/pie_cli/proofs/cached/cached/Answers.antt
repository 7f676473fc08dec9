use Rattle.std.proofs.Common.{◌≡◌, Err, List, inl, inr, rules, subst, sym}
use Rattle.std.specs.Prelude.{All, IfSome, Vec}
use Rattle.std.specs.declared.alloc.Global.{Global}
use Rattle.pie_cached.proofs.Fronting.{news_of}
use Rattle.pie_cached.proofs.Honestly.{clean_of}
use Rattle.pie_cached.specs.Clean.{CachesClean}
use Rattle.pie_cached.specs.News.{KeepsNews}
use Rattle.pie_cached.specs.Ran.{CachesRun}
use Rattle.pie_cached.specs.inner.Clean.{CachesCleanBy}
use Rattle.pie_files.proofs.Reading.{if_each}
use Rattle.pie_project.specs.Refusals.{IsVerdict, OfPipeline, OfRoots, plain}
use Rattle.pie_project.specs.declared.fault.BuildError.{BuildError}
use Rattle.pie_report.specs.declared.report.Report.{Report}
use Rattle.pie_value.specs.Canonical.{IsEncodableTask}
use Rattle.pie_value.specs.declared.task.Task.{Task}
use Rattle.pie_cli.proofs.Making.{few_of, pipeline_refused, pipeline_says, roots_refused, roots_say}
use Rattle.pie_cli.proofs.cached.cached.Goals as goal

pub of_cached-requires-clause-ran : goal.of_cached-requires-clause-ran
of_cached-requires-clause-ran g c = c.in-Ok.ensures.ran.encodable

pub of_cached-requires-clause-reused : goal.of_cached-requires-clause-reused
of_cached-requires-clause-reused g c =
    let slice : c.as_slice.result.now ≡ c.in-Ok.reused.items = search rules in
    subst (λ (ts : List Task). All IsEncodableTask ts) (sym slice) c.in-Ok.ensures.ran.reused

pub returns-in-Err-Pipeline-clause-says : goal.returns-in-Err-Pipeline-clause-says
returns-in-Err-Pipeline-clause-says g c =
    let told = c.in_ok-bad_pipeline-in-Err-Pipeline in
    let e = c.in-Err-Pipeline in
    inl (
      OfPipeline (plain e.fault),
      pipeline_says (Report × Vec Task Global) (g.F.Files.holds c.args.files.now) e.field-0 e.fault e.field-0-is e.ensures.refuses.says,
      e.ensures.refuses.refused (pipeline_refused e.field-0 e.fault e.field-0-is),
      told.ensures.text,
      told.ensures.status,
    )

pub returns-in-Err-Roots-clause-says : goal.returns-in-Err-Roots-clause-says
returns-in-Err-Roots-clause-says g c =
    let told = c.in_ok-bad_roots-in-Err-Roots in
    let e = c.in-Err-Roots in
    inl (
      OfRoots e.reason,
      roots_say (Report × Vec Task Global) (g.F.Files.holds c.args.files.now) e.field-0 e.reason e.field-0-is e.ensures.refuses.says,
      e.ensures.refuses.refused (roots_refused e.field-0 e.reason e.field-0-is),
      told.ensures.text,
      told.ensures.status,
    )

pub returns-in-Ok-clause-says : goal.returns-in-Ok-clause-says
returns-in-Ok-clause-says g c =
    let told = c.in_ok-of_cached-in-Ok in
    let report = c.in-Ok.report in
    let before = g.F.Files.holds c.args.files.now in
    let after = g.F.Files.holds c.build_cached.new.files in
    let slice : c.as_slice.result.now ≡ c.in-Ok.reused.items = search rules in
    inr (record {
      report = report;
      reused = c.as_slice.result.now;
      few = few_of 50000 c.new-runs.result c.build_cached.new.runs report.ran.items c.in-Ok.ensures.ran.ran c.in-Ok.ensures.ran.few;
      kept = c.in-Ok.ensures.refuses.kept;
      cache = c.in-Ok.ensures.others;
      news = if_each (λ d. CachesCleanBy d report after) (λ d. KeepsNews d report after) before (λ d by. news_of d report after by) c.in-Ok.ensures.clean;
      clean = if_each (λ d. CachesCleanBy d report after) (λ d. CachesClean d report after) before (λ d by. clean_of d report after by) c.in-Ok.ensures.clean;
      runs = subst (λ ts. IfSome before (λ d. CachesRun d report ts)) (sym slice) c.in-Ok.ensures.runs;
      is = told.ensures.text;
      status = told.ensures.status;
    })

-- ---- the files

pub returns-in-Ok-clause-rest : goal.returns-in-Ok-clause-rest
returns-in-Ok-clause-rest g c = c.build_cached.ensures.stays.rest

pub returns-in_err-of_cached-in-Ok-clause-rest : goal.returns-in_err-of_cached-in-Ok-clause-rest
returns-in_err-of_cached-in-Ok-clause-rest g c = c.build_cached.ensures.stays.rest

pub returns-in-Err-Pipeline-clause-rest : goal.returns-in-Err-Pipeline-clause-rest
returns-in-Err-Pipeline-clause-rest g c = c.build_cached.ensures.stays.rest

pub returns-in_err-bad_pipeline-in-Err-Pipeline-clause-rest : goal.returns-in_err-bad_pipeline-in-Err-Pipeline-clause-rest
returns-in_err-bad_pipeline-in-Err-Pipeline-clause-rest g c = c.build_cached.ensures.stays.rest

pub returns-in-Err-Roots-clause-rest : goal.returns-in-Err-Roots-clause-rest
returns-in-Err-Roots-clause-rest g c = c.build_cached.ensures.stays.rest

pub returns-in_err-bad_roots-in-Err-Roots-clause-rest : goal.returns-in_err-bad_roots-in-Err-Roots-clause-rest
returns-in_err-bad_roots-in-Err-Roots-clause-rest g c = c.build_cached.ensures.stays.rest

pub returns-in-Err-Files-clause-rest : goal.returns-in-Err-Files-clause-rest
returns-in-Err-Files-clause-rest g c = c.build_cached.ensures.stays.rest

pub returns-clause-rest : goal.returns-clause-rest
returns-clause-rest g c = c.build_cached.ensures.stays.rest

pub returns-in-Ok-clause-crash : goal.returns-in-Ok-clause-crash
returns-in-Ok-clause-crash g c = c.build_cached.ensures.stays.crash

pub returns-in_err-of_cached-in-Ok-clause-crash : goal.returns-in_err-of_cached-in-Ok-clause-crash
returns-in_err-of_cached-in-Ok-clause-crash g c = c.build_cached.ensures.stays.crash

pub returns-in-Err-Pipeline-clause-crash : goal.returns-in-Err-Pipeline-clause-crash
returns-in-Err-Pipeline-clause-crash g c = c.build_cached.ensures.stays.crash

pub returns-in_err-bad_pipeline-in-Err-Pipeline-clause-crash : goal.returns-in_err-bad_pipeline-in-Err-Pipeline-clause-crash
returns-in_err-bad_pipeline-in-Err-Pipeline-clause-crash g c = c.build_cached.ensures.stays.crash

pub returns-in-Err-Roots-clause-crash : goal.returns-in-Err-Roots-clause-crash
returns-in-Err-Roots-clause-crash g c = c.build_cached.ensures.stays.crash

pub returns-in_err-bad_roots-in-Err-Roots-clause-crash : goal.returns-in_err-bad_roots-in-Err-Roots-clause-crash
returns-in_err-bad_roots-in-Err-Roots-clause-crash g c = c.build_cached.ensures.stays.crash

pub returns-in-Err-Files-clause-crash : goal.returns-in-Err-Files-clause-crash
returns-in-Err-Files-clause-crash g c = c.build_cached.ensures.stays.crash

pub returns-clause-crash : goal.returns-clause-crash
returns-clause-crash g c = c.build_cached.ensures.stays.crash

pub returns-in-Ok-clause-marked : goal.returns-in-Ok-clause-marked
returns-in-Ok-clause-marked g c = c.build_cached.ensures.stays.marked

pub returns-in_err-of_cached-in-Ok-clause-marked : goal.returns-in_err-of_cached-in-Ok-clause-marked
returns-in_err-of_cached-in-Ok-clause-marked g c = c.build_cached.ensures.stays.marked

pub returns-in-Err-Pipeline-clause-marked : goal.returns-in-Err-Pipeline-clause-marked
returns-in-Err-Pipeline-clause-marked g c = c.build_cached.ensures.stays.marked

pub returns-in_err-bad_pipeline-in-Err-Pipeline-clause-marked : goal.returns-in_err-bad_pipeline-in-Err-Pipeline-clause-marked
returns-in_err-bad_pipeline-in-Err-Pipeline-clause-marked g c = c.build_cached.ensures.stays.marked

pub returns-in-Err-Roots-clause-marked : goal.returns-in-Err-Roots-clause-marked
returns-in-Err-Roots-clause-marked g c = c.build_cached.ensures.stays.marked

pub returns-in_err-bad_roots-in-Err-Roots-clause-marked : goal.returns-in_err-bad_roots-in-Err-Roots-clause-marked
returns-in_err-bad_roots-in-Err-Roots-clause-marked g c = c.build_cached.ensures.stays.marked

pub returns-in-Err-Files-clause-marked : goal.returns-in-Err-Files-clause-marked
returns-in-Err-Files-clause-marked g c = c.build_cached.ensures.stays.marked

pub returns-clause-marked : goal.returns-clause-marked
returns-clause-marked g c = c.build_cached.ensures.stays.marked

pub returns-in-Ok-clause-durable : goal.returns-in-Ok-clause-durable
returns-in-Ok-clause-durable g c = c.in-Ok.ensures.stays.durable tt

pub returns-in-Err-Pipeline-clause-durable : goal.returns-in-Err-Pipeline-clause-durable
returns-in-Err-Pipeline-clause-durable g c =
    let e = c.in-Err-Pipeline in
    e.ensures.stays.durable (subst (λ (x : BuildError). IsVerdict {A = Report × Vec Task Global} (Err x)) (sym e.field-0-is) (tt {0}))

pub returns-in-Err-Roots-clause-durable : goal.returns-in-Err-Roots-clause-durable
returns-in-Err-Roots-clause-durable g c =
    let e = c.in-Err-Roots in
    e.ensures.stays.durable (subst (λ (x : BuildError). IsVerdict {A = Report × Vec Task Global} (Err x)) (sym e.field-0-is) (tt {0}))
