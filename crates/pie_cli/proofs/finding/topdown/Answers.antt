use Rattle.std.proofs.Common.{Err, inl, inr, sym, subst}
use Rattle.pie_project.specs.Refusals.{IsVerdict, OfPipeline, OfRoots, plain}
use Rattle.pie_report.specs.declared.report.Report.{Report}
use Rattle.pie_cli.proofs.Making.{few_of, pipeline_refused, pipeline_says, roots_refused, roots_say}
use Rattle.pie_cli.proofs.finding.topdown.Goals as goal

pub returns-in-Err-Pipeline-clause-says : goal.returns-in-Err-Pipeline-clause-says
returns-in-Err-Pipeline-clause-says g c =
    let told = c.in_ok-bad_pipeline-in-Err-Pipeline in
    let e = c.in-Err-Pipeline in
    let refuses = e.ensures.refuses in
    inl (
      OfPipeline (plain e.fault),
      pipeline_says Report (g.F.Files.holds c.args.files.now) e.field-0 e.fault e.field-0-is refuses.says,
      refuses.refused (pipeline_refused e.field-0 e.fault e.field-0-is),
      told.ensures.text,
      told.ensures.status,
    )

pub returns-in-Err-Roots-clause-says : goal.returns-in-Err-Roots-clause-says
returns-in-Err-Roots-clause-says g c =
    let told = c.in_ok-bad_roots-in-Err-Roots in
    let e = c.in-Err-Roots in
    let refuses = e.ensures.refuses in
    inl (
      OfRoots e.reason,
      roots_say Report (g.F.Files.holds c.args.files.now) e.field-0 e.reason e.field-0-is refuses.says,
      refuses.refused (roots_refused e.field-0 e.reason e.field-0-is),
      told.ensures.text,
      told.ensures.status,
    )

pub returns-in-Ok-clause-says : goal.returns-in-Ok-clause-says
returns-in-Ok-clause-says g c =
    let told = c.in_ok-of_report-in-Ok in
    let report = c.in-Ok.report in
    inr (record {
      report = report;
      few = few_of 50000 c.new-runs.result c.build_topdown.new.runs report.ran.items c.in-Ok.ensures.ran.ran c.in-Ok.ensures.ran.few;
      kept = c.in-Ok.ensures.refuses.kept;
      clean = c.in-Ok.ensures.clean;
      runs = c.in-Ok.ensures.runs;
      is = told.ensures.text;
      status = told.ensures.status;
    })

pub returns-in-Ok-clause-durable : goal.returns-in-Ok-clause-durable
returns-in-Ok-clause-durable g c = c.in-Ok.ensures.stays.crash.durable tt

pub returns-in-Err-Pipeline-clause-durable : goal.returns-in-Err-Pipeline-clause-durable
returns-in-Err-Pipeline-clause-durable g c =
    let e = c.in-Err-Pipeline in
    e.ensures.stays.crash.durable (subst (λ x. IsVerdict {A = Report} (Err x)) (sym e.field-0-is) (tt {0}))

pub returns-in-Err-Roots-clause-durable : goal.returns-in-Err-Roots-clause-durable
returns-in-Err-Roots-clause-durable g c =
    let e = c.in-Err-Roots in
    e.ensures.stays.crash.durable (subst (λ x. IsVerdict {A = Report} (Err x)) (sym e.field-0-is) (tt {0}))
