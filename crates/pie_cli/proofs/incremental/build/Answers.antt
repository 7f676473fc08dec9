use Rattle.std.proofs.Common.{inl, inr}
use Rattle.pie_project.specs.Refusals.{OfPipeline, OfRoots, plain}
use Rattle.pie_report.specs.declared.report.Report.{Report}
use Rattle.pie_cli.proofs.Making.{pipeline_refused, pipeline_says, roots_refused, roots_say}
use Rattle.pie_cli.proofs.incremental.build.Goals as goal

pub returns-in-Ok-clause-says : goal.returns-in-Ok-clause-says
returns-in-Ok-clause-says g c =
    let told = c.in_ok-of_report-in-Ok in
    inr (
      c.in-Ok.report,
      record { treated = c.in-Ok.ensures.names; few = c.in-Ok.ensures.runs.most; clean = c.in-Ok.ensures.clean; asks = c.in-Ok.ensures.asks },
      told.ensures.text,
      told.ensures.status,
    )

pub returns-in-Err-Pipeline-clause-says : goal.returns-in-Err-Pipeline-clause-says
returns-in-Err-Pipeline-clause-says g c =
    let told = c.in_ok-bad_pipeline-in-Err-Pipeline in
    let e = c.in-Err-Pipeline in
    inl (
      OfPipeline (plain e.fault),
      pipeline_says Report (g.F.Files.holds c.args.files.now) e.field-0 e.fault e.field-0-is e.ensures.refuses.says,
      e.ensures.refuses.refused (pipeline_refused e.field-0 e.fault e.field-0-is),
      told.ensures.text,
      told.ensures.status,
    )

pub returns-in-Err-Roots-clause-says : goal.returns-in-Err-Roots-clause-says
returns-in-Err-Roots-clause-says g c =
    let told = c.in_ok-bad_roots-in-Err-Roots in
    let e = c.in-Err-Roots in
    inl (
      OfRoots e.reason,
      roots_say Report (g.F.Files.holds c.args.files.now) e.field-0 e.reason e.field-0-is e.ensures.refuses.says,
      e.ensures.refuses.refused (roots_refused e.field-0 e.reason e.field-0-is),
      told.ensures.text,
      told.ensures.status,
    )
