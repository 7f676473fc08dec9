use Rattle.std.proofs.Common.{inl, inr}
use Rattle.pie_project.specs.Refusals.{OfPipeline, OfRoots, plain}
use Rattle.pie_auto.specs.declared.automatic.Automatic.{Automatic}
use Rattle.pie_cli.proofs.Making.{few_of, pipeline_refused, pipeline_says, roots_refused, roots_say}
use Rattle.pie_script_laws.proofs.Scanning.{finds_clean}
use Rattle.pie_cli.proofs.finding.auto.Goals as goal

pub returns-in-Err-Pipeline-clause-says : goal.returns-in-Err-Pipeline-clause-says
returns-in-Err-Pipeline-clause-says g c =
    let told = c.in_ok-bad_pipeline-in-Err-Pipeline in
    let e = c.in-Err-Pipeline in
    inl (OfPipeline (plain e.fault), pipeline_says Automatic (g.F.Files.holds c.args.files.now) e.field-0 e.fault e.field-0-is e.ensures.says, e.ensures.refused (pipeline_refused e.field-0 e.fault e.field-0-is), told.ensures.text, told.ensures.status)

pub returns-in-Err-Roots-clause-says : goal.returns-in-Err-Roots-clause-says
returns-in-Err-Roots-clause-says g c =
    let told = c.in_ok-bad_roots-in-Err-Roots in
    let e = c.in-Err-Roots in
    inl (OfRoots e.reason, roots_say Automatic (g.F.Files.holds c.args.files.now) e.field-0 e.reason e.field-0-is e.ensures.says, e.ensures.refused (roots_refused e.field-0 e.reason e.field-0-is), told.ensures.text, told.ensures.status)

pub returns-in-Ok-clause-says : goal.returns-in-Ok-clause-says
returns-in-Ok-clause-says g c =
    let told = c.in_ok-of_found-in-Ok in
    let found = c.in-Ok.found in
    inr (record {
      listing = found.listing;
      report = found.report;
      found = c.in-Ok.ensures.found;
      clean = finds_clean (g.F.Files.holds c.args.files.now) _ found.listing found.report (g.F.Files.holds c.auto.new.files) c.in-Ok.ensures.found;
      few = few_of 100000 c.new-runs.result c.auto.new.runs found.report.ran.items c.in-Ok.ensures.ran c.in-Ok.ensures.few;
      is = told.ensures.text;
      status = told.ensures.status;
    })
