-- Which errors are refusals.
use Rattle.std.specs.Prelude.{Err}
use Rattle.pie_build.specs.inner.Rebuilt.{IsRefusal}
use Rattle.pie_project.specs.declared.fault.BuildError.{BuildError}
use Rattle.pie_project.specs.declared.fault.BuildError.TheVariants as errors
use Rattle.pie_report.specs.declared.report.Report.{Report}
use Rattle.pie_replay.specs.Replays.{Refuses}

pub is_refusal : (e : BuildError) → Refuses e → IsRefusal {A = Report} (Err e)
is_refusal (errors.Pipeline fault) h = h
is_refusal (errors.Roots reason) h = h
is_refusal errors.Files h = h
is_refusal errors.OutOfMemory h = h
