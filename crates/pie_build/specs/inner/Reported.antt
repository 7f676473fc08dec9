-- The report of what a build has made.
use Rattle.std.specs.Prelude.{◌≡◌, Option, None}
use Rattle.std.specs.declared.alloc.Global.{Global}
use Rattle.std.proofs.Common.{Vec}
use Rattle.pie_files.specs.Directory.{Directory}
use Rattle.pie_report.specs.declared.report.Report.{Report}
use Rattle.pie_value.specs.declared.task.Task.{Task}
use Rattle.pie_build.specs.declared.place.Made.{Made}
use Rattle.pie_build.specs.Left.{Puts}

-- a report tells how many tasks are live, those that ran, and the outputs of the roots, and no cause to start afresh
pub record IsReportOf (made : Made) (tasks : Vec Task Global) (r : Report) : Type 0 where
  pub fresh : r.fresh ≡ None
  pub live : r.live ≡ made.live
  pub ran : r.ran ≡ tasks
  pub outputs : r.outputs ≡ made.outputs

-- what was made was put into place, and this is its report
abbrev pub PutsMade : Made → Vec Task Global → Directory → Report → Option Directory → Type 0
PutsMade made ran d r after = Puts made.contents.items made.store.items d r after × IsReportOf made ran r
