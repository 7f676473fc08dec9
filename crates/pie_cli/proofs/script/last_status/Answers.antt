use Rattle.std.proofs.Common.{◌∙◌}
use Rattle.pie_cli.proofs.Playing.{last_of}
use Rattle.pie_cli.proofs.script.last_status.Goals as goal

pub returns-in-Some : goal.returns-in-Some
returns-in-Some c = c.status_of.ensures.status ∙ last_of c.args.reports.now c.in-Some.report.now c.in-Some.ensures.value
