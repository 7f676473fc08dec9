use Rattle.std.proofs.Common.{ap, subst, ◌+◌}
use Rattle.std.specs.Prelude.{string_bytes}
use Rattle.pie_cli.specs.inner.Played.{Adds}
use Rattle.pie_cli.proofs.Playing.{one_printed}
use Rattle.pie_cli.proofs.script.texts.Goals as goal

pub loop-report-preserved : goal.loop-report-preserved
loop-report-preserved c = (
  one_printed c.args.json c.args.reports.now c.loop-report.report-index c.report-item.result (string_bytes c.loop-report.text)
      (string_bytes c.put_report.new.text) c.loop-report-test.true c.report-item.is c.loop-report.invariant.0
      (subst (λ n. Adds c.args.json (n + 1) c.report-item.result (string_bytes c.loop-report.text) (string_bytes c.put_report.new.text))
      c.loop-report.invariant.1 c.in_ok-put_report.ensures),
  ap (λ n. n + 1) c.loop-report.invariant.1,
)
