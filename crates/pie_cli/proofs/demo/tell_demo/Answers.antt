use Rattle.pie_files.specs.inner.SureFiles.{held_by}
use Rattle.pie_cli.proofs.Demos.{demo_text}
use Rattle.pie_cli.proofs.demo.tell_demo.Goals as goal

pub returns-clause-told : goal.returns-clause-told
returns-clause-told c =
    demo_text c.args.seed c.args.size (held_by c.new-files.result) (held_by c.demo.new.files) c.new-runs.result c.demo.new.runs c.new-clean.result
    c.demo.new.clean c.in_ok-summary.summary c.told.result c.new-files.ensures.empty c.new-runs.ensures c.new-clean.ensures c.in_ok-summary.ensures.demo
    c.in_ok-summary.ensures.rounds c.in_ok-summary.ensures.same c.told.ensures.text
