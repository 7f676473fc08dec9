use Rattle.std.specs.Prelude.{string_bytes}
use Rattle.pie_cli.proofs.Fresh.{reported}
use Rattle.pie_cli.proofs.clean.fresh.Goals as goal

pub returns-in-Ok-clause-built : goal.returns-in-Ok-clause-built
returns-in-Ok-clause-built g c =
    let told = c.in_ok-of_report-in-Ok in
    reported (g.F.Files.holds c.args.files.now) (g.F.Files.holds c.rebuild.new.files) c.args.json c.in-Ok.report
    (string_bytes told.field-0.text) told.field-0.status c.in-Ok.ensures.files.left told.ensures.text told.ensures.status
