use Rattle.pie_auto.proofs.Finding.{kept_follows}
use Rattle.pie_auto.proofs.automatic.keep_accepted.Goals as goal

pub returns-in-Ok-clause-follows : goal.returns-in-Ok-clause-follows
returns-in-Ok-clause-follows g c =
    kept_follows (g.F.Files.holds c.args.files.now) (g.F.Files.holds c.keep_manifest.new.files) c.args.tops.now c.args.seen c.in-Ok.field-0 c.in-Ok.ensures.wrote
