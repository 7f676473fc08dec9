use Rattle.pie_auto.proofs.Keeping.{written_if}
use Rattle.pie_auto.proofs.manifest.put_manifest.Goals as goal

pub returns-clause-kept : goal.returns-clause-kept
returns-clause-kept g c =
    written_if (g.F.Files.holds c.args.files.now) (g.F.Files.holds c.entries_now.new.files) (g.F.Files.holds c.put_text.new.files) c.args.tops.now c.args.store
    c.in_ok-text.text.items c.in_ok-entries.entries.items c.args.seen c.put_text.result c.in_ok-entries.ensures.scanned c.in_ok-text.ensures
    c.in_ok-entries.ensures.reads.same c.put_text.ensures.held
