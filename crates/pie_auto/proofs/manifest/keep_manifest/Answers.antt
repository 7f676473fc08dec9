use Rattle.pie_auto.proofs.Keeping.{wrote_if}
use Rattle.pie_auto.proofs.manifest.keep_manifest.Goals as goal

pub returns-in_ok-put_manifest-in-Some-clause-wrote : goal.returns-in_ok-put_manifest-in-Some-clause-wrote
returns-in_ok-put_manifest-in-Some-clause-wrote g c =
    wrote_if (g.F.Files.holds c.args.files.now) (g.F.Files.holds c.store_hash.new.files) (g.F.Files.holds c.put_manifest.new.files) c.args.tops.now c.args.seen
    c.in_ok-store.field-0 c.in-Some.store c.in_ok-store.ensures.reads.same c.in-Some.is c.in_ok-store.ensures.hash
    c.in_ok-put_manifest-in-Some.ensures.kept
