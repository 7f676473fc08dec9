use Rattle.std.proofs.Common.{rules}
use Rattle.pie_scan.proofs.Wholes.{read_again}
use Rattle.pie_scan.proofs.writer.write_manifest.Goals as goal

pub returns-clause-read_back : goal.returns-clause-read_back
returns-clause-read_back c = read_again c.args.manifest.now c.put_bytes.new.out.items (record { manifest = c.in_ok-put_body.ensures.parts; bytes = search rules })
