use Rattle.std.proofs.Common.{rules}
use Rattle.pie_store.proofs.WholeAgain.{read_again}
use Rattle.pie_store.proofs.writer.encode_store_after.Goals as goal

pub returns-clause-read_back : goal.returns-clause-read_back
returns-clause-read_back c = read_again c.args.image.now c.put_bytes.new.out.items (record { store = c.in_ok-put_body.ensures.parts; bytes = search rules })
