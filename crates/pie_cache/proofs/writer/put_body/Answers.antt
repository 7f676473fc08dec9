use Rattle.std.proofs.Common.{arith, rules}
use Rattle.pie_cache.proofs.Writing.{body_written}
use Rattle.pie_cache.proofs.writer.put_body.Goals as goal

pub returns-clause-written : goal.returns-clause-written
returns-clause-written c =
    body_written c.args.entries.now c.args.out.now.items c.put_bytes.new.out.items c.put_bytes-2.new.out.items c.put_all.new.out.items _
    (omega (arith, c.requires.count.1)) (search rules) c.in_ok-put_bytes-2.ensures c.in_ok-put_all.ensures.written
