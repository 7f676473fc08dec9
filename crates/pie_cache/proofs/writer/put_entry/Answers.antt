use Rattle.std.proofs.Common.{subst, sym}
use Rattle.std.specs.Prelude.{All}
use Rattle.pie_cache.specs.inner.Contents.{IsShort}
use Rattle.pie_cache.proofs.Writing.{are_short, entry_written}
use Rattle.pie_cache.proofs.writer.put_entry.Goals as goal

pub put_contents-requires : goal.put_contents-requires
put_contents-requires c =
    subst (All IsShort) (sym c.as_slice.ensures.value) (are_short c.args.entry.now.row.writes c.args.entry.now.contents.items c.requires.1)

pub returns-clause-written : goal.returns-clause-written
returns-clause-written c =
    entry_written c.args.entry.now c.as_slice.result.now c.args.out.now.items c.put_record.new.out.items c.put_contents.new.out.items
    c.as_slice.ensures.value c.in_ok-put_record.ensures.written c.in_ok-put_contents.ensures
