use Rattle.pie_value.proofs.Writing.{items_written}
use Rattle.std.proofs.Common.{arith}
use Rattle.pie_value.proofs.Elements.{count_of_items, mass_at, trees_left}
use Rattle.pie_value.proofs.writer.+writing.Goals as goal

pub put_items-returns-clause-written : goal.put_items-returns-clause-written
put_items-returns-clause-written t c =
    items_written _ _ _ _ _ c.as_slice-values.ensures c.in_ok-put_len.ensures c.in_ok-put_all.ensures.written

pub put_all-put-requires : goal.put_all-put-requires
put_all-put-requires t c = grind (arith, count_of_items, trees_left, mass_at)
