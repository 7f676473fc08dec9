use Rattle.std.proofs.Common.{◌≡◌, ◌++◌, drop}
use Rattle.std.specs.List.{flat_map}
use Rattle.pie_record.specs.Canonical.{enc_record}
use Rattle.pie_record.specs.Canonical.{IsTrueRecord}
use Rattle.pie_record.proofs.Writing.{AllBelow}
use Rattle.pie_store.proofs.writer.put_all_rows.Given as goal

abbrev pub invariant-loop-rec : goal.invariant-loop-rec
invariant-loop-rec l =
    (l.out.items ++ flat_map enc_record (drop l.rec-index l.rows) ≡ l.fn.out.items ++ flat_map enc_record l.rows)
    × AllBelow IsTrueRecord l.rows l.rec-index
