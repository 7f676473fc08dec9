use Rattle.std.proofs.Common.{◌≡◌, ◌++◌, drop}
use Rattle.std.specs.List.{flat_map}
use Rattle.pie_scan.specs.Texts.{enc_entry, IsTrueEntry}
use Rattle.pie_record.proofs.Writing.{AllBelow}
use Rattle.pie_scan.proofs.writer.put_all_entries.Given as goal

abbrev pub invariant-loop-entry : goal.invariant-loop-entry
invariant-loop-entry l =
    (l.out.items ++ flat_map enc_entry (drop l.entry-index l.entries) ≡ l.fn.out.items ++ flat_map enc_entry l.entries) × AllBelow IsTrueEntry l.entries l.entry-index
