use Rattle.std.proofs.Common.{◌≡◌, ◌++◌, drop}
use Rattle.std.specs.List.{flat_map}
use Rattle.pie_record.specs.Canonical.{enc_write, IsTrueWrite}
use Rattle.pie_record.proofs.Writing.{AllBelow}
use Rattle.pie_record.proofs.writer.put_all_writes.Given as goal

abbrev pub invariant-loop-path : goal.invariant-loop-path
invariant-loop-path l =
    (l.out.items ++ flat_map enc_write (drop l.path-index l.writes) ≡ l.fn.out.items ++ flat_map enc_write l.writes)
    × AllBelow IsTrueWrite l.writes l.path-index
