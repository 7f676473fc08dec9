use Rattle.std.proofs.Common.{◌≡◌, ◌++◌, drop}
use Rattle.std.specs.List.{flat_map}
use Rattle.pie_value.specs.Canonical.{counted}
use Rattle.pie_record.specs.Canonical.{IsTruePath}
use Rattle.pie_record.proofs.Writing.{AllBelow}
use Rattle.pie_scan.proofs.writer.put_all_tops.Given as goal

abbrev pub invariant-loop-top : goal.invariant-loop-top
invariant-loop-top l =
    (l.out.items ++ flat_map counted (drop l.top-index l.tops) ≡ l.fn.out.items ++ flat_map counted l.tops) × AllBelow IsTruePath l.tops l.top-index
