use Rattle.std.proofs.Common.{◌≡◌, ◌++◌, drop}
use Rattle.std.specs.List.{flat_map}
use Rattle.pie_record.specs.Canonical.{enc_dep, IsTrueDep}
use Rattle.pie_record.proofs.Writing.{AllBelow}
use Rattle.pie_record.proofs.writer.put_all_deps.Given as goal

abbrev pub invariant-loop-dep : goal.invariant-loop-dep
invariant-loop-dep l =
    (l.out.items ++ flat_map enc_dep (drop l.dep-index l.deps) ≡ l.fn.out.items ++ flat_map enc_dep l.deps) × AllBelow IsTrueDep l.deps l.dep-index
