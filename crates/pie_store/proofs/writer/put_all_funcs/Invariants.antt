use Rattle.std.proofs.Common.{◌≡◌, ◌++◌, drop}
use Rattle.std.specs.List.{flat_map}
use Rattle.pie_store.specs.Canonical.{enc_func}
use Rattle.pie_store.specs.Texts.{IsFunc}
use Rattle.pie_record.proofs.Writing.{AllBelow}
use Rattle.pie_store.proofs.writer.put_all_funcs.Given as goal

abbrev pub invariant-loop-name : goal.invariant-loop-name
invariant-loop-name l =
    (l.out.items ++ flat_map enc_func (drop l.name-index l.funcs) ≡ l.fn.out.items ++ flat_map enc_func l.funcs)
    × AllBelow IsFunc l.funcs l.name-index
