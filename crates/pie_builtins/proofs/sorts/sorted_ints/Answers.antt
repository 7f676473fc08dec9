-- What std sorts is the list that the definition sorts.
use Rattle.std.proofs.Common.{◌≡◌, sym}
use Rattle.std.specs.Ordering.{int_cmp}
use Rattle.std.specs.Cmp.{int_cmp_total}
use Rattle.pie_value.specs.BuiltinItems.{sorted_by}
use Rattle.pie_builtins.proofs.Sorting.{sorted_is}
use Rattle.pie_builtins.proofs.sorts.sorted_ints.Goals as goal

pub returns : goal.returns
returns c =
    let e : c.sort.new.self.items ≡ sorted_by int_cmp c.args.ints.items = sorted_is int_cmp int_cmp_total c.args.ints.items c.sort.new.self.items
    c.in_ok-sort.ensures.sorted c.in_ok-sort.ensures.stable in
    rw (sym e, sym c.as_slice.ensures.value, sym c.in_ok-list_of_ints.ensures) c.made.ensures
