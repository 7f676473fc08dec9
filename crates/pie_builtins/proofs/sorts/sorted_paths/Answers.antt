-- What std sorts is the list that the definition sorts.
use Rattle.std.proofs.Common.{◌≡◌, sym}
use Rattle.std.specs.Ordering.{nat_cmp}
use Rattle.std.specs.Cmp.Lexicographic.{slice_cmp, nat_list_cmp_total}
use Rattle.pie_value.specs.BuiltinItems.{sorted_by}
use Rattle.pie_builtins.proofs.Sorting.{sorted_is}
use Rattle.pie_builtins.proofs.sorts.sorted_paths.Goals as goal

pub returns : goal.returns
returns c =
    let e : c.sort.new.self.items ≡ sorted_by (slice_cmp nat_cmp) c.args.paths.items = sorted_is
    (slice_cmp nat_cmp) nat_list_cmp_total c.args.paths.items c.sort.new.self.items c.in_ok-sort.ensures.sorted c.in_ok-sort.ensures.stable in
    rw (sym e, sym c.as_slice.ensures.value, sym c.in_ok-list_of_paths.ensures) c.made.ensures
