use Rattle.std.proofs.Common.{◌≡◌}
use Rattle.pie_value.specs.Tree.{items_of}
use Rattle.pie_value.specs.Values.{trees_of}
use Rattle.pie_value.specs.Types.{parts_of}
use Rattle.pie_value.specs.HasType.{have_types}
use Rattle.pie_types.specs.inner.Shown.{entries_of}
use Rattle.pie_types.specs.Whole.{types_in}
use Rattle.pie_types.proofs.Params.{fit_from}
use Rattle.pie_types.proofs.typed.have_types.Given as goal

abbrev pub invariant-loop-i : goal.invariant-loop-i
invariant-loop-i l = fit_from l.i l.params l.values ≡ have_types (parts_of (types_in (entries_of l.params))) (items_of (trees_of l.values))
