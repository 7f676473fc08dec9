-- The same items in ascending order.
use Rattle.std.proofs.Common.{List, subst, IfOk}
use Rattle.pie_value.specs.Tree.{Tree, items_of}
use Rattle.pie_value.specs.Values.{tree_of, trees_of}
use Rattle.pie_builtins.specs.Laws.{IsSortedList}
use Rattle.pie_builtins.proofs.SortLaw.{sort_law}
use Rattle.pie_builtins.proofs.sorts.list_sorted.Goals as goal

pub returns-clause-law : goal.returns-clause-law
returns-clause-law c = subst (λ (ts : List Tree). IfOk c.sorted.result (λ v. IsSortedList (items_of ts) (tree_of v))) c.as_slice.ensures
    (sort_law (items_of (trees_of c.as_slice.result.now)) c.sorted.result c.sorted.ensures)
