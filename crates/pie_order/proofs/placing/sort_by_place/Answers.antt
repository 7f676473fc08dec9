-- The same tasks, in ascending order of their places.
use Rattle.std.proofs.Common.{rules}
use Rattle.std.specs.Prelude.{slice_index}
use Rattle.std.proofs.lemmas.List.Sorted.{IsPermutation-map, IsPermutation-sym, Contains-permutation, IsNonDecreasingBy-from_sort_by_key}
use Rattle.pie_graph.specs.declared.edges.TaskNo.{TaskNo}
use Rattle.pie_graph.specs.Numbers.{numbers}
use Rattle.pie_order.proofs.RunSteps.{in_order}
use Rattle.pie_order.proofs.placing.sort_by_place.Goals as goal

pub returns-clause-same : goal.returns-clause-same
returns-clause-same c = λ n.
    let old = numbers c.args.tasks.now.items in
    let new = numbers c.sort_unstable_by_key.new.self.items in
    let moved = IsPermutation-map
    (λ (t : TaskNo). t.0) c.args.tasks.now.items c.sort_unstable_by_key.new.self.items c.sort_unstable_by_key.ensures.permutation in
    (Contains-permutation new old n (IsPermutation-sym old new moved), Contains-permutation old new n moved)

pub returns-clause-order : goal.returns-clause-order
returns-clause-order c = in_order c.args.places.now c.sort_unstable_by_key.new.self.items
    (IsNonDecreasingBy-from_sort_by_key
    (λ (t : TaskNo). slice_index c.args.places.now t.0) c.sort_unstable_by_key.new.self.items c.sort_unstable_by_key.ensures.sorted
    (λ a r f' k. search rules))
