use Rattle.std.proofs.Common.{◌≤◌, subst, ℕ, List}
use Rattle.std.specs.Prelude.{slice_index_or}
use Rattle.pie_view.proofs.Entering.{none_last}
use Rattle.pie_view.proofs.entered.EnteredRowsTaskRows.set_edges.Goals as goal

pub invariant_of-self : goal.invariant_of-self
invariant_of-self c = λ n m low high.
    none_last c.set_edges.new.self n m low (subst (λ (ns : List ℕ). m ≤ slice_index_or ns n n) c.clear.ensures.items high)

pub invariant_of-self-2 : goal.invariant_of-self-2
invariant_of-self-2 c = λ n m low high.
    none_last c.set_edges.new.self n m low (subst (λ (ns : List ℕ). m ≤ slice_index_or ns n n) c.clear.ensures.items high)
