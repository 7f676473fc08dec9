use Rattle.std.proofs.Common.{◌≤◌, subst, ℕ, List}
use Rattle.std.specs.Prelude.{slice_index_or}
use Rattle.pie_view.proofs.Entering.{none_last}
use Rattle.pie_view.proofs.entered.EnteredRows.new.Goals as goal

pub invariant_of-result : goal.invariant_of-result
invariant_of-result c = λ n m low high.
    none_last c.new.result n m low (subst (λ (ns : List ℕ). m ≤ slice_index_or ns n n) c.new-2.ensures.items high)
