use Rattle.std.proofs.Common.{◌≡◌, ℕ, ◌<◌, []}
use Rattle.pie_reach.specs.declared.descent.State.TheVariants.{New}
use Rattle.pie_reach.specs.inner.Descents.{state_of, Descends}
use Rattle.pie_reach.proofs.descent.descend.Given as goal

abbrev pub invariant-loop-i : goal.invariant-loop-i
invariant-loop-i g l =
    (l.descent.stack.items ≡ []) × Descends (g.R.TaskRows.rows l.rows) l.descent × ((n : ℕ) → n < l.i → state_of l.descent.states.items n ≡ New → ⊥)
