use Rattle.std.proofs.Common.{◌≡◌, ◌&&◌, ℕ, not, List}
use Rattle.pie_union.specs.inner.Writers.{holds}
use Rattle.pie_union.proofs.PairSteps.{listed}
use Rattle.pie_union.proofs.writers.Writers.remove_all.Given as goal

abbrev pub invariant-loop-pair : goal.invariant-loop-pair
invariant-loop-pair l = (q : List ℕ × ℕ) → (holds l.self.pairs q && not (listed q l.pair-iterator && not (holds l.staying.pairs q))) ≡
    (holds l.fn.self.pairs q && not (holds l.pairs.pairs q && not (holds l.staying.pairs q)))
