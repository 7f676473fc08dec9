use Rattle.std.proofs.Common.{◌≡◌, ◌||◌, ℕ, true, List}
use Rattle.pie_union.specs.inner.Writers.{holds}
use Rattle.pie_union.proofs.PairSteps.{listed}
use Rattle.pie_union.proofs.writers.Writers.add_all.Given as goal

abbrev pub invariant-loop-pair : goal.invariant-loop-pair
invariant-loop-pair l =
    ((q : List ℕ × ℕ) → (holds l.self.pairs q || listed q l.pair-iterator) ≡ (holds l.fn.self.pairs q || holds l.pairs.pairs q))
    × ((q : List ℕ × ℕ) → holds l.fn.self.pairs q ≡ true → holds l.self.pairs q ≡ true)
