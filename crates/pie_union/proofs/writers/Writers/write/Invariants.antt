use Rattle.std.proofs.Common.{◌≡◌, ◌&&◌, ◌||◌, ℕ, List, drop, eqb}
use Rattle.pie_union.specs.inner.Writers.{holds, wrote}
use Rattle.pie_union.proofs.writers.Writers.write.Given as goal

abbrev pub invariant-loop-path : goal.invariant-loop-path
invariant-loop-path l = (pair : List ℕ × ℕ) → (holds l.self.pairs pair || (eqb pair.1 l.no.0 && wrote (drop l.path-index l.paths) pair.0)) ≡
    (holds l.fn.self.pairs pair || (eqb pair.1 l.no.0 && wrote l.paths pair.0))
