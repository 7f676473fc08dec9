use Rattle.std.proofs.Common.{◌≡◌, ◌&&◌, ◌||◌, ℕ, true, length, drop, eqb}
use Rattle.pie_graph.specs.Numbers.{numbers}
use Rattle.pie_union.specs.inner.Among.{among, calls}
use Rattle.pie_union.proofs.callers.Callers.add_all.Given as goal

abbrev pub invariant-loop-callee : goal.invariant-loop-callee
invariant-loop-callee l =
    (length l.self ≡ length l.fn.self)
    × ((a b : ℕ) → (calls l.self a b || (eqb a l.caller.0 && among (numbers (drop l.callee-index l.callees)) b)) ≡
    (calls l.fn.self a b || (eqb a l.caller.0 && among (numbers l.callees) b)))
    × ((a b : ℕ) → calls l.fn.self a b ≡ true → calls l.self a b ≡ true)
