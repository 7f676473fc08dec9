use Rattle.std.proofs.Common.{◌≡◌, ◌&&◌, not, ℕ, length, drop, eqb}
use Rattle.pie_graph.specs.Numbers.{numbers}
use Rattle.pie_union.specs.inner.Among.{among, calls}
use Rattle.pie_union.proofs.callers.Callers.remove_all.Given as goal

abbrev pub invariant-loop-callee : goal.invariant-loop-callee
invariant-loop-callee l =
    (length l.self ≡ length l.fn.self)
    × ((a b : ℕ) → (calls l.self a b && not (eqb a l.caller.0 && (among (numbers (drop l.callee-index l.callees)) b && not (among l.staying b)))) ≡
    (calls l.fn.self a b && not (eqb a l.caller.0 && (among (numbers l.callees) b && not (among l.staying b)))))
