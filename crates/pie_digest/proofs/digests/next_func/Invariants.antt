use Rattle.std.proofs.Common.{◌≡◌, ◌++◌, drop, take}
use Rattle.pie_digest.specs.Digests.{before_func}
use Rattle.pie_digest.proofs.digests.next_func.Given as goal

abbrev pub invariant-loop-i : goal.invariant-loop-i
invariant-loop-i l = before_func l.tokens ≡ take l.i l.tokens ++ before_func (drop l.i l.tokens)
