use Rattle.std.proofs.Common.{◌≡◌}
use Rattle.pie_demo.specs.Draws.{state_after}
use Rattle.pie_demo.proofs.draws.Draws.skip.Given as goal

abbrev pub invariant-loop : goal.invariant-loop
invariant-loop l = l.self.state ≡ state_after l.fn.self.state l.counter
