-- Running has led here, and is nearer to its end with each step.
use Rattle.pie_code.proofs.Ending.{distance}
use Rattle.pie_vm.specs.Machines.{Led}
use Rattle.pie_vm.proofs.frame.Frame.run.Given as goal

abbrev pub invariant-steps : goal.invariant-steps
invariant-steps l = Led l.code l.fn.self l.self

abbrev pub decreases-steps : goal.decreases-steps
decreases-steps l = distance l.code l.self
