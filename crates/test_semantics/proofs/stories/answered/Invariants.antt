-- Before each answer the machine can go on, and belongs to the code.
use Rattle.std.proofs.Common.{◌≡◌}
use Rattle.pie_vm.specs.Machines.{Belongs}
use Rattle.pie_vm.specs.declared.machine.MachineState.TheVariants.{Ready}
use Rattle.test_semantics.proofs.stories.answered.Given as goal

abbrev pub invariant-loop-word : goal.invariant-loop-word
invariant-loop-word l = (l.machine.phase ≡ Ready) × Belongs l.code l.machine
