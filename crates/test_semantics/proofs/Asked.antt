-- A machine that waits belongs to its code.
use Rattle.std.proofs.Common.{◌≡◌}
use Rattle.pie_value.specs.Tree.{Tree}
use Rattle.pie_operators.specs.Domain.{Outcome, done, fails, wants}
use Rattle.pie_code.specs.declared.code.Code.{Code}
use Rattle.pie_vm.specs.Machines.{Asks, Belongs, Standing, phase_after}
use Rattle.pie_vm.specs.declared.machine.MachineState.TheVariants.{Waiting}

-- what is owed where running asks is there where the machine waits
pub asked : (code : Code) (m : Standing) (o : Outcome Tree) → m.phase ≡ phase_after o → m.phase ≡ Waiting → Asks o (Belongs code m) → Belongs code m
asked code m (wants e) p h b = b
asked code m (done t) p h b = absurd cc
asked code m (fails k) p h b = absurd cc
