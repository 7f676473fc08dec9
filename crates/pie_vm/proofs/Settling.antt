-- What an operator answers, and what the machine makes of it.
use Rattle.std.proofs.Common.{◌≡◌, Option, Some, None, Result, Ok, Err, refl, sym, subst, ap, ◌∙◌}
use Rattle.pie_base.specs.declared.memory.OutOfMemory.{OutOfMemory}
use Rattle.pie_value.specs.declared.value.Value.{Value}
use Rattle.pie_value.specs.Tree.{Tree}
use Rattle.pie_value.specs.Values.{tree_of}
use Rattle.pie_value.specs.BuiltinForms.{Answered}
use Rattle.pie_operators.specs.declared.fault.OperatorFault.{OperatorFault}
use Rattle.pie_operators.specs.declared.fault.OperatorFault.TheVariants.{Fault, OutOfMemory as NoMemory}
use Rattle.pie_operators.specs.inner.Agreement.{ResultAgrees}
use Rattle.pie_operators.specs.Domain.{by_answer}
use Rattle.pie_code.specs.Running.{Config, Turn, act_on}
use Rattle.pie_vm.specs.declared.ending.Ending.{Ending}
use Rattle.pie_vm.specs.Steps.{Moved, Settles}

pub settled : (x : Result Value OperatorFault) (a : Answered) (r : Result (Option Ending) OutOfMemory) (old new : Config)
    → ResultAgrees x a → Settles x r old new → Moved r new (act_on (by_answer a) old)
settled (Ok v) a r old new h k = subst (λ b. Moved r new (act_on (by_answer b) old)) (sym h) k
settled (Err (Fault f)) a r old new h k = subst (λ b. Moved r new (act_on (by_answer b) old)) (sym h) k
settled (Err NoMemory) a r old new h k = k (act_on (by_answer a) old)
