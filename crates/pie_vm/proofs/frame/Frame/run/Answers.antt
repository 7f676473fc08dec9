use Rattle.std.proofs.Common.{◌≡◌, Ok, None, Option, subst}
use Rattle.pie_value.specs.declared.event.Event.{Event}
use Rattle.pie_code.specs.Running.{step}
use Rattle.pie_vm.specs.Steps.{Turned}
use Rattle.pie_vm.proofs.Leading.{led_on}
use Rattle.pie_vm.proofs.frame.Frame.run.Goals as goal

-- src/running.rt: one step on
pub steps-preserved : goal.steps-preserved
steps-preserved c =
    led_on c.args.code.now c.args.self.now c.steps.self c.step.new.self c.requires.accepted c.steps.invariant
    (subst (λ (o : Option Event). Turned (Ok o) c.steps.self c.step.new.self (step c.args.code.now c.steps.self)) c.in-None.is c.in_ok-event.ensures)
