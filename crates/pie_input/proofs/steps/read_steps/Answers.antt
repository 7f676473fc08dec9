use Rattle.std.specs.Prelude.{map}
use Rattle.pie_script.specs.Steps.{plain}
use Rattle.pie_input.specs.Scripts.{AreSteps, IsBadScript}
use Rattle.pie_input.proofs.Naming.{told_whole}
use Rattle.pie_input.proofs.steps.read_steps.Goals as goal

pub returns-in-Ok-Whole-clause-told : goal.returns-in-Ok-Whole-clause-told
returns-in-Ok-Whole-clause-told g c =
    told_whole g.I.Source.faults c.args.input.now c.read_input.new.input (λ found. AreSteps c.as_slice.result.now (map plain found.items))
    (IsBadScript c.as_slice.result.now) c.steps_in.result c.steps_in.ensures c.in-Ok-Whole.ensures.counted.steady
