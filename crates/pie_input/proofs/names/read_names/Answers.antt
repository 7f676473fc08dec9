use Rattle.pie_input.specs.Names.{AreNames, IsBad}
use Rattle.pie_input.proofs.Naming.{told_whole}
use Rattle.pie_input.proofs.names.read_names.Goals as goal

pub returns-in-Ok-Whole-clause-told : goal.returns-in-Ok-Whole-clause-told
returns-in-Ok-Whole-clause-told g c =
    told_whole g.I.Source.faults c.args.input.now c.read_input.new.input (λ found. AreNames c.as_slice.result.now found.items) (IsBad c.as_slice.result.now)
    c.names_in.result c.names_in.ensures c.in-Ok-Whole.ensures.counted.steady
