use Rattle.std.proofs.Common.{arith}
use Rattle.pie_types.proofs.Left.{type_mass_at}
use Rattle.pie_types.proofs.Steps.{onto_nothing}
use Rattle.pie_types.proofs.written.+written.Goals as goal

pub written_each-loop-item-init : goal.written_each-loop-item-init
written_each-loop-item-init t c = grind (arith, onto_nothing)

pub written_each-written-requires : goal.written_each-written-requires
written_each-written-requires t c = grind (arith, type_mass_at)
