use Rattle.std.proofs.Common.{arith}
use Rattle.pie_value.proofs.Elements.{mass_at}
use Rattle.pie_value.proofs.shown.+showing.Goals as goal

pub put_items-put_rest-requires : goal.put_items-put_rest-requires
put_items-put_rest-requires t c = grind (arith, mass_at)

pub put_items-put_value-requires : goal.put_items-put_value-requires
put_items-put_value-requires t c = grind (arith, mass_at)

pub put_rest-put_value-requires : goal.put_rest-put_value-requires
put_rest-put_value-requires t c = grind (arith, mass_at)
