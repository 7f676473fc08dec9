use Rattle.std.proofs.Common.{refl}
use Rattle.pie_types.proofs.SameType.{decided}
use Rattle.pie_types.proofs.matching.same_type.Goals as goal

pub returns : goal.returns
returns c = decided c.same.result _ c.args.a.now c.args.b.now refl c.same.ensures
