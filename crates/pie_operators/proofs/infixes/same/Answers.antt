use Rattle.pie_operators.proofs.Sameness.{decided}
use Rattle.pie_operators.proofs.infixes.same.Goals as goal

-- src/infixes.rt:76:1
pub returns : goal.returns
returns c = decided c.same.result c.args.a.now c.args.b.now c.same.ensures
