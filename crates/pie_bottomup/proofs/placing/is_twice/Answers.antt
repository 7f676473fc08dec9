use Rattle.pie_bottomup.proofs.Twofold.{parts_twice}
use Rattle.pie_bottomup.proofs.placing.is_twice.Goals as goal

pub returns : goal.returns
returns c = λ yes. parts_twice c.args.from c.args.row.now (c.is_same_numbers.ensures yes)
