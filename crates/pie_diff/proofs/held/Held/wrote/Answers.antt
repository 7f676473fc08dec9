use Rattle.std.proofs.Common.{sym, ◌∙◌}
use Rattle.pie_diff.proofs.Holding.{stays}
use Rattle.pie_diff.proofs.held.Held.wrote.Goals as goal

pub returns-then-has : goal.returns-then-has
returns-then-has c = stays c.args.self.now c.args.path.now c.args.hash (sym c.has.ensures ∙ c.if-has.true)
