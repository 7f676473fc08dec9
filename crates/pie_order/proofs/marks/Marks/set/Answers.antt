-- The stamp of the round is a mark.
use Rattle.std.proofs.Common.{◌∙◌, ap, set, true}
use Rattle.pie_order.proofs.MarkSteps.{mark_set}
use Rattle.pie_order.proofs.marks.Marks.set.Goals as goal

pub returns : goal.returns
returns c = mark_set c.self.inside.round c.self.inside.stamps.items c.args.no.0 ∙ ap (λ marks. set marks c.args.no.0 true) c.self.view_is
