use Rattle.std.proofs.Common.{sym, subst}
use Rattle.pie_view.specs.inner.Entered.{AreLasts}
use Rattle.pie_view.proofs.Entering.{lasts_added}
use Rattle.pie_view.proofs.entered.EnteredRowsTaskRows.add.Goals as goal

pub invariant_of-self-2 : goal.invariant_of-self-2
invariant_of-self-2 c =
    subst (AreLasts c.self.inside.lasts.items) (sym c.in_ok-no.ensures.added) (lasts_added c.self.inside.lasts.items c.self.inside.rows c.self.invariant)
