use Rattle.std.proofs.Common.{arith, sym, subst, ℕ, List}
use Rattle.pie_view.specs.inner.Entered.{AreLasts}
use Rattle.pie_view.proofs.Entering.{lasts_pushed}
use Rattle.pie_view.proofs.entered.EnteredRows.push_last.Goals as goal

pub invariant_of-self-2 : goal.invariant_of-self-2
invariant_of-self-2 c =
    subst (λ (ns : List ℕ). AreLasts ns c.self.inside.rows) (sym c.in_ok-push.ensures.items)
    (lasts_pushed c.self.inside.lasts.items c.self.inside.rows c.count-count.result (omega (arith, c.if-len-count.false, c.len.ensures)) c.self.invariant)
