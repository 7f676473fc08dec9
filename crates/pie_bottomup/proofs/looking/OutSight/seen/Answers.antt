use Rattle.std.proofs.Common.{ℕ, List, subst}
use Rattle.pie_view.specs.Seen.{Visible, IsOnly}
use Rattle.pie_bottomup.proofs.ExactEvents.{none_own}
use Rattle.pie_bottomup.proofs.looking.OutSight.seen.Goals as goal

pub returns : goal.returns
returns c =
    subst (λ (ns : List ℕ). IsOnly (Visible c.args.self.now.rows.now ns c.args.path.now) c.in_ok-seen.seen) c.since-required.ensures.is
    (c.in_ok-seen.ensures.others (λ own. none_own c.args.path.now own))
