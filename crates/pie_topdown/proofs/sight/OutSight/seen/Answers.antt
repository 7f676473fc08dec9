use Rattle.std.proofs.Common.{ℕ, List, subst}
use Rattle.pie_view.specs.Seen.{Visible, IsOnly}
use Rattle.pie_topdown.proofs.sight.OutSight.seen.Goals as goal

pub returns : goal.returns
returns c =
    subst (λ (ns : List ℕ). IsOnly (Visible c.args.self.now.rows.now ns c.args.path.now) c.in_ok-seen.seen) c.needs-needs.ensures
    c.in_ok-seen.ensures
