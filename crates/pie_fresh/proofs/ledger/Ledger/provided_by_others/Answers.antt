use Rattle.std.proofs.Common.{subst}
use Rattle.pie_view.specs.Seen.{Visible, IsOnly}
use Rattle.pie_fresh.proofs.ledger.Ledger.provided_by_others.Goals as goal

pub returns : goal.returns
returns c = record {
  sees = record {
    seen = c.in_ok-seen.seen;
    only = subst (λ ns. IsOnly (Visible c.args.self.now.rows ns c.args.path.now) c.in_ok-seen.seen)
        c.needs-needs.ensures c.in_ok-seen.ensures;
    is = c.content_seen.ensures;
  };
}
