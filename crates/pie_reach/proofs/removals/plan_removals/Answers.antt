use Rattle.std.proofs.Common.{◌∙◌, ◌&&◌, not, ap}
use Rattle.pie_reach.specs.inner.Listed.{listed}
use Rattle.pie_reach.proofs.Removing.{plan}
use Rattle.pie_reach.proofs.removals.plan_removals.Goals as goal

pub returns : goal.returns
returns c =
    plan c.args.there.now c.args.kept.now c.in_ok-found.found.items c.take_out.new.set c.in_ok-found.ensures.ordered c.in_ok-found.ensures.keys
    (λ q. c.take_out.ensures q ∙ ap (λ b. b && not (listed q c.args.kept.now)) (c.in_ok-left.ensures q))
