use Rattle.std.proofs.Common.{ap, ◌∙◌}
use Rattle.pie_named.specs.inner.Stamped.{differs_from}
use Rattle.pie_named.proofs.named.Named.differs.Goals as goal

pub returns-clause-compares : goal.returns-clause-compares
returns-clause-compares g c d held known =
    let learned = c.in_ok-now.ensures.learns d held known in
    record { known = learned.known; is = c.is_another.ensures ∙ ap (λ now. differs_from now c.args.recorded.now) learned.is }
