use Rattle.std.proofs.Common.{ℕ, List, subst}
use Rattle.pie_order.specs.Candidates.{Joins}
use Rattle.pie_order.proofs.SetSteps.{joins}
use Rattle.pie_order.proofs.candidates.Candidates.add.Goals as goal

pub returns-clause-joins : goal.returns-clause-joins
returns-clause-joins c =
    subst (λ (old : List ℕ). Joins old c.insert.new.self.keys c.args.no.0) c.self.view_is
    (joins c.self.inside.members c.insert.new.self c.args.no.0 (λ q. c.in_ok-insert.ensures.updates.0 q))
