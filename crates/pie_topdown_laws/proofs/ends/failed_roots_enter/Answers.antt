use Rattle.pie_topdown_laws.proofs.Sinking.{failed_root, cycled_root, lost_by_names}
use Rattle.pie_topdown_laws.proofs.ends.failed_roots_enter.Goals as goal

pub returns-clause-failed : goal.returns-clause-failed
returns-clause-failed c = λ x R names done root fs f last e T D K h d. failed_root x R names T done D root fs f K last e h d

pub returns-clause-cycled : goal.returns-clause-cycled
returns-clause-cycled c = λ x R names done root fs f n h u T D K l q i. cycled_root x R names T done D root fs f K n h u l q i

pub returns-clause-lost : goal.returns-clause-lost
returns-clause-lost c =
    λ x R names done root fs f n h u k T D K l q new few some fails. lost_by_names x R names T done D root fs f K n h u l q k new few some fails
