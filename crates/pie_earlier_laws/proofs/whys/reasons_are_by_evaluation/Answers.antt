use Rattle.pie_earlier_laws.proofs.Reasons.{differing_is_reason, no_reason}
use Rattle.pie_earlier_laws.proofs.whys.reasons_are_by_evaluation.Goals as goal

pub returns-clause-stamps : goal.returns-clause-stamps
returns-clause-stamps c = λ w now directory R told r kept digest tells right d. differing_is_reason w now directory R told r kept digest tells right d

pub returns-clause-none : goal.returns-clause-none
returns-clause-none c =
    λ w now directory t r kept digest manners e done same there reason.
    no_reason w now directory t r kept digest manners e done same there reason
