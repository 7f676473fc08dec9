use Rattle.pie_topdown_laws.proofs.Tabling.{settled_stays}
use Rattle.pie_topdown_laws.proofs.Building.{required_begins, required_closes, waits_still}
use Rattle.pie_topdown_laws.proofs.checks.checks_require.Goals as goal

pub returns-clause-begins : goal.returns-clause-begins
returns-clause-begins c =
    λ x before R names root fs t r passed rest h u s B k new few. required_begins x before R root fs t r names passed rest h u s B k new few

pub returns-clause-closes : goal.returns-clause-closes
returns-clause-closes c = λ x before R root fs t r passed rest h u s k i. required_closes x before R root fs t r passed rest h u s k i

pub returns-clause-waits : goal.returns-clause-waits
returns-clause-waits c =
    λ x before R S names root fs t u r new passed rest g T E W.
    waits_still x before R root fs t r S (settled_stays x.world x.now R S names u new T E) passed rest g W
