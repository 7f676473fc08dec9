use Rattle.pie_check_laws.proofs.Kept.{answer_is}
use Rattle.pie_check_laws.proofs.Whole.{whole_verdict}
use Rattle.pie_check_laws.proofs.laws.last_checks_are_the_models.Goals as goal

pub returns-clause-checks : goal.returns-clause-checks
returns-clause-checks c = λ w P names records live answer recorded living h. answer_is w P names records live recorded living answer h

pub returns-clause-verdict : goal.returns-clause-verdict
returns-clause-verdict c =
    λ w P roots names records live answer same few recorded living h. whole_verdict w P roots names records live answer same few recorded living h
