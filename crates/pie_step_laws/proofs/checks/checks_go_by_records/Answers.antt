use Rattle.pie_step_laws.proofs.CheckLemmas.{checks_by_records}
use Rattle.pie_step_laws.proofs.checks.checks_go_by_records.Goals as goal

pub returns : goal.returns
returns c = λ w P roots R names kept B e. checks_by_records w P roots R names B kept e
