use Rattle.pie_step_laws.proofs.CheckLemmas.{kept_provided}
use Rattle.pie_step_laws.proofs.checks.kept_contents_are_provided.Goals as goal

pub returns : goal.returns
returns c = λ w P roots R names kept p B K. kept_provided w P roots R names B kept p K
