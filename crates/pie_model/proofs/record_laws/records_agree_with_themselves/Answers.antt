use Rattle.pie_model.proofs.ItselfLemmas.{agrees_itself}
use Rattle.pie_model.proofs.record_laws.records_agree_with_themselves.Goals as goal

pub returns : goal.returns
returns c = λ w P t polite done. agrees_itself w P t polite done
