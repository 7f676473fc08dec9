use Rattle.pie_check_laws.proofs.Traces.{clear}
use Rattle.pie_check_laws.proofs.laws.values_meet_no_clash.Goals as goal

pub returns : goal.returns
returns c = λ w P t h. clear w P t h
