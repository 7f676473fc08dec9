use Rattle.pie_left_laws.proofs.Holding.{holds_rightly}
use Rattle.pie_left_laws.proofs.held.old_records_hold_rightly.Goals as goal

pub returns : goal.returns
returns c = λ u kept held h stored known. holds_rightly u kept held h stored known
