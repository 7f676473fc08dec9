use Rattle.pie_earlier_laws.proofs.Writers.{told_right}
use Rattle.pie_earlier_laws.proofs.telling.ranked_records_tell.Goals as goal

pub returns : goal.returns
returns c = λ R rank lower us p recorded. told_right R p rank lower us
