use Rattle.pie_clean_laws.proofs.Alike.{build_alike}
use Rattle.pie_clean_laws.proofs.sources.sources_decide.Goals as goal

pub returns : goal.returns
returns c = λ w P Q roots same. build_alike w P Q same roots
