use Rattle.pie_earlier_laws.proofs.Unnamed.{sources_still}
use Rattle.pie_earlier_laws.proofs.sources.named_stamps_decide.Goals as goal

pub returns : goal.returns
returns c = λ w old now changes t manners sources done agree tested. sources_still w old now changes t manners sources done agree tested
