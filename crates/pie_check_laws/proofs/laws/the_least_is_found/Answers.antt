use Rattle.pie_check_laws.proofs.Found.{least_to, least_back, nothing_to, nothing_back}
use Rattle.pie_check_laws.proofs.laws.the_least_is_found.Goals as goal

pub returns-clause-least : goal.returns-clause-least
returns-clause-least c = λ found a. (λ e. least_to found a e, λ h. least_back found a h)

pub returns-clause-nothing : goal.returns-clause-nothing
returns-clause-nothing c = λ found. (λ e. nothing_to found e, λ h. nothing_back found h)
