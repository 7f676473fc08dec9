use Rattle.pie_core_laws.proofs.Begun.{begins_exact}
use Rattle.pie_core_laws.proofs.beginning.builds_begin_exact.Goals as goal

pub returns : goal.returns
returns c = λ u names records s n update informed l agree tested. begins_exact u names records s n update informed l agree tested
