use Rattle.pie_model.proofs.RankLemmas.{ranks_lower}
use Rattle.pie_model.proofs.core_laws.records_without_a_cycle_have_ranks.Goals as goal

pub returns : goal.returns
returns c = λ R held acyclic counted closed t r u e i. ranks_lower R held acyclic counted closed t r u e i
