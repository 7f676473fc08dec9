use Rattle.pie_builder_laws.proofs.Ended.{failed_is, cycle_is, full_is}
use Rattle.pie_builder_laws.proofs.builds.stopped_builds_are_clean.Goals as goal

pub returns-clause-failed : goal.returns-clause-failed
returns-clause-failed c =
    λ fs d roots done rest names base before root t k D e E. failed_is fs d roots done rest names base before root t k D e E

pub returns-clause-in_cycle : goal.returns-clause-in_cycle
returns-clause-in_cycle c =
    λ fs d roots done rest names base before root ts D e E. cycle_is fs d roots done rest names base before root ts D e E

pub returns-clause-full : goal.returns-clause-full
returns-clause-full c =
    λ fs d roots done rest names base before root u D e full more. full_is fs d roots done rest names base before root u D e full more
