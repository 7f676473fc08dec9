use Rattle.pie_topdown_laws.proofs.Acting.{requirer_waits, big_fails, caller_runs}
use Rattle.pie_topdown_laws.proofs.running.requirers_run_on.Goals as goal

pub returns-clause-waits : goal.returns-clause-waits
returns-clause-waits c = λ x b root fs w t how A left small canonical. requirer_waits x b root fs w t how A left small canonical

pub returns-clause-big : goal.returns-clause-big
returns-clause-big c = λ x b root fs w t how A left big. big_fails x b root fs w t how A left big

pub returns-clause-answered : goal.returns-clause-answered
returns-clause-answered q =
    λ x b root fs g c k rec v height f tasks table top m named kept given t.
    caller_runs x b root fs g c k rec v height f tasks table top m named kept given t
