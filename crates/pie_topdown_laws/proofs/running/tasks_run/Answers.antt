use Rattle.pie_topdown_laws.proofs.Acting.{begins_above, pauses_above}
use Rattle.pie_topdown_laws.proofs.running.tasks_run.Goals as goal

pub returns-clause-begin : goal.returns-clause-begin
returns-clause-begin c = λ x b root fs t k f named function started empty top. begins_above x b root fs t k f named function started empty top

pub returns-clause-pause : goal.returns-clause-pause
returns-clause-pause c = λ x b root fs f p i there tasks R G. pauses_above x b root fs there tasks f p i R G
