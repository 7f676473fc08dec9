use Rattle.pie_core_laws.proofs.Seen.{counted}
use Rattle.pie_core_laws.proofs.Runs.{running_busy}
use Rattle.pie_core_laws.proofs.running.running_tasks_are_busy.Goals as goal

pub returns-clause-busy : goal.returns-clause-busy
returns-clause-busy c = λ u names records s ts e r. running_busy u names records s ts e r

pub returns-clause-counted : goal.returns-clause-counted
returns-clause-counted c = λ u names records s e w apart. counted u names records s e w apart
