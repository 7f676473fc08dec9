use Rattle.pie_model.proofs.StackLemmas.{sinks, sinks_entered, sinks_begins}
use Rattle.pie_model.proofs.run_laws.outcomes_sink.Goals as goal

pub returns-clause-outcome : goal.returns-clause-outcome
returns-clause-outcome c = λ w P root fs u e s h d. sinks w P root fs u e s h d

pub returns-clause-entered : goal.returns-clause-entered
returns-clause-entered c = λ w P root base fs u e s h d. sinks_entered w P root base fs u e s h d

pub returns-clause-first : goal.returns-clause-first
returns-clause-first c = λ w P root base fs u s. sinks_begins w P root base fs u s
