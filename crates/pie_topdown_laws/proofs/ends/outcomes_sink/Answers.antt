use Rattle.std.proofs.Common.{ap}
use Rattle.pie_model.specs.Trees.{outcome_of}
use Rattle.pie_topdown_laws.proofs.Building.{closes}
use Rattle.pie_topdown_laws.proofs.Sinking.{failure_sinks, required_sinks, new_fails}
use Rattle.pie_topdown_laws.proofs.ends.outcomes_sink.Goals as goal

pub returns-clause-failures : goal.returns-clause-failures
returns-clause-failures c = λ x R root fs f last e G h d. failure_sinks x R root fs f G last e h d

pub returns-clause-required : goal.returns-clause-required
returns-clause-required c = λ x R root fs f n h u e G l q o d. required_sinks x R root fs f G n h u l q e o d

pub returns-clause-new : goal.returns-clause-new
returns-clause-new c = λ w P above u k apart few some h. ap outcome_of (new_fails w P above u k apart few some h)

pub returns-clause-cycles : goal.returns-clause-cycles
returns-clause-cycles c = λ x R root fs f n h u G l q i. closes x R root fs f G n h u l q i
