use Rattle.pie_topdown_laws.proofs.Stacking.{begins, grows, goes_on, falls, gains_one}
use Rattle.pie_topdown_laws.proofs.stacks.stacks_change.Goals as goal

pub returns-clause-begin : goal.returns-clause-begin
returns-clause-begin c = λ x R names root T new few. begins x R names root T new few

pub returns-clause-grow : goal.returns-clause-grow
returns-clause-grow c = λ x R names root fs f n h u T K l q new few. grows x R names root fs f K n h u T l q new few

pub returns-clause-go_on : goal.returns-clause-go_on
returns-clause-go_on c = λ x R names root fs f g K e G. goes_on x R names root fs f K g e G

pub returns-clause-fall : goal.returns-clause-fall
returns-clause-fall c = λ x R names root fs g f K. falls x R names root fs g f K

pub returns-clause-gain : goal.returns-clause-gain
returns-clause-gain c = λ x R S names root fs g f r T E K. gains_one x R names S root fs g f r T E K
