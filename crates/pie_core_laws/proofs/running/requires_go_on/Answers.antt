use Rattle.pie_core_laws.proofs.Runs.{required_begin, settled_answers, settled_stops}
use Rattle.pie_core_laws.proofs.running.requires_go_on.Goals as goal

pub returns-clause-begins : goal.returns-clause-begins
returns-clause-begins c = λ u names records s base fs f n h t e r g l q new few. required_begin u names records s base fs f n h t e r g l q new few

pub returns-clause-answers : goal.returns-clause-answers
returns-clause-answers c =
    λ u names records s base fs f n h k rec v e w apart r g l q settled kept o.
    settled_answers u names records s base fs f n h k rec e w apart r g l q settled kept v o

pub returns-clause-stops : goal.returns-clause-stops
returns-clause-stops c =
    λ u names records s base fs f n h k rec e w apart r g l q settled kept d.
    settled_stops u names records s base fs f n h k rec e w apart r g l q settled kept d
