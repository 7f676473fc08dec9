use Rattle.pie_record.proofs.Naming.{number_some, number_none}
use Rattle.pie_record.proofs.names.TaskNames.number_of.Goals as goal

pub returns-in-Some : goal.returns-in-Some
returns-in-Some c = λ task written. rw (← c.self.view_is) (number_some _ _ _ _ _ c.self.invariant written c.in-Some.ensures)

pub returns-in-None : goal.returns-in-None
returns-in-None c = λ task written. rw (← c.self.view_is) (number_none _ _ _ _ c.self.invariant written c.in-None.ensures)
