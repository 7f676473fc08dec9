use Rattle.pie_root_laws.proofs.Only.{only_printable, printed_names, named_again}
use Rattle.pie_root_laws.proofs.Values.{task_cut}
use Rattle.pie_root_laws.proofs.laws.printed_tasks_are_cut.Goals as goal

pub returns-clause-cut : goal.returns-clause-cut
returns-clause-cut c = λ t p. task_cut t p

pub returns-clause-only : goal.returns-clause-only
returns-clause-only c = λ t x. only_printable t x

pub returns-clause-line : goal.returns-clause-line
returns-clause-line c = λ t p proper small. printed_names t p proper small

pub returns-clause-again : goal.returns-clause-again
returns-clause-again c = λ line t n. named_again line t n
