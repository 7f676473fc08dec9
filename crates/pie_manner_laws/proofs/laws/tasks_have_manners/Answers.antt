use Rattle.pie_manner_laws.proofs.Whole.{has_manners}
use Rattle.pie_manner_laws.proofs.laws.tasks_have_manners.Goals as goal

pub returns : goal.returns
returns c = λ fs t given p b e h. has_manners fs t given p b e h
