use Rattle.pie_manner_laws.proofs.Whole.{writes_once}
use Rattle.pie_manner_laws.proofs.laws.tasks_write_once.Goals as goal

pub returns : goal.returns
returns c = λ fs t given p b e h. writes_once fs t given p b e h
