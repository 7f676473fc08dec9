use Rattle.pie_entering_laws.proofs.Entered.{entered_known}
use Rattle.pie_entering_laws.proofs.laws.entered_tasks_are_known.Goals as goal

pub returns : goal.returns
returns c = λ fs d roots typed are spoken x h. entered_known fs d roots typed are spoken x h
