use Rattle.pie_task_laws.proofs.Pausing.{pauses}
use Rattle.pie_task_laws.proofs.coming.tasks_pause.Goals as goal

pub returns : goal.returns
returns c = λ x b cs f p there e r g. pauses x b cs there e f p r g
