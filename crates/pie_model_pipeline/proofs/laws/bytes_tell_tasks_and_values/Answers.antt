use Rattle.pie_model_pipeline.proofs.Joining.{tasks_told, values_told}
use Rattle.pie_model_pipeline.proofs.laws.bytes_tell_tasks_and_values.Goals as goal

pub returns-clause-tasks : goal.returns-clause-tasks
returns-clause-tasks c = λ t u x y e. tasks_told t u x y e

pub returns-clause-values : goal.returns-clause-values
returns-clause-values c = λ v x. values_told v x
