use Rattle.pie_model_pipeline.proofs.Joining.{means_itself}
use Rattle.pie_model_pipeline.proofs.laws.tasks_mean_themselves.Goals as goal

pub returns : goal.returns
returns c = λ fs t x given. means_itself fs t x given
