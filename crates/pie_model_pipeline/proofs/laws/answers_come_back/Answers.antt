use Rattle.pie_model_pipeline.proofs.Joining.{answers_back}
use Rattle.pie_model_pipeline.proofs.laws.answers_come_back.Goals as goal

pub returns : goal.returns
returns c = λ a m x e. answers_back a m x e
