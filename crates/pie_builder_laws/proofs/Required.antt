-- What is noted and told of required tasks.
use Rattle.std.proofs.Common.{◌≡◌, refl, sym, ap}
use Rattle.pie_value.specs.declared.event.Answer.TheVariants as answers
use Rattle.pie_value.specs.declared.event.How.{How}
use Rattle.pie_value.specs.declared.event.How.TheVariants.{Whole, Hashed, Ran}
use Rattle.pie_value.specs.declared.task.Task.{Task}
use Rattle.pie_value.specs.declared.value.Value.{Value}
use Rattle.pie_value.specs.Values.{tree_of}
use Rattle.pie_value.specs.Canonical.{enc, enc_task, IsCanonical}
use Rattle.pie_model.specs.Evaluation.{output_answer}
use Rattle.pie_model.specs.Records.{Required, observed, value_stamp}
use Rattle.pie_model_pipeline.specs.Words.{how_of}
use Rattle.pie_model_pipeline.specs.Answers.{answer_of}
use Rattle.pie_model_pipeline.specs.Rows.{observation_of}
use Rattle.pie_model_pipeline.specs.World.{world}
use Rattle.pie_model_pipeline.proofs.Joining.{values_told}
use Rattle.pie_builder_laws.specs.Requiring.{of_task, requiring_answer}

pub require_is : (how : How) (t : Task) (v : Value)
    → observation_of (of_task how t v) ≡ observed (Required (how_of how) (enc_task t)) (value_stamp world (enc (tree_of v)) (how_of how))
unfolding world
require_is Whole t v = refl
require_is Hashed t v = refl
require_is Ran t v = refl

pub answer_is : (how : How) (v : Value) → IsCanonical (tree_of v) (enc (tree_of v))
    → requiring_answer how v ≡ answer_of (output_answer (enc (tree_of v)) (how_of how))
answer_is Whole v c = ap answers.Output (sym (values_told v c))
answer_is Hashed v c = ap answers.Output (sym (values_told v c))
answer_is Ran v c = refl
