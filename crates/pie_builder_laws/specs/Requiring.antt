-- What a builder notes of a required task, and what it tells the one that required it, are the observation and the answer of the model.
use Rattle.std.specs.Prelude.{◌≡◌}
use Rattle.sha2.specs.Sha256.{sha256}
use Rattle.pie_value.specs.declared.event.Answer.{Answer}
use Rattle.pie_value.specs.declared.event.Answer.TheVariants as answers
use Rattle.pie_value.specs.declared.event.How.{How}
use Rattle.pie_value.specs.declared.event.How.TheVariants.{Whole, Hashed, Ran}
use Rattle.pie_value.specs.declared.stamp.Stamp.{Stamp}
use Rattle.pie_value.specs.declared.stamp.Stamp.TheVariants as stamps
use Rattle.pie_value.specs.declared.task.Task.{Task}
use Rattle.pie_value.specs.declared.value.Value.{Value}
use Rattle.pie_value.specs.Values.{tree_of}
use Rattle.pie_value.specs.Canonical.{enc, enc_task, IsCanonical}
use Rattle.pie_record.specs.declared.dep.Dep.{Dep}
use Rattle.pie_record.specs.declared.dep.DepKind.{DepKind}
use Rattle.pie_record.specs.declared.dep.DepKind.TheVariants as kinds
use Rattle.pie_record.specs.declared.dep.DepOn.TheVariants.{Called}
use Rattle.pie_model.specs.Evaluation.{output_answer}
use Rattle.pie_model.specs.Records.{Required, observed, value_stamp}
use Rattle.pie_model_pipeline.specs.Words.{how_of}
use Rattle.pie_model_pipeline.specs.Answers.{answer_of}
use Rattle.pie_model_pipeline.specs.Rows.{observation_of}
use Rattle.pie_model_pipeline.specs.World.{world}

-- the kind of the observation of a required task
abbrev pub requiring_kind : How → DepKind
requiring_kind Whole = kinds.Require
requiring_kind Hashed = kinds.RequireHash
requiring_kind Ran = kinds.Run

-- its stamp: the output, the hash of its canonical bytes, or that the task is done
abbrev pub requiring_stamp : How → Value → Stamp
requiring_stamp Whole v = stamps.Whole v
requiring_stamp Hashed v = stamps.Hash (sha256 (enc (tree_of v)))
requiring_stamp Ran v = stamps.Done

-- the observation of a required task that has this output
abbrev pub of_task : How → Task → Value → Dep
of_task how t v = record { kind = requiring_kind how; what = Called t; stamp = requiring_stamp how v }

-- what the task that requires it is told
abbrev pub requiring_answer : How → Value → Answer
requiring_answer Whole v = answers.Output v
requiring_answer Hashed v = answers.Output v
requiring_answer Ran v = answers.Ran

-- the observation is that of the model
abbrev pub RequiresAreObserved : Type 0
RequiresAreObserved =
    (how : How) (t : Task) (v : Value)
    → observation_of (of_task how t v) ≡ observed (Required (how_of how) (enc_task t)) (value_stamp world (enc (tree_of v)) (how_of how))

-- and so is the answer, where the output has canonical bytes
abbrev pub RequiresAreAnswered : Type 0
RequiresAreAnswered =
    (how : How) (v : Value) → IsCanonical (tree_of v) (enc (tree_of v))
    → requiring_answer how v ≡ answer_of (output_answer (enc (tree_of v)) (how_of how))
