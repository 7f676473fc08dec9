-- The model speaks of the tasks, values and answers of the language themselves.
use Rattle.std.specs.Prelude.{◌≡◌, ℕ, List, [], map, Option, Some, None}
use Rattle.pie_value.specs.declared.event.Answer.{Answer}
use Rattle.pie_value.specs.declared.event.Answer.TheVariants as answers
use Rattle.pie_value.specs.declared.task.Task.{Task}
use Rattle.pie_value.specs.declared.value.Value.{Value}
use Rattle.pie_value.specs.Tree.{Tree, TPath}
use Rattle.pie_value.specs.Values.{tree_of}
use Rattle.pie_value.specs.Canonical.{enc, enc_task, IsCanonical, IsCanonicalTask}
use Rattle.pie_parser.specs.FunctionTrees.{FunctionTree}
use Rattle.pie_model.specs.declared.words.Answer.{Answer as ModelAnswer}
use Rattle.pie_model.specs.declared.words.Answer.TheVariants as model
use Rattle.pie_model_pipeline.specs.Words.{event_of}
use Rattle.pie_model_pipeline.specs.Answers.{value_with, answer_of}
use Rattle.pie_model_pipeline.specs.World.{task_evaluates_to, next}

-- the canonical bytes of a task of the language mean in the model what the task means
abbrev pub TasksMeanThemselves : Type 0
TasksMeanThemselves = (fs : List FunctionTree) (t : Task) → IsCanonicalTask t (enc_task t) → (given : List ModelAnswer)
    → next fs (enc_task t) given ≡ event_of (task_evaluates_to fs t (map answer_of given))

-- tasks with the same canonical bytes are the same
abbrev pub BytesTellTasks : Type 0
BytesTellTasks = (t u : Task) → IsCanonicalTask t (enc_task t) → IsCanonicalTask u (enc_task u) → enc_task t ≡ enc_task u → t ≡ u

-- the canonical bytes of a value are those of it alone
abbrev pub BytesTellValues : Type 0
BytesTellValues = (v : Value) → IsCanonical (tree_of v) (enc (tree_of v)) → value_with (enc (tree_of v)) ≡ v

-- the path that a value is, and nothing for others
abbrev pub path_in : Tree → List ℕ
path_in (TPath p) = p
path_in t = []

-- what the model has for an answer; a clash is none there, for it ends the task
abbrev pub told_of : Answer → Option ModelAnswer
told_of (answers.Flag b) = Some (model.Flag b)
told_of (answers.Bytes found) = Some (model.Contents found)
told_of (answers.Digest hash) = Some (model.HashOf hash)
told_of (answers.Entries ts) = Some (model.Entries (map path_in ts))
told_of answers.Wrote = Some model.Wrote
told_of (answers.Output v) = Some (model.Output (enc (tree_of v)))
told_of answers.Ran = Some model.Succeeded
told_of answers.Clash = None

-- each of these values is a path
abbrev pub ArePaths : List Tree → Type 0
ArePaths ts = map TPath (map path_in ts) ≡ ts

-- an answer that a build gives: entries are paths, and an output has canonical bytes
abbrev pub IsGiven : Answer → Type 0
IsGiven (answers.Flag b) = Unit {0}
IsGiven (answers.Bytes found) = Unit {0}
IsGiven (answers.Digest hash) = Unit {0}
IsGiven (answers.Entries ts) = ArePaths ts
IsGiven answers.Wrote = Unit {0}
IsGiven (answers.Output v) = IsCanonical (tree_of v) (enc (tree_of v))
IsGiven answers.Ran = Unit {0}
IsGiven answers.Clash = Unit {0}

-- an answer of the model that is the language's is that answer again
abbrev pub AnswersComeBack : Type 0
AnswersComeBack = (a : Answer) (m : ModelAnswer) → IsGiven a → told_of a ≡ Some m → answer_of m ≡ a
