-- What a task of the model does next is what the code of its function evaluates to.
use Rattle.std.specs.Prelude.{◌≡◌, ℕ, List, map, length, Some, None, slice_get}
use Rattle.pie_value.specs.declared.event.Answer.{Answer}
use Rattle.pie_value.specs.declared.task.Task.{Task}
use Rattle.pie_value.specs.Tree.{Tree}
use Rattle.pie_value.specs.Canonical.{enc_task, IsCanonicalTask}
use Rattle.pie_operators.specs.Domain.{Outcome, State}
use Rattle.pie_code.specs.declared.code.Code.{Code}
use Rattle.pie_code.specs.Coming.{CodeNext}
use Rattle.pie_parser.specs.FunctionTrees.{FunctionTree}
use Rattle.pie_types.specs.Whole.{number_from}
use Rattle.pie_codegen.specs.Pipelines.{AreCodesOf, AllMean}
use Rattle.pie_model.specs.declared.words.Answer.{Answer as ModelAnswer}
use Rattle.pie_model.specs.declared.words.Event.TheVariants.{Fail}
use Rattle.pie_model.specs.declared.words.FaultKind.TheVariants.{Unknown}
use Rattle.pie_model_pipeline.specs.Words.{event_of}
use Rattle.pie_model_pipeline.specs.Answers.{answer_of}
use Rattle.pie_model_pipeline.specs.World.{next}

-- these are the codes of a pipeline's functions, as they are compiled
pub record AreCompiled (fs : List FunctionTree) (codes : List Code) : Type 0 where
  pub compiled : AreCodesOf fs codes
  pub means : AllMean fs codes

-- the code with this number, which takes as many arguments as the task has
pub record HasCode (codes : List Code) (n : ℕ) (t : Task) : Type 0 where
  pub code : Code
  pub is : slice_get codes n ≡ Some code
  pub takes : length t.args ≡ code.params

-- a task whose function has a number has its code there
abbrev pub CodesAreFound : Type 0
CodesAreFound =
    (fs : List FunctionTree) (codes : List Code) (t : Task) (n : ℕ) → AreCompiled fs codes → number_from 0 fs t ≡ Some n → HasCode codes n t

-- what the code of a task's function evaluates to, after the answers that the model gave, is what the task does next in the model
abbrev pub EventsAreTheModels : Type 0
EventsAreTheModels =
    (fs : List FunctionTree) (codes : List Code) (t : Task) (n : ℕ) (code : Code) (given : List ModelAnswer) (answers : List Answer) (o : Outcome Tree)
    (s : State) → AreCompiled fs codes → number_from 0 fs t ≡ Some n → slice_get codes n ≡ Some code → length t.args ≡ code.params
    → IsCanonicalTask t (enc_task t) → map answer_of given ≡ answers → CodeNext code t.args answers (o, s) → next fs (enc_task t) given ≡ event_of o

-- a task without a function fails at once
abbrev pub UnknownTasksFail : Type 0
UnknownTasksFail =
    (fs : List FunctionTree) (t : Task) (given : List ModelAnswer) → number_from 0 fs t ≡ None → IsCanonicalTask t (enc_task t)
    → next fs (enc_task t) given ≡ Fail Unknown
