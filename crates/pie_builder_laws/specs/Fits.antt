-- A task of a typed pipeline that is given answers that fit requires tasks of the pipeline alone, and gives an output that fits.
use Rattle.std.specs.Prelude.{◌≡◌, ℕ, List, [], ◌∷◌, ◌++◌, map, length, Some, slice_get}
use Rattle.pie_value.specs.declared.event.Answer.{Answer}
use Rattle.pie_value.specs.declared.event.Answer.TheVariants as answers
use Rattle.pie_value.specs.declared.event.By.{By}
use Rattle.pie_value.specs.declared.event.Event.{Event}
use Rattle.pie_value.specs.declared.event.Event.TheVariants as events
use Rattle.pie_value.specs.declared.event.How.{How}
use Rattle.pie_value.specs.declared.task.Task.{Task}
use Rattle.pie_value.specs.declared.value.Value.{Value}
use Rattle.pie_value.specs.Tree.{Tree, TPath}
use Rattle.pie_value.specs.Values.{tree_of}
use Rattle.pie_operators.specs.Domain.{Outcome, done, wants, State}
use Rattle.pie_code.specs.declared.code.Code.{Code}
use Rattle.pie_code.specs.Coming.{CodeNext}
use Rattle.pie_parser.specs.FunctionTrees.{FunctionTree}
use Rattle.pie_types.specs.Headings.{Heading, function_in}
use Rattle.pie_types.specs.Whole.{number_from}
use Rattle.pie_types.specs.inner.WholeRules.{AreDeclared, IsTyped}
use Rattle.pie_type_laws.specs.Fitting.{AnswerFits, OutputFits}
use Rattle.pie_type_laws.specs.NeverStuck.{AnswersFit}
use Rattle.pie_builder_laws.specs.Events.{AreCompiled}
use Rattle.pie_builder_laws.specs.Looks.{Sight, presence_answer, reading_answer, digest_answer}
use Rattle.pie_builder_laws.specs.Requiring.{requiring_answer}

-- the pipeline is typed, and its functions have these headings
pub record HasHeadings (fs : List FunctionTree) (hs : List Heading) : Type 0 where
  pub types : IsTyped fs
  pub declared : AreDeclared [] fs hs

-- the answers that a task was given fit what it asked for
abbrev pub Fit : List FunctionTree → List Heading → Task → List Answer → Type 0
Fit fs hs t given = (n : ℕ) (f : FunctionTree) → number_from 0 fs t ≡ Some n → slice_get fs n ≡ Some f → AnswersFit hs f t.args given

-- the code of a task evaluates to this after these answers
pub record EvaluatesTo (fs : List FunctionTree) (codes : List Code) (t : Task) (given : List Answer) (o : Outcome Tree) : Type 0 where
  pub compiled : AreCompiled fs codes
  pub number : ℕ
  pub numbered : number_from 0 fs t ≡ Some number
  pub code : Code
  pub coded : slice_get codes number ≡ Some code
  pub takes : length t.args ≡ code.params
  pub state : State
  pub comes : CodeNext code t.args given (o, state)

-- a typed pipeline has headings
abbrev pub TypedHaveHeadings : Type 0
TypedHaveHeadings = (fs : List FunctionTree) → IsTyped fs → (hs : List Heading) × HasHeadings fs hs

-- no answers fit
abbrev pub NoAnswersFit : Type 0
NoAnswersFit = (fs : List FunctionTree) (hs : List Heading) (t : Task) → Fit fs hs t []

-- and one more does that fits what the task asks for after those before
abbrev pub MoreAnswersFit : Type 0
MoreAnswersFit =
    (fs : List FunctionTree) (hs : List Heading) (codes : List Code) (t : Task) (given : List Answer) (e : Event) (a : Answer)
    → EvaluatesTo fs codes t given (wants e) → AnswerFits hs e a → Fit fs hs t given → Fit fs hs t (given ++ a ∷ [])

-- a required task has a function
abbrev pub RequiredTasksAreKnown : Type 0
RequiredTasksAreKnown =
    (fs : List FunctionTree) (hs : List Heading) (codes : List Code) (t : Task) (given : List Answer) (u : Task) (how : How) → HasHeadings fs hs
    → EvaluatesTo fs codes t given (wants (events.Require u how)) → Fit fs hs t given → (n : ℕ) × (number_from 0 fs u ≡ Some n)

-- an output has the type that the task's function answers
abbrev pub OutputsFit : Type 0
OutputsFit =
    (fs : List FunctionTree) (hs : List Heading) (codes : List Code) (t : Task) (given : List Answer) (v : Tree) → HasHeadings fs hs
    → EvaluatesTo fs codes t given (done v) → Fit fs hs t given → OutputFits (function_in t.func hs) v

-- what a builder answers fits
pub record AnswersOfBuildersFit (hs : List Heading) : Type 0 where
  pub presences : (p : List ℕ) (seen : Sight) → AnswerFits hs (events.Exists p) (presence_answer seen)
  pub readings : (p : List ℕ) (by : By) (seen : Sight) → AnswerFits hs (events.Read p by) (reading_answer seen)
  pub digests : (p : List ℕ) (seen : Sight) → AnswerFits hs (events.Digest p) (digest_answer seen)
  pub listings : (p : List ℕ) (entries : List (List ℕ)) → AnswerFits hs (events.List p) (answers.Entries (map TPath entries))
  pub outputs : (u : Task) (how : How) (v : Value) → OutputFits (function_in u.func hs) (tree_of v)
      → AnswerFits hs (events.Require u how) (requiring_answer how v)

abbrev pub BuildersAnswersFit : Type 0
BuildersAnswersFit = (hs : List Heading) → AnswersOfBuildersFit hs
