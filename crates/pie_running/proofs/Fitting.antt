-- What a task was told fits what it asked for.
use Rattle.std.proofs.Common.{◌≡◌, ℕ, List, [], ◌∷◌, ◌++◌, map, Some}
use Rattle.pie_value.specs.declared.task.Task.{Task}
use Rattle.pie_value.specs.declared.value.Value.{Value}
use Rattle.pie_value.specs.declared.event.Answer.{Answer}
use Rattle.pie_value.specs.declared.event.Event.{Event}
use Rattle.pie_value.specs.declared.event.Event.TheVariants as events
use Rattle.pie_value.specs.declared.event.How.{How}
use Rattle.pie_value.specs.Tree.{Tree}
use Rattle.pie_value.specs.Values.{tree_of}
use Rattle.pie_operators.specs.Domain.{Outcome, done, wants}
use Rattle.pie_code.specs.declared.code.Code.{Code}
use Rattle.pie_vm.specs.Machines.{Standing}
use Rattle.pie_types.specs.Headings.{function_in}
use Rattle.pie_types.specs.Whole.{number_from}
use Rattle.pie_type_laws.specs.Fitting.{AnswerFits, OutputFits}
use Rattle.pie_model.specs.inner.Stack.{Frame as ModelFrame}
use Rattle.pie_model_pipeline.specs.Answers.{answer_of}
use Rattle.pie_builder_laws.specs.Fits.{Fit, EvaluatesTo}
use Rattle.pie_builder_laws.specs.Requiring.{requiring_answer}
use Rattle.pie_builder_laws.proofs.Fitted.{more_answers, required_known, output_fits, builders_fit}
use Rattle.pie_running.specs.inner.Noted.{Noted}
use Rattle.pie_running.specs.inner.Told.{EvaluatedTo}
use Rattle.pie_running.specs.inner.Means.{MeansFrame}
use Rattle.pie_parser.specs.FunctionTrees.{FunctionTree}
use Rattle.pie_types.specs.Headings.{Heading}
use Rattle.pie_view.specs.Content.{Staged}
use Rattle.pie_builder_laws.specs.Events.{AreCompiled}
use Rattle.pie_builder_laws.specs.Fits.{HasHeadings}

-- with the answers of a task so far its code evaluates to something
module _ (fs : List FunctionTree) (hs : List Heading) (codes : List Code) (compiled : AreCompiled fs codes) (names : List Task) (stage : Staged)
    (code : Code) (m : Standing) (n : Noted) (left : ℕ) (g : ModelFrame) (F : MeansFrame fs hs codes names stage code m n left g) where
  evaluates_to : (o : Outcome Tree) → EvaluatedTo code n.task.args (map answer_of g.progress.answers) o
      → EvaluatesTo fs codes n.task (map answer_of g.progress.answers) o
  evaluates_to o came = record {
    compiled = compiled;
    number = F.function;
    numbered = F.found;
    code = code;
    coded = F.coded;
    takes = F.takes;
    state = came.state;
    comes = came.is;
  }

  -- one answer more that fits
  pub fits_more : (e : Event) (a : Answer) → EvaluatedTo code n.task.args (map answer_of g.progress.answers) (wants e) → AnswerFits hs e a
      → Fit fs hs n.task (map answer_of g.progress.answers ++ a ∷ [])
  fits_more e a came fits = more_answers fs hs codes n.task (map answer_of g.progress.answers) e a (evaluates_to (wants e) came) fits F.fits

  -- the output of a required task fits
  pub fits_output : (t : Task) (how : How) (v : Value) → EvaluatedTo code n.task.args (map answer_of g.progress.answers) (wants (events.Require t how))
      → OutputFits (function_in t.func hs) (tree_of v) → Fit fs hs n.task (map answer_of g.progress.answers ++ requiring_answer how v ∷ [])
  fits_output t how v came fits = fits_more (events.Require t how) (requiring_answer how v) came ((builders_fit hs).outputs t how v fits)

  -- a required task has a function
  pub required_has : HasHeadings fs hs → (t : Task) (how : How)
      → EvaluatedTo code n.task.args (map answer_of g.progress.answers) (wants (events.Require t how)) → (k : ℕ) × (number_from 0 fs t ≡ Some k)
  required_has headings t how came =
      required_known fs hs codes n.task (map answer_of g.progress.answers) t how headings (evaluates_to (wants (events.Require t how)) came) F.fits

  -- the output of the task fits
  pub output_has : HasHeadings fs hs → (v : Value) → EvaluatedTo code n.task.args (map answer_of g.progress.answers) (done (tree_of v))
      → OutputFits (function_in n.task.func hs) (tree_of v)
  output_has headings v came =
      output_fits fs hs codes n.task (map answer_of g.progress.answers) (tree_of v) headings (evaluates_to (done (tree_of v)) came) F.fits
