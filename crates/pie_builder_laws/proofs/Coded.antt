-- What the code of a task's function evaluates to is what the task does next.
use Rattle.std.proofs.Common.{◌≡◌, ℕ, zero, suc, List, [], ◌∷◌, map, length, Some, None, refl, ap, subst, ◌∙◌}
use Rattle.std.specs.Prelude.{slice_get}
use Rattle.pie_value.specs.declared.event.Answer.{Answer}
use Rattle.pie_value.specs.declared.task.Task.{Task}
use Rattle.pie_value.specs.Tree.{Tree}
use Rattle.pie_value.specs.Canonical.{enc_task, IsCanonicalTask}
use Rattle.pie_operators.specs.Domain.{Outcome, State}
use Rattle.pie_code.specs.declared.code.Code.{Code}
use Rattle.pie_code.specs.Running.{start}
use Rattle.pie_code.specs.Coming.{CodeNext}
use Rattle.pie_parser.specs.FunctionTrees.{FunctionTree}
use Rattle.pie_types.specs.Whole.{number_from}
use Rattle.pie_semantics.specs.Meaning.{next_of}
use Rattle.pie_codegen.specs.Functions.{IsCodeOf, Means}
use Rattle.pie_codegen.specs.Pipelines.{AreCodesOf, AllMean}
use Rattle.pie_codegen.proofs.Whole.{one_event}
use Rattle.pie_model.specs.declared.words.Answer.{Answer as ModelAnswer}
use Rattle.pie_model.specs.declared.words.Event.TheVariants.{Fail}
use Rattle.pie_model.specs.declared.words.FaultKind.TheVariants.{Unknown}
use Rattle.pie_model_pipeline.specs.Words.{event_of}
use Rattle.pie_model_pipeline.specs.Answers.{answer_of}
use Rattle.pie_model_pipeline.specs.World.{function_at, outcome_by, next}
use Rattle.pie_model_pipeline.proofs.Joining.{means_itself}
use Rattle.pie_builder_laws.specs.Events.{AreCompiled}

-- the function with the number of a code, which means the same
pub record HasFunction (fs : List FunctionTree) (n : ℕ) (code : Code) : Type 0 where
  pub function : FunctionTree
  pub is : slice_get fs n ≡ Some function
  pub code_of : IsCodeOf function code
  pub means : Means function code

pub function_of : (fs : List FunctionTree) (codes : List Code) (n : ℕ) (code : Code) → AreCodesOf fs codes → AllMean fs codes
    → slice_get codes n ≡ Some code → HasFunction fs n code
function_of [] [] n code a m e = absurd (none e)
  where
    none : None ≡ Some code → ⊥
    none h = cc
function_of [] (c ∷ cs) n code a m e = absurd a
function_of (f ∷ fs) [] n code a m e = absurd a
function_of (f ∷ fs) (c ∷ cs) zero code a m e =
    record { function = f; is = refl; code_of = subst (IsCodeOf f) (same e) a.0; means = subst (Means f) (same e) m.0 }
  where
    same : Some c ≡ Some code → c ≡ code
    same h = cc
function_of (f ∷ fs) (c ∷ cs) (suc n) code a m e =
    let r = function_of fs cs n code a.1 m.1 e in
    record { function = r.function; is = r.is; code_of = r.code_of; means = r.means }

pub event_is : (fs : List FunctionTree) (codes : List Code) (t : Task) (n : ℕ) (code : Code) (given : List ModelAnswer) (answers : List Answer)
    (o : Outcome Tree) (s : State) → AreCompiled fs codes → number_from 0 fs t ≡ Some n → slice_get codes n ≡ Some code → length t.args ≡ code.params
    → IsCanonicalTask t (enc_task t) → map answer_of given ≡ answers → CodeNext code t.args answers (o, s) → next fs (enc_task t) given ≡ event_of o
event_is fs codes t n code given answers o s compiled number at l c e h =
    let f = function_of fs codes n code compiled.compiled compiled.means at in
    means_itself fs t c given ∙ ap (λ xs. event_of (outcome_by (function_at fs (number_from 0 fs t)) t xs)) e
    ∙ ap (λ k. event_of (outcome_by (function_at fs k) t answers)) number ∙ ap (λ k. event_of (outcome_by k t answers)) f.is
    ∙ ap (λ (z : Outcome Tree × State). event_of z.0) (one_event code (start code t.args answers) (next_of f.function t.args answers) (o, s)
    (f.means.comes t.args answers (l ∙ f.code_of.params)) h)

pub unknown_fails : (fs : List FunctionTree) (t : Task) (given : List ModelAnswer) → number_from 0 fs t ≡ None → IsCanonicalTask t (enc_task t)
    → next fs (enc_task t) given ≡ Fail Unknown
unknown_fails fs t given number c =
    means_itself fs t c given ∙ ap (λ k. event_of (outcome_by (function_at fs k) t (map answer_of given))) number
