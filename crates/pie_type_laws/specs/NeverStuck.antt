-- A typed function is never stuck.
use Rattle.std.specs.Prelude.{◌≡◌, ◌↔◌, true, ℕ, List, [], ◌∷◌, ◌++◌, Some, slice_get}
use Rattle.pie_base.specs.declared.fault.FaultKind.TheVariants.{Unknown}
use Rattle.pie_value.specs.declared.event.Event.{Event}
use Rattle.pie_value.specs.declared.event.Event.TheVariants.{Require}
use Rattle.pie_value.specs.declared.event.How.{How}
use Rattle.pie_value.specs.declared.event.Answer.{Answer}
use Rattle.pie_value.specs.declared.task.Task.{Task}
use Rattle.pie_value.specs.Tree.{Tree as Val, items_of}
use Rattle.pie_value.specs.Types.{TyTree, parts_of}
use Rattle.pie_value.specs.HasType.{have_types}
use Rattle.pie_operators.specs.Domain.{Outcome, done, fails, wants}
use Rattle.pie_parser.specs.FunctionTrees.{FunctionTree}
use Rattle.pie_types.specs.Headings.{Heading, function_in}
use Rattle.pie_types.specs.Whole.{types_in, number_from}
use Rattle.pie_types.specs.inner.WholeRules.{AreDeclared, IsTyped}
use Rattle.pie_semantics.specs.Meaning.{next_of}
use Rattle.pie_type_laws.specs.Fitting.{IsOf, AnswerFits}

-- arguments have the types of a function's parameters, one each
abbrev pub Takes : Heading → List Val → Type 0
Takes h args = have_types (parts_of (types_in h.params)) (items_of args) ≡ true

-- a task is of a function of the pipeline, with arguments that this function takes
abbrev pub TaskIsTyped : List Heading → Task → Type 0
TaskIsTyped hs t = (h : Heading) × (function_in t.func hs ≡ Some h) × Takes h t.args

-- each answer fits the effect that it answers: the one that the function waits for after the answers before
abbrev pub AnswersFit : List Heading → FunctionTree → List Val → List Answer → Type 0
AnswersFit hs f args answers = (before after : List Answer) (a : Answer) (e : Event)
    → answers ≡ before ++ a ∷ after → (next_of f args before).0 ≡ wants e → AnswerFits hs e a

-- what a function evaluates to: never the fault Unknown, no value of another type, and no required task that isn't typed
pub record RunsWell (hs : List Heading) (t : TyTree) (o : Outcome Val) : Type 0 where
  pub known : o ≡ fails Unknown → ⊥
  pub result : (v : Val) → o ≡ done v → IsOf t v
  pub required : (u : Task) (how : How) → o ≡ wants (Require u how) → TaskIsTyped hs u

-- a function runs well on these arguments, whatever answers that fit it is given
abbrev pub IsNeverStuck : List Heading → FunctionTree → TyTree → List Val → Type 0
IsNeverStuck hs f t args = (answers : List Answer) → AnswersFit hs f args answers → RunsWell hs t (next_of f args answers).0

-- the functions of a pipeline are never stuck on tasks of theirs; a task that is typed has a function, and no other has
pub record AreNeverStuck (fs : List FunctionTree) (hs : List Heading) : Type 0 where
  pub found : (t : Task) → TaskIsTyped hs t ↔ ((i : ℕ) × (number_from 0 fs t ≡ Some i))
  pub runs : (t : Task) (i : ℕ) → number_from 0 fs t ≡ Some i
      → (f : FunctionTree) × (h : Heading) × (slice_get fs i ≡ Some f) × (function_in t.func hs ≡ Some h) × IsNeverStuck hs f h.result t.args

-- the functions of a pipeline that the rules of typing accept are never stuck; `hs` are their headings
abbrev pub NeverStuck : Type 0
NeverStuck = (fs : List FunctionTree) (hs : List Heading) → IsTyped fs → AreDeclared [] fs hs → AreNeverStuck fs hs
