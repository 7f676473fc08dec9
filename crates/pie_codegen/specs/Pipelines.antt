-- The codes of a pipeline.
use Rattle.std.specs.Prelude.{◌≡◌, ⊤, ℕ, List, [], ◌∷◌, length, Some, slice_get}
use Rattle.pie_value.specs.declared.event.Answer.{Answer}
use Rattle.pie_value.specs.declared.task.Task.{Task}
use Rattle.pie_value.specs.Tree.{Tree as Val}
use Rattle.pie_value.specs.Types.{TyTree}
use Rattle.pie_operators.specs.Domain.{Outcome, State}
use Rattle.pie_code.specs.declared.code.Code.{Code}
use Rattle.pie_code.specs.Coming.{CodeNext}
use Rattle.pie_parser.specs.FunctionTrees.{FunctionTree}
use Rattle.pie_types.specs.Headings.{Heading, function_in}
use Rattle.pie_types.specs.Whole.{number_from}
use Rattle.pie_types.specs.inner.WholeRules.{AreDeclared}
use Rattle.pie_type_laws.specs.NeverStuck.{AnswersFit, RunsWell}
use Rattle.pie_codegen.specs.Functions.{IsCodeOf, Means}
use Rattle.pie_codegen.specs.Formed.{BlockFormed}
use Rattle.pie_codegen.specs.Names.{names_of}

-- these are the codes of the functions, one for each, in order
abbrev pub AreCodesOf : List FunctionTree → List Code → Type 0
AreCodesOf [] [] = Unit {0}
AreCodesOf (f ∷ fs) (c ∷ cs) = IsCodeOf f c × AreCodesOf fs cs
AreCodesOf fs cs = ⊥

-- each code means what its function means
abbrev pub AllMean : List FunctionTree → List Code → Type 0
AllMean [] [] = Unit {0}
AllMean (f ∷ fs) (c ∷ cs) = Means f c × AllMean fs cs
AllMean fs cs = ⊥

-- the code of a task's function, on the task's arguments and with answers that fit, never gives the fault Unknown, to a value of
-- another type than the function's, or to a required task that isn't typed
pub record NoTaskIsStuck (hs : List Heading) (t : Task) (f : FunctionTree) (h : Heading) (c : Code) : Type 0 where
  pub heading : function_in t.func hs ≡ Some h
  pub runs : length t.args ≡ length f.params → (answers : List Answer) → AnswersFit hs f t.args answers → (o : Outcome Val × State)
      → CodeNext c t.args answers o → RunsWell hs h.result o.0

-- and so for each task of the pipeline, whose headings are `hs`
abbrev pub AreNeverStuck : List FunctionTree → List Code → Type 0
AreNeverStuck fs cs = (hs : List Heading) → AreDeclared [] fs hs → (t : Task) (i : ℕ) → number_from 0 fs t ≡ Some i
    → (f : FunctionTree) × (h : Heading) × (c : Code) × (slice_get fs i ≡ Some f) × (slice_get cs i ≡ Some c) × NoTaskIsStuck hs t f h c

-- the bodies of functions are formed
abbrev pub AllFormed : List FunctionTree → Type 0
AllFormed [] = ⊤
AllFormed (f ∷ fs) = BlockFormed (names_of f.params) f.body × AllFormed fs
