-- Worked examples: what the tasks of a small pipeline do next in the model.
use Rattle.std.proofs.Common.{◌≡◌, ℕ, zero, suc, List, false, [], ◌∷◌, map, codes, None, refl}
use Rattle.pie_value.specs.declared.event.Event.TheVariants as events
use Rattle.pie_value.specs.Tree.{Tree, TUnit, TBool, TList, Nil as NoItem, Cons as Item}
use Rattle.pie_value.specs.Canonical.{enc}
use Rattle.pie_operators.specs.Domain.{done, wants}
use Rattle.pie_parser.specs.declared.tree.Literal.TheVariants as literals
use Rattle.pie_parser.specs.declared.tree.CallKind.TheVariants as calls
use Rattle.pie_parser.specs.declared.tree.EffectKind.TheVariants as effects
use Rattle.pie_parser.specs.declared.tree.Name.{Name}
use Rattle.pie_parser.specs.declared.type_tree.PlainType.TheVariants as plain
use Rattle.pie_parser.specs.PlainTypes.{PlainT}
use Rattle.pie_parser.specs.Plain.{TLiteral, TCall, TEffect, TBlock, NoLine, ALast, Nil, Cons}
use Rattle.pie_parser.specs.FunctionTrees.{FunctionTree}
use Rattle.pie_model.specs.declared.words.Answer.{Answer as ModelAnswer}
use Rattle.pie_model.specs.declared.words.Answer.TheVariants as answers
use Rattle.pie_model.specs.declared.words.Event.{Event as ModelEvent}
use Rattle.pie_model.specs.declared.words.Look.TheVariants as looks
use Rattle.pie_model.specs.declared.words.Event.TheVariants as model
use Rattle.pie_model.specs.declared.words.FaultKind.TheVariants as faults
use Rattle.pie_model_pipeline.specs.Words.{event_of}
use Rattle.pie_model_pipeline.specs.Answers.{answer_of}
use Rattle.pie_model_pipeline.specs.World.{task_evaluates_to}

abbrev named : List ℕ → Name
named s = record { at = 0; end = 0; text = s }

-- `func f() -> text { get(read(path("s"))) }`
abbrev reads : FunctionTree
reads = record {
  at = 0;
  end = 0;
  name = named (codes "f");
  params = [];
  result = PlainT 0 0 plain.Text;
  body =
      TBlock 0 0 NoLine (ALast (TCall 0 0 calls.Plain (named (codes "get"))
      (Cons (TEffect 0 0 effects.Read (TEffect 0 0 effects.Path (TLiteral 0 0 (literals.Text (codes "s"))))) Nil)));
}

-- the same with `exists(path("s"))`
abbrev tests : FunctionTree
tests = record {
  at = 0;
  end = 0;
  name = named (codes "g");
  params = [];
  result = PlainT 0 0 plain.Bool;
  body = TBlock 0 0 NoLine (ALast (TEffect 0 0 effects.Exists (TEffect 0 0 effects.Path (TLiteral 0 0 (literals.Text (codes "s"))))));
}

abbrev both : List FunctionTree
both = reads ∷ tests ∷ []

-- what a task of these two functions does next
abbrev does : List ℕ → List ModelAnswer → ModelEvent
does name given = event_of (task_evaluates_to both (record { func = name; args = [] }) (map answer_of given))

-- one looks at the file by its hash, and the other whether it is there
looks_first : does (codes "f") [] ≡ model.LookAt looks.ByHash (codes "s")
looks_first = refl

asks_first : does (codes "g") [] ≡ model.LookAt looks.Exists (codes "s")
asks_first = refl

-- where nothing is there, the one fails, and the other says so
fails_without : does (codes "f") (answers.Contents None ∷ []) ≡ model.Fail faults.Null
fails_without = refl

tells_absence : does (codes "g") (answers.Flag false ∷ []) ≡ model.Done (enc (TBool false))
tells_absence = refl

-- a task without a function fails
no_function : does (codes "h") [] ≡ model.Fail faults.Unknown
no_function = refl

-- a write is one under `out/`, and a listing one of a source
writes_out : event_of (wants (events.Write (codes "out/a") [])) ≡ model.Write (codes "out/a") []
writes_out = refl

writes_elsewhere : event_of (wants (events.Write (codes "a") [])) ≡ model.Fail faults.BadWrite
writes_elsewhere = refl

lists_source : event_of (wants (events.List (codes "a"))) ≡ model.ListOf (codes "a")
lists_source = refl

lists_out : event_of (wants (events.List (codes "out/a"))) ≡ model.Fail faults.BadList
lists_out = refl

-- lists in lists, so many
abbrev nested : ℕ → Tree
nested zero = TUnit
nested (suc n) = TList (Item (nested n) NoItem)

-- an output may nest 64 deep, and no deeper
deep_enough : event_of (done (nested 63)) ≡ model.Done (enc (nested 63))
deep_enough = refl

too_deep : event_of (done (nested 64)) ≡ model.Fail faults.Big
too_deep = refl
