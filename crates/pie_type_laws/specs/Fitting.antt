-- Which answers fit the effects that they answer.
use Rattle.std.specs.Prelude.{◌≡◌, true, List, Option, Some, None}
use Rattle.pie_value.specs.declared.event.Event.{Event}
use Rattle.pie_value.specs.declared.event.Event.TheVariants as events
use Rattle.pie_value.specs.declared.event.Answer.{Answer}
use Rattle.pie_value.specs.declared.event.Answer.TheVariants as answers
use Rattle.pie_value.specs.declared.event.How.TheVariants.{Whole, Hashed, Ran}
use Rattle.pie_value.specs.Tree.{Tree as Val, TList, items_of}
use Rattle.pie_value.specs.Values.{tree_of}
use Rattle.pie_value.specs.Types.{TyTree, PathTy, ListTy}
use Rattle.pie_value.specs.HasType.{has_type}
use Rattle.pie_types.specs.Headings.{Heading, function_in}

-- a value has a type
abbrev pub IsOf : TyTree → Val → Type 0
IsOf t v = has_type t v ≡ true

-- an output has the type that the required function answers; a function that isn't in the pipeline has none
abbrev pub OutputFits : Option Heading → Val → Type 0
OutputFits (Some h) v = IsOf h.result v
OutputFits None v = ⊥

-- an answer is of the kind that its effect asks for, and what it holds has the type that the effect answers
abbrev pub AnswerFits : List Heading → Event → Answer → Type 0
AnswerFits hs (events.Exists p) (answers.Flag b) = Unit {0}
AnswerFits hs (events.Exists p) answers.Clash = Unit {0}
AnswerFits hs (events.Read p by) (answers.Bytes bs) = Unit {0}
AnswerFits hs (events.Read p by) answers.Clash = Unit {0}
AnswerFits hs (events.Digest p) (answers.Digest hash) = Unit {0}
AnswerFits hs (events.Digest p) answers.Clash = Unit {0}
AnswerFits hs (events.List p) (answers.Entries ts) = IsOf (ListTy PathTy) (TList (items_of ts))
AnswerFits hs (events.Write p bs) answers.Wrote = Unit {0}
AnswerFits hs (events.Require t Whole) (answers.Output v) = OutputFits (function_in t.func hs) (tree_of v)
AnswerFits hs (events.Require t Hashed) (answers.Output v) = OutputFits (function_in t.func hs) (tree_of v)
AnswerFits hs (events.Require t Ran) answers.Ran = Unit {0}
AnswerFits hs e a = ⊥
