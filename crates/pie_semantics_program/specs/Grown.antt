-- Lists and tuples that grow.
use Rattle.std.specs.Prelude.{ℕ, List, ◌∷◌}
use Rattle.pie_value.specs.Tree.{Tree, TList, TTuple, Nil, Trees as Vals}
use Rattle.pie_value.specs.BuiltinForms.{Answered}
use Rattle.pie_operators.specs.Operators.{list_with, tuple_with}
use Rattle.pie_operators.specs.Domain.{Act}
use Rattle.pie_parser.specs.Plain.{Tree as Expr}
use Rattle.pie_semantics.specs.Words.{Env}
use Rattle.pie_semantics.specs.Meaning.{value_of, turns}
use Rattle.pie_semantics_program.specs.declared.operating.Shape.{Shape}
use Rattle.pie_semantics_program.specs.declared.operating.Shape.TheVariants as shapes

-- a list or a tuple with one more item
abbrev pub grow_of : Shape → Tree → Tree → Answered
grow_of shapes.List = list_with
grow_of shapes.Tuple = tuple_with

-- the list or the tuple without items
abbrev pub empty_of : Shape → Tree
empty_of shapes.List = TList Nil
empty_of shapes.Tuple = TTuple Nil

-- a value of an expression for each item, where a name stands for the item
abbrev pub turns_of : Expr → List ℕ → Env → Vals → Act Tree
turns_of e name env vs = turns (λ v. value_of e ((name, v) ∷ env)) vs (TList Nil)
