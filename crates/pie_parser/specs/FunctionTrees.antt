-- A function as a plain tree.
use Rattle.std.specs.Prelude.{ℕ, List}
use Rattle.pie_parser.specs.PlainTypes.{TypeTree}
use Rattle.pie_parser.specs.Plain.{BlockTree}
use Rattle.pie_parser.specs.declared.tree.Name.{Name}
use Rattle.pie_parser.specs.declared.tree.Param.{Param}

-- a function and the bytes that it takes
pub record FunctionTree : Type 0 where
  pub at : ℕ
  pub end : ℕ
  pub name : Name
  pub params : List Param
  pub result : TypeTree
  pub body : BlockTree
