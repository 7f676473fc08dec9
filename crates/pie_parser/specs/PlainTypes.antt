-- Types as plain trees.
use Rattle.std.specs.Prelude.{ℕ, List}
use Rattle.pie_parser.specs.declared.type_tree.PlainType.{PlainType}

-- a type and the bytes that it takes, and a list of types
mutual
  pub data TypeTree : Type 0 where
    PlainT : ℕ → ℕ → PlainType → TypeTree
    NamedT : ℕ → ℕ → List ℕ → TypeTree
    ListT : ℕ → ℕ → TypeTree → TypeTree
    TupleT : ℕ → ℕ → TypeTrees → TypeTree
    NullableT : ℕ → ℕ → TypeTree → TypeTree

  -- a list of types
  pub data TypeTrees : Type 0 where
    NilT : TypeTrees
    ConsT : TypeTree → TypeTrees → TypeTrees
