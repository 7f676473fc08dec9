-- The types that are written in a pipeline.
use Rattle.std.specs.Prelude.{ℕ, cond, List, [], ◌∷◌, codes, bytes_eq, Ok}
use Rattle.pie_value.specs.Types.{TyTree, UnitTy, BoolTy, IntTy, TextTy, PathTy, ListTy, TupleTy, NullableTy, BytesTy, parts_of}
use Rattle.pie_parser.specs.PlainTypes.{TypeTree, PlainT, NamedT, ListT, TupleT, NullableT, TypeTrees, NilT, ConsT}
use Rattle.pie_parser.specs.declared.type_tree.PlainType.{PlainType}
use Rattle.pie_parser.specs.declared.type_tree.PlainType.TheVariants as plains
use Rattle.pie_types.specs.Faults.{TypingResult, refuse, then_on, UnknownName}

-- the type that a keyword names
abbrev pub plain_type : PlainType → TyTree
plain_type plains.Unit = UnitTy
plain_type plains.Bool = BoolTy
plain_type plains.Int = IntTy
plain_type plains.Text = TextTy
plain_type plains.Path = PathTy

-- the type that a name stands for: `bytes` alone is one
abbrev pub named_type : ℕ → ℕ → List ℕ → TypingResult TyTree
named_type i j n = cond (bytes_eq n (codes "bytes")) (Ok BytesTy) (refuse UnknownName i j)

abbrev mutual
  -- the type that is written here
  pub written : TypeTree → TypingResult TyTree
  written (PlainT i j p) = Ok (plain_type p)
  written (NamedT i j n) = named_type i j n
  written (ListT i j t) = then_on (written t) (λ u. Ok (ListTy u))
  written (TupleT i j ts) = then_on (written_each ts) (λ us. Ok (TupleTy (parts_of us)))
  written (NullableT i j t) = then_on (written t) (λ u. Ok (NullableTy u))

  -- the types that are written here, one after another
  pub written_each : TypeTrees → TypingResult (List TyTree)
  written_each NilT = Ok []
  written_each (ConsT t ts) = then_on (written t) (λ u. then_on (written_each ts) (λ us. Ok (u ∷ us)))
