-- Which type is written.
use Rattle.std.specs.Prelude.{◌≡◌, ℕ, List, [], ◌∷◌, codes}
use Rattle.pie_value.specs.Types.{TyTree, ListTy, TupleTy, NullableTy, BytesTy, parts_of}
use Rattle.pie_parser.specs.PlainTypes.{TypeTree, PlainT, NamedT, ListT, TupleT, NullableT, TypeTrees, NilT, ConsT}
use Rattle.pie_parser.specs.declared.type_tree.PlainType.{PlainType}
use Rattle.pie_types.specs.Written.{plain_type}

mutual
  -- a written type denotes a type; of the names only `bytes` does
  pub data Denotes : TypeTree → TyTree → Type 0 where
    plain : {i j : ℕ} {p : PlainType} → Denotes (PlainT i j p) (plain_type p)
    bytes : {i j : ℕ} {n : List ℕ} → n ≡ codes "bytes" → Denotes (NamedT i j n) BytesTy
    list : {i j : ℕ} {w : TypeTree} {t : TyTree} → Denotes w t → Denotes (ListT i j w) (ListTy t)
    tuple : {i j : ℕ} {ws : TypeTrees} {ts : List TyTree} → DenoteEach ws ts → Denotes (TupleT i j ws) (TupleTy (parts_of ts))
    nullable : {i j : ℕ} {w : TypeTree} {t : TyTree} → Denotes w t → Denotes (NullableT i j w) (NullableTy t)

  -- written types denote types, one each
  pub data DenoteEach : TypeTrees → List TyTree → Type 0 where
    none : DenoteEach NilT []
    one_more : {w : TypeTree} {ws : TypeTrees} {t : TyTree} {ts : List TyTree} → Denotes w t → DenoteEach ws ts → DenoteEach (ConsT w ws) (t ∷ ts)
