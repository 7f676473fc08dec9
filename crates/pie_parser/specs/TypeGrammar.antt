-- The grammar of types: between two places stands this type. A rule for each production.
use Rattle.std.specs.Prelude.{◌≡◌, ◌≢◌, ℕ, List, [], ◌∷◌, Option, Some, None}
use Rattle.pie_parser.specs.declared.kind.Kind.{Kind}
use Rattle.pie_parser.specs.declared.kind.Kind.TheVariants as kinds
use Rattle.pie_parser.specs.declared.type_tree.PlainType.{PlainType}
use Rattle.pie_parser.specs.declared.tree.Name.{Name}
use Rattle.pie_parser.specs.PlainTypes.{TypeTree, PlainT, NamedT, ListT, TupleT, NullableT}
use Rattle.pie_parser.specs.TypeView.{types_of}
use Rattle.pie_parser.specs.At.{At}
use Rattle.pie_parser.specs.Places.{Got, next, start, passed, name}
use Rattle.pie_parser.specs.TypeReading.{plain_at}

-- a token of this kind stands between two places
abbrev pub Eats : Kind → At → At → Type 0
Eats k s m = (next s ≡ k) × (m ≡ passed s)

-- a name stands between two places
abbrev pub IsName : At → At → Name → Type 0
IsName s m n = name s ≡ Got n m

mutual
  -- type = plain [ "?" ]
  pub data IsType : At → At → TypeTree → Type 0 where
    plain : {s m : At} {t : TypeTree} → IsPlain s m t → IsType s m t
    nullable : {s a m : At} {t : TypeTree} → IsPlain s a t → Eats kinds.Question a m → IsType s m (NullableT (start s) m.past t)

  -- plain = "unit" | "bool" | "int" | "text" | "path" | name | "[" type "]" | "(" type "," type { "," type } ")"
  pub data IsPlain : At → At → TypeTree → Type 0 where
    keyword : {s m : At} {p : PlainType} → plain_at (next s) ≡ Some p → m ≡ passed s → IsPlain s m (PlainT (start s) m.past p)
    named : {s m : At} {n : Name} → IsName s m n → IsPlain s m (NamedT n.at n.end n.text)
    listed : {s a b m : At} {t : TypeTree} → Eats kinds.OpenSquare s a → IsType a b t → Eats kinds.CloseSquare b m → IsPlain s m (ListT (start s) m.past t)
    tuple : {s a b c d e m : At} {t u : TypeTree} {ts : List TypeTree} → Eats kinds.OpenRound s a → IsType a b t → Eats kinds.Comma b c → IsType c d u
        → MoreTypes d e ts → Eats kinds.CloseRound e m → IsPlain s m (TupleT (start s) m.past (types_of (t ∷ u ∷ ts)))

  -- { "," type }
  pub data MoreTypes : At → At → List TypeTree → Type 0 where
    no_more : {s : At} → MoreTypes s s []
    one_more : {s a b m : At} {t : TypeTree} {ts : List TypeTree} → Eats kinds.Comma s a → IsType a b t → MoreTypes b m ts → MoreTypes s m (t ∷ ts)
