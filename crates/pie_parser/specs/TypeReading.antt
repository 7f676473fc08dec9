-- Reading a type: type = plain [ "?" ].
use Rattle.std.specs.Prelude.{ℕ, zero, suc, Bool, true, false, cond, List, [], ◌∷◌, Option, Some, None}
use Rattle.pie_parser.specs.declared.kind.Kind.{Kind}
use Rattle.pie_parser.specs.declared.kind.Kind.TheVariants as kinds
use Rattle.pie_parser.specs.declared.error.ParseFault.TheVariants.{Expected, OutOfMemory}
use Rattle.pie_parser.specs.declared.type_tree.PlainType.{PlainType}
use Rattle.pie_parser.specs.declared.type_tree.PlainType.TheVariants as plains
use Rattle.pie_parser.specs.declared.tree.Name.{Name}
use Rattle.pie_parser.specs.Kinds.{is}
use Rattle.pie_parser.specs.PlainTypes.{TypeTree, PlainT, NamedT, ListT, TupleT, NullableT}
use Rattle.pie_parser.specs.TypeView.{types_of}
use Rattle.pie_parser.specs.At.{At}
use Rattle.pie_parser.specs.Places.{Parsed, Got, Miss, Parser, then_on, next, start, passed, want, open_bracket, name}
use Rattle.pie_parser.specs.inner.Turns.{Turn, Stop, Part, all_behind}

-- the type that is this keyword
abbrev pub plain_at : Kind → Option PlainType
plain_at kinds.UnitWord = Some plains.Unit
plain_at kinds.BoolWord = Some plains.Bool
plain_at kinds.IntWord = Some plains.Int
plain_at kinds.TextWord = Some plains.Text
plain_at kinds.Path = Some plains.Path
plain_at k = None

-- "unit" | "bool" | "int" | "text" | "path"
abbrev pub keyword_by : At → Option PlainType → Parsed TypeTree
keyword_by s (Some p) = Got (PlainT (start s) (passed s).past p) (passed s)
keyword_by s None = Miss Expected s

-- a type that one keyword spells
abbrev pub keyword_type : Parser TypeTree
keyword_type s = keyword_by s (plain_at (next s))

-- name
abbrev pub named_type : Parser TypeTree
named_type s = then_on (name s) (λ n m. Got (NamedT n.at n.end n.text) m)

-- what is read inside a bracket: `inner`; so many brackets may be opened still
module _ (room : ℕ) (inner : Parser TypeTree) where
  -- "[" type "]"
  abbrev pub list_type : Parser TypeTree
  list_type s = then_on (open_bracket kinds.OpenSquare room s) (λ _ a. then_on (inner a) (λ t b.
      then_on (want kinds.CloseSquare b) (λ _ m. Got (ListT (start s) m.past t) m)))

  -- "," type
  abbrev pub another_type : At → Turn TypeTree
  another_type s = cond (is (next s) kinds.Comma) (Part (inner (passed s))) Stop

  -- "(" type "," type { "," type } ")"
  abbrev pub tuple_type : Parser TypeTree
  tuple_type s = then_on (open_bracket kinds.OpenRound room s) (λ _ a. then_on (inner a) (λ t b.
      then_on (want kinds.Comma b) (λ _ c. then_on (inner c) (λ u d.
      then_on (all_behind (t ∷ u ∷ []) another_type d) (λ ts e.
      then_on (want kinds.CloseRound e) (λ _ m. Got (TupleT (start s) m.past (types_of ts)) m))))))

  -- plain, by what is next
  abbrev pub plain_by : At → Kind → Parsed TypeTree
  plain_by s kinds.OpenSquare = list_type s
  plain_by s kinds.OpenRound = tuple_type s
  plain_by s kinds.Name = named_type s
  plain_by s k = keyword_type s

  -- plain = "unit" | "bool" | "int" | "text" | "path" | name | "[" type "]" | "(" type "," type { "," type } ")"
  abbrev pub plain_type : Parser TypeTree
  plain_type s = plain_by s (next s)

  -- type = plain [ "?" ]
  abbrev pub written_type : Parser TypeTree
  written_type s = then_on (plain_type s) (λ t m.
      cond (is (next m) kinds.Question) (Got (NullableT (start s) (passed m).past t) (passed m)) (Got t m))

-- a type where so many brackets may be opened still
abbrev pub type_at : ℕ → Parser TypeTree
type_at zero = written_type zero (λ s. Miss OutOfMemory s)
type_at (suc d) = written_type (suc d) (type_at d)

-- a type inside a bracket
abbrev pub inner_type : ℕ → Parser TypeTree
inner_type zero s = Miss OutOfMemory s
inner_type (suc d) s = type_at d s
