-- Each form by itself, from the outcomes of its parts.
use Rattle.std.specs.Prelude.{ℕ, List, Ok}
use Rattle.pie_value.specs.Types.{TyTree, UnitTy, BoolTy, TextTy, PathTy, ListTy, TupleTy, NullableTy, parts_of}
use Rattle.pie_parser.specs.PlainTypes.{TypeTree}
use Rattle.pie_parser.specs.Plain.{Tree, Steps, BlockTree}
use Rattle.pie_parser.specs.declared.tree.Name.{Name}
use Rattle.pie_parser.specs.declared.tree.Index.{Index}
use Rattle.pie_parser.specs.declared.tree.Comparison.{Comparison}
use Rattle.pie_parser.specs.declared.tree.EffectKind.{EffectKind}
use Rattle.pie_types.specs.Faults.{TypingResult, then_on}
use Rattle.pie_types.specs.Written.{written}
use Rattle.pie_types.specs.Scope.{Entry, type_in, entered}
use Rattle.pie_types.specs.Spans.{at_of, end_of, answer_at, answer_end}
use Rattle.pie_types.specs.Operators.{matched, passing, name_type, first_operand, left_operand, projected, items_type, effect_takes, effect_gives, is_writable}

-- what an expression answers has this type
abbrev pub fitting : TyTree → Tree → TypingResult TyTree → TypingResult TyTree
fitting w e o = then_on o (λ t. matched w (at_of e) (end_of e) t)

-- what a block answers has this type
abbrev pub block_fitting : TyTree → BlockTree → TypingResult TyTree → TypingResult TyTree
block_fitting w b o = then_on o (λ t. matched w (answer_at b) (answer_end b) t)

-- a name has its type in scope
abbrev pub of_name : List Entry → ℕ → ℕ → List ℕ → TypingResult TyTree
of_name sc i j n = name_type i j (type_in n sc)

-- `null T`
abbrev pub of_null : TypeTree → TypingResult TyTree
of_null t = then_on (written t) (λ u. Ok (NullableTy u))

-- `empty T`
abbrev pub of_empty : TypeTree → TypingResult TyTree
of_empty t = then_on (written t) (λ u. Ok (ListTy u))

-- a chain: its first operand, and then the others
abbrev pub of_chain : Tree → TypingResult TyTree → Steps → (TyTree → TypingResult TyTree) → TypingResult TyTree
of_chain a o ss others = then_on o (λ t. then_on (first_operand ss (at_of a) (end_of a) t) others)

-- a comparison: what stands before it, and then what stands behind it has the same type
abbrev pub of_compare : Comparison → Tree → TypingResult TyTree → Tree → TypingResult TyTree → TypingResult TyTree
of_compare c a o b p = then_on o (λ t. then_on (left_operand c (at_of a) (end_of a) t) (λ u. then_on (fitting u b p) (λ _. Ok BoolTy)))

-- `e.0.1`
abbrev pub of_project : Tree → TypingResult TyTree → List Index → TypingResult TyTree
of_project a o ns = then_on o (λ t. projected (at_of a) (end_of a) t ns)

-- a tuple, by the types of its items
abbrev pub of_tuple : TypingResult (List TyTree) → TypingResult TyTree
of_tuple o = then_on o (λ us. Ok (TupleTy (parts_of us)))

-- a list, by the type of its items
abbrev pub of_list : TypingResult TyTree → TypingResult TyTree
of_list o = then_on o (λ t. Ok (ListTy t))

-- an expression with one more name in scope
abbrev pub within : List Entry → Name → TyTree → (List Entry → TypingResult TyTree) → TypingResult TyTree
within sc n t item = then_on (entered n t sc) item

-- `[e for x in xs]`: the list, then the name, then the item
abbrev pub of_each : List Entry → Tree → TypingResult TyTree → Name → (List Entry → TypingResult TyTree) → TypingResult TyTree
of_each sc b o n item = then_on o (λ t. then_on (items_type (at_of b) (end_of b) t) (λ u. then_on (within sc n u item) (λ v. Ok (ListTy v))))

-- `if c A else B`: the test, then the first block, and then the choice
abbrev pub of_if : Tree → TypingResult TyTree → TypingResult TyTree → (TyTree → TypingResult TyTree) → TypingResult TyTree
of_if a o p choice = then_on (fitting BoolTy a o) (λ _. then_on p choice)

-- an effect with one argument
abbrev pub of_effect : EffectKind → Tree → TypingResult TyTree → TypingResult TyTree
of_effect k a o = then_on (fitting (effect_takes k) a o) (λ _. Ok (effect_gives k))

-- `write(path, value)`
abbrev pub of_write : Tree → TypingResult TyTree → Tree → TypingResult TyTree → TypingResult TyTree
of_write a o b p = then_on (fitting PathTy a o) (λ _. then_on p (λ t. then_on (passing is_writable TextTy (at_of b) (end_of b) t) (λ _. Ok UnitTy)))

-- `fail T(text)`: the type, and then the text
abbrev pub of_fail : TypeTree → Tree → TypingResult TyTree → TypingResult TyTree
of_fail t a o = then_on (written t) (λ u. then_on (fitting TextTy a o) (λ _. Ok u))
