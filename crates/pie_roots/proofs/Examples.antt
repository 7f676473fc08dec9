-- Worked cases of the tokens of tasks, and of reading them.
use Rattle.std.proofs.Common.{◌≡◌, ℕ, true, List, [], ◌∷◌, ◌++◌, Some, None, pos, negsuc, refl}
use Rattle.std.specs.Prelude.{codes}
use Rattle.pie_lexer.specs.declared.token.TokenKind.{TokenKind}
use Rattle.pie_lexer.specs.declared.token.TokenKind.TheVariants as kinds
use Rattle.pie_value.specs.declared.task.Task.{Task}
use Rattle.pie_value.specs.Tree.{Tree, TUnit, TBool, TInt, TText, TPath, TList, TTuple, TNull, Nil, Cons}
use Rattle.pie_roots.specs.Written.{value_tokens, task_tokens}
use Rattle.pie_roots.specs.inner.Reading.{Parsed, task_of, value_within}

-- f of these values
abbrev f_of : List Tree → Task
f_of ts = record { func = codes "f"; args = ts }

-- the tokens of f, with these between its brackets
abbrev f_with : List TokenKind → List TokenKind
f_with ks = kinds.Name (codes "f") ∷ kinds.OpenRound ∷ (ks ++ kinds.CloseRound ∷ [])

abbrev read_as : Task → Parsed Task
read_as t = Some (t, [])

a_task_without_values : task_tokens (f_of []) ≡ kinds.Name (codes "f") ∷ kinds.OpenRound ∷ kinds.CloseRound ∷ []
a_task_without_values = refl

a_task_of_a_path_and_a_number : task_tokens (f_of (TPath (codes "a") ∷ TInt (negsuc 0) ∷ []))
    ≡ f_with (kinds.Path ∷ kinds.OpenRound ∷ kinds.Text (codes "a") ∷ kinds.CloseRound ∷ kinds.Comma ∷ kinds.Minus ∷ kinds.Int (pos 1) ∷ [])
a_task_of_a_path_and_a_number = refl

lists_and_tuples : value_tokens (TList (Cons (TTuple (Cons TUnit (Cons TNull Nil))) Nil))
    ≡ kinds.OpenSquare ∷ kinds.OpenRound ∷ kinds.UnitWord ∷ kinds.Comma ∷ kinds.Null ∷ kinds.CloseRound ∷ kinds.CloseSquare ∷ []
lists_and_tuples = refl

a_task_is_read : task_of (f_with (kinds.True ∷ kinds.Comma ∷ kinds.Text (codes "a") ∷ [])) ≡ read_as (f_of (TBool true ∷ TText (codes "a") ∷ []))
a_task_is_read = refl

a_number_above_zero_behind_a_minus : task_of (f_with (kinds.Minus ∷ kinds.Int (pos 7) ∷ [])) ≡ read_as (f_of (TInt (negsuc 6) ∷ []))
a_number_above_zero_behind_a_minus = refl

zero_behind_a_minus_is_none : task_of (f_with (kinds.Minus ∷ kinds.Int (pos 0) ∷ [])) ≡ None
zero_behind_a_minus_is_none = refl

a_last_comma_is_refused : task_of (f_with (kinds.Null ∷ kinds.Comma ∷ [])) ≡ None
a_last_comma_is_refused = refl

a_tuple_of_one_is_refused : task_of (f_with (kinds.OpenRound ∷ kinds.Null ∷ kinds.CloseRound ∷ [])) ≡ None
a_tuple_of_one_is_refused = refl

a_second_task_is_refused : task_of (f_with [] ++ f_with []) ≡ None
a_second_task_is_refused = refl
