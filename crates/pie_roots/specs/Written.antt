-- The tokens of a task's printed form.
use Rattle.std.specs.Prelude.{◌≡◌, ℕ, suc, ◌≤◌, ℤ, pos, negsuc, true, cond, List, [], ◌∷◌, ◌++◌, codes}
use Rattle.hex.specs.Hex.{encode_lower, IsBytes}
use Rattle.pie_base.specs.Path.{is_path}
use Rattle.pie_lexer.specs.declared.token.TokenKind.{TokenKind}
use Rattle.pie_lexer.specs.declared.token.TokenKind.TheVariants as kinds
use Rattle.pie_value.specs.declared.task.Task.{Task}
use Rattle.pie_value.specs.Tree.{Tree, Trees, TUnit, TBool, TInt, TText, TPath, TList, TTuple, TNull, TBytes, Nil, Cons, items_of, count_of}
use Rattle.pie_value.specs.Limits.{is_small_task}

-- a number in decimal: below zero a minus and the digits, which say a number above zero
abbrev pub number_tokens : ℤ → List TokenKind
number_tokens (pos n) = kinds.Int (pos n) ∷ []
number_tokens (negsuc n) = kinds.Minus ∷ kinds.Int (pos (suc n)) ∷ []

-- a text in quotes and in round brackets
abbrev pub bracketed : List ℕ → List TokenKind
bracketed text = kinds.OpenRound ∷ kinds.Text text ∷ kinds.CloseRound ∷ []

abbrev mutual
  -- the tokens of a value as it is printed
  pub value_tokens : Tree → List TokenKind
  value_tokens TUnit = kinds.UnitWord ∷ []
  value_tokens (TBool b) = cond b kinds.True kinds.False ∷ []
  value_tokens (TInt n) = number_tokens n
  value_tokens (TText text) = kinds.Text text ∷ []
  value_tokens (TPath text) = kinds.Path ∷ bracketed text
  value_tokens (TList ts) = kinds.OpenSquare ∷ (items_tokens ts ++ kinds.CloseSquare ∷ [])
  value_tokens (TTuple ts) = kinds.OpenRound ∷ (items_tokens ts ++ kinds.CloseRound ∷ [])
  value_tokens TNull = kinds.Null ∷ []
  value_tokens (TBytes bytes) = kinds.Name (codes "bytes") ∷ bracketed (encode_lower bytes)

  -- the tokens of items, with commas between them
  pub items_tokens : Trees → List TokenKind
  items_tokens Nil = []
  items_tokens (Cons t ts) = value_tokens t ++ more_tokens ts

  -- the tokens of items that others stand before
  pub more_tokens : Trees → List TokenKind
  more_tokens Nil = []
  more_tokens (Cons t ts) = kinds.Comma ∷ (value_tokens t ++ more_tokens ts)

-- the tokens of a task as it is printed: its name, and its arguments in round brackets
abbrev pub task_tokens : Task → List TokenKind
task_tokens t = kinds.Name t.func ∷ kinds.OpenRound ∷ (items_tokens (items_of t.args) ++ kinds.CloseRound ∷ [])

abbrev mutual
  -- a value of some type: each path in it is a path, each blob has bytes, and each tuple has two items or more
  pub IsProper : Tree → Type 0
  IsProper TUnit = Unit {0}
  IsProper (TBool b) = Unit {0}
  IsProper (TInt n) = Unit {0}
  IsProper (TText text) = Unit {0}
  IsProper (TPath text) = is_path text ≡ true
  IsProper (TList ts) = AreProper ts
  IsProper (TTuple ts) = (2 ≤ count_of ts) × AreProper ts
  IsProper TNull = Unit {0}
  IsProper (TBytes bytes) = IsBytes bytes

  -- the same of each item
  pub AreProper : Trees → Type 0
  AreProper Nil = Unit {0}
  AreProper (Cons t ts) = IsProper t × AreProper ts

-- these are the tokens of this task as it is printed, and the task keeps the limits of values and tasks
pub record Writes (tokens : List TokenKind) (t : Task) : Type 0 where
  pub printed : tokens ≡ task_tokens t
  pub proper : AreProper (items_of t.args)
  pub small : is_small_task t ≡ true
