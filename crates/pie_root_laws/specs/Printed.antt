-- Which tasks have a printed form that the lexer cuts into the tokens of the task.
use Rattle.std.specs.Prelude.{◌≡◌, ℕ, suc, ◌<◌, ◌^◌, ℤ, pos, negsuc, true, List, ◌∷◌, Ok}
use Rattle.std.specs.List.{list_all}
use Rattle.pie_lexer.specs.Bytes.{is_letter, is_word_byte}
use Rattle.pie_lexer.specs.Words.{word_kind}
use Rattle.pie_lexer.specs.Tokens.{Lexes}
use Rattle.pie_lexer.specs.declared.token.Token.{Token}
use Rattle.pie_lexer.specs.declared.token.TokenKind.{TokenKind}
use Rattle.pie_lexer.specs.declared.token.TokenKind.TheVariants as kinds
use Rattle.pie_value.specs.declared.task.Task.{Task}
use Rattle.pie_value.specs.Tree.{Tree, Trees, TUnit, TBool, TInt, TText, TPath, TList, TTuple, TNull, TBytes, Nil, Cons, items_of}
use Rattle.pie_value.specs.Limits.{is_small_task}
use Rattle.pie_value.specs.Shown.{shown_task}
use Rattle.pie_roots.specs.Kinds.{kinds_of}
use Rattle.pie_roots.specs.Roots.{Names}
use Rattle.pie_roots.specs.Written.{task_tokens, AreProper}

-- a name: a letter, then letters, digits and `_`, which are no keyword
pub data IsName : List ℕ → Type 0 where
  name : {b : ℕ} {bs : List ℕ} → is_letter b ≡ true → list_all is_word_byte bs ≡ true → word_kind (b ∷ bs) ≡ kinds.Name (b ∷ bs) → IsName (b ∷ bs)

-- a number whose digits, without the minus, make a token
abbrev pub IsNarrow : ℤ → Type 0
IsNarrow (pos n) = n < 2 ^ 63
IsNarrow (negsuc n) = suc n < 2 ^ 63

abbrev mutual
  -- each number in a value is narrow
  pub HasNarrow : Tree → Type 0
  HasNarrow TUnit = Unit {0}
  HasNarrow (TBool b) = Unit {0}
  HasNarrow (TInt n) = IsNarrow n
  HasNarrow (TText text) = Unit {0}
  HasNarrow (TPath text) = Unit {0}
  HasNarrow (TList ts) = HaveNarrow ts
  HasNarrow (TTuple ts) = HaveNarrow ts
  HasNarrow TNull = Unit {0}
  HasNarrow (TBytes bytes) = Unit {0}

  -- the same of each item
  pub HaveNarrow : Trees → Type 0
  HaveNarrow Nil = Unit {0}
  HaveNarrow (Cons t ts) = HasNarrow t × HaveNarrow ts

-- the function of a task is a name, and each number in its arguments is narrow
pub record IsPrintable (t : Task) : Type 0 where
  pub func : IsName t.func
  pub numbers : HaveNarrow (items_of t.args)

-- the lexer cuts this text into tokens of these kinds
abbrev pub IsCutInto : List ℕ → List TokenKind → Type 0
IsCutInto text ks = (ts : List Token) × Lexes 0 text (Ok ts) × (kinds_of ts ≡ ks)

-- the printed form of a printable task is cut into the tokens of the task
abbrev pub PrintableTasksAreCut : Type 0
PrintableTasksAreCut = (t : Task) → IsPrintable t → IsCutInto (shown_task t) (task_tokens t)

-- a task whose printed form is cut into its tokens is printable
abbrev pub NoOthersAreCut : Type 0
NoOthersAreCut = (t : Task) → IsCutInto (shown_task t) (task_tokens t) → IsPrintable t

-- a line that is the printed form of a printable task names it, where the task may be written and keeps the limits
abbrev pub PrintedFormsNameTasks : Type 0
PrintedFormsNameTasks = (t : Task) → IsPrintable t → AreProper (items_of t.args) → is_small_task t ≡ true → Names (shown_task t) t

-- the printed form of a task that a line names is a line that names it
abbrev pub NamedTasksAreNamedAgain : Type 0
NamedTasksAreNamedAgain = (line : List ℕ) (t : Task) → Names line t → Names (shown_task t) t
