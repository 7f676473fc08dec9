-- Reading a value or a task from the left of some tokens.
use Rattle.std.specs.Prelude.{ℕ, zero, suc, ◌+◌, ℤ, pos, negsuc, Bool, true, false, cond, nat_le, List, [], ◌∷◌, ◌++◌, length, drop, Option, Some, None, Result}
use Rattle.std.specs.Prelude.{Ok, Err}
use Rattle.hex.specs.Hex.{encode_lower, decode_of}
use Rattle.hex.specs.declared.error.FromHexError.{FromHexError}
use Rattle.pie_base.specs.Path.{is_path}
use Rattle.pie_lexer.specs.declared.token.TokenKind.{TokenKind}
use Rattle.pie_lexer.specs.declared.token.TokenKind.TheVariants as kinds
use Rattle.pie_value.specs.declared.task.Task.{Task}
use Rattle.pie_value.specs.Tree.{Tree, TUnit, TBool, TInt, TText, TPath, TList, TTuple, TNull, TBytes, items_of}
use Rattle.pie_roots.specs.declared.lead.Lead.{Lead}
use Rattle.pie_roots.specs.declared.lead.Lead.TheVariants as leads
use Rattle.pie_roots.specs.declared.lead.Sign.{Sign}
use Rattle.pie_roots.specs.declared.lead.Sign.TheVariants.{Comma, OpenRound, CloseRound, CloseSquare}
use Rattle.pie_roots.specs.inner.Leads.{same_text, lead_of, starts}

-- what is read, and the tokens behind it
abbrev pub Parsed : Type 0 → Type 0
Parsed A = Option (A × List TokenKind)

-- one reading after another
abbrev pub then_on : {A B : Type 0} → Parsed A → (A → List TokenKind → Parsed B) → Parsed B
then_on (Some p) k = k p.0 p.1
then_on None k = None

-- an answer before these tokens
abbrev pub kept : {A : Type 0} → Option A → List TokenKind → Parsed A
kept (Some a) rest = Some (a, rest)
kept None rest = None

-- that a token was passed
pub data Passed : Type 0 where
  done : Passed

-- this token
abbrev pub want : Sign → List TokenKind → Parsed Passed
want s ks = cond (starts s ks) (Some (done, drop 1 ks)) None

-- the name that a token is
abbrev pub name_of : TokenKind → Option (List ℕ)
name_of (kinds.Name w) = Some w
name_of k = None

-- the text that a token is
abbrev pub text_of : TokenKind → Option (List ℕ)
text_of (kinds.Text text) = Some text
text_of k = None

-- a number above zero, below zero
abbrev pub negated : ℤ → Option ℤ
negated (pos zero) = None
negated (pos (suc n)) = Some (negsuc n)
negated (negsuc n) = None

-- the number that digits say behind a minus
abbrev pub below_of : TokenKind → Option ℤ
below_of (kinds.Int n) = negated n
below_of k = None

-- what the first token is
abbrev pub first : {A : Type 0} → (TokenKind → Option A) → List TokenKind → Parsed A
first f [] = None
first f (k ∷ ks) = kept (f k) ks

-- a name
abbrev pub name : List TokenKind → Parsed (List ℕ)
name ks = first name_of ks

-- a text in quotes
abbrev pub text : List TokenKind → Parsed (List ℕ)
text ks = first text_of ks

-- the digits behind a minus
abbrev pub below_zero : List TokenKind → Parsed ℤ
below_zero ks = first below_of ks

-- what the first token says of the value that begins with it
abbrev pub lead : List TokenKind → Parsed Lead
lead ks = first lead_of ks

-- a text in round brackets
abbrev pub text_inside : List TokenKind → Parsed (List ℕ)
text_inside ks = then_on (want OpenRound ks) (λ _ a. then_on (text a) (λ said b. then_on (want CloseRound b) (λ _ rest. Some (said, rest))))

-- the path that a text spells
abbrev pub spelled_path : List ℕ → Option (List ℕ)
spelled_path said = cond (is_path said) (Some said) None

-- the bytes whose digits in lower case are this text
abbrev pub digits_say : List ℕ → Result (List ℕ) FromHexError → Option (List ℕ)
digits_say said (Ok bytes) = cond (same_text (encode_lower bytes) said) (Some bytes) None
digits_say said (Err e) = None

abbrev pub spelled_bytes : List ℕ → Option (List ℕ)
spelled_bytes said = digits_say said (decode_of said)

-- a path, behind its word
abbrev pub path : List TokenKind → Parsed (List ℕ)
path ks = then_on (text_inside ks) (λ said rest. kept (spelled_path said) rest)

-- bytes, behind their word
abbrev pub blob : List TokenKind → Parsed (List ℕ)
blob ks = then_on (text_inside ks) (λ said rest. kept (spelled_bytes said) rest)

-- a tuple has two items or more
abbrev pub tuple : List Tree → Option Tree
tuple ts = cond (nat_le 2 (length ts)) (Some (TTuple (items_of ts))) None

-- what is read inside a bracket: `inner`
module _ (inner : List TokenKind → Parsed Tree) where
  -- at most so many values more, behind these, a comma before each
  abbrev pub more : ℕ → List Tree → List TokenKind → Parsed (List Tree)
  more zero ts ks = Some (ts, ks)
  more (suc n) ts ks = cond (starts Comma ks) (then_on (inner (drop 1 ks)) (λ t rest. more n (ts ++ t ∷ []) rest)) (Some (ts, ks))

  -- one value or more
  abbrev pub listed : List TokenKind → Parsed (List Tree)
  listed ks = then_on (inner ks) (λ t rest. more (length rest) (t ∷ []) rest)

  -- values up to a bracket
  abbrev pub items : Sign → List TokenKind → Parsed (List Tree)
  items close ks = cond (starts close ks) (Some ([], drop 1 ks)) (then_on (listed ks) (λ ts a. then_on (want close a) (λ _ rest. Some (ts, rest))))

  -- what stands behind the first token of a value
  abbrev pub value_by : Lead → List TokenKind → Parsed Tree
  value_by leads.Unit ks = Some (TUnit, ks)
  value_by (leads.Bool b) ks = Some (TBool b, ks)
  value_by (leads.Int n) ks = Some (TInt n, ks)
  value_by leads.Minus ks = then_on (below_zero ks) (λ n rest. Some (TInt n, rest))
  value_by (leads.Text said) ks = Some (TText said, ks)
  value_by leads.Path ks = then_on (path ks) (λ said rest. Some (TPath said, rest))
  value_by leads.List ks = then_on (items CloseSquare ks) (λ ts rest. Some (TList (items_of ts), rest))
  value_by leads.Tuple ks = then_on (items CloseRound ks) (λ ts rest. kept (tuple ts) rest)
  value_by leads.Null ks = Some (TNull, ks)
  value_by leads.Bytes ks = then_on (blob ks) (λ bytes rest. Some (TBytes bytes, rest))

-- a value that nests at most so deep
abbrev pub value_within : ℕ → List TokenKind → Parsed Tree
value_within zero ks = None
value_within (suc d) ks = then_on (lead ks) (value_by (value_within d))

-- nothing stands behind what is read
abbrev pub ended : {A : Type 0} → A → List TokenKind → Parsed A
ended a [] = Some (a, [])
ended a (k ∷ ks) = None

-- a task, and nothing behind it
abbrev pub task_of : List TokenKind → Parsed Task
task_of ks =
    then_on (name ks) (λ w a. then_on (want OpenRound a) (λ _ b.
    then_on (items (value_within 64) CloseRound b) (λ ts rest. ended (record { func = w; args = ts }) rest)))
