-- Places among the tokens, and what reading from a place answers.
use Rattle.std.specs.Prelude.{◌≡◌, ℕ, ◌+◌, Bool, true, false, cond, ◌==◌, List, [], ◌∷◌, Result, Ok, Err}
use Rattle.pie_lexer.specs.declared.token.Token.{Token}
use Rattle.pie_lexer.specs.declared.token.TokenKind.{TokenKind}
use Rattle.pie_lexer.specs.declared.token.TokenKind.TheVariants as tokens
use Rattle.pie_parser.specs.declared.kind.Kind.{Kind}
use Rattle.pie_parser.specs.declared.kind.Kind.TheVariants as kinds
use Rattle.pie_parser.specs.declared.error.ParseFault.{ParseFault}
use Rattle.pie_parser.specs.declared.error.ParseFault.TheVariants.{Expected, TooDeep, OutOfMemory}
use Rattle.pie_parser.specs.declared.tree.Name.{Name}
use Rattle.pie_parser.specs.declared.tree.Index.{Index}
use Rattle.pie_parser.specs.Kinds.{kind_of_token, is}
use Rattle.pie_parser.specs.At.{At}

-- what reading answers: a value and the place behind it, or why nothing was read, and where
pub data Parsed (A : Type 0) : Type 0 where
  Got : A → At → Parsed A
  Miss : ParseFault → At → Parsed A

-- a reading from a place
abbrev pub Parser : Type 0 → Type 0
Parser A = At → Parsed A

-- one reading after another
abbrev pub then_on : {A B : Type 0} → Parsed A → (A → At → Parsed B) → Parsed B
then_on (Got a m) f = f a m
then_on (Miss e m) f = Miss e m

-- an answer of the code is that of the reading, unless out of memory
abbrev pub ParseAgrees : {A B : Type 0} → (A → B) → Result A ParseFault → At → Parsed B → Type 0
ParseAgrees view (Ok a) m p = p ≡ Got (view a) m
ParseAgrees view (Err OutOfMemory) m p = Unit {0}
ParseAgrees view (Err e) m p = p ≡ Miss e m

-- that a token was passed
pub data Passed : Type 0 where
  done : Passed

-- the kind of the first token
abbrev pub first_kind : List Token → Kind
first_kind [] = kinds.End
first_kind (t ∷ _) = kind_of_token t.kind

-- the kind of what is next at a place
abbrev pub next : At → Kind
next s = cond s.marked kinds.Marked (first_kind s.rest)

-- where the first token begins, or else the end of the one before
abbrev pub start_of : ℕ → List Token → ℕ
start_of past [] = past
start_of past (t ∷ _) = t.at

-- where what is next begins
abbrev pub start : At → ℕ
start s = start_of s.past s.rest

-- the place behind the first token
abbrev pub behind : At → List Token → At
behind s [] = s
behind s (t ∷ ts) = record { past = t.end; rest = ts; marked = s.marked }

-- the place behind what is next
abbrev pub passed : At → At
passed s = behind s s.rest

-- a token of this kind
abbrev pub want : Kind → Parser Passed
want k s = cond (is (next s) k) (Got done (passed s)) (Miss Expected s)

-- an opening bracket of this kind, where so many may be opened still
abbrev pub open_bracket : Kind → ℕ → Parser Passed
open_bracket k room s = cond (is (next s) k) (cond (room == 0) (Miss TooDeep s) (Got done (passed s))) (Miss Expected s)

-- a name, by what the first token is
abbrev pub name_by : At → Token → List Token → TokenKind → Parsed Name
name_by s t ts (tokens.Name x) = Got (record { at = t.at; end = t.end; text = x }) (record { past = t.end; rest = ts; marked = s.marked })
name_by s t ts k = Miss Expected s

-- the name at the front of these tokens
abbrev pub name_in : At → List Token → Parsed Name
name_in s [] = Miss Expected s
name_in s (t ∷ ts) = name_by s t ts t.kind

-- a name
abbrev pub name : Parser Name
name s = cond s.marked (Miss Expected s) (name_in s s.rest)

-- the number of a projection, by what the first token is
abbrev pub index_by : At → Token → List Token → TokenKind → Parsed Index
index_by s t ts (tokens.Int n) = Got (record { at = t.at; end = t.end; number = n }) (record { past = t.end; rest = ts; marked = s.marked })
index_by s t ts k = Miss Expected s

-- the number of a projection at the front of these tokens
abbrev pub index_in : At → List Token → Parsed Index
index_in s [] = Miss Expected s
index_in s (t ∷ ts) = index_by s t ts t.kind

-- the number of a projection
abbrev pub index : Parser Index
index s = cond s.marked (Miss Expected s) (index_in s s.rest)
