-- The tokens of a text: at each place what parts tokens is passed by, and else the longest token is taken.
use Rattle.std.specs.Prelude.{◌≡◌, ℕ, ◌+◌, ◌-◌, ◌*◌, ◌^◌, ◌<◌, ◌≤◌, true, cond, nat_lt, List, [], ◌∷◌, ◌++◌, length, drop, Option, Some, None, Result, Ok, Err}
use Rattle.std.specs.Prelude.{ℤ, pos}
use Rattle.std.specs.List.{list_all}
use Rattle.pie_lexer.specs.Bytes.{is_letter, is_digit, is_word_byte, gap_len}
use Rattle.pie_lexer.specs.Words.{word_kind}
use Rattle.pie_lexer.specs.Marks.{mark_of}
use Rattle.pie_lexer.specs.Quotes.{Inside, EndsOpen, IsBadEscape}
use Rattle.pie_lexer.specs.declared.token.Token.{Token}
use Rattle.pie_lexer.specs.declared.token.TokenKind.{TokenKind}
use Rattle.pie_lexer.specs.declared.token.TokenKind.TheVariants as kinds
use Rattle.pie_lexer.specs.declared.error.LexError.{LexError}
use Rattle.pie_lexer.specs.declared.error.LexError.TheVariants.{BadChar, OpenText, BadEscape, WideInt}

-- the number that digits say, after a number that was read before them
abbrev pub read_on : ℕ → List ℕ → ℕ
read_on n [] = n
read_on n (d ∷ ds) = read_on (10 * n + (d - 48)) ds

-- the number that digits say
abbrev pub number_of : List ℕ → ℕ
number_of ds = read_on 0 ds

-- a number as a token holds it, unless it is too wide
abbrev pub narrow : ℕ → Option ℤ
narrow n = cond (nat_lt n (2 ^ 63)) (Some (pos n)) None

-- what is spelled: digits, of any number, or a token of another kind
pub data Lexeme : Type 0 where
  Number : ℕ → Lexeme
  Kind : TokenKind → Lexeme

-- how each lexeme is spelled
pub data Spells : List ℕ → Lexeme → Type 0 where
  word : {b : ℕ} {bs : List ℕ} → is_letter b ≡ true → list_all is_word_byte bs ≡ true → Spells (b ∷ bs) (Kind (word_kind (b ∷ bs)))
  digits : {b : ℕ} {bs : List ℕ} → is_digit b ≡ true → list_all is_digit bs ≡ true → Spells (b ∷ bs) (Number (number_of (b ∷ bs)))
  quoted : {w inner said : List ℕ} → Inside inner said → w ≡ 34 ∷ (inner ++ 34 ∷ []) → Spells w (Kind (kinds.Text said))
  mark : {w : List ℕ} {k : TokenKind} → mark_of w ≡ Some k → Spells w (Kind k)

-- of all that is spelled in front of the text, this is the longest
pub record IsLongest (text w rest : List ℕ) (x : Lexeme) : Type 0 where
  pub front : text ≡ w ++ rest
  pub spelled : Spells w x
  pub longest : (v after : List ℕ) (y : Lexeme) → text ≡ v ++ after → Spells v y → length v ≤ length w

-- the kind of token that a lexeme is, where its number isn't too wide
abbrev pub Means : Lexeme → TokenKind → Type 0
Means (Number n) k = (n < 2 ^ 63) × (k ≡ kinds.Int (pos n))
Means (Kind x) k = k ≡ x

-- why no token can be taken at this place, where these bytes begin
pub data Refused (at : ℕ) (text : List ℕ) : LexError → Type 0 where
  wide : (w rest : List ℕ) (n : ℕ) → IsLongest text w rest (Number n) → 2 ^ 63 ≤ n → Refused at text (WideInt at)
  unclosed : (inner said rest : List ℕ) → text ≡ 34 ∷ (inner ++ rest) → Inside inner said → EndsOpen rest → Refused at text (OpenText at)
  escape : (inner said rest : List ℕ) → text ≡ 34 ∷ (inner ++ rest) → Inside inner said → IsBadEscape rest → Refused at text (BadEscape (at + 1 + length inner))
  char : (b : ℕ) (rest : List ℕ) → text ≡ b ∷ rest → (b ≡ 34 → ⊥) → ((v after : List ℕ) (y : Lexeme) → text ≡ v ++ after → Spells v y → ⊥)
      → Refused at text (BadChar at)

-- an answer with a token before all others
abbrev pub before : Token → Result (List Token) LexError → Result (List Token) LexError
before t (Ok ts) = Ok (t ∷ ts)
before t (Err e) = Err e

-- the answer to the bytes that begin at a place: their tokens, or the first refusal from the left
pub data Lexes : ℕ → List ℕ → Result (List Token) LexError → Type 0 where
  ended : {at : ℕ} → Lexes at [] (Ok [])
  gap : {at : ℕ} {text : List ℕ} {r : Result (List Token) LexError} → 0 < gap_len text
      → Lexes (at + gap_len text) (drop (gap_len text) text) r → Lexes at text r
  token : {at : ℕ} {text : List ℕ} (w rest : List ℕ) (x : Lexeme) (k : TokenKind) {r : Result (List Token) LexError} → gap_len text ≡ 0
      → IsLongest text w rest x → Means x k → Lexes (at + length w) rest r
      → Lexes at text (before (record { kind = k; at = at; end = at + length w }) r)
  refused : {at : ℕ} {text : List ℕ} {e : LexError} → gap_len text ≡ 0 → Refused at text e → Lexes at text (Err e)
