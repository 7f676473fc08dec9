-- What the calls answer, against the tokens of the text.
use Rattle.std.specs.Prelude.{◌≡◌, ℕ, ◌+◌, ◌<◌, ◌≤◌, List, ◌++◌, length, drop, Result, Ok, Err}
use Rattle.pie_lexer.specs.Tokens.{Lexeme, IsLongest, Means, Refused, Lexes}
use Rattle.pie_lexer.specs.declared.token.Token.{Token}
use Rattle.pie_lexer.specs.declared.error.LexError.{LexError}
use Rattle.pie_lexer.specs.declared.error.LexError.TheVariants.{OutOfMemory}

-- the answer is that of the text, unless out of memory
abbrev pub IsAnswer : {A : Type 0} → (A → List Token) → Result A LexError → List ℕ → Type 0
IsAnswer tokens (Ok a) text = Lexes 0 text (Ok (tokens a))
IsAnswer tokens (Err OutOfMemory) text = Unit {0}
IsAnswer tokens (Err e) text = Lexes 0 text (Err e)

-- the answer is this one, unless out of memory
abbrev pub TokensAgree : {A : Type 0} → (A → List Token) → Result A LexError → Result (List Token) LexError → Type 0
TokensAgree tokens (Ok a) r = r ≡ Ok (tokens a)
TokensAgree tokens (Err OutOfMemory) r = Unit {0}
TokensAgree tokens (Err e) r = r ≡ Err e

-- a token that is the longest in front of these bytes, which begin at this place
abbrev pub IsTokenAt : ℕ → List ℕ → Token → Type 0
IsTokenAt at text t = (w : List ℕ) × (rest : List ℕ) × (x : Lexeme) × IsLongest text w rest x × Means x t.kind × (t.at ≡ at) × (t.end ≡ at + length w)

-- what taking a token answers, unless out of memory
abbrev pub TakesToken : ℕ → List ℕ → Result Token LexError → Type 0
TakesToken at text (Ok t) = IsTokenAt at text t
TakesToken at text (Err OutOfMemory) = Unit {0}
TakesToken at text (Err e) = Refused at text e

-- an answer with these tokens before all others
abbrev pub after : List Token → Result (List Token) LexError → Result (List Token) LexError
after ts (Ok us) = Ok (ts ++ us)
after ts (Err e) = Err e

-- the answers at a place, told by those at the next, where the tokens between the two are kept
abbrev pub Carries : List ℕ → ℕ → ℕ → List Token → List Token → Type 0
Carries text at next old new = (r : Result (List Token) LexError) → Lexes next (drop next text) r
    → (s : Result (List Token) LexError) × Lexes at (drop at text) s × (after new r ≡ after old s)

-- what passing by what stands at a place answers, unless out of memory
abbrev pub Passes : List ℕ → ℕ → List Token → List Token → Result ℕ LexError → Type 0
Passes text at old new (Ok next) = (at < next) × (next ≤ length text) × Carries text at next old new
Passes text at old new (Err OutOfMemory) = Unit {0}
Passes text at old new (Err e) = Lexes at (drop at text) (Err e)

-- the text has no answer but this one, unless out of memory
abbrev pub IsOnlyAnswer : {A : Type 0} → (A → List Token) → Result A LexError → List ℕ → Type 0
IsOnlyAnswer tokens result text = (r : Result (List Token) LexError) → Lexes 0 text r → TokensAgree tokens result r
