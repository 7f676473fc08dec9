-- How the tokens of a function are spelled in its text.
use Rattle.std.specs.Prelude.{ℕ, ◌-◌, not, ◌&&◌, nat_lt, List, [], ◌∷◌, ◌++◌, take, drop}
use Rattle.std.specs.List.{filter}
use Rattle.pie_lexer.specs.declared.token.Token.{Token}
use Rattle.pie_lexer.specs.declared.token.TokenKind.{TokenKind}
use Rattle.pie_parser.specs.FunctionTrees.{FunctionTree}

-- the bytes of the text that a token takes
abbrev pub spelling : List ℕ → Token → List ℕ
spelling text t = take (t.end - t.at) (drop t.at text)

-- the spellings of these tokens, with one space between each and the next
abbrev pub joined : List ℕ → List Token → List ℕ
joined text [] = []
joined text (t ∷ []) = spelling text t
joined text (t ∷ u ∷ us) = spelling text t ++ 32 ∷ joined text (u ∷ us)

-- the tokens that stand between two bytes of the text
abbrev pub tokens_within : ℕ → ℕ → List Token → List Token
tokens_within i j ts = filter (λ t. not (nat_lt t.at i) && not (nat_lt j t.end)) ts

-- the joined spellings of a function, from `func` to its last brace, among the tokens of its text
abbrev pub function_spelling : List ℕ → List Token → FunctionTree → List ℕ
function_spelling text ts f = joined text (tokens_within f.at f.end ts)

-- the kinds of tokens, with their names, numbers and texts
abbrev pub kinds_of : List Token → List TokenKind
kinds_of [] = []
kinds_of (t ∷ ts) = t.kind ∷ kinds_of ts
