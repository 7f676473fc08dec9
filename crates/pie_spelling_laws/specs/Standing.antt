-- Where the tokens of a function stand among those of its text.
use Rattle.std.specs.Prelude.{◌≡◌, ℕ, Bool, true, false, not, List, [], ◌∷◌, ◌++◌, Ok}
use Rattle.std.specs.List.{list_all}
use Rattle.pie_lexer.specs.Tokens.{Lexes}
use Rattle.pie_lexer.specs.declared.token.Token.{Token}
use Rattle.pie_lexer.specs.declared.token.TokenKind.{TokenKind}
use Rattle.pie_lexer.specs.declared.token.TokenKind.TheVariants.{Func}
use Rattle.pie_parser.specs.At.{At}
use Rattle.pie_parser.specs.FunctionTrees.{FunctionTree}
use Rattle.pie_parser.specs.FunctionGrammar.{IsFunction, IsPipeline}

-- these tokens, with some behind them, begin with this function, from `func` to its last brace
pub record IsStretch (tokens : List Token) (f : FunctionTree) : Type 0 where
  pub rest : List Token
  pub past : ℕ
  pub stop : At
  pub grammar : IsFunction (record { past = past; rest = tokens ++ rest; marked = false }) stop f
  pub stops : stop.rest ≡ rest

-- among the tokens of this text stand these, and they are this function
pub record IsIn (text : List ℕ) (tokens : List Token) (f : FunctionTree) : Type 0 where
  pub before : List Token
  pub stretch : IsStretch tokens f
  pub lexed : Lexes 0 text (Ok (before ++ (tokens ++ stretch.rest)))

-- the text has these tokens, and they are a pipeline that has this function
pub record IsFunctionOf (text : List ℕ) (ts : List Token) (f : FunctionTree) : Type 0 where
  pub lexed : Lexes 0 text (Ok ts)
  pub before : List FunctionTree
  pub behind : List FunctionTree
  pub pipeline : IsPipeline ts (before ++ f ∷ behind)

-- the keyword `func`
abbrev pub is_func : TokenKind → Bool
is_func Func = true
is_func k = false

-- none of these tokens is `func`
abbrev pub NoFunc : List Token → Type 0
NoFunc ts = list_all (λ t. not (is_func t.kind)) ts ≡ true

-- the first of these tokens is `func`, if there is one
abbrev pub NextIsFunc : List Token → Type 0
NextIsFunc [] = Unit {0}
NextIsFunc (t ∷ _) = is_func t.kind ≡ true

-- some tokens in a row among others reach from a `func` to before the next one, or to the end
pub record ReachToNextFunc (ts us : List Token) : Type 0 where
  pub before : List Token
  pub func : Token
  pub others : List Token
  pub behind : List Token
  pub splits : ts ≡ before ++ (us ++ behind)
  pub begins : us ≡ func ∷ others
  pub is_one : is_func func.kind ≡ true
  pub none : NoFunc others
  pub next : NextIsFunc behind
