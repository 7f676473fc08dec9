-- Where tokens stop being the beginning of a pipeline.
use Rattle.std.specs.Prelude.{◌≡◌, ℕ, true, List, [], ◌∷◌, ◌++◌, Result, Err}
use Rattle.pie_lexer.specs.declared.token.Token.{Token}
use Rattle.pie_parser.specs.declared.error.ParseError.{ParseError}
use Rattle.pie_parser.specs.declared.error.ParseError.TheVariants.{Expected, TooDeep}
use Rattle.pie_parser.specs.declared.tree.Pipeline.{Pipeline}
use Rattle.pie_parser.specs.Kinds.{kind_of_token}
use Rattle.pie_parser.specs.Places.{start_of}
use Rattle.pie_parser.specs.FunctionReading.{last_end}
use Rattle.pie_parser.specs.FunctionTrees.{FunctionTree}
use Rattle.pie_parser.specs.FunctionGrammar.{IsPipeline}
use Rattle.pie_grammar_laws.specs.Brackets.{opens, open_after, IsShallow}

-- these tokens begin a pipeline: with some tokens behind them they are one of the grammar
abbrev pub BeginsPipeline : List Token → Type 0
BeginsPipeline ts = (more : List Token) × (fs : List FunctionTree) × IsPipeline (ts ++ more) fs

-- no pipeline goes on here: the next token makes a beginning of none, or none is left and the tokens are no pipeline
abbrev pub CannotGoOn : List Token → List Token → Type 0
CannotGoOn ts [] = (fs : List FunctionTree) → IsPipeline ts fs → ⊥
CannotGoOn ts (x ∷ _) = BeginsPipeline (ts ++ x ∷ []) → ⊥

-- here the tokens stop to begin a pipeline: at the first byte of a token, or at the end of the last where none is left
pub record StopsAt (ts : List Token) (i : ℕ) : Type 0 where
  pub before : List Token
  pub rest : List Token
  pub splits : ts ≡ before ++ rest
  pub place : i ≡ start_of (last_end 0 ts) rest
  pub begins : BeginsPipeline before
  pub stops : CannotGoOn before rest
  pub shallow : IsShallow before

-- here stands the first opening bracket inside 64 open ones, and the tokens up to it, itself too, begin a pipeline
pub record NestsTooDeepAt (ts : List Token) (i : ℕ) : Type 0 where
  pub before : List Token
  pub bracket : Token
  pub rest : List Token
  pub splits : ts ≡ before ++ bracket ∷ rest
  pub place : i ≡ bracket.at
  pub begins : BeginsPipeline (before ++ bracket ∷ [])
  pub opening : opens (kind_of_token bracket.kind) ≡ true
  pub inside : open_after 0 before ≡ 64
  pub shallow : IsShallow before

-- a pipeline of the grammar, with no bracket that nests too deep
abbrev pub IsShallowPipeline : List Token → Type 0
IsShallowPipeline ts = IsShallow ts × ((fs : List FunctionTree) × IsPipeline ts fs)

-- where the answer is that a token can't stand, this holds of its place
abbrev pub OnExpected : Result Pipeline ParseError → (ℕ → Type 0) → Type 0
OnExpected (Err (Expected i)) P = P i
OnExpected r P = Unit {0}

-- where the answer is that brackets nest too deep, this holds of its place
abbrev pub OnTooDeep : Result Pipeline ParseError → (ℕ → Type 0) → Type 0
OnTooDeep (Err (TooDeep i)) P = P i
OnTooDeep r P = Unit {0}
