-- A place among the tokens.
use Rattle.std.specs.Prelude.{ℕ, Bool, List}
use Rattle.pie_lexer.specs.declared.token.Token.{Token}

-- the end of the token before, the tokens that are left, and whether a `by mark` was passed that belongs to the `read` around
pub record At : Type 0 where
  pub past : ℕ
  pub rest : List Token
  pub marked : Bool
