-- The kinds of tokens, without their places.
use Rattle.std.specs.Prelude.{List, map}
use Rattle.pie_lexer.specs.declared.token.Token.{Token}
use Rattle.pie_lexer.specs.declared.token.TokenKind.{TokenKind}

-- what the tokens are, wherever they stand
abbrev pub kinds_of : List Token → List TokenKind
kinds_of tokens = map (λ (t : Token). t.kind) tokens
