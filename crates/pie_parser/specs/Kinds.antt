-- The kind of a token, without its contents.
use Rattle.std.specs.Prelude.{Bool}
use denote.Enum.Bare.{sameb}
use Rattle.pie_parser.specs.contracts.kind.Kind.{the_type}
use Rattle.pie_lexer.specs.declared.token.TokenKind.{TokenKind}
use Rattle.pie_lexer.specs.declared.token.TokenKind.TheVariants as tokens
use Rattle.pie_parser.specs.declared.kind.Kind.{Kind}
use Rattle.pie_parser.specs.declared.kind.Kind.TheVariants as kinds

-- the kind of a token
abbrev pub kind_of_token : TokenKind → Kind
kind_of_token (tokens.Name x) = kinds.Name
kind_of_token (tokens.Int x) = kinds.Int
kind_of_token (tokens.Text x) = kinds.Text
kind_of_token tokens.Func = kinds.Func
kind_of_token tokens.Val = kinds.Val
kind_of_token tokens.If = kinds.If
kind_of_token tokens.Else = kinds.Else
kind_of_token tokens.True = kinds.True
kind_of_token tokens.False = kinds.False
kind_of_token tokens.UnitWord = kinds.UnitWord
kind_of_token tokens.BoolWord = kinds.BoolWord
kind_of_token tokens.IntWord = kinds.IntWord
kind_of_token tokens.TextWord = kinds.TextWord
kind_of_token tokens.Path = kinds.Path
kind_of_token tokens.Null = kinds.Null
kind_of_token tokens.Empty = kinds.Empty
kind_of_token tokens.Require = kinds.Require
kind_of_token tokens.Run = kinds.Run
kind_of_token tokens.By = kinds.By
kind_of_token tokens.Hash = kinds.Hash
kind_of_token tokens.Mark = kinds.Mark
kind_of_token tokens.Read = kinds.Read
kind_of_token tokens.Exists = kinds.Exists
kind_of_token tokens.Digest = kinds.Digest
kind_of_token tokens.List = kinds.List
kind_of_token tokens.Write = kinds.Write
kind_of_token tokens.Fail = kinds.Fail
kind_of_token tokens.For = kinds.For
kind_of_token tokens.In = kinds.In
kind_of_token tokens.OpenRound = kinds.OpenRound
kind_of_token tokens.CloseRound = kinds.CloseRound
kind_of_token tokens.OpenBrace = kinds.OpenBrace
kind_of_token tokens.CloseBrace = kinds.CloseBrace
kind_of_token tokens.OpenSquare = kinds.OpenSquare
kind_of_token tokens.CloseSquare = kinds.CloseSquare
kind_of_token tokens.Comma = kinds.Comma
kind_of_token tokens.Semicolon = kinds.Semicolon
kind_of_token tokens.Colon = kinds.Colon
kind_of_token tokens.Assign = kinds.Assign
kind_of_token tokens.Plus = kinds.Plus
kind_of_token tokens.Minus = kinds.Minus
kind_of_token tokens.Star = kinds.Star
kind_of_token tokens.Slash = kinds.Slash
kind_of_token tokens.Percent = kinds.Percent
kind_of_token tokens.Less = kinds.Less
kind_of_token tokens.Greater = kinds.Greater
kind_of_token tokens.LessEqual = kinds.LessEqual
kind_of_token tokens.GreaterEqual = kinds.GreaterEqual
kind_of_token tokens.Equal = kinds.Equal
kind_of_token tokens.NotEqual = kinds.NotEqual
kind_of_token tokens.Not = kinds.Not
kind_of_token tokens.And = kinds.And
kind_of_token tokens.Or = kinds.Or
kind_of_token tokens.Question = kinds.Question
kind_of_token tokens.Arrow = kinds.Arrow
kind_of_token tokens.Dot = kinds.Dot

-- two kinds are one
abbrev pub is : Kind → Kind → Bool
is k j = sameb the_type k j
