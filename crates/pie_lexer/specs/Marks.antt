-- Marks: the tokens that are neither words, digits nor texts.
use Rattle.std.specs.Prelude.{ℕ, ◌&&◌, cond, ◌==◌, List, [], ◌∷◌, Option, Some, None}
use Rattle.pie_lexer.specs.declared.token.TokenKind.{TokenKind}
use Rattle.pie_lexer.specs.declared.token.TokenKind.TheVariants as kinds

-- a mark: its first byte, its second or 0, and its kind
abbrev pub Row : Type 0
Row = ℕ × ℕ × TokenKind

-- the marks of two bytes
abbrev pub doubles : List Row
doubles =
    (45, 62, kinds.Arrow) ∷  -- ->
    (60, 61, kinds.LessEqual) ∷  -- <=
    (62, 61, kinds.GreaterEqual) ∷  -- >=
    (61, 61, kinds.Equal) ∷  -- ==
    (33, 61, kinds.NotEqual) ∷  -- !=
    (38, 38, kinds.And) ∷  -- &&
    (124, 124, kinds.Or) ∷  -- ||
    []

-- the marks of one byte
abbrev pub singles : List Row
singles =
    (40, 0, kinds.OpenRound) ∷  -- (
    (41, 0, kinds.CloseRound) ∷  -- )
    (123, 0, kinds.OpenBrace) ∷  -- {
    (125, 0, kinds.CloseBrace) ∷  -- }
    (91, 0, kinds.OpenSquare) ∷  -- [
    (93, 0, kinds.CloseSquare) ∷  -- ]
    (44, 0, kinds.Comma) ∷  -- ,
    (59, 0, kinds.Semicolon) ∷  -- ;
    (58, 0, kinds.Colon) ∷  -- :
    (61, 0, kinds.Assign) ∷  -- =
    (43, 0, kinds.Plus) ∷  -- +
    (45, 0, kinds.Minus) ∷  -- -
    (42, 0, kinds.Star) ∷  -- *
    (47, 0, kinds.Slash) ∷  -- /
    (37, 0, kinds.Percent) ∷  -- %
    (60, 0, kinds.Less) ∷  -- <
    (62, 0, kinds.Greater) ∷  -- >
    (33, 0, kinds.Not) ∷  -- !
    (63, 0, kinds.Question) ∷  -- ?
    (46, 0, kinds.Dot) ∷  -- .
    []

-- what a table has at two bytes
abbrev pub look_up : ℕ → ℕ → List Row → Option TokenKind
look_up a b [] = None
look_up a b (row ∷ rows) = cond (a == row.0 && b == row.1) (Some row.2) (look_up a b rows)

-- the mark of two bytes that is spelled so
abbrev pub double_of : ℕ → ℕ → Option TokenKind
double_of a b = look_up a b doubles

-- the mark of one byte that is spelled so
abbrev pub single_of : ℕ → Option TokenKind
single_of a = look_up a 0 singles

-- the mark that is spelled so
abbrev pub mark_of : List ℕ → Option TokenKind
mark_of (a ∷ []) = single_of a
mark_of (a ∷ b ∷ []) = double_of a b
mark_of w = None

-- the mark of two bytes that stands in front
abbrev pub pair_at : List ℕ → Option TokenKind
pair_at (a ∷ b ∷ _) = double_of a b
pair_at text = None

-- the mark of one byte that stands in front
abbrev pub byte_at : List ℕ → Option TokenKind
byte_at (a ∷ _) = single_of a
byte_at [] = None
