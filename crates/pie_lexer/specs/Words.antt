-- Words: keywords and names.
use Rattle.std.specs.Prelude.{ℕ, Bool, cond, ◌==◌, List, [], ◌∷◌, Option, Some, None, codes}
use lib.Pointwise.{pointwise}
use Rattle.pie_lexer.specs.declared.token.TokenKind.{TokenKind}
use Rattle.pie_lexer.specs.declared.token.TokenKind.TheVariants as kinds

-- two texts are the same bytes
abbrev pub same_text : List ℕ → List ℕ → Bool
same_text = pointwise ◌==◌

-- the keywords of types and of values
abbrev pub type_words : List (List ℕ × TokenKind)
type_words =
    (codes "true", kinds.True) ∷
    (codes "false", kinds.False) ∷
    (codes "unit", kinds.UnitWord) ∷
    (codes "bool", kinds.BoolWord) ∷
    (codes "int", kinds.IntWord) ∷
    (codes "text", kinds.TextWord) ∷
    (codes "path", kinds.Path) ∷
    (codes "null", kinds.Null) ∷
    (codes "empty", kinds.Empty) ∷
    []

-- the keywords of functions and of control
abbrev pub flow_words : List (List ℕ × TokenKind)
flow_words =
    (codes "func", kinds.Func) ∷
    (codes "val", kinds.Val) ∷
    (codes "if", kinds.If) ∷
    (codes "else", kinds.Else) ∷
    (codes "for", kinds.For) ∷
    (codes "in", kinds.In) ∷
    []

-- the keywords of effects
abbrev pub effect_words : List (List ℕ × TokenKind)
effect_words =
    (codes "require", kinds.Require) ∷
    (codes "run", kinds.Run) ∷
    (codes "by", kinds.By) ∷
    (codes "hash", kinds.Hash) ∷
    (codes "mark", kinds.Mark) ∷
    (codes "read", kinds.Read) ∷
    (codes "exists", kinds.Exists) ∷
    (codes "digest", kinds.Digest) ∷
    (codes "list", kinds.List) ∷
    (codes "write", kinds.Write) ∷
    (codes "fail", kinds.Fail) ∷
    []

-- what a table has at a word
abbrev pub look_up : List ℕ → List (List ℕ × TokenKind) → Option TokenKind
look_up w [] = None
look_up w (row ∷ rows) = cond (same_text w row.0) (Some row.1) (look_up w rows)

-- the first of two that is there
abbrev pub or_else : Option TokenKind → Option TokenKind → Option TokenKind
or_else (Some k) other = Some k
or_else None other = other

-- the keyword that is spelled so
abbrev pub keyword_of : List ℕ → Option TokenKind
keyword_of w = or_else (look_up w type_words) (or_else (look_up w flow_words) (look_up w effect_words))

-- the keyword, or else the name
abbrev pub named : List ℕ → Option TokenKind → TokenKind
named w (Some k) = k
named w None = kinds.Name w

-- what a word is: a keyword, or else a name
abbrev pub word_kind : List ℕ → TokenKind
word_kind w = named w (keyword_of w)
