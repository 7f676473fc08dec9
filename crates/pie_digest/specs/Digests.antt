-- The digests of functions, on lists of tokens. A function begins at a token `func`, and ends before the next one.
use Rattle.std.specs.Prelude.{ℕ, Bool, true, false, cond, List, [], ◌∷◌, ◌++◌, length, map, slice_range, IsPermutation}
use Rattle.std.specs.Ordering.{on, nat_cmp, then_cmp}
use Rattle.std.specs.declared.cmp.Ordering.{Ordering}
use Rattle.std.specs.Cmp.Lexicographic.{slice_cmp}
use Rattle.sha2.specs.Sha256.{sha256}
use Rattle.pie_lexer.specs.declared.token.Token.{Token}
use Rattle.pie_lexer.specs.declared.token.TokenKind.{TokenKind}
use Rattle.pie_lexer.specs.declared.token.TokenKind.TheVariants.{Func, Name}
use Rattle.pie_parser.specs.FunctionTrees.{FunctionTree}

-- whether a token begins a function
abbrev pub is_func : TokenKind → Bool
is_func Func = true
is_func k = false

-- the tokens before the next function
abbrev pub before_func : List Token → List Token
before_func [] = []
before_func (t ∷ ts) = cond (is_func t.kind) [] (t ∷ before_func ts)

-- the tokens of the function that begins here
abbrev pub function_tokens : List Token → List Token
function_tokens [] = []
function_tokens (t ∷ ts) = t ∷ before_func ts

-- the bytes that a token takes of a text
abbrev pub spelling : List ℕ → Token → List ℕ
spelling text t = slice_range text t.at t.end

-- spellings with a space before each
abbrev pub spaced : List ℕ → List Token → List ℕ
spaced text [] = []
spaced text (t ∷ ts) = 32 ∷ (spelling text t ++ spaced text ts)

-- spellings joined by one space
abbrev pub spelled : List ℕ → List Token → List ℕ
spelled text [] = []
spelled text (t ∷ ts) = spelling text t ++ spaced text ts

-- the name that a token spells
abbrev pub name_in : TokenKind → List ℕ
name_in (Name n) = n
name_in k = []

-- the name of the function that begins here
abbrev pub name_of : List Token → List ℕ
name_of (f ∷ n ∷ ts) = name_in n.kind
name_of ts = []

-- the name and the digest of the function that begins here, if one does
abbrev pub digest_here : List ℕ → List Token → List (List ℕ × List ℕ)
digest_here text [] = []
digest_here text (t ∷ ts) = cond (is_func t.kind) ((name_of (t ∷ ts), sha256 (spelled text (function_tokens (t ∷ ts)))) ∷ []) []

-- the names and the digests of all functions, in text order
abbrev pub digests_of : List ℕ → List Token → List (List ℕ × List ℕ)
digests_of text [] = []
digests_of text (t ∷ ts) = digest_here text (t ∷ ts) ++ digests_of text ts

-- the order of names: a shorter one comes first, and at one length the bytes decide
abbrev pub name_cmp : List ℕ → List ℕ → Ordering
name_cmp = then_cmp (on length nat_cmp) (slice_cmp nat_cmp)

-- the names of rows
abbrev pub row_names : List (List ℕ × List ℕ) → List (List ℕ)
row_names rows = map (λ (row : List ℕ × List ℕ). row.0) rows

-- the names of functions
abbrev pub function_names : List FunctionTree → List (List ℕ)
function_names fs = map (λ (f : FunctionTree). f.name.text) fs

-- the rows have the names of these functions, each as often
abbrev pub HasNames : List FunctionTree → List (List ℕ × List ℕ) → Type 0
HasNames fs rows = IsPermutation (function_names fs) (row_names rows)
