-- What a line of the roots is.
use Rattle.std.specs.Prelude.{◌≡◌, ◌≢◌, ℕ, Bool, cond, List, [], Ok}
use Rattle.pie_lexer.specs.declared.token.Token.{Token}
use Rattle.pie_lexer.specs.declared.token.TokenKind.{TokenKind}
use Rattle.pie_lexer.specs.Tokens.{Lexes}
use Rattle.pie_value.specs.declared.task.Task.{Task}
use Rattle.pie_roots.specs.declared.root.Root.{Root}
use Rattle.pie_roots.specs.declared.root.Root.TheVariants as roots
use Rattle.pie_roots.specs.Kinds.{kinds_of}
use Rattle.pie_roots.specs.Written.{Writes}

-- the line has no token
abbrev pub IsBlank : List ℕ → Type 0
IsBlank line = Lexes 0 line (Ok [])

-- the line's tokens are those of the printed form of this task, which keeps the limits
abbrev pub Names : List ℕ → Task → Type 0
Names line t = (tokens : List Token) × Lexes 0 line (Ok tokens) × Writes (kinds_of tokens) t

-- what a line is: blank, or the task that it names, or bad where it is neither
abbrev pub IsRoot : List ℕ → Root → Type 0
IsRoot line roots.Nothing = IsBlank line
IsRoot line (roots.Task t) = Names line t
IsRoot line roots.Bad = ¬ (IsBlank line) × ((t : Task) → ¬ (Names line t))

-- the line is nothing else
abbrev pub IsOnlyRoot : List ℕ → Root → Type 0
IsOnlyRoot line root = (r : Root) → IsRoot line r → r ≡ root

-- what tokens are: none, or those of a task, or bad where they are neither
abbrev pub IsRootOf : List TokenKind → Root → Type 0
IsRootOf ks roots.Nothing = ks ≡ []
IsRootOf ks (roots.Task t) = Writes ks t
IsRootOf ks roots.Bad = (ks ≢ []) × ((t : Task) → ¬ (Writes ks t))

-- the root that a task is, where this says whether it keeps the limits
abbrev pub limited : Task → Bool → Root
limited t small = cond small (roots.Task t) roots.Bad
