-- The names and digests of a pipeline's functions.
use Rattle.std.specs.Prelude.{◌≡◌, ℕ, List, Some, Ok, IsPermutation, IsSortedByKey}
use Rattle.pie_digest.specs.Digests.{digests_of, name_cmp, HasNames}
use Rattle.pie_files.specs.Directory.{Directory}
use Rattle.pie_lexer.specs.declared.token.Token.{Token}
use Rattle.pie_lexer.specs.Tokens.{Lexes}
use Rattle.pie_parser.specs.FunctionTrees.{FunctionTree}
use Rattle.pie_types.specs.inner.WholeRules.{IsTyped}
use Rattle.pie_project.specs.Looking.{file_bytes, pipeline_path}
use Rattle.pie_store.specs.Canonical.{AreFuncs}

-- these rows are the names and digests of the functions of a text
abbrev pub AreDigests : List ℕ → List (List ℕ × List ℕ) → Type 0
AreDigests text rows = (tokens : List Token) → Lexes 0 text (Ok tokens) → IsPermutation (digests_of text tokens) rows

-- these rows are the names and digests of the functions of a directory's pipeline
abbrev pub HasDigests : Directory → List (List ℕ × List ℕ) → Type 0
HasDigests d rows = (text : List ℕ) → file_bytes d pipeline_path ≡ Some text → AreDigests text rows

-- the rows that the tokens of a text have, sorted by name, with the names of these functions, which are typed
pub record AreRows (text : List ℕ) (tokens : List Token) (fs : List FunctionTree) (rows : List (List ℕ × List ℕ)) : Type 0 where
  pub all : IsPermutation (digests_of text tokens) rows
  pub names : HasNames fs rows
  pub ordered : IsSortedByKey (λ (row : List ℕ × List ℕ). row.0) name_cmp rows
  pub typed : IsTyped fs

-- rows of the functions of a text, with their names, as a store can have them
pub record IsDigested (text : List ℕ) (fs : List FunctionTree) (rows : List (List ℕ × List ℕ)) : Type 0 where
  pub digests : AreDigests text rows
  pub names : HasNames fs rows
  pub funcs : AreFuncs rows
