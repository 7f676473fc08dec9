-- Functions of two pipelines with one digest: their tasks mean the same.
use Rattle.std.specs.Prelude.{ℕ, ◌≡◌, true, cond, bytes_eq, Option, Some, None, Ok, List, [], ◌∷◌, Contains, IsPermutation}
use Rattle.pie_lexer.specs.declared.token.Token.{Token}
use Rattle.pie_lexer.specs.Tokens.{Lexes}
use Rattle.pie_parser.specs.FunctionTrees.{FunctionTree}
use Rattle.pie_parser.specs.FunctionGrammar.{IsPipeline}
use Rattle.pie_value.specs.declared.task.Task.{Task}
use Rattle.pie_value.specs.Canonical.{enc_task, IsCanonicalTask}
use Rattle.pie_digest.specs.Digests.{digests_of, HasNames}
use Rattle.pie_spelling_laws.specs.Spelling.{function_spelling}
use Rattle.pie_digest_laws.specs.Digests.{AreSeparate}
use Rattle.pie_store.specs.Canonical.{AreFuncs}
use Rattle.pie_model.specs.Paths.{among}
use Rattle.pie_model.specs.Evaluation.{Project}
use Rattle.pie_model.specs.Changes.{BuildsSeparate}
use Rattle.pie_model.specs.Reasons.{SameCode}
use Rattle.pie_model_pipeline.specs.World.{world, next}

-- what rows of names and digests have for a name, the first if there are more
abbrev pub digest_under : List (List ℕ × List ℕ) → List ℕ → Option (List ℕ)
digest_under [] n = None
digest_under (row ∷ rows) n = cond (bytes_eq n row.0) (Some row.1) (digest_under rows n)

-- these functions are the pipeline of a text with these tokens
pub record IsPipelineOf (text : List ℕ) (ts : List Token) (fs : List FunctionTree) : Type 0 where
  pub lexed : Lexes 0 text (Ok ts)
  pub pipeline : IsPipeline ts fs

-- these rows are the names and digests of its functions, as a store has them
pub record AreItsDigests (text : List ℕ) (ts : List Token) (fs : List FunctionTree) (rows : List (List ℕ × List ℕ)) : Type 0 where
  pub digests : IsPermutation (digests_of text ts) rows
  pub names : HasNames fs rows
  pub funcs : AreFuncs rows

-- no two different spellings of these functions have one SHA-256
abbrev pub SpellingsSeparate : List ℕ → List Token → List FunctionTree → List ℕ → List Token → List FunctionTree → Type 0
SpellingsSeparate text ts fs other us gs =
    (f g : FunctionTree) → Contains fs f → Contains gs g → AreSeparate (function_spelling text ts f) (function_spelling other us g)

-- then a task whose function has one digest in both pipelines means the same in both
abbrev pub OneDigestIsOneNext : Type 0
OneDigestIsOneNext =
    (text other : List ℕ) (ts us : List Token) (fs gs : List FunctionTree) (rows others : List (List ℕ × List ℕ)) (t : Task)
    → IsPipelineOf text ts fs → IsPipelineOf other us gs → AreItsDigests text ts fs rows → AreItsDigests other us gs others
    → SpellingsSeparate text ts fs other us gs → IsCanonicalTask t (enc_task t)
    → SameCode (digest_under rows t.func) (digest_under others t.func) → next fs (enc_task t) ≡ next gs (enc_task t)

-- all spellings of a text's functions are among these
abbrev pub SpellingsAmong : List ℕ → List Token → List FunctionTree → List (List ℕ) → Type 0
SpellingsAmong text ts fs strings = (f : FunctionTree) → Contains fs f → among (function_spelling text ts f) strings ≡ true

-- where two builds separate what they meet, and the spellings of both pipelines are met besides, these are separate
abbrev pub MetSpellingsSeparate : Type 0
MetSpellingsSeparate =
    (text other : List ℕ) (ts us : List Token) (fs gs : List FunctionTree) (old now : Project) (old_roots roots besides : List (List ℕ))
    → SpellingsAmong text ts fs besides → SpellingsAmong other us gs besides → BuildsSeparate world old now old_roots roots besides
    → SpellingsSeparate text ts fs other us gs

-- rows of another directory with the same text are the digests of these functions too: so where a store keeps no digests but that of the text, and it
-- is the text now, the digests now serve
abbrev pub OneTextHasOneTable : Type 0
OneTextHasOneTable =
    (text : List ℕ) (ts : List Token) (fs gs : List FunctionTree) (rows others : List (List ℕ × List ℕ)) → AreItsDigests text ts fs rows
    → AreItsDigests text ts gs others → AreItsDigests text ts fs others
