-- What the digest of a function tells: its joined spelling, and so its meaning.
use Rattle.std.specs.Prelude.{◌≡◌, ℕ, List, Contains}
use Rattle.sha2.specs.Sha256.{sha256}
use Rattle.pie_lexer.specs.declared.token.Token.{Token}
use Rattle.pie_parser.specs.FunctionTrees.{FunctionTree}
use Rattle.pie_digest.specs.Digests.{digests_of}
use Rattle.pie_spelling_laws.specs.Spelling.{function_spelling}
use Rattle.pie_spelling_laws.specs.Standing.{IsFunctionOf}
use Rattle.pie_spelling_laws.specs.Same.{MeanTheSame}

-- the digest of a function: the SHA-256 of its joined spellings
abbrev pub digest_in : List ℕ → List Token → FunctionTree → List ℕ
digest_in text ts f = sha256 (function_spelling text ts f)

-- among the names and digests of a text stand those of each of its functions
abbrev pub EachHasItsDigest : Type 0
EachHasItsDigest = (text : List ℕ) (ts : List Token) (f : FunctionTree) → IsFunctionOf text ts f
    → Contains (digests_of text ts) (f.name.text, digest_in text ts f)

-- these two byte strings are one if they have one SHA-256
abbrev pub AreSeparate : List ℕ → List ℕ → Type 0
AreSeparate a b = sha256 a ≡ sha256 b → a ≡ b

-- functions of two pipelines with one digest mean the same, unless two different spellings have one SHA-256
abbrev pub OneDigestIsOneMeaning : Type 0
OneDigestIsOneMeaning = (text other : List ℕ) (ts us : List Token) (f g : FunctionTree) → IsFunctionOf text ts f → IsFunctionOf other us g
    → AreSeparate (function_spelling text ts f) (function_spelling other us g) → digest_in text ts f ≡ digest_in other us g → MeanTheSame f g
