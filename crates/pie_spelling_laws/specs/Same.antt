-- Functions that are spelled alike are the same function, but for its place.
use Rattle.std.specs.Prelude.{◌≡◌, ℕ, List}
use Rattle.pie_lexer.specs.declared.token.Token.{Token}
use Rattle.pie_value.specs.declared.event.Answer.{Answer}
use Rattle.pie_value.specs.Tree.{Tree}
use Rattle.pie_parser.specs.FunctionTrees.{FunctionTree}
use Rattle.pie_semantics.specs.Meaning.{next_of}
use Rattle.pie_spelling_laws.specs.Spans.{bare_function}
use Rattle.pie_spelling_laws.specs.Spelling.{joined, tokens_within, function_spelling, kinds_of}
use Rattle.pie_spelling_laws.specs.Standing.{IsStretch, IsIn, IsFunctionOf, ReachToNextFunc}

-- these two functions give the same with any arguments and answers
abbrev pub MeanTheSame : FunctionTree → FunctionTree → Type 0
MeanTheSame f g = (args : List Tree) (answers : List Answer) → next_of f args answers ≡ next_of g args answers

-- functions that are equal up to spans mean the same
abbrev pub SpansSayNothing : Type 0
SpansSayNothing = (f g : FunctionTree) → bare_function f ≡ bare_function g → MeanTheSame f g

-- functions whose tokens have equal kinds are equal up to spans
abbrev pub KindsDecide : Type 0
KindsDecide = (us vs : List Token) (f g : FunctionTree) → IsStretch us f → IsStretch vs g → kinds_of us ≡ kinds_of vs
    → bare_function f ≡ bare_function g

-- functions with equal joined spellings have tokens of equal kinds, whatever texts they stand in
abbrev pub SpellingsTellKinds : Type 0
SpellingsTellKinds = (text other : List ℕ) (us vs : List Token) (f g : FunctionTree) → IsIn text us f → IsIn other vs g
    → joined text us ≡ joined other vs → kinds_of us ≡ kinds_of vs

-- functions with equal joined spellings are equal up to spans
abbrev pub EqualSpellingsAreOneTree : Type 0
EqualSpellingsAreOneTree = (text other : List ℕ) (us vs : List Token) (f g : FunctionTree) → IsIn text us f → IsIn other vs g
    → joined text us ≡ joined other vs → bare_function f ≡ bare_function g

-- the tokens of a function of a pipeline are those between its first byte and its last
abbrev pub EachStandsInItsText : Type 0
EachStandsInItsText = (text : List ℕ) (ts : List Token) (f : FunctionTree) → IsFunctionOf text ts f → IsIn text (tokens_within f.at f.end ts) f

-- they reach from its `func` to before the next function, or to the end of the text
abbrev pub EachReachesToTheNext : Type 0
EachReachesToTheNext = (text : List ℕ) (ts : List Token) (f : FunctionTree) → IsFunctionOf text ts f → ReachToNextFunc ts (tokens_within f.at f.end ts)

-- functions of two pipelines with equal joined spellings mean the same, whatever texts they stand in
abbrev pub EqualSpellingsMeanTheSame : Type 0
EqualSpellingsMeanTheSame = (text other : List ℕ) (ts us : List Token) (f g : FunctionTree) → IsFunctionOf text ts f → IsFunctionOf other us g
    → function_spelling text ts f ≡ function_spelling other us g → MeanTheSame f g
