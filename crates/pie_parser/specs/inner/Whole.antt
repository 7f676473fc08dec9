-- The answer to all tokens, as plain trees.
use Rattle.std.specs.Prelude.{◌≡◌, List, Result, Ok, Err}
use Rattle.pie_lexer.specs.declared.token.Token.{Token}
use Rattle.pie_parser.specs.declared.error.ParseError.{ParseError}
use Rattle.pie_parser.specs.declared.error.ParseError.TheVariants.{Expected, TooDeep, OutOfMemory}
use Rattle.pie_parser.specs.declared.tree.Pipeline.{Pipeline}
use Rattle.pie_parser.specs.FunctionTrees.{FunctionTree}
use Rattle.pie_parser.specs.FunctionGrammar.{IsPipeline}

-- the functions of an answer
abbrev pub functions_of : Result Pipeline ParseError → Result (List FunctionTree) ParseError
functions_of (Ok p) = Ok p.functions.items
functions_of (Err e) = Err e

-- the answer finds these functions, unless it meets a limit or memory ran out: it says nothing of what was expected
abbrev pub Finds : Result Pipeline ParseError → List FunctionTree → Type 0
Finds (Ok p) fs = p.functions.items ≡ fs
Finds (Err (Expected i)) fs = ⊥
Finds (Err (TooDeep i)) fs = Unit {0}
Finds (Err OutOfMemory) fs = Unit {0}

-- a pipeline of the grammar is found as it is, and so the tokens are no other
abbrev pub FindsAll : Result Pipeline ParseError → List Token → Type 0
FindsAll result ts = (fs : List FunctionTree) → IsPipeline ts fs → Finds result fs
