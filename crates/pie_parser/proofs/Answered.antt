-- From what the reader answers to what the grammar says.
use Rattle.std.proofs.Common.{◌≡◌, List, Result, Ok, Err, IfOk, sym, subst}
use Rattle.pie_lexer.specs.declared.token.Token.{Token}
use Rattle.pie_parser.specs.declared.error.ParseError.{ParseError}
use Rattle.pie_parser.specs.declared.error.ParseError.TheVariants.{Expected, TooDeep, OutOfMemory}
use Rattle.pie_parser.specs.declared.tree.Pipeline.{Pipeline}
use Rattle.pie_parser.specs.FunctionTrees.{FunctionTree}
use Rattle.pie_parser.specs.FunctionReading.{Reads}
use Rattle.pie_parser.specs.FunctionGrammar.{IsPipeline}
use Rattle.pie_parser.specs.inner.Whole.{functions_of, Finds, FindsAll}
use Rattle.pie_parser.proofs.Hits.{Hits}
use Rattle.pie_parser.proofs.FunctionsSound.{pipeline_sound}
use Rattle.pie_parser.proofs.FunctionsComplete.{pipeline_hits}

pub tree_is : (x : Result Pipeline ParseError) (ts : List Token) → Reads (functions_of x) ts → IfOk x (λ p. IsPipeline ts p.functions.items)
tree_is (Ok p) ts h = pipeline_sound ts p.functions.items h.0 h.1
tree_is (Err e) ts h = tt

pub all_are : (x : Result Pipeline ParseError) (ts : List Token) → Reads (functions_of x) ts → FindsAll x ts
all_are (Ok p) ts h = λ fs k. let z = pipeline_hits ts fs k in (subst (λ q. Hits q fs z.0) h.1 z.1).0
all_are (Err (Expected i)) ts h = λ fs k. let z = pipeline_hits ts fs k in subst (λ q. Hits q fs z.0) h.1 z.1
all_are (Err (TooDeep i)) ts h = λ fs k. tt
all_are (Err OutOfMemory) ts h = λ fs k. tt
