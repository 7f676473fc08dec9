-- What an answer of the parser says by the grammar.
use Rattle.std.specs.Prelude.{◌≡◌, List, Result, IfOk, IfErr}
use Rattle.pie_lexer.specs.declared.token.Token.{Token}
use Rattle.pie_parser.specs.declared.error.ParseError.{ParseError}
use Rattle.pie_parser.specs.declared.error.ParseError.TheVariants.{OutOfMemory}
use Rattle.pie_parser.specs.declared.tree.Pipeline.{Pipeline}
use Rattle.pie_parser.specs.FunctionReading.{Reads}
use Rattle.pie_parser.specs.inner.Whole.{functions_of}
use Rattle.pie_grammar_laws.specs.Brackets.{IsShallow}
use Rattle.pie_grammar_laws.specs.Refusals.{StopsAt, NestsTooDeepAt, IsShallowPipeline, OnExpected, OnTooDeep}

-- this holds of each answer of the parser to some tokens
abbrev pub OfAnswers : (Result Pipeline ParseError → List Token → Type 0) → Type 0
OfAnswers P = (answer : Result Pipeline ParseError) (ts : List Token) → Reads (functions_of answer) ts → P answer ts

-- where a pipeline is answered, no bracket nests too deep
abbrev pub AcceptedPipelinesAreShallow : Type 0
AcceptedPipelinesAreShallow = OfAnswers (λ answer ts. IfOk answer (λ _. IsShallow ts))

-- a pipeline of the grammar whose brackets keep the limit is refused only when out of memory
abbrev pub ShallowPipelinesAreAccepted : Type 0
ShallowPipelinesAreAccepted = OfAnswers (λ answer ts. IsShallowPipeline ts → IfErr answer (λ e. e ≡ OutOfMemory))

-- a token that can't stand is refused where the tokens stop to begin a pipeline
abbrev pub ExpectedStops : Type 0
ExpectedStops = OfAnswers (λ answer ts. OnExpected answer (StopsAt ts))

-- a bracket that nests too deep is refused where the first one stands
abbrev pub TooDeepNests : Type 0
TooDeepNests = OfAnswers (λ answer ts. OnTooDeep answer (NestsTooDeepAt ts))
