-- What is printed of a project or an input that is refused.
use Rattle.std.specs.Prelude.{ℕ, List, ◌++◌, codes}
use Rattle.std.specs.Fmt.{decimal}
use Rattle.pie_lexer.specs.declared.error.LexError.{LexError}
use Rattle.pie_lexer.specs.declared.error.LexError.TheVariants as lexer
use Rattle.pie_parser.specs.declared.error.ParseError.{ParseError}
use Rattle.pie_parser.specs.declared.error.ParseError.TheVariants as parser
use Rattle.pie_types.specs.Faults.{Kind, UnknownName, UnknownFunction, Mismatch, Arity, Duplicate, TooManyNames}
use Rattle.pie_script.specs.declared.fault.InputFault.{InputFault}
use Rattle.pie_script.specs.declared.fault.InputFault.TheVariants as inputs
use Rattle.pie_project.specs.declared.fault.RootsReason.{RootsReason}
use Rattle.pie_project.specs.declared.fault.RootsReason.TheVariants as reasons
use Rattle.pie_project.specs.Refusals.{Refusal, OfPipeline, OfRoots, PipelineRefusal, Absent, TooLong, NotText, Lex, Parse, Types}

-- a kind of refusal at a byte
abbrev pub placed : ℕ → List ℕ → List ℕ
placed at kind = codes "at " ++ (decimal at ++ (codes ": " ++ kind))

-- a refusal of the lexer; it is never out of memory
abbrev pub lex_reason : LexError → List ℕ
lex_reason (lexer.BadChar at) = placed at (codes "BadChar")
lex_reason (lexer.OpenText at) = placed at (codes "OpenText")
lex_reason (lexer.BadEscape at) = placed at (codes "BadEscape")
lex_reason (lexer.WideInt at) = placed at (codes "WideInt")
lex_reason lexer.OutOfMemory = codes "out of memory"

-- a refusal of the parser; it is never out of memory
abbrev pub parse_reason : ParseError → List ℕ
parse_reason (parser.Expected at) = placed at (codes "Expected")
parse_reason (parser.TooDeep at) = placed at (codes "TooDeep")
parse_reason parser.OutOfMemory = codes "out of memory"

-- the name of a refusal of the type checker
abbrev pub kind_name : Kind → List ℕ
kind_name UnknownName = codes "UnknownName"
kind_name UnknownFunction = codes "UnknownFunction"
kind_name (Mismatch wanted found) = codes "Mismatch"
kind_name Arity = codes "Arity"
kind_name Duplicate = codes "Duplicate"
kind_name TooManyNames = codes "TooManyNames"

-- why a pipeline is refused
abbrev pub pipeline_reason : PipelineRefusal → List ℕ
pipeline_reason Absent = codes "absent"
pipeline_reason TooLong = codes "too long"
pipeline_reason NotText = codes "not text"
pipeline_reason (Lex e) = lex_reason e
pipeline_reason (Parse e) = parse_reason e
pipeline_reason (Types f) = placed f.at (kind_name f.kind)

-- why roots are refused
abbrev pub roots_reason : RootsReason → List ℕ
roots_reason reasons.Absent = codes "absent"
roots_reason reasons.TooLong = codes "too long"
roots_reason reasons.NotText = codes "not text"
roots_reason (reasons.Line n) = codes "line " ++ decimal n

-- what is printed where a pipeline is refused
abbrev pub bad_pipeline_text : PipelineRefusal → List ℕ
bad_pipeline_text f = codes "bad pipeline: " ++ (pipeline_reason f ++ codes "\n")

-- what is printed where roots are refused
abbrev pub bad_roots_text : RootsReason → List ℕ
bad_roots_text r = codes "bad roots: " ++ (roots_reason r ++ codes "\n")

-- what is printed of a project that is refused
abbrev pub refusal_line : Refusal → List ℕ
refusal_line (OfPipeline f) = bad_pipeline_text f
refusal_line (OfRoots r) = bad_roots_text r

-- a kind of refusal at a line
abbrev pub at_line : ℕ → List ℕ → List ℕ
at_line n kind = codes "line " ++ (decimal n ++ (codes ": " ++ kind))

-- why an input is refused; it is never out of memory
abbrev pub input_reason : InputFault → List ℕ
input_reason (inputs.NotText n) = at_line n (codes "NotText")
input_reason (inputs.BadPath n) = at_line n (codes "BadPath")
input_reason (inputs.BadWord n) = at_line n (codes "BadWord")
input_reason inputs.TooLong = codes "too long"
input_reason inputs.OutOfMemory = codes "out of memory"

-- what is printed where an input is refused
abbrev pub bad_input_text : InputFault → List ℕ
bad_input_text f = codes "bad input: " ++ (input_reason f ++ codes "\n")
