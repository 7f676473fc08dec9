-- What becomes of the refusals of the parts.
use Rattle.pie_files.specs.declared.files.FilesError.{FilesError}
use Rattle.pie_files.specs.declared.files.FilesError.TheVariants as files
use Rattle.pie_lexer.specs.declared.error.LexError.{LexError}
use Rattle.pie_lexer.specs.declared.error.LexError.TheVariants as lexer
use Rattle.pie_parser.specs.declared.error.ParseError.{ParseError}
use Rattle.pie_parser.specs.declared.error.ParseError.TheVariants as parser
use Rattle.pie_roots.specs.declared.roots_fault.RootsFault.{RootsFault}
use Rattle.pie_roots.specs.declared.roots_fault.RootsFault.TheVariants as roots
use Rattle.pie_project.specs.declared.fault.BuildError.{BuildError}
use Rattle.pie_project.specs.declared.fault.BuildError.TheVariants.{Pipeline, Roots, Files, OutOfMemory}
use Rattle.pie_project.specs.declared.fault.PipelineFault.TheVariants as faults
use Rattle.pie_project.specs.declared.fault.RootsReason.TheVariants as reasons

-- a fault of the files stays one, and so does out of memory
abbrev pub files_error : FilesError → BuildError
files_error files.Failed = Files
files_error files.OutOfMemory = OutOfMemory

-- a refusal of the lexer is one of the pipeline
abbrev pub lexer_error : LexError → BuildError
lexer_error lexer.OutOfMemory = OutOfMemory
lexer_error e = Pipeline (faults.Lex e)

-- a refusal of the parser is one of the pipeline
abbrev pub parser_error : ParseError → BuildError
parser_error parser.OutOfMemory = OutOfMemory
parser_error e = Pipeline (faults.Parse e)

-- a refusal of the roots
abbrev pub reader_error : RootsFault → BuildError
reader_error roots.TooLong = Roots reasons.TooLong
reader_error roots.NotText = Roots reasons.NotText
reader_error (roots.BadRoot n) = Roots (reasons.Line n)
reader_error roots.OutOfMemory = OutOfMemory
