-- Why a project can't be built, as plain data.
use Rattle.std.specs.Prelude.{◌≡◌, Result, Ok, Err}
use Rattle.pie_lexer.specs.declared.error.LexError.{LexError}
use Rattle.pie_parser.specs.declared.error.ParseError.{ParseError}
use Rattle.pie_types.specs.Faults.{Refused, refused_of}
use Rattle.pie_project.specs.declared.fault.BuildError.{BuildError}
use Rattle.pie_project.specs.declared.fault.BuildError.TheVariants as errors
use Rattle.pie_project.specs.declared.fault.PipelineFault.{PipelineFault}
use Rattle.pie_project.specs.declared.fault.PipelineFault.TheVariants as faults
use Rattle.pie_project.specs.declared.fault.RootsReason.{RootsReason}

-- why a pipeline is refused
pub data PipelineRefusal : Type 0 where
  Absent : PipelineRefusal
  TooLong : PipelineRefusal
  NotText : PipelineRefusal
  Lex : LexError → PipelineRefusal
  Parse : ParseError → PipelineRefusal
  Types : Refused → PipelineRefusal

-- why a project is refused
pub data Refusal : Type 0 where
  OfPipeline : PipelineRefusal → Refusal
  OfRoots : RootsReason → Refusal

-- a refusal of the code as plain data
abbrev pub plain : PipelineFault → PipelineRefusal
plain faults.Absent = Absent
plain faults.TooLong = TooLong
plain faults.NotText = NotText
plain (faults.Lex e) = Lex e
plain (faults.Parse e) = Parse e
plain (faults.Types f) = Types (refused_of f)

-- an answer of the code says this of an answer or a refusal; a fault of the files and out of memory say nothing
abbrev pub Says : {A B : Type 0} → (A → B) → (Result B Refusal → Type 0) → Result A BuildError → Type 0
Says view P (Ok a) = P (Ok (view a))
Says view P (Err (errors.Pipeline f)) = P (Err (OfPipeline (plain f)))
Says view P (Err (errors.Roots r)) = P (Err (OfRoots r))
Says view P (Err errors.Files) = Unit {0}
Says view P (Err errors.OutOfMemory) = Unit {0}

-- an answer or a refusal: neither a fault of the files nor out of memory
abbrev pub IsVerdict : {A : Type 0} → Result A BuildError → Type 0
IsVerdict (Ok a) = Unit {0}
IsVerdict (Err (errors.Pipeline f)) = Unit {0}
IsVerdict (Err (errors.Roots r)) = Unit {0}
IsVerdict (Err errors.Files) = ⊥
IsVerdict (Err errors.OutOfMemory) = ⊥

-- this holds of no other answer or refusal than the one that the code gave
abbrev pub Only : {A B : Type 0} → (A → B) → (Result B Refusal → Type 0) → Result A BuildError → Type 0
Only {B = B} view P result = (r : Result B Refusal) → P r → Says view (λ s. r ≡ s) result
