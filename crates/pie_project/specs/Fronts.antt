-- What a directory has for a project: functions and roots, or the first refusal.
use Rattle.std.specs.Prelude.{◌≡◌, ℕ, ◌<◌, ◌≤◌, List, length, Some, None, Result, Ok, Err}
use Rattle.std.specs.Str.{IsUtf8}
use Rattle.pie_files.specs.Directory.{Directory}
use Rattle.pie_lexer.specs.declared.token.Token.{Token}
use Rattle.pie_lexer.specs.declared.error.LexError.{LexError}
use Rattle.pie_lexer.specs.Tokens.{Lexes}
use Rattle.pie_parser.specs.declared.error.ParseError.TheVariants.{Expected, TooDeep}
use Rattle.pie_parser.specs.FunctionTrees.{FunctionTree}
use Rattle.pie_parser.specs.FunctionGrammar.{IsPipeline}
use Rattle.pie_grammar_laws.specs.Brackets.{IsShallow}
use Rattle.pie_grammar_laws.specs.Refusals.{StopsAt, NestsTooDeepAt}
use Rattle.pie_types.specs.Faults.{TypingResult}
use Rattle.pie_types.specs.Whole.{checked, number_from}
use Rattle.pie_value.specs.declared.task.Task.{Task}
use Rattle.pie_roots.specs.declared.roots_fault.RootsFault.TheVariants as roots
use Rattle.pie_roots.specs.RootLists as lists
use Rattle.pie_project.specs.declared.fault.RootsReason.TheVariants as reasons
use Rattle.pie_project.specs.Looking.{file_bytes, pipeline_path, roots_path}
use Rattle.pie_project.specs.Refusals.{Refusal, OfPipeline, OfRoots, Absent, TooLong, NotText, Lex, Parse, Types}

-- the most bytes of either file
abbrev pub most : ℕ
most = 1048576

-- the functions of a pipeline, or why it is refused
abbrev pub Checked : Type 0
Checked = Result (List FunctionTree) Refusal

-- functions have types, or are refused at the first place that has none
abbrev pub typed_or : TypingResult (List FunctionTree) → Checked
typed_or (Ok fs) = Ok fs
typed_or (Err e) = Err (OfPipeline (Types e))

-- what the types of these functions say: the functions, or the first refusal
abbrev pub tree_says : List FunctionTree → Checked
tree_says fs = typed_or (checked fs)

-- tokens are a pipeline whose brackets keep the limit, which is checked, or stop at a place to begin one, or nest a bracket too deep there
pub data TokensSay (tokens : List Token) : Checked → Type 0 where
  tree : {fs : List FunctionTree} → IsPipeline tokens fs → IsShallow tokens → TokensSay tokens (tree_says fs)
  expected : {i : ℕ} → StopsAt tokens i → TokensSay tokens (Err (OfPipeline (Parse (Expected i))))
  too_deep : {i : ℕ} → NestsTooDeepAt tokens i → TokensSay tokens (Err (OfPipeline (Parse (TooDeep i))))

-- a text has tokens, or a first place where none can be taken
pub data TextSays (text : List ℕ) : Checked → Type 0 where
  tokens : {ts : List Token} {r : Checked} → Lexes 0 text (Ok ts) → TokensSay ts r → TextSays text r
  no_token : {e : LexError} → Lexes 0 text (Err e) → TextSays text (Err (OfPipeline (Lex e)))

-- bytes are too many, or no text, or a text
pub data BytesSay (bytes : List ℕ) : Checked → Type 0 where
  pipeline_too_long : most < length bytes → BytesSay bytes (Err (OfPipeline TooLong))
  pipeline_no_text : length bytes ≤ most → ¬ (IsUtf8 bytes) → BytesSay bytes (Err (OfPipeline NotText))
  pipeline_text : {r : Checked} → length bytes ≤ most → IsUtf8 bytes → TextSays bytes r → BytesSay bytes r

-- the functions and the roots of a project, or why it is refused
abbrev pub Front : Type 0
Front = Result (List FunctionTree × List Task) Refusal

-- roots are tasks of the pipeline, or are refused
pub data RootsSay (fs : List FunctionTree) (bytes : List ℕ) : Front → Type 0 where
  roots_found : {ts : List Task} → lists.Reads (number_from 0 fs) (λ us. us) (Ok ts) bytes → RootsSay fs bytes (Ok (fs, ts))
  roots_too_long : lists.Reads {A = List Task} (number_from 0 fs) (λ us. us) (Err roots.TooLong) bytes → RootsSay fs bytes (Err (OfRoots reasons.TooLong))
  roots_no_text : lists.Reads {A = List Task} (number_from 0 fs) (λ us. us) (Err roots.NotText) bytes → RootsSay fs bytes (Err (OfRoots reasons.NotText))
  bad_root : {n : ℕ} → lists.Reads {A = List Task} (number_from 0 fs) (λ us. us) (Err (roots.BadRoot n)) bytes
      → RootsSay fs bytes (Err (OfRoots (reasons.Line n)))

-- behind a pipeline that is checked stand the roots, if their file is there
pub data TypedSays (d : Directory) (fs : List FunctionTree) : Front → Type 0 where
  no_roots : file_bytes d roots_path ≡ None → TypedSays d fs (Err (OfRoots reasons.Absent))
  with_roots : {bytes : List ℕ} {r : Front} → file_bytes d roots_path ≡ Some bytes → RootsSay fs bytes r → TypedSays d fs r

-- the bytes of a pipeline are refused, or are checked before the roots
pub data PipelineSays (d : Directory) (bytes : List ℕ) : Front → Type 0 where
  bad_pipeline : {e : Refusal} → BytesSay bytes (Err e) → PipelineSays d bytes (Err e)
  good_pipeline : {fs : List FunctionTree} {r : Front} → BytesSay bytes (Ok fs) → TypedSays d fs r → PipelineSays d bytes r

-- a directory has no pipeline, or one with these bytes
pub data ProjectSays (d : Directory) : Front → Type 0 where
  no_pipeline : file_bytes d pipeline_path ≡ None → ProjectSays d (Err (OfPipeline Absent))
  with_pipeline : {bytes : List ℕ} {r : Front} → file_bytes d pipeline_path ≡ Some bytes → PipelineSays d bytes r → ProjectSays d r

-- how many functions and roots a project has, or why it is refused
abbrev pub counts_of : Front → Result (ℕ × ℕ) Refusal
counts_of (Ok p) = Ok (length p.0, length p.1)
counts_of (Err e) = Err e

-- what a check says of a directory: how many functions and roots there are, or the first refusal
pub data CheckSays (d : Directory) : Result (ℕ × ℕ) Refusal → Type 0 where
  counts : {r : Front} → ProjectSays d r → CheckSays d (counts_of r)
