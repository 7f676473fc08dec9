-- The places that are told of a refused project, as an editor tells them.
use Rattle.std.specs.Prelude.{ℕ, ◌+◌, ◌≡◌, Bool, ◌||◌, ◌==◌, cond, nat_lt, List, [], ◌∷◌, ◌++◌, take, codes}
use Rattle.std.specs.Fmt.{decimal}
use Rattle.pie_lexer.specs.declared.error.LexError.{LexError}
use Rattle.pie_lexer.specs.declared.error.LexError.TheVariants as lexes
use Rattle.pie_parser.specs.declared.error.ParseError.{ParseError}
use Rattle.pie_parser.specs.declared.error.ParseError.TheVariants as parses
use Rattle.pie_project.specs.declared.fault.RootsReason.{RootsReason}
use Rattle.pie_project.specs.declared.fault.RootsReason.TheVariants as reasons
use Rattle.pie_project.specs.Refusals.{PipelineRefusal, Absent, TooLong, NotText, Lex, Parse, Types}

-- whether a byte begins a character of a text, as all do but those that stand inside one
abbrev pub begins_char : ℕ → Bool
begins_char b = nat_lt b 128 || nat_lt 191 b

-- the line on which one stands behind these bytes, from this one on: each newline ends one
abbrev pub line_behind : List ℕ → ℕ → ℕ
line_behind [] line = line
line_behind (b ∷ bs) line = line_behind bs (cond (b == 10) (line + 1) line)

-- the column, in characters, behind these bytes, from this one on: each newline leads back to the first
abbrev pub column_behind : List ℕ → ℕ → ℕ
column_behind [] column = column
column_behind (b ∷ bs) column = column_behind bs (cond (b == 10) 1 (cond (begins_char b) (column + 1) column))

-- the place of a byte, from 0, of a text in a file, as it is told: the line and the column, both from 1
unfoldable pub place_text : List ℕ → List ℕ → ℕ → List ℕ
place_text file text at = file ++ (codes ":" ++ (decimal (line_behind (take at text) 1) ++ (codes ":" ++ (decimal (column_behind (take at text) 1) ++ codes ": "))))

-- the same where a pipeline with this text has no tokens, or these are no pipeline
abbrev pub lex_place : List ℕ → LexError → List ℕ
lex_place text (lexes.BadChar at) = place_text (codes "pie.pipeline") text at
lex_place text (lexes.OpenText at) = place_text (codes "pie.pipeline") text at
lex_place text (lexes.BadEscape at) = place_text (codes "pie.pipeline") text at
lex_place text (lexes.WideInt at) = place_text (codes "pie.pipeline") text at
lex_place text lexes.OutOfMemory = []

abbrev pub parse_place : List ℕ → ParseError → List ℕ
parse_place text (parses.Expected at) = place_text (codes "pie.pipeline") text at
parse_place text (parses.TooDeep at) = place_text (codes "pie.pipeline") text at
parse_place text parses.OutOfMemory = []

-- the place of what is wrong in a pipeline with this text; none where that is the whole file
abbrev pub pipeline_place : List ℕ → PipelineRefusal → List ℕ
pipeline_place text Absent = []
pipeline_place text TooLong = []
pipeline_place text NotText = []
pipeline_place text (Lex e) = lex_place text e
pipeline_place text (Parse e) = parse_place text e
pipeline_place text (Types f) = place_text (codes "pie.pipeline") text f.at

-- a line of roots, from 1, as it is told
unfoldable pub line_place : ℕ → List ℕ
line_place n = codes "pie.roots:" ++ (decimal n ++ codes ": ")

-- the line that is wrong in roots; none where that is the whole file
abbrev pub roots_place : RootsReason → List ℕ
roots_place reasons.Absent = []
roots_place reasons.TooLong = []
roots_place reasons.NotText = []
roots_place (reasons.Line n) = line_place n

-- some bytes begin with others
abbrev pub BeginsWith : List ℕ → List ℕ → Type 0
BeginsWith front bytes = (rest : List ℕ) × (bytes ≡ front ++ rest)
