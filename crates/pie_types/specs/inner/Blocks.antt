-- Lines of blocks, as the program has them.
use Rattle.std.specs.Prelude.{List, Ok}
use Rattle.pie_parser.specs.Plain.{Tree}
use Rattle.pie_parser.specs.declared.tree.Name.{Name}
use Rattle.pie_parser.specs.declared.tree.Line.{Line}
use Rattle.pie_parser.specs.declared.tree.Line.TheVariants as lines
use Rattle.pie_types.specs.Faults.{TypingResult, then_on}
use Rattle.pie_types.specs.Scope.{Entry, entered}
use Rattle.pie_types.specs.Headings.{Heading}
use Rattle.pie_types.specs.Checking.{type_of}

-- the names in scope behind `val n = e;`
abbrev pub after_val : List Heading → List Entry → Name → Tree → TypingResult (List Entry)
after_val hs sc n e = then_on (type_of hs sc e) (λ t. entered n t sc)

-- the names in scope behind a line
abbrev pub after_line : List Heading → List Entry → Line → TypingResult (List Entry)
after_line hs sc (lines.Val i j n e) = after_val hs sc n e
after_line hs sc (lines.Expr e) = then_on (type_of hs sc e) (λ _. Ok sc)
