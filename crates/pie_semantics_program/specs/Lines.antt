-- The lines of a block by the names that they bring into scope.
use Rattle.std.specs.Prelude.{◌∷◌}
use Rattle.pie_operators.specs.Domain.{Act, give, then_do}
use Rattle.pie_parser.specs.declared.tree.Line.{Line}
use Rattle.pie_parser.specs.declared.tree.Line.TheVariants as lines
use Rattle.pie_parser.specs.Plain.{LineTrees, NoLine, ValLine, ExprLine}
use Rattle.pie_semantics.specs.Words.{Env}
use Rattle.pie_semantics.specs.Meaning.{value_of}

-- the names in scope behind a line
abbrev pub behind_line : Line → Env → Act Env
behind_line (lines.Val i j n e) env = then_do (value_of e env) (λ v. give ((n.text, v) ∷ env))
behind_line (lines.Expr e) env = then_do (value_of e env) (λ v. give env)

-- the names in scope behind some lines
abbrev pub behind_lines : LineTrees → Env → Act Env
behind_lines NoLine env = give env
behind_lines (ValLine i j n e ls) env = then_do (value_of e env) (λ v. behind_lines ls ((n.text, v) ∷ env))
behind_lines (ExprLine e ls) env = then_do (value_of e env) (λ v. behind_lines ls env)
