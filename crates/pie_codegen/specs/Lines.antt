-- The parts of a line of a block.
use Rattle.std.specs.Prelude.{◌≡◌, ℕ, ◌+◌, List, [], ◌∷◌, ◌++◌}
use Rattle.pie_code.specs.declared.instr.Instr.{Instr}
use Rattle.pie_code.specs.declared.instr.Instr.TheVariants.{Store, Drop}
use Rattle.pie_parser.specs.Plain.{Tree}
use Rattle.pie_parser.specs.declared.tree.Line.{Line}
use Rattle.pie_parser.specs.declared.tree.Line.TheVariants as lines
use Rattle.pie_codegen.specs.declared.spot.Spot.{Spot}
use Rattle.pie_codegen.specs.declared.spot.Place.{Place}
use Rattle.pie_codegen.specs.declared.emitter.Emitter.{Emitter}
use Rattle.pie_codegen.specs.Spots.{next, after}
use Rattle.pie_codegen.specs.Texts.{texts_of}
use Rattle.pie_codegen.specs.Compiled.{Scope, code_of}

-- the expression of a line
abbrev pub value_of : Line → Tree
value_of (lines.Val i j n e) = e
value_of (lines.Expr e) = e

-- how many names a line brings into scope
abbrev pub names_in : Line → ℕ
names_in (lines.Val i j n e) = 1
names_in (lines.Expr e) = 0

-- what is done with the value of a line's expression
abbrev pub line_end : Line → ℕ → Instr
line_end (lines.Val i j n e) m = Store m
line_end (lines.Expr e) m = Drop

-- the code of a line
abbrev pub line_code : Line → Spot → ℕ → Scope → List Instr
line_code l s m sc = code_of (value_of l) s m sc ++ (line_end l m ∷ [])

-- the spot and the first free slot behind a line
abbrev pub behind_line : Line → Place → Place
behind_line (lines.Val i j n e) p = record { spot = next (after e p.spot); mark = p.mark + 1 }
behind_line (lines.Expr e) p = record { spot = next (after e p.spot); mark = p.mark }

-- the names in scope behind a line
abbrev pub line_scope : Line → ℕ → Scope → Scope
line_scope (lines.Val i j n e) m sc = (n.text, m) ∷ sc
line_scope (lines.Expr e) m sc = sc

-- a line is emitted
pub record AddsLine (old new : Emitter) (l : Line) (p behind : Place) : Type 0 where
  pub place : behind ≡ behind_line l p
  pub code : new.code.items ≡ old.code.items ++ line_code l p.spot p.mark old.names
  pub texts : new.texts.items ≡ old.texts.items ++ texts_of (value_of l)
  pub names : new.names ≡ line_scope l p.mark old.names
