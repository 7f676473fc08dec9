-- The pieces of a block: its lines, and the expression that ends it.
use Rattle.std.specs.Prelude.{◌≡◌, List, [], ◌∷◌, ◌++◌, Option, Some, None, Result, Ok, Err}
use Rattle.pie_parser.specs.declared.error.ParseFault.{ParseFault}
use Rattle.pie_parser.specs.declared.error.ParseFault.TheVariants.{Expected, TooDeep, OutOfMemory}
use Rattle.pie_parser.specs.declared.tree.Line.{Line}
use Rattle.pie_parser.specs.declared.block.Piece.{Piece as CodePiece}
use Rattle.pie_parser.specs.declared.block.Piece.TheVariants as code
use Rattle.pie_parser.specs.declared.block.Pieces.{Pieces}
use Rattle.pie_parser.specs.Plain.{Tree}
use Rattle.pie_parser.specs.At.{At}
use Rattle.pie_parser.specs.Places.{Parsed, Got, Miss, then_on}
use Rattle.pie_parser.specs.inner.Turns.{Turn, Stop, Part}

-- a line, or the expression that ends a block
pub data Piece : Type 0 where
  ALine : Line → Piece
  TheLast : Tree → Piece

-- a piece of the code
abbrev pub piece_of : CodePiece → Piece
piece_of (code.Line l) = ALine l
piece_of (code.Last t) = TheLast t

-- the pieces of the code
abbrev pub pieces_of : Pieces → List Line × Option Tree
pieces_of p = (p.lines.items, p.last)

-- an answer of the code is that of the turn, unless out of memory
abbrev pub PieceTurns : Result (Option CodePiece) ParseFault → At → At → Turn Piece → Type 0
PieceTurns (Ok None) old new t = (t ≡ Stop) × (new ≡ old)
PieceTurns (Ok (Some x)) old new t = t ≡ Part (Got (piece_of x) new)
PieceTurns (Err OutOfMemory) old new t = Unit {0}
PieceTurns (Err e) old new t = t ≡ Part (Miss e new)

-- a piece and all after it
abbrev pub on_piece : Turn Piece → At → (At → Parsed (List Line × Option Tree)) → Parsed (List Line × Option Tree)
on_piece Stop s again = Got ([], None) s
on_piece (Part (Miss e m)) s again = Miss e m
on_piece (Part (Got (TheLast t) m)) s again = Got ([], Some t) m
on_piece (Part (Got (ALine l) m)) s again = then_on (again m) (λ x k. Got (l ∷ x.0, x.1) k)

-- these lines before those that were read
abbrev pub onto_lines : List Line → Parsed (List Line × Option Tree) → Parsed (List Line × Option Tree)
onto_lines ls (Got x m) = Got (ls ++ x.0, x.1) m
onto_lines ls (Miss e m) = Miss e m
