-- What a turn of the code answered, by the pattern that its answer matched.
use Rattle.std.proofs.Common.{◌≡◌, Option, Some, None, Ok, subst, sym, ◌∙◌, ap}
use Rattle.pie_parser.specs.declared.tree.Line.{Line}
use Rattle.pie_parser.specs.declared.block.Piece.{Piece as CodePiece}
use Rattle.pie_parser.specs.declared.block.Piece.TheVariants as code
use Rattle.pie_parser.specs.Plain.{Tree}
use Rattle.pie_parser.specs.At.{At}
use Rattle.pie_parser.specs.Places.{Got}
use Rattle.pie_parser.specs.inner.Turns.{Turn, Part, Stop, Turns}
use Rattle.pie_parser.specs.inner.Pieces.{Piece, ALine, TheLast, PieceTurns}

pub some_turn : {A : Type 0} (o : Option A) (x : A) (s m : At) (t : Turn A) → o ≡ Some x → Turns {A = A} (Ok o) s m t → t ≡ Part (Got x m)
some_turn {A = A} o x s m t e h = let T : Option A → Type 0 = λ i. Turns {A = A} (Ok i) s m t in subst T e h

pub line_turn : (o : Option CodePiece) (x : CodePiece) (l : Line) (s m : At) (t : Turn Piece) → o ≡ Some x → x ≡ code.Line l → PieceTurns (Ok o) s m t
    → t ≡ Part (Got (ALine l) m)
line_turn o x l s m t e k h = let T : Option CodePiece → Type 0 = λ i. PieceTurns (Ok i) s m t in subst T (e ∙ ap Some k) h

pub last_turn : (o : Option CodePiece) (x : CodePiece) (u : Tree) (s m : At) (t : Turn Piece) → o ≡ Some x → x ≡ code.Last u → PieceTurns (Ok o) s m t
    → t ≡ Part (Got (TheLast u) m)
last_turn o x u s m t e k h = let T : Option CodePiece → Type 0 = λ i. PieceTurns (Ok i) s m t in subst T (e ∙ ap Some k) h

pub none_turn : {A : Type 0} (o : Option A) (s m : At) (t : Turn A) → o ≡ None → Turns {A = A} (Ok o) s m t → (t ≡ Stop) × (m ≡ s)
none_turn {A = A} o s m t e h = let T : Option A → Type 0 = λ i. Turns {A = A} (Ok i) s m t in subst T e h
