-- The loop over the pieces of a block, a turn at a time.
use Rattle.std.proofs.Common.{◌≡◌, ℕ, ◌+◌, ◌-◌, ◌<◌, ◌≤◌, zero, suc, List, [], ◌∷◌, ◌++◌, Option, Some, None, refl, sym, ap, ◌∙◌, append_assoc, Err, arith}
use Rattle.std.proofs.lemmas.List.{append-nil}
use Rattle.pie_parser.specs.declared.error.ParseFault.{ParseFault}
use Rattle.pie_parser.specs.declared.error.ParseFault.TheVariants.{Expected, TooDeep, OutOfMemory}
use Rattle.pie_parser.specs.declared.tree.Line.{Line}
use Rattle.pie_parser.specs.Plain.{Tree}
use Rattle.pie_parser.specs.At.{At}
use Rattle.pie_parser.specs.Places.{Parsed, Got, Miss, then_on, ParseAgrees}
use Rattle.pie_parser.specs.inner.Turns.{Turn, Stop, Part}
use Rattle.pie_parser.specs.inner.Pieces.{Piece, ALine, TheLast, PieceTurns, pieces_of, on_piece, onto_lines}
use Rattle.pie_parser.specs.ExprReading.{Around, piece, pieces}

onto_more : (ls : List Line) (l : Line) (p : Parsed (List Line × Option Tree))
    → onto_lines ls (then_on p (λ x k. Got (l ∷ x.0, x.1) k)) ≡ onto_lines (ls ++ l ∷ []) p
onto_more ls l (Got x m) = ap (λ zs. Got (zs, x.1) m) (sym (append_assoc ls (l ∷ []) x.0))
onto_more ls l (Miss e m) = refl

one_less : (n i : ℕ) → i < n → n - i ≡ suc (n - (i + 1))
one_less n i h = omega arith

turned : (e : Around) (n i : ℕ) (s : At) → i < n → pieces e (n - i) s ≡ on_piece (piece e s) s (pieces e (n - (i + 1)))
turned e n i s h = ap (λ k. pieces e k s) (one_less n i h)

at_turn : (e : Around) (n i : ℕ) (s : At) (ls : List Line) (t : Turn Piece) → i < n → piece e s ≡ t
    → onto_lines ls (pieces e (n - i) s) ≡ onto_lines ls (on_piece t s (pieces e (n - (i + 1))))
at_turn e n i s ls t h k = ap (onto_lines ls) (turned e n i s h) ∙ ap (λ u. onto_lines ls (on_piece u s (pieces e (n - (i + 1))))) k

pub line_goes_on : (e : Around) (n i : ℕ) (s m : At) (ls : List Line) (l : Line) (p : Parsed (List Line × Option Tree)) → i < n
    → piece e s ≡ Part (Got (ALine l) m)
    → onto_lines ls (pieces e (n - i) s) ≡ p → onto_lines (ls ++ l ∷ []) (pieces e (n - (i + 1)) m) ≡ p
line_goes_on e n i s m ls l p h t q = sym (onto_more ls l (pieces e (n - (i + 1)) m)) ∙ sym (at_turn e n i s ls (Part (Got (ALine l) m)) h t) ∙ q

pub last_ends : (e : Around) (n i : ℕ) (s m : At) (ls : List Line) (u : Tree) (p : Parsed (List Line × Option Tree)) → i < n
    → piece e s ≡ Part (Got (TheLast u) m)
    → onto_lines ls (pieces e (n - i) s) ≡ p → p ≡ Got (ls, Some u) m
last_ends e n i s m ls u p h t q = sym q ∙ at_turn e n i s ls (Part (Got (TheLast u) m)) h t ∙ ap (λ xs. Got (xs, Some u) m) (append-nil ls)

pub stops : (e : Around) (n i : ℕ) (s : At) (ls : List Line) (p : Parsed (List Line × Option Tree)) → i < n → piece e s ≡ Stop
    → onto_lines ls (pieces e (n - i) s) ≡ p → p ≡ Got (ls, None) s
stops e n i s ls p h t q = sym q ∙ at_turn e n i s ls Stop h t ∙ ap (λ xs. Got (xs, None) s) (append-nil ls)

pub fails : (e : Around) (n i : ℕ) (s m : At) (ls : List Line) (f : ParseFault) (p : Parsed (List Line × Option Tree)) → i < n → piece e s ≡ Part (Miss f m)
    → onto_lines ls (pieces e (n - i) s) ≡ p → p ≡ Miss f m
fails e n i s m ls f p h t q = sym q ∙ at_turn e n i s ls (Part (Miss f m)) h t

pub runs_out : (e : Around) (n i : ℕ) (s : At) (ls : List Line) (p : Parsed (List Line × Option Tree)) → n ≤ i
    → onto_lines ls (pieces e (n - i) s) ≡ p → p ≡ Got (ls, None) s
runs_out e n i s ls p h q =
    let z : n - i ≡ 0 = omega arith in
    sym q ∙ ap (λ k. onto_lines ls (pieces e k s)) z ∙ ap (λ xs. Got (xs, None) s) (append-nil ls)

-- where a turn fails in the code, so does the loop
pub piece_fails_so : (e : Around) (n i : ℕ) (s m : At) (ls : List Line) (f : ParseFault) (p : Parsed (List Line × Option Tree)) → i < n
    → PieceTurns (Err f) s m (piece e s)
    → onto_lines ls (pieces e (n - i) s) ≡ p → ParseAgrees pieces_of (Err f) m p
piece_fails_so e n i s m ls Expected p h t q = fails e n i s m ls Expected p h t q
piece_fails_so e n i s m ls TooDeep p h t q = fails e n i s m ls TooDeep p h t q
piece_fails_so e n i s m ls OutOfMemory p h t q = tt
