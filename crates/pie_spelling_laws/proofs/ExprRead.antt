-- An expression of the grammar is found, where enough brackets may be opened.
use Rattle.std.proofs.Common.{◌≡◌, ℕ, ◌+◌, ◌<◌, ◌≤◌, zero, suc, Bool, true, false, cond, List, [], ◌∷◌, length, Option, Some, None, refl, sym, subst, ap, arith}
use Rattle.pie_parser.specs.declared.kind.Kind.{Kind}
use Rattle.pie_parser.specs.declared.kind.Kind.TheVariants as kinds
use Rattle.pie_parser.specs.declared.chain.Level.{Level}
use Rattle.pie_parser.specs.declared.chain.Level.TheVariants as levels
use Rattle.pie_parser.specs.declared.tree.Name.{Name}
use Rattle.pie_parser.specs.declared.tree.Step.{Step}
use Rattle.pie_parser.specs.declared.tree.Line.{Line}
use Rattle.pie_parser.specs.declared.tree.Line.TheVariants as line_kinds
use Rattle.pie_parser.specs.declared.tree.EffectKind.{EffectKind}
use Rattle.pie_parser.specs.Kinds.{is}
use Rattle.pie_parser.specs.Tests.{effect_at}
use Rattle.pie_parser.specs.Plain.{Tree, TLiteral, TEffect, TPrefix, TCompare, BlockTree}
use Rattle.pie_parser.specs.At.{At}
use Rattle.pie_parser.specs.Places.{Parsed, Got, Miss, Parser, then_on, done, next, start, passed, want, open_bracket, name}
use Rattle.pie_parser.specs.inner.Turns.{Stop, Part, on_turn, many, all_behind}
use Rattle.pie_parser.specs.inner.Pieces.{Piece, ALine, TheLast, on_piece, onto_lines}
use Rattle.pie_parser.specs.TypeReading.{plain_type, written_type, inner_type}
use Rattle.pie_parser.specs.ExprReading as reads
use Rattle.pie_parser.specs.ExprReading.{Around, nowhere, chain, projection}
use Rattle.pie_parser.specs.TypeGrammar.{Eats, IsName}
use Rattle.pie_parser.specs.Grammar as grammar
use Rattle.pie_parser.specs.Grammar.{IsIndex, Indices, ByOfRequire, ByOfRead, IsExpr, IsChain, IsOperand, Steps, IsComparison, IsPrefixed, IsProjected}
use Rattle.pie_parser.specs.Grammar.{IsPrimary, Arguments, More, IsBlock, Lines}
use Rattle.pie_parser.proofs.Strength.{level_of, Ends, ends_at, is_one, is_not, no_operator, no_comparison, comparison_strength}
use Rattle.pie_parser.proofs.Hits.{eats_less}
use Rattle.pie_spelling_laws.proofs.Finds.{Finds, after, at_true, at_false, finds_by, wanted, bracket, behind_them}
use Rattle.pie_spelling_laws.proofs.Lengths.{passes, sum_less, operand_less}
use Rattle.pie_parser.proofs.Shorter.{last_one, name_less, effect_less, type_less, indices_count, expr_less, steps_count, more_count, block_less, lines_count}
use Rattle.pie_parser.proofs.TypesComplete.{Off, off_by, name_kind}
use Rattle.pie_spelling_laws.proofs.TypesRead.{type_is_found, plain_is_found}
use Rattle.pie_spelling_laws.proofs.FirstKinds.{starts, off_start, no_prefix, literal_at, first_expr, first_projected, first_arguments, first_block, by_read_follow}
use Rattle.pie_spelling_laws.proofs.FirstKinds.{indices_follow, steps_follow, more_follow, more_off, indices_found, by_require_found, by_read_found}

-- what stands around an expression, where these read what is inside: one condition more may always be opened
abbrev with_inner : ℕ → Bool → (Bool → Parser Tree) → Around
with_inner n r inner = record { room = suc n; in_read = r; conditions = 1; inner = inner; test = inner false }

module _ (N : ℕ) (inread : Bool) (F : Bool → Parser Tree) (full : (r : Bool) (s m : At) (t : Tree) → length s.rest < N → IsExpr r s m t → Ends 1 m
    → Finds (F r s) t m) where
  more_found : (n : ℕ) {s m : At} {ts : List Tree} → More s m ts → length s.rest ≤ N → length ts ≤ n → Off kinds.Comma m → Ends 1 m
      → Finds (many (reads.another (with_inner N inread F)) n s) ts m
  more_found zero grammar.no_more w l c f = (refl, refl)
  more_found zero (grammar.one_more q x k) w l c f = absurd (omega arith)
  more_found (suc n) {s = s} grammar.no_more w l c f = subst
      (λ y. Finds (on_turn (cond y (Part (F false (passed s))) Stop) s (many (reads.another (with_inner N inread F)) n)) [] s) (sym c) (refl, refl)
  more_found (suc n) {s = s} {m = m} (grammar.one_more {a = a} {b = b} {t = t} {ts = ts} q x k) w l c f =
      subst (λ y. Finds (on_turn (cond y (Part (F false (passed s))) Stop) s (many (reads.another (with_inner N inread F)) n)) (t ∷ ts) m)
      (sym (is_one (next s) kinds.Comma q.0))
      (after (F false (passed s)) _ t b _ _ (subst (λ z. Finds (F false z) t b) q.1
      (full false a b t (omega (arith, w, eats_less kinds.Comma s a q (λ e. cc) (λ e. cc))) x (more_follow k f)))
      (after (many (reads.another (with_inner N inread F)) n b) _ ts m _ _
      (more_found n k (omega (arith, w, eats_less kinds.Comma s a q (λ e. cc) (λ e. cc), expr_less x)) (omega arith) c f) (refl, refl)))

  listed_found : {s m : At} {ts : List Tree} (t : Tree) → More s m ts → length s.rest ≤ N → Off kinds.Comma m → Ends 1 m
      → Finds (reads.listed (with_inner N inread F) t s) (t ∷ ts) m
  listed_found {s = s} {m = m} {ts = ts} t k w c f = behind_them (t ∷ []) ts _ m (more_found (length s.rest) k w (omega (arith, more_count k)) c f)

  arguments_found : {s m : At} {ts : List Tree} → Arguments s m ts → length s.rest ≤ N → Finds (reads.arguments (with_inner N inread F) s) ts m
  arguments_found {s = s} {m = m} (grammar.none {a = a} q p) w = after (open_bracket kinds.OpenRound (suc N) s) _ done a _ _ (bracket kinds.OpenRound N s a q)
      (at_true (is (next a) kinds.CloseRound) (Got [] (passed a)) _ _ _ (is_one (next a) kinds.CloseRound p.0) (refl, sym p.1))
  arguments_found {s = s} {m = m} (grammar.some {a = a} {b = b} {c = c} {t = t} {ts = ts} q x k p) w = after
      (open_bracket kinds.OpenRound (suc N) s) _ done a _ _ (bracket kinds.OpenRound N s a q)
      (at_false (is (next a) kinds.CloseRound) (Got [] (passed a)) _ _ _ (off_start kinds.CloseRound a (first_expr x) refl)
      (after (F false a) _ t b _ _ (full false a b t (omega (arith, w, eats_less kinds.OpenRound s a q (λ e. cc) (λ e. cc))) x
      (more_follow k (ends_at 1 kinds.CloseRound c (omega arith) p.0)))
      (after (reads.listed (with_inner N inread F) t b) _ (t ∷ ts) c _ _
      (listed_found t k (omega (arith, w, eats_less kinds.OpenRound s a q (λ e. cc) (λ e. cc), expr_less x))
      (off_by kinds.Comma kinds.CloseRound c p.0 refl) (ends_at 1 kinds.CloseRound c (omega arith) p.0))
      (after (want kinds.CloseRound c) _ done m _ _ (wanted kinds.CloseRound c m p) (refl, refl)))))

  piece_starts : (s : At) (k : Kind) → starts k ≡ true → reads.piece_by (with_inner N inread F) s k ≡ Part (reads.expr_piece (with_inner N inread F) s)
  piece_starts s kinds.CloseBrace h = cc
  piece_starts s kinds.Val h = cc
  piece_starts s k h = refl

  val_found : (s a b c d m : At) (n : Name) (t : Tree) → Eats kinds.Val s a → IsName a b n → Eats kinds.Assign b c → IsExpr false c d t
      → Eats kinds.Semicolon d m → length c.rest < N
      → Finds (reads.val (with_inner N inread F) s) (line_kinds.Val (start s) m.past n t) m
  val_found s a b c d m n t q i p x z w =
      after (want kinds.Val s) _ done a _ _ (wanted kinds.Val s a q)
      (after (name a) _ n b _ _ (finds_by (name a) n b i)
      (after (want kinds.Assign b) _ done c _ _ (wanted kinds.Assign b c p)
      (after (F false c) _ t d _ _ (full false c d t w x (ends_at 1 kinds.Semicolon d (omega arith) z.0))
      (after (want kinds.Semicolon d) _ done m _ _ (wanted kinds.Semicolon d m z) (refl, refl)))))

  -- a piece that is found, before what is found behind it
  piece_line : (n : ℕ) (s b m : At) (l : Line) (ls : List Line) (u : Option Tree) (p : Parsed Piece) → reads.piece (with_inner N inread F) s ≡ Part p
      → Finds p (ALine l) b
      → Finds (reads.pieces (with_inner N inread F) n b) (ls, u) m → Finds (reads.pieces (with_inner N inread F) (suc n) s) (l ∷ ls, u) m
  piece_line n s b m l ls u p k h again = subst (λ t. Finds (on_piece t s (reads.pieces (with_inner N inread F) n)) (l ∷ ls, u) m) (sym k) (by_piece p h)
    where
      by_piece : (p : Parsed Piece) → Finds p (ALine l) b → Finds (on_piece (Part p) s (reads.pieces (with_inner N inread F) n)) (l ∷ ls, u) m
      by_piece (Got (TheLast t) z) h = (let y = h.0 in cc)
      by_piece (Got (ALine x) z) h =
          let same : x ≡ l = (let y = h.0 in cc) in
          after (reads.pieces (with_inner N inread F) n z) (λ y k. Got (x ∷ y.0, y.1) k) (ls, u) m _ _
          (subst (λ i. Finds (reads.pieces (with_inner N inread F) n i) (ls, u) m) (sym h.1) again)
          (ap (λ (i : Line). (i ∷ ls, u)) same, refl)
      by_piece (Miss f z) h = absurd h

  piece_last : (n : ℕ) (s m : At) (t : Tree) (p : Parsed Piece) → reads.piece (with_inner N inread F) s ≡ Part p → Finds p (TheLast t) m
      → Finds (reads.pieces (with_inner N inread F) (suc n) s) ([], Some t) m
  piece_last n s m t p k h = subst (λ i. Finds (on_piece i s (reads.pieces (with_inner N inread F) n)) ([], Some t) m) (sym k) (by_piece p h)
    where
      by_piece : (p : Parsed Piece) → Finds p (TheLast t) m → Finds (on_piece (Part p) s (reads.pieces (with_inner N inread F) n)) ([], Some t) m
      by_piece (Got (ALine x) z) h = (let y = h.0 in cc)
      by_piece (Got (TheLast x) z) h = (let same : x ≡ t = (let y = h.0 in cc) in (ap (λ (i : Tree). ([], Some i)) same, h.1))
      by_piece (Miss f z) h = absurd h

  pieces_found : (n : ℕ) {s m : At} {ls : List Line} {u : Option Tree} → Lines s m ls u → length s.rest < N → length ls + last_one u ≤ n
      → next m ≡ kinds.CloseBrace → Finds (reads.pieces (with_inner N inread F) n s) (ls, u) m
  pieces_found zero grammar.no_line w l f = (refl, refl)
  pieces_found zero (grammar.the_last x) w l f = absurd (omega arith)
  pieces_found zero (grammar.an_expr x q k) w l f = absurd (omega arith)
  pieces_found zero (grammar.a_val q i p x z k) w l f = absurd (omega arith)
  pieces_found (suc n) {s = s} grammar.no_line w l f = subst
      (λ j. Finds (on_piece (reads.piece_by (with_inner N inread F) s j) s (reads.pieces (with_inner N inread F) n)) ([], None) s) (sym f) (refl, refl)
  pieces_found (suc n) {s = s} {m = m} (grammar.the_last {t = t} x) w l f =
      piece_last n s m t (reads.expr_piece (with_inner N inread F) s) (piece_starts s (next s) (first_expr x))
      (after (F false s) _ t m _ _ (full false s m t w x (ends_at 1 kinds.CloseBrace m (omega arith) f))
      (at_false (is (next m) kinds.Semicolon) _ _ _ m (off_by kinds.Semicolon kinds.CloseBrace m f refl) (refl, refl)))
  pieces_found (suc n) {s = s} {m = m} (grammar.an_expr {a = a} {b = b} {t = t} {ls = ls} {u = u} x q k) w l f =
      piece_line n s b m (line_kinds.Expr t) ls u (reads.expr_piece (with_inner N inread F) s) (piece_starts s (next s) (first_expr x))
      (after (F false s) _ t a _ _ (full false s a t w x (ends_at 1 kinds.Semicolon a (omega arith) q.0))
      (at_true (is (next a) kinds.Semicolon) _ _ _ b (is_one (next a) kinds.Semicolon q.0) (refl, sym q.1)))
      (pieces_found n k (omega (arith, w, expr_less x, eats_less kinds.Semicolon a b q (λ e. cc) (λ e. cc))) (omega arith) f)
  pieces_found (suc n) {s = s} {m = m} (grammar.a_val {a = a} {b = b} {c = c} {d = d} {e = j} {n = x0} {t = t} {ls = ls} {u = u} q i p x z k) w l f =
      piece_line n s j m (line_kinds.Val (start s) j.past x0 t) ls u (then_on (reads.val (with_inner N inread F) s) (λ y w. Got (ALine y) w))
      (ap (reads.piece_by (with_inner N inread F) s) q.0)
      (after (reads.val (with_inner N inread F) s) _ (line_kinds.Val (start s) j.past x0 t) j _ _
      (val_found s a b c d j x0 t q i p x z (omega (
        arith,
        w,
        eats_less kinds.Val s a q (λ e. cc) (λ e. cc),
        name_less a b x0 i,
        eats_less kinds.Assign b c p (λ e. cc) (λ e. cc),
      ))) (refl, refl))
      (pieces_found n k (omega (
        arith,
        w,
        eats_less kinds.Val s a q (λ e. cc) (λ e. cc),
        name_less a b x0 i,
        eats_less kinds.Assign b c p (λ e. cc) (λ e. cc),
        expr_less x,
        eats_less kinds.Semicolon d j z (λ e. cc) (λ e. cc),
      )) (omega arith) f)

  onto_no_lines : (p : Parsed (List Line × Option Tree)) (x : List Line × Option Tree) (m : At) → Finds p x m → Finds (onto_lines [] p) x m
  onto_no_lines (Got y k) x m h = h
  onto_no_lines (Miss f k) x m h = h

  block_found : {s m : At} {t : BlockTree} → IsBlock s m t → length s.rest ≤ N → Finds (reads.block (with_inner N inread F) s) t m
  block_found {s = s} {m = m} (grammar.block {a = a} {b = b} {ls = ls} {u = u} q k p) w =
      after (open_bracket kinds.OpenBrace (suc N) s) _ done a _ _ (bracket kinds.OpenBrace N s a q)
      (after (reads.all_pieces (with_inner N inread F) a) _ (ls, u) b _ _
      (onto_no_lines (reads.pieces (with_inner N inread F) (length a.rest) a) (ls, u) b
      (pieces_found (length a.rest) k (omega (arith, w, eats_less kinds.OpenBrace s a q (λ e. cc) (λ e. cc))) (omega (arith, lines_count k)) p.0))
      (after (want kinds.CloseBrace b) _ done m _ _ (wanted kinds.CloseBrace b m p) (refl, refl)))

  at_kind : (s m : At) (t : Tree) (k : Kind) → next s ≡ k → Finds (reads.primary_by (with_inner N inread F) s k) t m
      → Finds (reads.primary (with_inner N inread F) s) t m
  at_kind s m t k q h = subst (λ j. Finds (reads.primary_by (with_inner N inread F) s j) t m) (sym q) h

  effect_is : (s : At) (k : Kind) (x : EffectKind) → effect_at k ≡ Some x
      → reads.primary_by (with_inner N inread F) s k ≡ reads.effect (with_inner N inread F) s
  effect_is s kinds.Path x h = refl
  effect_is s kinds.Exists x h = refl
  effect_is s kinds.Digest x h = refl
  effect_is s kinds.List x h = refl
  effect_is s k x h = cc

  tested : (s m : At) (t : Tree) → next s ≡ kinds.If → Finds
      (then_on (want kinds.If s) (λ _ a. then_on (F false a) (λ u b. reads.branches (with_inner N inread F) (start s) u b))) t m
      → Finds (reads.primary (with_inner N inread F) s) t m
  tested s m t q h = at_kind s m t kinds.If q h

  primary_found : {s m : At} {t : Tree} → IsPrimary inread s m t → length s.rest ≤ N → Ends 7 m → Finds (reads.primary (with_inner N inread F) s) t m
  primary_found {s = s} (grammar.literal {l = l} h) w f =
      subst (λ p. Finds p (TLiteral (start s) (passed s).past l) (passed s)) (sym ((literal_at s s l h).reads_it (with_inner N inread F) s))
      (after (reads.literal_here s) _ l s _ _ (finds_by (reads.literal_here s) l s h) (refl, refl))
  primary_found {s = s} {m = m} (grammar.a_name {n = n} h) w f = at_kind s m _ kinds.Name (name_kind s m n h)
      (after (name s) _ n m _ _ (finds_by (name s) n m h) (at_false (is (next m) kinds.OpenRound) _ _ _ m (is_not 7 (next m) kinds.OpenRound f (omega arith))
      (refl, refl)))
  primary_found {s = s} {m = m} (grammar.call {a = a} {n = n} {ts = ts} h x) w f = at_kind s m _ kinds.Name (name_kind s a n h)
      (after (name s) _ n a _ _ (finds_by (name s) n a h) (at_true (is (next a) kinds.OpenRound) _ _ _ m (is_one (next a) kinds.OpenRound (first_arguments x))
      (after (reads.arguments (with_inner N inread F) a) _ ts m _ _ (arguments_found x (omega (arith, w, name_less s a n h))) (refl, refl))))
  primary_found {s = s} {m = m} (grammar.null {a = a} {t = t} x0 x1) w f = at_kind s m _ kinds.Null (x0.0)
      (after (want kinds.Null s) _ done a _ _ (wanted kinds.Null s a x0)
      (after (plain_type (suc N) (inner_type (suc N)) a) _ t m _ _
      (plain_is_found (suc N) x1 (omega (arith, w, eats_less kinds.Null s a x0 (λ e. cc) (λ e. cc)))) (refl, refl)))
  primary_found {s = s} {m = m} (grammar.empty {a = a} {t = t} x0 x1) w f = at_kind s m _ kinds.Empty (x0.0)
      (after (want kinds.Empty s) _ done a _ _ (wanted kinds.Empty s a x0)
      (after (written_type (suc N) (inner_type (suc N)) a) _ t m _ _
      (type_is_found (suc N) x1 (omega (arith, w, eats_less kinds.Empty s a x0 (λ e. cc) (λ e. cc))) (is_not 7 (next m) kinds.Question f (omega arith)))
      (refl, refl)))
  primary_found {s = s} {m = m} (grammar.brackets {a = a} {b = b} {t = t} x0 x1 x2) w f = at_kind s m _ kinds.OpenRound (x0.0)
      (after (open_bracket kinds.OpenRound (suc N) s) _ done a _ _ (bracket kinds.OpenRound N s a x0)
      (after (F false a) _ t b _ _ (full false a b t (omega (arith, w, eats_less kinds.OpenRound s a x0 (λ e. cc) (λ e. cc))) x1
      (ends_at 1 kinds.CloseRound b (omega arith) x2.0))
      (at_false (is (next b) kinds.Comma) _ _ _ m (off_by kinds.Comma kinds.CloseRound b x2.0 refl)
      (after (want kinds.CloseRound b) _ done m _ _ (wanted kinds.CloseRound b m x2) (refl, refl)))))
  primary_found {s = s} {m = m} (grammar.tuple {a = a} {b = b} {c = c} {t = t} {ts = ts} x0 x1 x2 x3 x4) w f = at_kind s m _ kinds.OpenRound (x0.0)
      (after (open_bracket kinds.OpenRound (suc N) s) _ done a _ _ (bracket kinds.OpenRound N s a x0)
      (after (F false a) _ t b _ _ (full false a b t (omega (arith, w, eats_less kinds.OpenRound s a x0 (λ e. cc) (λ e. cc))) x1
      (ends_at 1 kinds.Comma b (omega arith) x2)) (at_true (is (next b) kinds.Comma) _ _ _ m (is_one (next b) kinds.Comma x2)
      (after (reads.listed (with_inner N inread F) t b) _ (t ∷ ts) c _ _
      (listed_found t x3 (omega (arith, w, eats_less kinds.OpenRound s a x0 (λ e. cc) (λ e. cc), expr_less x1))
      (off_by kinds.Comma kinds.CloseRound c x4.0 refl) (ends_at 1 kinds.CloseRound c (omega arith) x4.0))
      (after (want kinds.CloseRound c) _ done m _ _ (wanted kinds.CloseRound c m x4) (refl, refl))))))
  primary_found {s = s} {m = m} (grammar.list {a = a} {b = b} {c = c} {t = t} {ts = ts} x0 x1 x2 x3) w f = at_kind s m _ kinds.OpenSquare (x0.0)
      (after (open_bracket kinds.OpenSquare (suc N) s) _ done a _ _ (bracket kinds.OpenSquare N s a x0)
      (after (F false a) _ t b _ _ (full false a b t (omega (arith, w, eats_less kinds.OpenSquare s a x0 (λ e. cc) (λ e. cc))) x1
      (more_follow x2 (ends_at 1 kinds.CloseSquare c (omega arith) x3.0)))
      (at_false (is (next b) kinds.For) _ _ _ m (more_off kinds.For x2 refl (off_by kinds.For kinds.CloseSquare c x3.0 refl))
      (after (reads.listed (with_inner N inread F) t b) _ (t ∷ ts) c _ _
      (listed_found t x2 (omega (arith, w, eats_less kinds.OpenSquare s a x0 (λ e. cc) (λ e. cc), expr_less x1))
      (off_by kinds.Comma kinds.CloseSquare c x3.0 refl) (ends_at 1 kinds.CloseSquare c (omega arith) x3.0))
      (after (want kinds.CloseSquare c) _ done m _ _ (wanted kinds.CloseSquare c m x3) (refl, refl))))))
  primary_found {s = s} {m = m}
      (grammar.each {a = a} {b = b} {c = c} {d = d} {e = j} {f = i} {t = t} {u = u} {n = n} x0 x1 x2 x3 x4 x5 x6) w f = at_kind s m _ kinds.OpenSquare (x0.0)
      (after (open_bracket kinds.OpenSquare (suc N) s) _ done a _ _ (bracket kinds.OpenSquare N s a x0)
      (after (F false a) _ t b _ _ (full false a b t (omega (arith, w, eats_less kinds.OpenSquare s a x0 (λ e. cc) (λ e. cc))) x1
      (ends_at 1 kinds.For b (omega arith) x2.0)) (at_true (is (next b) kinds.For) _ _ _ m (is_one (next b) kinds.For x2.0)
      (after (want kinds.For b) _ done c _ _ (wanted kinds.For b c x2)
      (after (name c) _ n d _ _ (finds_by (name c) n d x3)
      (after (want kinds.In d) _ done j _ _ (wanted kinds.In d j x4)
      (after (F false j) _ u i _ _ (full false j i u (omega (
        arith,
        w,
        eats_less kinds.OpenSquare s a x0 (λ e. cc) (λ e. cc),
        expr_less x1,
        eats_less kinds.For b c x2 (λ e. cc) (λ e. cc),
        name_less c d n x3,
        eats_less kinds.In d j x4 (λ e. cc) (λ e. cc),
      )) x5 (ends_at 1 kinds.CloseSquare i (omega arith) x6.0))
      (after (want kinds.CloseSquare i) _ done m _ _ (wanted kinds.CloseSquare i m x6) (refl, refl)))))))))
  primary_found {s = s} {m = m} (grammar.if_alone {a = a} {b = b} {t = t} {x = x} q y z) w f = tested s m _ q.0
      (after (want kinds.If s) _ done a _ _ (wanted kinds.If s a q)
      (after (F false a) _ t b _ _ (full false a b t (omega (arith, w, eats_less kinds.If s a q (λ e. cc) (λ e. cc))) y
      (ends_at 1 kinds.OpenBrace b (omega arith) (first_block z)))
      (after (reads.block (with_inner N inread F) b) _ x m _ _ (block_found z (omega (arith, w, eats_less kinds.If s a q (λ e. cc) (λ e. cc), expr_less y)))
      (at_false (is (next m) kinds.Else) _ _ _ m (is_not 7 (next m) kinds.Else f (omega arith)) (refl, refl)))))
  primary_found {s = s} {m = m} (grammar.if_else {a = a} {b = b} {c = c} {d = d} {t = t} {x = x} {y = y} q u z o v) w f = tested s m _ q.0
      (after (want kinds.If s) _ done a _ _ (wanted kinds.If s a q)
      (after (F false a) _ t b _ _ (full false a b t (omega (arith, w, eats_less kinds.If s a q (λ e. cc) (λ e. cc))) u
      (ends_at 1 kinds.OpenBrace b (omega arith) (first_block z)))
      (after (reads.block (with_inner N inread F) b) _ x c _ _ (block_found z (omega (arith, w, eats_less kinds.If s a q (λ e. cc) (λ e. cc), expr_less u)))
      (at_true (is (next c) kinds.Else) _ _ _ m (is_one (next c) kinds.Else o.0)
      (after (reads.block (with_inner N inread F) (passed c)) _ y m _ _
      (subst (λ i. Finds (reads.block (with_inner N inread F) i) y m) o.1
      (block_found v (omega (
        arith,
        w,
        eats_less kinds.If s a q (λ e. cc) (λ e. cc),
        expr_less u,
        block_less z,
        eats_less kinds.Else c d o (λ e. cc) (λ e. cc),
      )))) (refl, refl))))))
  primary_found {s = s} {m = m} (grammar.effect {a = a} {b = b} {k = k} {t = t} h x0 x1 x2) w f =
      subst (λ p. Finds p (TEffect (start s) m.past k t) m) (sym (effect_is s (next s) k h))
      (subst (λ o. Finds (reads.effect_by (with_inner N inread F) s o) (TEffect (start s) m.past k t) m) (sym h)
      (after (open_bracket kinds.OpenRound (suc N) (passed s)) _ done a _ _ (bracket kinds.OpenRound N (passed s) a x0)
      (after (F false a) _ t b _ _ (full false a b t (omega
      (arith, w, effect_less s k h, eats_less kinds.OpenRound (passed s) a x0 (λ e. cc) (λ e. cc))) x1 (ends_at 1 kinds.CloseRound b (omega arith) x2.0))
      (after (want kinds.CloseRound b) _ done m _ _ (wanted kinds.CloseRound b m x2) (refl, refl)))))
  primary_found {s = s} {m = m} (grammar.read {a = a} {b = b} {c = c} {d = d} {k = k} {t = t} x0 x1 x2 x3 x4) w f = at_kind s m _ kinds.Read (x0.0)
      (after (want kinds.Read s) _ done a _ _ (wanted kinds.Read s a x0)
      (after (open_bracket kinds.OpenRound (suc N) a) _ done b _ _ (bracket kinds.OpenRound N a b x1)
      (after (F true b) _ t c _ _ (full true b c t (omega
      (arith, w, eats_less kinds.Read s a x0 (λ e. cc) (λ e. cc), eats_less kinds.OpenRound a b x1 (λ e. cc) (λ e. cc))) x2 (by_read_follow x3 x4))
      (after (reads.by_of_read c) _ k d _ _ (by_read_found x3 x4)
      (after (want kinds.CloseRound d) _ done m _ _ (wanted kinds.CloseRound d m x4) (refl, refl))))))
  primary_found {s = s} {m = m} (grammar.write {a = a} {b = b} {c = c} {d = d} {e = j} {t = t} {u = u} x0 x1 x2 x3 x4 x5) w f = at_kind s m _ kinds.Write (x0.0)
      (after (want kinds.Write s) _ done a _ _ (wanted kinds.Write s a x0)
      (after (open_bracket kinds.OpenRound (suc N) a) _ done b _ _ (bracket kinds.OpenRound N a b x1)
      (after (F false b) _ t c _ _ (full false b c t (omega
      (arith, w, eats_less kinds.Write s a x0 (λ e. cc) (λ e. cc), eats_less kinds.OpenRound a b x1 (λ e. cc) (λ e. cc))) x2
      (ends_at 1 kinds.Comma c (omega arith) x3.0)) (after (want kinds.Comma c) _ done d _ _ (wanted kinds.Comma c d x3)
      (after (F false d) _ u j _ _ (full false d j u (omega (
        arith,
        w,
        eats_less kinds.Write s a x0 (λ e. cc) (λ e. cc),
        eats_less kinds.OpenRound a b x1 (λ e. cc) (λ e. cc),
        expr_less x2,
        eats_less kinds.Comma c d x3 (λ e. cc) (λ e. cc),
      )) x4 (ends_at 1 kinds.CloseRound j (omega arith) x5.0))
      (after (want kinds.CloseRound j) _ done m _ _ (wanted kinds.CloseRound j m x5) (refl, refl)))))))
  primary_found {s = s} {m = m} (grammar.fail {a = a} {b = b} {c = c} {d = d} {t = t} {u = u} x0 x1 x2 x3 x4) w f = at_kind s m _ kinds.Fail (x0.0)
      (after (want kinds.Fail s) _ done a _ _ (wanted kinds.Fail s a x0)
      (after (written_type (suc N) (inner_type (suc N)) a) _ t b _ _
      (type_is_found (suc N) x1 (omega (arith, w, eats_less kinds.Fail s a x0 (λ e. cc) (λ e. cc))) (off_by kinds.Question kinds.OpenRound b x2.0 refl))
      (after (open_bracket kinds.OpenRound (suc N) b) _ done c _ _ (bracket kinds.OpenRound N b c x2)
      (after (F false c) _ u d _ _ (full false c d u (omega
      (arith, w, eats_less kinds.Fail s a x0 (λ e. cc) (λ e. cc), type_less x1, eats_less kinds.OpenRound b c x2 (λ e. cc) (λ e. cc))) x3
      (ends_at 1 kinds.CloseRound d (omega arith) x4.0)) (after (want kinds.CloseRound d) _ done m _ _ (wanted kinds.CloseRound d m x4) (refl, refl))))))
  primary_found {s = s} {m = m} (grammar.require {a = a} {b = b} {c = c} {n = n} {ts = ts} {k = k} x0 x1 x2 x3) w f = at_kind s m _ kinds.Require (x0.0)
      (after (want kinds.Require s) _ done a _ _ (wanted kinds.Require s a x0)
      (after (name a) _ n b _ _ (finds_by (name a) n b x1)
      (after (reads.arguments (with_inner N inread F) b) _ ts c _ _
      (arguments_found x2 (omega (arith, w, eats_less kinds.Require s a x0 (λ e. cc) (λ e. cc), name_less a b n x1)))
      (after (reads.by_of_require inread c) _ k m _ _ (by_require_found inread x3) (refl, refl)))))
  primary_found {s = s} {m = m} (grammar.run {a = a} {b = b} {n = n} {ts = ts} x0 x1 x2) w f = at_kind s m _ kinds.Run (x0.0)
      (after (want kinds.Run s) _ done a _ _ (wanted kinds.Run s a x0)
      (after (name a) _ n b _ _ (finds_by (name a) n b x1)
      (after (reads.arguments (with_inner N inread F) b) _ ts m _ _
      (arguments_found x2 (omega (arith, w, eats_less kinds.Run s a x0 (λ e. cc) (λ e. cc), name_less a b n x1))) (refl, refl))))

  projected_found : {s m : At} {t : Tree} → IsProjected inread s m t → length s.rest ≤ N → Ends 6 m → Finds (reads.projected (with_inner N inread F) s) t m
  projected_found {s = s} {m = m} (grammar.projected {a = a} {t = t} {ns = ns} x k u) w f =
      after (reads.primary (with_inner N inread F) s) _ t a _ _ (primary_found x w (indices_follow k f))
      (after (reads.indices a) _ ns m _ _ (behind_them [] ns _ m
      (indices_found (length a.rest) k (omega (arith, indices_count k)) (is_not 6 (next m) kinds.Dot f (omega arith)))) (sym u, refl))

  prefixed_found : {s m : At} {t : Tree} → IsPrefixed inread s m t → length s.rest ≤ N → Ends 6 m → Finds (reads.prefixed (with_inner N inread F) s) t m
  prefixed_found {s = s} {m = m} {t = t} (grammar.plain x) w f =
      subst (λ o. Finds (reads.prefixed_by (with_inner N inread F) s o) t m) (sym (no_prefix (next s) (first_projected x))) (projected_found x w f)
  prefixed_found {s = s} {m = m} (grammar.prefixed {p = p} {t = t} h x) w f =
      subst (λ o. Finds (reads.prefixed_by (with_inner N inread F) s o) (TPrefix (start s) m.past p t) m) (sym h)
      (after (reads.projected (with_inner N inread F) (passed s)) _ t m _ _ (projected_found x (omega (arith, w, passes s)) f) (refl, refl))

  steps_found : (l : Level) (part : Parser Tree) → ((s m : At) (t : Tree) → length s.rest ≤ N → IsOperand l inread s m t → Ends (level_of l + 1) m
      → Finds (part s) t m)
      → (n : ℕ) {s m : At} {xs : List Step} → Steps l inread s m xs → length s.rest ≤ N → length xs ≤ n → Ends (level_of l) m
      → Finds (many (reads.another_step part l) n s) xs m
  steps_found l part good zero grammar.no_step w j f = (refl, refl)
  steps_found l part good zero (grammar.a_step h x k) w j f = absurd (omega arith)
  steps_found l part good (suc n) {s = s} grammar.no_step w j f =
      subst (λ o. Finds (on_turn (reads.step_by part s o) s (many (reads.another_step part l) n)) [] s) (sym (no_operator l (next s) f)) (refl, refl)
  steps_found l part good (suc n) {s = s} {m = m} (grammar.a_step {a = a} {o = o} {t = t} {xs = xs} h x k) w j f =
      subst (λ i. Finds (on_turn (reads.step_by part s i) s (many (reads.another_step part l) n)) (record { operator = o; operand = t } ∷ xs) m) (sym h)
      (after (then_on (part (passed s)) (λ u i. Got (record { operator = o; operand = u }) i)) _ (record { operator = o; operand = t }) a _ _
      (after (part (passed s)) _ t a _ _ (good (passed s) a t (omega (arith, w, passes s)) x (steps_follow k f)) (refl, refl))
      (after (many (reads.another_step part l) n a) _ xs m _ _ (steps_found l part good n k (omega (arith, w, passes s, operand_less x)) (omega arith) f)
      (refl, refl)))

  chain_found : (l : Level) (part : Parser Tree) → ((s m : At) (t : Tree) → length s.rest ≤ N → IsOperand l inread s m t → Ends (level_of l + 1) m
      → Finds (part s) t m)
      → {s m : At} {t : Tree} → IsChain l inread s m t → length s.rest ≤ N → Ends (level_of l) m → Finds (reads.chain_of part l s) t m
  chain_found l part good {s = s} {m = m} (grammar.chained {a = a} {t = t} {xs = xs} x k u) w f =
      after (part s) _ t a _ _ (good s a t w x (steps_follow k f))
      (after (all_behind [] (reads.another_step part l) a) _ xs m _ _
      (behind_them [] xs _ m (steps_found l part good (length a.rest) k (omega (arith, w, operand_less x)) (omega (arith, steps_count k)) f)) (sym u, refl))

  product_found : (s m : At) (t : Tree) → length s.rest ≤ N → IsChain levels.Product inread s m t → Ends 5 m
      → Finds (reads.chain_of (reads.prefixed (with_inner N inread F)) levels.Product s) t m
  product_found s m t w x f = chain_found levels.Product (reads.prefixed (with_inner N inread F)) good x w f
    where
      good : (s m : At) (t : Tree) → length s.rest ≤ N → IsOperand levels.Product inread s m t → Ends (level_of levels.Product + 1) m
          → Finds (reads.prefixed (with_inner N inread F) s) t m
      good s m t w (grammar.of_product x) f = prefixed_found x w (omega arith)

  sum_found : (s m : At) (t : Tree) → length s.rest ≤ N → IsChain levels.Sum inread s m t → Ends 4 m → Finds (reads.sum (with_inner N inread F) s) t m
  sum_found s m t w x f = chain_found levels.Sum (reads.chain_of (reads.prefixed (with_inner N inread F)) levels.Product) good x w f
    where
      good : (s m : At) (t : Tree) → length s.rest ≤ N → IsOperand levels.Sum inread s m t → Ends (level_of levels.Sum + 1) m
          → Finds (reads.chain_of (reads.prefixed (with_inner N inread F)) levels.Product s) t m
      good s m t w (grammar.of_sum x) f = product_found s m t w x (omega arith)

  comparison_found : (s m : At) (t : Tree) → length s.rest ≤ N → IsComparison inread s m t → Ends 3 m → Finds (reads.comparison (with_inner N inread F) s) t m
  comparison_found s m t w (grammar.alone x) f = after (reads.sum (with_inner N inread F) s) _ t m _ _ (sum_found s m t w x (omega arith))
      (subst (λ o. Finds (reads.compared (with_inner N inread F) (start s) t m o) t m) (sym (no_comparison (next m) f)) (refl, refl))
  comparison_found s m _ w (grammar.compared {a = a} {c = c} {t = t} {u = u} x h y) f =
      after (reads.sum (with_inner N inread F) s) _ t a _ _ (sum_found s a t w x (let z = comparison_strength (next a) c h in omega arith))
      (subst (λ o. Finds (reads.compared (with_inner N inread F) (start s) t a o) (TCompare (start s) m.past c t u) m) (sym h)
      (after (reads.sum (with_inner N inread F) (passed a)) _ u m _ _ (sum_found (passed a) m u (omega (arith, w, sum_less x, passes a)) y (omega arith))
      (refl, refl)))

  and_found : (s m : At) (t : Tree) → length s.rest ≤ N → IsChain levels.And inread s m t → Ends 2 m
      → Finds (reads.chain_of (reads.comparison (with_inner N inread F)) levels.And s) t m
  and_found s m t w x f = chain_found levels.And (reads.comparison (with_inner N inread F)) good x w f
    where
      good : (s m : At) (t : Tree) → length s.rest ≤ N → IsOperand levels.And inread s m t → Ends (level_of levels.And + 1) m
          → Finds (reads.comparison (with_inner N inread F) s) t m
      good s m t w (grammar.of_and x) f = comparison_found s m t w x (omega arith)

  expr_found : (s m : At) (t : Tree) → length s.rest ≤ N → IsExpr inread s m t → Ends 1 m → Finds (reads.expr (with_inner N inread F) s) t m
  expr_found s m t w (grammar.expr x) f = chain_found levels.Or (reads.operand (with_inner N inread F) levels.Or) good x w f
    where
      good : (s m : At) (t : Tree) → length s.rest ≤ N → IsOperand levels.Or inread s m t → Ends (level_of levels.Or + 1) m
          → Finds (reads.operand (with_inner N inread F) levels.Or s) t m
      good s m t w (grammar.of_or x) f = and_found s m t w x (omega arith)

-- an expression that is read where so many brackets and conditions may be opened
abbrev fuelled : ℕ → Bool → Parser Tree
fuelled zero r = nowhere
fuelled (suc n) r = reads.expr (with_inner n r (fuelled n))

fuelled_found : (n : ℕ) (r : Bool) (s m : At) (t : Tree) → length s.rest < n → IsExpr r s m t → Ends 1 m → Finds (fuelled n r s) t m
fuelled_found zero r s m t l x f = absurd (omega arith)
fuelled_found (suc n) r s m t l x f = expr_found n r (fuelled n) (fuelled_found n) s m t (omega arith) x f

-- a block, where so many brackets may be opened
abbrev pub read_block : ℕ → Parser BlockTree
read_block n = reads.block (with_inner n false (fuelled n))

-- a block of the grammar is found
pub block_is_found : (n : ℕ) {s m : At} {t : BlockTree} → IsBlock s m t → length s.rest ≤ n → Finds (read_block n s) t m
block_is_found n x l = block_found n false (fuelled n) (fuelled_found n) x l
