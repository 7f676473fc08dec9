-- An expression is read alike in two texts.
use Rattle.std.proofs.Common.{◌≡◌, ℕ, ◌+◌, ◌≤◌, zero, suc, Bool, true, false, List, [], ◌∷◌, ◌++◌, length, Option, Some, None, refl, subst, ap, ◌∙◌, arith}
use Rattle.std.proofs.Common.{length-append}
use Rattle.pie_lexer.specs.declared.token.Token.{Token}
use Rattle.pie_parser.specs.declared.kind.Kind.{Kind}
use Rattle.pie_parser.specs.declared.kind.Kind.TheVariants as kinds
use Rattle.pie_parser.specs.declared.chain.Level.{Level}
use Rattle.pie_parser.specs.declared.chain.Level.TheVariants as levels
use Rattle.pie_parser.specs.declared.tree.Name.{Name}
use Rattle.pie_parser.specs.declared.tree.Step.{Step}
use Rattle.pie_parser.specs.declared.tree.Line.{Line}
use Rattle.pie_parser.specs.declared.tree.Line.TheVariants as line_kinds
use Rattle.pie_parser.specs.declared.tree.Operator.{Operator}
use Rattle.pie_parser.specs.declared.tree.Comparison.{Comparison}
use Rattle.pie_parser.specs.declared.tree.Prefix.{Prefix}
use Rattle.pie_parser.specs.declared.tree.CallKind.{CallKind}
use Rattle.pie_parser.specs.declared.tree.CallKind.TheVariants as calls
use Rattle.pie_parser.specs.declared.tree.EffectKind.{EffectKind}
use Rattle.pie_parser.specs.declared.reader.Room.{Room}
use Rattle.pie_parser.specs.Kinds.{is}
use Rattle.pie_parser.specs.Tests.{operator_at, comparison_at, prefix_at, effect_at}
use Rattle.pie_parser.specs.Plain.{Tree, TPrefix, TCompare, TIf, BlockTree, NoElse, AnElse}
use Rattle.pie_parser.specs.At.{At}
use Rattle.pie_parser.specs.Places.{Parsed, Got, Parser, then_on, next, start, passed}
use Rattle.pie_parser.specs.inner.Turns.{Turn, Part}
use Rattle.pie_parser.specs.inner.Pieces.{Piece, ALine, TheLast, on_piece, onto_lines}
use Rattle.pie_parser.specs.ExprReading as reads
use Rattle.pie_parser.specs.ExprReading.{Around, around, by_conditions, expr_at, inner_at, test_at, nowhere, chain, projection}
use Rattle.pie_parser.proofs.Readings.{is_same}
use Rattle.pie_grammar_laws.specs.Brackets.{closes}
use Rattle.pie_grammar_laws.proofs.Twins.{Texts, place, Twin, before, gone, next_is, start_is, past_is, Alike, both_got, both_miss, past_got, past_miss, takes_any}
use Rattle.pie_grammar_laws.proofs.Twins.{takes_less, behind_word, from_gone, then_alike, any_alike, got_alike, wrong_alike, memory_alike, cond_alike, by_next}
use Rattle.pie_grammar_laws.proofs.Tokens.{is_plain, passing, closing_by, plain_alike, close_alike, open_alike, name_alike, literal_alike}
use Rattle.pie_grammar_laws.proofs.Loops.{TurnsAlike, both_stop, both_part, cond_turn, all_alike}
use Rattle.pie_grammar_laws.proofs.TypesAlike.{type_is_alike, plain_is_alike}
use Rattle.pie_grammar_laws.proofs.Operators.{effect_plain, prefix_plain, comparison_plain, operator_plain}
use Rattle.pie_grammar_laws.proofs.EndsAlike.{Reads, indices_alike, by_of_read_alike, by_of_require_alike}

-- the readings inside a bracket and of a condition are alike
record Good (z : Texts) (e : Around) : Type 0 where
  fits : e.room ≤ z.limit
  inner : (d : ℕ) → e.room ≡ suc d → (r : Bool) (s t : At) → Twin z s t → Alike Tree z 1 d d s.rest (e.inner r s) (e.inner r t)
  test : (s t : At) → Twin z s t → Alike Tree z 1 e.room e.room s.rest (e.test s) (e.test t)

module _ (z : Texts) (e : Around) (g : Good z e) where
  listed_alike : (d : ℕ) → e.room ≡ suc d → (x : Tree) → Reads (List Tree) z 0 d (reads.listed e x)
  listed_alike d n x s t w = all_alike z d (reads.another e) another (x ∷ []) s t w
    where
      another : (s t : At) → Twin z s t → TurnsAlike Tree z d s.rest (reads.another e s) (reads.another e t)
      another s t w = cond_turn (ap (λ k. is k kinds.Comma) (next_is w))
          (λ h. passing d (e.inner false) (e.inner false) w (ap is_plain (is_same (next s) kinds.Comma h)) (λ a b u. g.inner d n false a b u))

  arguments_alike : Reads (List Tree) z 1 e.room (reads.arguments e)
  arguments_alike s t w = open_alike _ _ kinds.OpenRound e.room w refl (λ d n a b u. cond_alike (ap (λ k. is k kinds.CloseRound) (next_is u))
      (λ h. closing_by d (Got []) (Got []) u (ap closes (is_same (next a) kinds.CloseRound h)) n g.fits (λ m k v. got_alike v refl))
      (λ h. then_alike (g.inner d n false a b u) (λ x _ _ u _.
      then_alike (listed_alike d n x _ _ u) (λ xs _ _ u _. then_alike (close_alike kinds.CloseRound u refl n g.fits) (λ _ _ _ u _. got_alike u refl)))))

  call_alike : (i j : ℕ) → i ≡ j → (k : CallKind) (n : Name) (s t : At) → Twin z s t
      → Alike Tree z 1 e.room e.room s.rest (reads.call e i k n s) (reads.call e j k n t)
  call_alike i j q k n s t w = then_alike (arguments_alike s t w) (λ xs _ _ u _. got_alike u (let p = past_is u in cc))

  name_or_call_alike : Reads Tree z 1 e.room (reads.name_or_call e)
  name_or_call_alike s t w = then_alike (name_alike w) (λ n a b u _. cond_alike (ap (λ k. is k kinds.OpenRound) (next_is u))
      (λ h. any_alike (call_alike n.at n.at refl calls.Plain n a b u)) (λ h. got_alike u refl))

  null_alike : Reads Tree z 1 e.room (reads.null e)
  null_alike s t w = then_alike (plain_alike kinds.Null w refl)
      (λ _ a b u _. then_alike (plain_is_alike z e.room g.fits a b u) (λ _ _ _ u _. got_alike u (let q = start_is w in let p = past_is u in cc)))

  empty_alike : Reads Tree z 1 e.room (reads.empty e)
  empty_alike s t w = then_alike (plain_alike kinds.Empty w refl)
      (λ _ a b u _. then_alike (type_is_alike z e.room g.fits a b u) (λ _ _ _ u _. got_alike u (let q = start_is w in let p = past_is u in cc)))

  rounds_alike : Reads Tree z 1 e.room (reads.rounds e)
  rounds_alike s t w = open_alike _ _ kinds.OpenRound e.room w refl
      (λ d n a b u. then_alike (g.inner d n false a b u) (λ x a b u _. cond_alike (ap (λ k. is k kinds.Comma) (next_is u))
      (λ h. then_alike (listed_alike d n x a b u) (λ xs _ _ u _.
      any_alike (then_alike (close_alike kinds.CloseRound u refl n g.fits) (λ _ _ _ u _. got_alike u (let q = start_is w in let p = past_is u in cc)))))
      (λ h. any_alike (then_alike (close_alike kinds.CloseRound u refl n g.fits) (λ _ _ _ u _. got_alike u refl)))))

  squares_alike : Reads Tree z 1 e.room (reads.squares e)
  squares_alike s t w = open_alike _ _ kinds.OpenSquare e.room w refl
      (λ d n a b u. then_alike (g.inner d n false a b u) (λ x a b u _. cond_alike (ap (λ k. is k kinds.For) (next_is u))
      (λ h. any_alike (then_alike (plain_alike kinds.For u refl)
      (λ _ _ _ u _. then_alike (name_alike u) (λ i _ _ u _. then_alike (plain_alike kinds.In u refl) (λ _ a b u _.
      then_alike (g.inner d n false a b u) (λ y _ _ u _. then_alike (close_alike kinds.CloseSquare u refl n g.fits)
      (λ _ _ _ u _. got_alike u (let q = start_is w in let p = past_is u in cc))))))))
      (λ h. then_alike (listed_alike d n x a b u) (λ xs _ _ u _.
      then_alike (close_alike kinds.CloseSquare u refl n g.fits) (λ _ _ _ u _. got_alike u (let q = start_is w in let p = past_is u in cc))))))

  val_alike : (d : ℕ) → e.room ≡ suc d → Reads Line z 1 d (reads.val e)
  val_alike d n s t w = then_alike (plain_alike kinds.Val w refl)
      (λ _ _ _ u _. then_alike (name_alike u) (λ i _ _ u _. then_alike (plain_alike kinds.Assign u refl) (λ _ a b u _.
      then_alike (g.inner d n false a b u) (λ x _ _ u _. then_alike (plain_alike kinds.Semicolon u refl)
      (λ _ _ _ u _. got_alike u (let q = start_is w in let p = past_is u in cc))))))

  expr_piece_alike : (d : ℕ) → e.room ≡ suc d → Reads Piece z 1 d (reads.expr_piece e)
  expr_piece_alike d n s t w = then_alike (g.inner d n false s t w) (λ x a b u _. cond_alike (ap (λ k. is k kinds.Semicolon) (next_is u))
      (λ h. any_alike (passing d (Got (ALine (line_kinds.Expr x))) (Got (ALine (line_kinds.Expr x))) u (ap is_plain (is_same (next a) kinds.Semicolon h))
      (λ m k v. got_alike v refl)))
      (λ h. got_alike u refl))

  piece_alike : (d : ℕ) → e.room ≡ suc d → (s t : At) → Twin z s t → TurnsAlike Piece z d s.rest (reads.piece e s) (reads.piece e t)
  piece_alike d n s t w = subst (λ k. TurnsAlike Piece z d s.rest (reads.piece e s) (reads.piece_by e t k)) (next_is w) (by_kind (next s))
    where
      by_kind : (k : Kind) → TurnsAlike Piece z d s.rest (reads.piece_by e s k) (reads.piece_by e t k)
      by_kind kinds.CloseBrace = both_stop
      by_kind kinds.Val = both_part _ _ (then_alike (val_alike d n s t w) (λ l _ _ u _. got_alike u refl))
      by_kind k = both_part _ _ (expr_piece_alike d n s t w)

  -- all pieces from here, with so many turns left in either text
  abbrev Pieces : ℕ → ℕ → ℕ → Type 0
  Pieces d n j = (s t : At) → Twin z s t → length s.rest ≤ n → length s.rest + length z.two ≤ j + length z.one
      → Alike (List Line × Option Tree) z 0 d d s.rest (reads.pieces e n s) (reads.pieces e j t)

  a_piece : (d : ℕ) → e.room ≡ suc d → (n j : ℕ) → Pieces d n j → Pieces d (suc n) (suc j)
  a_piece d r n j again s t w l i = by_turn (reads.piece e s) (reads.piece e t) (piece_alike d r s t w)
    where
      after : Line → List Line × Option Tree → At → Parsed (List Line × Option Tree)
      after y x k = Got (y ∷ x.0, x.1) k

      lines : (y : Line) (m k : At) → Twin z m k → 1 + length m.rest ≤ length s.rest
          → Alike (List Line × Option Tree) z 0 d d m.rest (then_on (reads.pieces e n m) (after y)) (then_on (reads.pieces e j k) (after y))
      lines y m k u h = then_alike (again m k u (omega arith) (omega arith)) (λ x _ _ u _. got_alike u refl)

      by_part : (p q : Parsed Piece) → Alike Piece z 1 d d s.rest p q
          → Alike (List Line × Option Tree) z 0 d d s.rest (on_piece (Part p) s (reads.pieces e n)) (on_piece (Part q) t (reads.pieces e j))
      by_part _ _ (both_got (TheLast x) m k u h) = both_got ([], Some x) m k u (takes_any h)
      by_part _ _ (both_got (ALine y) m k u h) = behind_word (takes_any h) (lines y m k u (takes_less h))
      by_part _ _ (both_miss f m k u h) = both_miss f m k u h
      by_part _ _ (past_got (TheLast x) m q o h) = past_got ([], Some x) m (on_piece (Part q) t (reads.pieces e j)) o (takes_any h)
      by_part _ _ (past_got (ALine y) m q o h) = behind_word (takes_any h)
          (from_gone (on_piece (Part q) t (reads.pieces e j)) o (lines y m m (gone m o) (takes_less h)))
      by_part _ _ (past_miss f m q o h) = past_miss f m (on_piece (Part q) t (reads.pieces e j)) o h

      by_turn : (x y : Turn Piece) → TurnsAlike Piece z d s.rest x y
          → Alike (List Line × Option Tree) z 0 d d s.rest (on_piece x s (reads.pieces e n)) (on_piece y t (reads.pieces e j))
      by_turn _ _ both_stop = got_alike w refl
      by_turn _ _ (both_part p q h) = by_part p q h

  pieces_alike : (d : ℕ) → e.room ≡ suc d → (n j : ℕ) → Pieces d n j
  pieces_alike d r zero j s t w l i = by_place s t w l i
    where
      by_place : (s t : At) → Twin z s t → length s.rest ≤ zero → length s.rest + length z.two ≤ j + length z.one
          → Alike (List Line × Option Tree) z 0 d d s.rest (Got ([], None) s) (reads.pieces e j t)
      by_place _ _ (before p v b) l i = (let x = length-append v (z.token ∷ z.one) in absurd (omega arith))
      by_place _ _ (gone s o) l i = from_gone (reads.pieces e j s) o (got_alike (gone s o) refl)
  pieces_alike d r (suc n) zero s t w l i = by_place (pieces_alike d r n n) s t w l i
    where
      by_place : Pieces d n n → (s t : At) → Twin z s t → length s.rest ≤ suc n → length s.rest + length z.two ≤ zero + length z.one
          → Alike (List Line × Option Tree) z 0 d d s.rest (reads.pieces e (suc n) s) (Got ([], None) t)
      by_place again _ _ (before p v b) l i = (let x = length-append v (z.token ∷ z.one) in absurd (omega arith))
      by_place again _ _ (gone s o) l i = from_gone (Got ([], None) s) o (a_piece d r n n again s s (gone s o) l (omega arith))
  pieces_alike d r (suc n) (suc j) s t w l i = a_piece d r n j (pieces_alike d r n j) s t w l i

  onto_lines_alike : {d : ℕ} {ts : List Token} {p q : Parsed (List Line × Option Tree)} → Alike (List Line × Option Tree) z 0 d d ts p q
      → Alike (List Line × Option Tree) z 0 d d ts (onto_lines [] p) (onto_lines [] q)
  onto_lines_alike (both_got a m k w x) = both_got ([] ++ a.0, a.1) m k w x
  onto_lines_alike (both_miss f m k w x) = both_miss f m k w x
  onto_lines_alike (past_got a m q l x) = past_got ([] ++ a.0, a.1) m (onto_lines [] q) l x
  onto_lines_alike (past_miss f m q l x) = past_miss f m (onto_lines [] q) l x

  all_pieces_alike : (d : ℕ) → e.room ≡ suc d → Reads (List Line × Option Tree) z 0 d (reads.all_pieces e)
  all_pieces_alike d r _ _ (before p v b) =
      let x = length-append v (z.token ∷ z.one) in
      let y = length-append v (z.token ∷ z.two) in
      onto_lines_alike (pieces_alike d r (length (v ++ z.token ∷ z.one)) (length (v ++ z.token ∷ z.two)) (place p (v ++ z.token ∷ z.one) b)
      (place p (v ++ z.token ∷ z.two) b) (before p v b) (omega arith) (omega arith))
  all_pieces_alike d r _ _ (gone s o) =
      onto_lines_alike (from_gone (reads.pieces e (length s.rest) s) o
      (pieces_alike d r (length s.rest) (length s.rest + length z.two) s s (gone s o) (omega arith) (omega arith)))

  block_alike : Reads BlockTree z 1 e.room (reads.block e)
  block_alike s t w = open_alike _ _ kinds.OpenBrace e.room w refl (λ d n a b u. then_alike (all_pieces_alike d n a b u) (λ x _ _ u _.
      then_alike (close_alike kinds.CloseBrace u refl n g.fits) (λ _ _ _ u _. got_alike u (let q = start_is w in let p = past_is u in cc))))

  condition_alike : Reads Tree z 1 e.room (reads.condition e)
  condition_alike s t w = cond_alike refl (λ h. memory_alike w)
      (λ h. then_alike (plain_alike kinds.If w refl) (λ _ a b u _. then_alike (g.test a b u) (λ x a b u _.
      then_alike (block_alike a b u) (λ y a b u _. cond_alike (ap (λ k. is k kinds.Else) (next_is u)) (another x y a b u)
      (λ h. got_alike {a = TIf (start s) a.past x y NoElse} {b = TIf (start t) b.past x y NoElse} u (let q = start_is w in let p = past_is u in cc))))))
    where
      second : ℕ → Tree → BlockTree → Parser Tree
      second i x y m = then_on (reads.block e m) (λ c k. Got (TIf i k.past x y (AnElse c)) k)

      another : (x : Tree) (y : BlockTree) (a b : At) → Twin z a b → is (next a) kinds.Else ≡ true
          → Alike Tree z 0 e.room e.room a.rest (second (start s) x y (passed a)) (second (start t) x y (passed b))
      another x y a b u h = any_alike (passing e.room (second (start s) x y) (second (start t) x y) u (ap is_plain (is_same (next a) kinds.Else h))
          (λ m k u. then_alike (block_alike m k u) (λ c _ _ u _. got_alike u (let q = start_is w in let p = past_is u in cc))))

  operand_alike : (k : EffectKind) (i j : ℕ) → i ≡ j → (s t : At) → Twin z s t
      → Alike Tree z 1 e.room e.room s.rest (reads.operand_in e i k s) (reads.operand_in e j k t)
  operand_alike k i j q s t w = open_alike _ _ kinds.OpenRound e.room w refl (λ d n a b u. then_alike (g.inner d n false a b u) (λ x _ _ u _.
      then_alike (close_alike kinds.CloseRound u refl n g.fits) (λ _ _ _ u _. got_alike u (let p = past_is u in cc))))

  effect_alike : Reads Tree z 1 e.room (reads.effect e)
  effect_alike s t w = by_next (λ k. reads.effect_by e s (effect_at k)) (λ k. reads.effect_by e t (effect_at k)) w (λ k q. by_effect k q (effect_at k) refl)
    where
      by_effect : (k : Kind) → next s ≡ k → (o : Option EffectKind) → effect_at k ≡ o
          → Alike Tree z 1 e.room e.room s.rest (reads.effect_by e s o) (reads.effect_by e t o)
      by_effect k q None h = wrong_alike w
      by_effect k q (Some x) h = passing e.room (reads.operand_in e (start s) x) (reads.operand_in e (start t) x) w (ap is_plain q ∙ effect_plain k x h)
          (λ m i u. operand_alike x (start s) (start t) (start_is w) m i u)

  read_alike : Reads Tree z 1 e.room (reads.read e)
  read_alike s t w = then_alike (plain_alike kinds.Read w refl)
      (λ _ _ _ u _. open_alike _ _ kinds.OpenRound e.room u refl (λ d n a b u. then_alike (g.inner d n true a b u) (λ x a b u _.
      then_alike (by_of_read_alike z d a b u) (λ k _ _ u _. then_alike (close_alike kinds.CloseRound u refl n g.fits)
      (λ _ _ _ u _. got_alike u (let q = start_is w in let p = past_is u in cc))))))

  write_alike : Reads Tree z 1 e.room (reads.write e)
  write_alike s t w = then_alike (plain_alike kinds.Write w refl)
      (λ _ _ _ u _. open_alike _ _ kinds.OpenRound e.room u refl (λ d n a b u. then_alike (g.inner d n false a b u) (λ x _ _ u _.
      then_alike (plain_alike kinds.Comma u refl) (λ _ a b u _.
      then_alike (g.inner d n false a b u) (λ y _ _ u _. then_alike (close_alike kinds.CloseRound u refl n g.fits) (λ _ _ _ u _.
      got_alike u (let q = start_is w in let p = past_is u in cc)))))))

  fail_alike : Reads Tree z 1 e.room (reads.fail e)
  fail_alike s t w = then_alike (plain_alike kinds.Fail w refl)
      (λ _ a b u _. then_alike (type_is_alike z e.room g.fits a b u) (λ y _ _ u _. open_alike _ _ kinds.OpenRound e.room u refl (λ d n a b u.
      then_alike (g.inner d n false a b u) (λ x _ _ u _. then_alike (close_alike kinds.CloseRound u refl n g.fits)
      (λ _ _ _ u _. got_alike u (let q = start_is w in let p = past_is u in cc))))))

  require_alike : Reads Tree z 1 e.room (reads.require e)
  require_alike s t w = then_alike (plain_alike kinds.Require w refl)
      (λ _ _ _ u _. then_alike (name_alike u) (λ n a b u _. then_alike (arguments_alike a b u) (λ xs a b u _.
      then_alike (by_of_require_alike z e.room e.in_read a b u) (λ k _ _ u _. got_alike u (let q = start_is w in let p = past_is u in cc)))))

  run_alike : Reads Tree z 1 e.room (reads.run e)
  run_alike s t w = then_alike (plain_alike kinds.Run w refl)
      (λ _ _ _ u _. then_alike (name_alike u) (λ n a b u _. call_alike (start s) (start t) (start_is w) calls.Run n a b u))

  primary_alike : Reads Tree z 1 e.room (reads.primary e)
  primary_alike s t w = by_next (reads.primary_by e s) (reads.primary_by e t) w (λ k q. by_kind k)
    where
      by_kind : (k : Kind) → Alike Tree z 1 e.room e.room s.rest (reads.primary_by e s k) (reads.primary_by e t k)
      by_kind kinds.Name = name_or_call_alike s t w
      by_kind kinds.Null = null_alike s t w
      by_kind kinds.Empty = empty_alike s t w
      by_kind kinds.OpenRound = rounds_alike s t w
      by_kind kinds.OpenSquare = squares_alike s t w
      by_kind kinds.If = condition_alike s t w
      by_kind kinds.Path = effect_alike s t w
      by_kind kinds.Exists = effect_alike s t w
      by_kind kinds.Digest = effect_alike s t w
      by_kind kinds.List = effect_alike s t w
      by_kind kinds.Read = read_alike s t w
      by_kind kinds.Write = write_alike s t w
      by_kind kinds.Fail = fail_alike s t w
      by_kind kinds.Require = require_alike s t w
      by_kind kinds.Run = run_alike s t w
      by_kind k = literal_alike w

  projected_alike : Reads Tree z 1 e.room (reads.projected e)
  projected_alike s t w = then_alike (primary_alike s t w) (λ x a b u _.
      then_alike (indices_alike z e.room a b u) (λ ns _ _ u _. got_alike u (let q = start_is w in let p = past_is u in cc)))

  prefixed_alike : Reads Tree z 1 e.room (reads.prefixed e)
  prefixed_alike s t w = by_next (λ k. reads.prefixed_by e s (prefix_at k)) (λ k. reads.prefixed_by e t (prefix_at k)) w
      (λ k q. by_prefix k q (prefix_at k) refl)
    where
      of : ℕ → Prefix → Parser Tree
      of i p m = then_on (reads.projected e m) (λ x k. Got (TPrefix i k.past p x) k)

      by_prefix : (k : Kind) → next s ≡ k → (o : Option Prefix) → prefix_at k ≡ o
          → Alike Tree z 1 e.room e.room s.rest (reads.prefixed_by e s o) (reads.prefixed_by e t o)
      by_prefix k q None h = projected_alike s t w
      by_prefix k q (Some p) h = passing e.room (of (start s) p) (of (start t) p) w (ap is_plain q ∙ prefix_plain k p h)
          (λ m i u. then_alike (projected_alike m i u) (λ x _ _ u _. got_alike u (let q = start_is w in let p = past_is u in cc)))

  chain_alike : (l : Level) (part : Parser Tree) → Reads Tree z 1 e.room part → Reads Tree z 1 e.room (reads.chain_of part l)
  chain_alike l part good s t w = then_alike (good s t w) (λ x a b u _.
      then_alike (all_alike z e.room (reads.another_step part l) another [] a b u) (λ xs _ _ u _.
      got_alike u (let q = start_is w in let p = past_is u in cc)))
    where
      of : Operator → Parser Step
      of o m = then_on (part m) (λ t k. Got (record { operator = o; operand = t }) k)

      by_operator : (s t : At) → Twin z s t → (o : Option Operator) → operator_at l (next s) ≡ o
          → TurnsAlike Step z e.room s.rest (reads.step_by part s o) (reads.step_by part t o)
      by_operator s t w None h = both_stop
      by_operator s t w (Some o) h = both_part _ _ (passing e.room (of o) (of o) w (operator_plain l (next s) o h)
          (λ m k u. then_alike (good m k u) (λ x _ _ u _. got_alike u refl)))

      another : (s t : At) → Twin z s t → TurnsAlike Step z e.room s.rest (reads.another_step part l s) (reads.another_step part l t)
      another s t w = subst (λ k. TurnsAlike Step z e.room s.rest (reads.another_step part l s) (reads.step_by part t (operator_at l k))) (next_is w)
          (by_operator s t w (operator_at l (next s)) refl)

  sum_alike : Reads Tree z 1 e.room (reads.sum e)
  sum_alike = chain_alike levels.Sum (reads.chain_of (reads.prefixed e) levels.Product) (chain_alike levels.Product (reads.prefixed e) prefixed_alike)

  comparison_alike : Reads Tree z 1 e.room (reads.comparison e)
  comparison_alike s t w = then_alike (sum_alike s t w) (λ x a b u _.
      by_next (λ k. reads.compared e (start s) x a (comparison_at k)) (λ k. reads.compared e (start t) x b (comparison_at k)) u
      (λ k q. by_comparison x a b u k q (comparison_at k) refl))
    where
      of : ℕ → Tree → Comparison → Parser Tree
      of i x c m = then_on (reads.sum e m) (λ y k. Got (TCompare i k.past c x y) k)

      by_comparison : (x : Tree) (a b : At) → Twin z a b → (k : Kind) → next a ≡ k → (o : Option Comparison) → comparison_at k ≡ o
          → Alike Tree z 0 e.room e.room a.rest (reads.compared e (start s) x a o) (reads.compared e (start t) x b o)
      by_comparison x a b u k q None h = got_alike u refl
      by_comparison x a b u k q (Some c) h = any_alike (passing e.room (of (start s) x c) (of (start t) x c) u (ap is_plain q ∙ comparison_plain k c h)
          (λ m i u. then_alike (sum_alike m i u) (λ y _ _ u _. got_alike u (let q = start_is w in let p = past_is u in cc))))

  expr_alike : Reads Tree z 1 e.room (reads.expr e)
  expr_alike = chain_alike levels.Or (reads.operand e levels.Or) (chain_alike levels.And (reads.comparison e) comparison_alike)

module _ (z : Texts) where
  by_conditions_alike : (d : ℕ) → d ≤ z.limit → (inner : ℕ → Bool → Parser Tree) → ((b : ℕ) → d ≡ suc b → (c : ℕ) (r : Bool) → Reads Tree z 1 b (inner c r))
      → (c : ℕ) (r : Bool) → Reads Tree z 1 d (by_conditions d inner c r)
  by_conditions_alike d f inner good zero r =
      expr_alike z (record { room = d; in_read = r; conditions = zero; inner = inner zero; test = nowhere })
      (record { fits = f; inner = λ b n. good b n zero; test = λ s t w. memory_alike w })
  by_conditions_alike d f inner good (suc c) r =
      expr_alike z (record { room = d; in_read = r; conditions = suc c; inner = inner (suc c); test = by_conditions d inner c false })
      (record { fits = f; inner = λ b n. good b n (suc c); test = by_conditions_alike d f inner good c false })

  expr_at_alike : (d : ℕ) → d ≤ z.limit → (c : ℕ) (r : Bool) → Reads Tree z 1 d (expr_at d c r)
  expr_at_alike zero f c r = by_conditions_alike zero f (λ c r. nowhere) (λ b n c r s t w. memory_alike w) c r
  expr_at_alike (suc d) f c r = by_conditions_alike (suc d) f (expr_at d)
      (λ b n c r. subst (λ i. Reads Tree z 1 i (expr_at d c r)) (omega arith) (expr_at_alike d (omega arith) c r)) c r

  inner_at_alike : (d : ℕ) → d ≤ z.limit → (b : ℕ) → d ≡ suc b → (c : ℕ) (r : Bool) → Reads Tree z 1 b (inner_at d c r)
  inner_at_alike zero f b n c r s t w = memory_alike w
  inner_at_alike (suc d) f b n c r s t w = subst (λ i. Reads Tree z 1 i (expr_at d c r)) (omega arith) (expr_at_alike d (omega arith) c r) s t w

  test_at_alike : (d : ℕ) → d ≤ z.limit → (c : ℕ) → Reads Tree z 1 d (test_at d c)
  test_at_alike d f zero s t w = memory_alike w
  test_at_alike d f (suc c) s t w = expr_at_alike d f c false s t w

  -- a block is read alike
  pub block_is_alike : (r : Room) → r.brackets ≤ z.limit → (s t : At) → Twin z s t
      → Alike BlockTree z 1 r.brackets r.brackets s.rest (reads.block (around r) s) (reads.block (around r) t)
  block_is_alike r f s t w = block_alike z (around r) (record {
    fits = f;
    inner = λ d n k.
        inner_at_alike r.brackets f d n r.conditions k;
    test = test_at_alike r.brackets f r.conditions;
  }) s t w
