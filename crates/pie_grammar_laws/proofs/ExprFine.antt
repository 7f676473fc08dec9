-- An expression that was read is a word of the grammar, and one that was read in part can be completed.
use Rattle.std.proofs.Common.{◌≡◌, ◌⊎◌, inl, inr, ℕ, zero, suc, Bool, true, false, cond, ◌==◌, List, [], ◌∷◌, ◌++◌, length, Option, Some, None, refl, sym}
use Rattle.std.proofs.Common.{subst, ap, ◌∙◌}
use Rattle.pie_parser.specs.declared.kind.Kind.{Kind}
use Rattle.pie_parser.specs.declared.kind.Kind.TheVariants as kinds
use Rattle.pie_parser.specs.declared.chain.Level.{Level}
use Rattle.pie_parser.specs.declared.chain.Level.TheVariants as levels
use Rattle.pie_parser.specs.declared.tree.Name.{Name}
use Rattle.pie_parser.specs.declared.tree.Step.{Step}
use Rattle.pie_parser.specs.declared.tree.Line.{Line}
use Rattle.pie_parser.specs.declared.tree.Line.TheVariants as line_kinds
use Rattle.pie_parser.specs.declared.tree.Operator.{Operator}
use Rattle.pie_parser.specs.declared.tree.Comparison.{Comparison}
use Rattle.pie_parser.specs.declared.tree.Prefix.{Prefix}
use Rattle.pie_parser.specs.declared.tree.CallKind.{CallKind}
use Rattle.pie_parser.specs.declared.tree.CallKind.TheVariants as calls
use Rattle.pie_parser.specs.declared.tree.EffectKind.{EffectKind}
use Rattle.pie_parser.specs.declared.reader.Room.{Room}
use Rattle.pie_parser.specs.Kinds.{is}
use Rattle.pie_parser.specs.Tests.{operator_at, comparison_at, prefix_at, effect_at}
use Rattle.pie_parser.specs.Plain.{Tree, TPrefix, TCompare, TIf, BlockTree, NoElse, AnElse}
use Rattle.pie_parser.specs.At.{At}
use Rattle.pie_parser.specs.Places.{Parsed, Got, Miss, Parser, then_on, next, start, passed}
use Rattle.pie_parser.specs.inner.Turns.{Stop, Part}
use Rattle.pie_parser.specs.inner.Pieces.{ALine, TheLast, on_piece, onto_lines}
use Rattle.pie_parser.specs.ExprReading as reads
use Rattle.pie_parser.specs.ExprReading.{Around, around, by_conditions, expr_at, inner_at, test_at, nowhere}
use Rattle.pie_parser.specs.TypeGrammar.{Eats, IsName}
use Rattle.pie_parser.specs.Grammar as grammar
use Rattle.pie_parser.specs.Grammar.{Indices, ByOfRequire, ByOfRead, IsExpr, IsChain, IsOperand, Steps, IsComparison, IsPrefixed, IsProjected, IsPrimary}
use Rattle.pie_parser.specs.Grammar.{Arguments, More, IsBlock, Lines}
use Rattle.pie_parser.proofs.Readings.{is_same}
use Rattle.pie_grammar_laws.proofs.Tokens.{is_token}
use Rattle.pie_grammar_laws.proofs.Words.{Then, Fine, fine_got, fine_miss, no_memory, fine_then, fine_as, fine_last, fine_weaker, fine_cond, fine_wrong, Nothing}
use Rattle.pie_grammar_laws.proofs.Words.{fine_nothing, word_nothing, word_then, word_as}
use Rattle.pie_grammar_laws.proofs.Samples.{Token_of, here, fine_pass, fine_eat, want_fine, open_fine, word_eats, NameR, word_name, name_fine, literal_fine, a_val}
use Rattle.pie_grammar_laws.proofs.Samples.{a_if, a_null, a_empty, a_require, a_run, a_read, a_write, a_fail, a_for, a_in, a_open_round, a_close_round, a_open_brace}
use Rattle.pie_grammar_laws.proofs.Samples.{a_close_brace, a_open_square, a_close_square, a_comma, a_semicolon, a_assign}
use Rattle.pie_grammar_laws.proofs.Parts.{TurnFine, fine_stop, fine_part, turn_cond, all_fine, some_fine}
use Rattle.pie_grammar_laws.proofs.TypesFine.{word_type, word_plain, type_is_fine, plain_is_fine}
use Rattle.pie_grammar_laws.proofs.ExprWords.{ExprR, ChainR, OperandR, StepsR, ComparisonR, PrefixedR, ProjectedR, PrimaryR, ArgumentsR, MoreR, BlockR, LinesR}
use Rattle.pie_grammar_laws.proofs.ExprWords.{no_steps, no_more, no_lines, word_indices, word_steps, word_more, word_lines, word_by_read, word_by_require}
use Rattle.pie_grammar_laws.proofs.ExprWords.{word_primary, word_projected, word_chain, word_operand, word_expr, word_arguments, word_block, literal_primary}
use Rattle.pie_grammar_laws.proofs.Operators.{effect_token, prefix_token, comparison_token, operator_token}
use Rattle.pie_grammar_laws.proofs.EndsFine.{word_or_none, indices_fine, by_of_read_fine, by_of_require_fine}

-- the readings inside a bracket and of a condition are of words
record Good (e : Around) : Type 0 where
  inner : (r : Bool) (s : At) → s.marked ≡ false → Fine Tree r (ExprR r) s (e.inner r s)
  test : (s : At) → s.marked ≡ false → Fine Tree false (ExprR false) s (e.test s)

module _ (e : Around) (g : Good e) where
  abbrev Comma_expr : At → At → Type 0
  Comma_expr = Then (Eats kinds.Comma) (ExprR false)

  cons_more : (s m : At) → Then Comma_expr MoreR s m → MoreR s m
  cons_more s m h = (_, grammar.one_more h.1.1 h.1.2.1 h.2.1)

  another_fine : (s : At) → (false ≡ false → s.marked ≡ false) → TurnFine Tree false Comma_expr s (reads.another e s)
  another_fine s u = turn_cond (is (next s) kinds.Comma) (λ h. let n = is_same (next s) kinds.Comma h in
      fine_pass (λ j. j ≡ kinds.Comma) (e.inner false) (ap is_token n) n (word_expr false) (g.inner false))

  listed_fine : (t : Tree) (s : At) → s.marked ≡ false → Fine (List Tree) false MoreR s (reads.listed e t s)
  listed_fine t s u = all_fine false Comma_expr MoreR no_more cons_more word_more (reads.another e) another_fine (t ∷ []) s (λ _. u)

  -- where a comma is next, an item comes
  items_fine : (t : Tree) (s : At) → next s ≡ kinds.Comma → Fine (List Tree) false (Then Comma_expr MoreR) s (reads.listed e t s)
  items_fine t s n =
      let x = here s (ap is_token n) in
      some_fine false Comma_expr MoreR no_more cons_more word_more (reads.another e) another_fine (t ∷ []) s x.first x.others (e.inner false (passed s)) x.rest
      (ap (λ k. cond (is k kinds.Comma) (Part (e.inner false (passed s))) Stop) n) (λ _. x.unmarked)

  arguments_fine : (s : At) → s.marked ≡ false → Fine (List Tree) false ArgumentsR s (reads.arguments e s)
  arguments_fine s u =
      let w2 = word_eats a_close_round in
      let w1 = word_then word_more w2 in
      fine_as (fine_then (open_fine e.room a_open_round refl u) (word_as w2 (λ s m h. inl h)) (λ _ a i. fine_cond (is (next a) kinds.CloseRound)
      (λ h. fine_as (fine_eat kinds.CloseRound (λ _. []) refl (is_same (next a) kinds.CloseRound h)) (λ s m h. inl h))
      (λ h. fine_as (fine_then (g.inner false a (i refl)) w1
      (λ t b i. fine_then (listed_fine t b (i refl)) w2 (λ ts c i. fine_last _ (want_fine a_close_round (i refl))))) (λ s m h. inr h))))
      (λ s m h. by_inside s m h.0 h.1 h.2)
    where
      by_inside : (s m a : At) → Eats kinds.OpenRound s a → (Eats kinds.CloseRound a m ⊎ Then (ExprR false) (Then MoreR (Eats kinds.CloseRound)) a m)
          → ArgumentsR s m
      by_inside s m a q (inl p) = ([], grammar.none q p)
      by_inside s m a q (inr h) = (_, grammar.some q h.1.1 h.2.1.1 h.2.2)

  call_fine : (i : ℕ) (k : CallKind) (n : Name) (s : At) → s.marked ≡ false → Fine Tree false ArgumentsR s (reads.call e i k n s)
  call_fine i k n s u = fine_last _ (arguments_fine s u)

  name_or_call_fine : (s : At) → s.marked ≡ false → Fine Tree false (PrimaryR e.in_read) s (reads.name_or_call e s)
  name_or_call_fine s u = fine_as (fine_then (name_fine u) word_or_none (λ n a i. fine_cond (is (next a) kinds.OpenRound)
      (λ h. fine_as (call_fine n.at calls.Plain n a (i refl)) (λ s m h. inl h)) (λ h. fine_as (fine_nothing _ i) (λ s m h. inr h))))
      (λ s m h. by_call s m h.0 h.1 h.2)
    where
      by_call : (s m a : At) → NameR s a → (ArgumentsR a m ⊎ Nothing a m) → PrimaryR e.in_read s m
      by_call s m a n (inl x) = (_, grammar.call n.1 x.1)
      by_call s m a n (inr x) = (_, grammar.a_name (subst (λ z. IsName s z n.0) x n.1))

  null_fine : (s : At) → s.marked ≡ false → Fine Tree false (PrimaryR e.in_read) s (reads.null e s)
  null_fine s u = fine_as (fine_then (want_fine a_null u) word_plain (λ _ a i. fine_last _ (plain_is_fine e.room (i refl))))
      (λ s m h. (_, grammar.null h.1 h.2.1))

  empty_fine : (s : At) → s.marked ≡ false → Fine Tree false (PrimaryR e.in_read) s (reads.empty e s)
  empty_fine s u = fine_as (fine_then (want_fine a_empty u) word_type (λ _ a i. fine_last _ (type_is_fine e.room (i refl))))
      (λ s m h. (_, grammar.empty h.1 h.2.1))

  rounds_fine : (s : At) → s.marked ≡ false → Fine Tree false (PrimaryR e.in_read) s (reads.rounds e s)
  rounds_fine s u =
      let w2 = word_eats a_close_round in
      let w1 = word_as w2 (λ s m h. inr h) in
      fine_as (fine_then (open_fine e.room a_open_round refl u) (word_then (word_expr false) w1)
      (λ _ a i. fine_then (g.inner false a (i refl)) w1 (λ t b i. fine_cond (is (next b) kinds.Comma)
      (λ h. fine_as (fine_then (items_fine t b (is_same (next b) kinds.Comma h)) w2 (λ ts c i. fine_last _ (want_fine a_close_round (i refl))))
      (λ s m h. inl h))
      (λ h. fine_as (fine_then (want_fine a_close_round (i refl)) word_nothing (λ _ c i. fine_nothing t i)) (λ s m h. inr (h.1.0, sym h.2 ∙ h.1.1))))))
      (λ s m h. by_items s m h.0 h.2.0 h.1 h.2.1 h.2.2)
    where
      by_items : (s m a b : At) → Eats kinds.OpenRound s a → ExprR false a b
          → (Then (Then Comma_expr MoreR) (Eats kinds.CloseRound) b m ⊎ Eats kinds.CloseRound b m) → PrimaryR e.in_read s m
      by_items s m a b q x (inl h) = (_, grammar.tuple q x.1 h.1.1.1.0 (grammar.one_more h.1.1.1 h.1.1.2.1 h.1.2.1) h.2)
      by_items s m a b q x (inr p) = (_, grammar.brackets q x.1 p)

  abbrev EachR : At → At → Type 0
  EachR = Then (Eats kinds.For) (Then NameR (Then (Eats kinds.In) (Then (ExprR false) (Eats kinds.CloseSquare))))

  each_fine : (i : ℕ) (t : Tree) (s : At) → s.marked ≡ false → Fine Tree false EachR s (reads.each e i t s)
  each_fine i t s u =
      let w3 = word_eats a_close_square in
      let w2 = word_then (word_expr false) w3 in
      let w1 = word_then (word_eats a_in) w2 in
      let w0 = word_then word_name w1 in
      fine_then (want_fine a_for u) w0 (λ _ a i. fine_then (name_fine (i refl)) w1
      (λ n b i. fine_then (want_fine a_in (i refl)) w2 (λ _ c i. fine_then (g.inner false c (i refl)) w3 (λ x d i.
      fine_last _ (want_fine a_close_square (i refl))))))

  squares_fine : (s : At) → s.marked ≡ false → Fine Tree false (PrimaryR e.in_read) s (reads.squares e s)
  squares_fine s u =
      let w2 = word_eats a_close_square in
      let w1 = word_as (word_then word_more w2) (λ s m h. inr h) in
      fine_as (fine_then (open_fine e.room a_open_square refl u) (word_then (word_expr false) w1)
      (λ _ a i. fine_then (g.inner false a (i refl)) w1 (λ t b i. fine_cond (is (next b) kinds.For)
      (λ h. fine_as (each_fine (start s) t b (i refl)) (λ s m h. inl h))
      (λ h. fine_as (fine_then (listed_fine t b (i refl)) w2 (λ ts c i. fine_last _ (want_fine a_close_square (i refl)))) (λ s m h. inr h)))))
      (λ s m h. by_items s m h.0 h.2.0 h.1 h.2.1 h.2.2)
    where
      by_items : (s m a b : At) → Eats kinds.OpenSquare s a → ExprR false a b → (EachR b m ⊎ Then MoreR (Eats kinds.CloseSquare) b m) → PrimaryR e.in_read s m
      by_items s m a b q x (inl h) = (_, grammar.each q x.1 h.1 h.2.1.1 h.2.2.1 h.2.2.2.1.1 h.2.2.2.2)
      by_items s m a b q x (inr h) = (_, grammar.list q x.1 h.1.1 h.2)

  abbrev ValR : At → At → Type 0
  ValR = Then (Eats kinds.Val) (Then NameR (Then (Eats kinds.Assign) (Then (ExprR false) (Eats kinds.Semicolon))))

  val_fine : (s : At) → s.marked ≡ false → Fine Line false ValR s (reads.val e s)
  val_fine s u =
      let w3 = word_eats a_semicolon in
      let w2 = word_then (word_expr false) w3 in
      let w1 = word_then (word_eats a_assign) w2 in
      let w0 = word_then word_name w1 in
      fine_then (want_fine a_val u) w0 (λ _ a i. fine_then (name_fine (i refl)) w1
      (λ n b i. fine_then (want_fine a_assign (i refl)) w2 (λ _ c i. fine_then (g.inner false c (i refl)) w3 (λ x d i.
      fine_last _ (want_fine a_semicolon (i refl))))))

  val_piece : (s : At) (again : At → Parsed (List Line × Option Tree)) (p : Parsed Line)
      → then_on p (λ l m. then_on (again m) (λ x k. Got (l ∷ x.0, x.1) k)) ≡ on_piece (Part (then_on p (λ l m. Got (ALine l) m))) s again
  val_piece s again (Got l m) = refl
  val_piece s again (Miss f m) = refl

  -- what is behind an expression of a block
  abbrev behind_expr : (At → Parsed (List Line × Option Tree)) → Tree → At → Parsed (List Line × Option Tree)
  behind_expr again t m = cond (is (next m) kinds.Semicolon) (then_on (again (passed m)) (λ x k. Got (line_kinds.Expr t ∷ x.0, x.1) k)) (Got ([], Some t) m)

  expr_piece_is : (s : At) (again : At → Parsed (List Line × Option Tree)) (p : Parsed Tree) → then_on p (behind_expr again)
      ≡ on_piece (Part (then_on p (λ t m. cond (is (next m) kinds.Semicolon) (Got (ALine (line_kinds.Expr t)) (passed m)) (Got (TheLast t) m)))) s again
  expr_piece_is s again (Miss f m) = refl
  expr_piece_is s again (Got t m) = by_end (is (next m) kinds.Semicolon)
    where
      by_end : (b : Bool) → cond b (then_on (again (passed m)) (λ x k. Got (line_kinds.Expr t ∷ x.0, x.1) k)) (Got ([], Some t) m)
          ≡ on_piece (Part (cond b (Got (ALine (line_kinds.Expr t)) (passed m)) (Got (TheLast t) m))) s again
      by_end true = refl
      by_end false = refl

  abbrev Behind : At → At → Type 0
  Behind s m = Then (Eats kinds.Semicolon) LinesR s m ⊎ Nothing s m

  with_expr : (s m a : At) → ExprR false s a → Behind a m → LinesR s m
  with_expr s m a x (inl h) = (_, _, grammar.an_expr x.1 h.1 h.2.2)
  with_expr s m a x (inr h) = (_, _, grammar.the_last (subst (λ z. IsExpr false s z x.0) h x.1))

  a_piece_fine : (again : At → Parsed (List Line × Option Tree)) → ((m : At) → m.marked ≡ false → Fine (List Line × Option Tree) false LinesR m (again m))
      → (s : At) → s.marked ≡ false → (k : Kind) → Fine (List Line × Option Tree) false LinesR s (on_piece (reads.piece_by e s k) s again)
  a_piece_fine again good s u kinds.CloseBrace = fine_as (fine_nothing ([], None) (λ _. u)) no_lines
  a_piece_fine again good s u kinds.Val = subst (Fine (List Line × Option Tree) false LinesR s) (val_piece s again (reads.val e s))
      (fine_as (fine_then (val_fine s u) word_lines (λ l m i. fine_last _ (good m (i refl))))
      (λ s m h. (_, _, grammar.a_val h.1.1 h.1.2.1.1 h.1.2.2.1 h.1.2.2.2.1.1 h.1.2.2.2.2 h.2.2)))
  a_piece_fine again good s u k = subst (Fine (List Line × Option Tree) false LinesR s) (expr_piece_is s again (e.inner false s))
      (fine_as (fine_then (g.inner false s u) word_or_none (λ t m i. behind t m (i refl))) (λ s m h. with_expr s m h.0 h.1 h.2))
    where
      behind : (t : Tree) (m : At) → m.marked ≡ false → Fine (List Line × Option Tree) false Behind m (behind_expr again t m)
      behind t m v = fine_cond (is (next m) kinds.Semicolon)
          (λ h. let n = is_same (next m) kinds.Semicolon h in fine_as
          (fine_pass (λ j. j ≡ kinds.Semicolon) (λ m. then_on (again m) (λ x k. Got (line_kinds.Expr t ∷ x.0, x.1) k)) (ap is_token n) n word_lines
          (λ m v. fine_last _ (good m v))) (λ s m h. inl h))
          (λ h. fine_as (fine_nothing ([], Some t) (λ _. v)) (λ s m h. inr h))

  pieces_fine : (n : ℕ) (s : At) → s.marked ≡ false → Fine (List Line × Option Tree) false LinesR s (reads.pieces e n s)
  pieces_fine zero s u = fine_as (fine_nothing ([], None) (λ _. u)) no_lines
  pieces_fine (suc n) s u = a_piece_fine (reads.pieces e n) (pieces_fine n) s u (next s)

  onto_lines_fine : {s : At} {p : Parsed (List Line × Option Tree)} → Fine (List Line × Option Tree) false LinesR s p
      → Fine (List Line × Option Tree) false LinesR s (onto_lines [] p)
  onto_lines_fine (fine_got a m x) = fine_got ([] ++ a.0, a.1) m x
  onto_lines_fine (fine_miss f m x) = fine_miss f m x
  onto_lines_fine (no_memory m) = no_memory m

  block_fine : (s : At) → s.marked ≡ false → Fine BlockTree false BlockR s (reads.block e s)
  block_fine s u =
      let w1 = word_eats a_close_brace in
      fine_as (fine_then (open_fine e.room a_open_brace refl u) (word_then word_lines w1)
      (λ _ a i. fine_then (onto_lines_fine (pieces_fine (length a.rest) a (i refl))) w1 (λ x b i.
      fine_last _ (want_fine a_close_brace (i refl)))))
      (λ s m h. (_, grammar.block h.1 h.2.1.2 h.2.2))

  abbrev ElseR : At → At → Type 0
  ElseR s m = Then (Eats kinds.Else) BlockR s m ⊎ Nothing s m

  with_else : (s m a b c : At) → Eats kinds.If s a → ExprR false a b → BlockR b c → ElseR c m → PrimaryR e.in_read s m
  with_else s m a b c q x y (inl h) = (_, grammar.if_else q x.1 y.1 h.1 h.2.1)
  with_else s m a b c q x y (inr h) = (_, grammar.if_alone q x.1 (subst (λ z. IsBlock b z y.0) h y.1))

  condition_fine : (s : At) → s.marked ≡ false → Fine Tree false (PrimaryR e.in_read) s (reads.condition e s)
  condition_fine s u =
      let w1 = word_then word_block word_or_none in
      let w0 = word_then (word_expr false) w1 in
      fine_cond (e.conditions == 0) (λ _. no_memory s) (λ _.
      fine_as (fine_then (want_fine a_if u) w0 (λ _ a i.
      fine_then (g.test a (i refl)) w1 (λ t b i. fine_then (block_fine b (i refl)) word_or_none (λ y c i. els t y c (i refl)))))
      (λ s m h. with_else s m h.0 h.2.0 h.2.2.0 h.1 h.2.1 h.2.2.1 h.2.2.2))
    where
      second : ℕ → Tree → BlockTree → Parser Tree
      second i x y m = then_on (reads.block e m) (λ c k. Got (TIf i k.past x y (AnElse c)) k)

      els : (t : Tree) (y : BlockTree) (c : At) → c.marked ≡ false
          → Fine Tree false ElseR c (cond (is (next c) kinds.Else) (second (start s) t y (passed c)) (Got (TIf (start s) c.past t y NoElse) c))
      els t y c v = fine_cond (is (next c) kinds.Else)
          (λ h. let n = is_same (next c) kinds.Else h in fine_as
          (fine_pass (λ j. j ≡ kinds.Else) (second (start s) t y) (ap is_token n) n word_block (λ m v. fine_last _ (block_fine m v))) (λ s m h. inl h))
          (λ h. fine_as (fine_nothing (TIf (start s) c.past t y NoElse) (λ _. v)) (λ s m h. inr h))

  effect_fine : (s : At) → s.marked ≡ false → Fine Tree false (PrimaryR e.in_read) s (reads.effect e s)
  effect_fine s u = by_effect (effect_at (next s)) refl
    where
      by_effect : (o : Option EffectKind) → effect_at (next s) ≡ o → Fine Tree false (PrimaryR e.in_read) s (reads.effect_by e s o)
      by_effect None h = fine_wrong (word_primary e.in_read) u
      by_effect (Some k) h =
          let w2 = word_eats a_close_round in
          let w1 = word_then (word_expr false) w2 in
          let w0 = word_then (word_eats a_open_round) w1 in
          fine_as (fine_pass (λ j. effect_at j ≡ Some k) (reads.operand_in e (start s) k) (effect_token (next s) k h) h w0
          (λ m v. fine_then (open_fine e.room a_open_round refl v) w1 (λ _ a i.
          fine_then (g.inner false a (i refl)) w2 (λ t b i. fine_last _ (want_fine a_close_round (i refl))))))
          (λ s m h. (_, grammar.effect h.1.0 (subst (λ z. Eats kinds.OpenRound z h.2.0) h.1.1 h.2.1) h.2.2.1.1 h.2.2.2))

  read_fine : (s : At) → s.marked ≡ false → Fine Tree false (PrimaryR e.in_read) s (reads.read e s)
  read_fine s u =
      let w3 = word_eats a_close_round in
      let w2 = word_then word_by_read w3 in
      let w1 = word_then (word_expr true) w2 in
      let w0 = word_then (word_eats a_open_round) w1 in
      fine_as (fine_then (want_fine a_read u) w0 (λ _ a i. fine_then (open_fine e.room a_open_round refl (i refl)) w1
      (λ _ b i. fine_then (g.inner true b (i refl)) w2 (λ t c i.
      fine_then (by_of_read_fine c) w3 (λ k d i. fine_last _ (want_fine a_close_round (i refl)))))))
      (λ s m h. (_, grammar.read h.1 h.2.1 h.2.2.1.1 h.2.2.2.1.1 h.2.2.2.2))

  write_fine : (s : At) → s.marked ≡ false → Fine Tree false (PrimaryR e.in_read) s (reads.write e s)
  write_fine s u =
      let w4 = word_eats a_close_round in
      let w3 = word_then (word_expr false) w4 in
      let w2 = word_then (word_eats a_comma) w3 in
      let w1 = word_then (word_expr false) w2 in
      let w0 = word_then (word_eats a_open_round) w1 in
      fine_as (fine_then (want_fine a_write u) w0 (λ _ a i. fine_then (open_fine e.room a_open_round refl (i refl)) w1
      (λ _ b i. fine_then (g.inner false b (i refl)) w2 (λ t c i.
      fine_then (want_fine a_comma (i refl)) w3 (λ _ d i. fine_then (g.inner false d (i refl)) w4 (λ x f i. fine_last _ (want_fine a_close_round (i refl))))))))
      (λ s m h. (_, grammar.write h.1 h.2.1 h.2.2.1.1 h.2.2.2.1 h.2.2.2.2.1.1 h.2.2.2.2.2))

  fail_fine : (s : At) → s.marked ≡ false → Fine Tree false (PrimaryR e.in_read) s (reads.fail e s)
  fail_fine s u =
      let w3 = word_eats a_close_round in
      let w2 = word_then (word_expr false) w3 in
      let w1 = word_then (word_eats a_open_round) w2 in
      let w0 = word_then word_type w1 in
      fine_as (fine_then (want_fine a_fail u) w0 (λ _ a i. fine_then (type_is_fine e.room (i refl)) w1
      (λ t b i. fine_then (open_fine e.room a_open_round refl (i refl)) w2 (λ _ c i.
      fine_then (g.inner false c (i refl)) w3 (λ x d i. fine_last _ (want_fine a_close_round (i refl)))))))
      (λ s m h. (_, grammar.fail h.1 h.2.1.1 h.2.2.1 h.2.2.2.1.1 h.2.2.2.2))

  require_fine : (s : At) → s.marked ≡ false → Fine Tree e.in_read (PrimaryR e.in_read) s (reads.require e s)
  require_fine s u =
      let w2 = word_by_require e.in_read in
      let w1 = word_then word_arguments w2 in
      let w0 = word_then word_name w1 in
      fine_as (fine_then (want_fine a_require u) w0 (λ _ a i.
      fine_then (name_fine (i refl)) w1 (λ n b i. fine_then (arguments_fine b (i refl)) w2
      (λ ts c i. fine_last _ (by_of_require_fine e.in_read c (i refl))))))
      (λ s m h. (_, grammar.require h.1 h.2.1.1 h.2.2.1.1 h.2.2.2.1))

  run_fine : (s : At) → s.marked ≡ false → Fine Tree false (PrimaryR e.in_read) s (reads.run e s)
  run_fine s u = fine_as (fine_then (want_fine a_run u) (word_then word_name word_arguments)
      (λ _ a i. fine_then (name_fine (i refl)) word_arguments (λ n b i. call_fine (start s) calls.Run n b (i refl))))
      (λ s m h. (_, grammar.run h.1 h.2.1.1 h.2.2.1))

  primary_fine : (s : At) → s.marked ≡ false → Fine Tree e.in_read (PrimaryR e.in_read) s (reads.primary e s)
  primary_fine s u = by_kind (next s)
    where
      by_kind : (k : Kind) → Fine Tree e.in_read (PrimaryR e.in_read) s (reads.primary_by e s k)
      by_kind kinds.Name = fine_weaker (name_or_call_fine s u)
      by_kind kinds.Null = fine_weaker (null_fine s u)
      by_kind kinds.Empty = fine_weaker (empty_fine s u)
      by_kind kinds.OpenRound = fine_weaker (rounds_fine s u)
      by_kind kinds.OpenSquare = fine_weaker (squares_fine s u)
      by_kind kinds.If = fine_weaker (condition_fine s u)
      by_kind kinds.Path = fine_weaker (effect_fine s u)
      by_kind kinds.Exists = fine_weaker (effect_fine s u)
      by_kind kinds.Digest = fine_weaker (effect_fine s u)
      by_kind kinds.List = fine_weaker (effect_fine s u)
      by_kind kinds.Read = fine_weaker (read_fine s u)
      by_kind kinds.Write = fine_weaker (write_fine s u)
      by_kind kinds.Fail = fine_weaker (fail_fine s u)
      by_kind kinds.Require = require_fine s u
      by_kind kinds.Run = fine_weaker (run_fine s u)
      by_kind k = fine_weaker (fine_as (literal_fine u) (literal_primary e.in_read))

  projected_fine : (s : At) → s.marked ≡ false → Fine Tree e.in_read (ProjectedR e.in_read) s (reads.projected e s)
  projected_fine s u = fine_as (fine_then (primary_fine s u) word_indices (λ t a i. fine_last _ (indices_fine e.in_read a i)))
      (λ s m h. (_, grammar.projected h.1.1 h.2.1 refl))

  prefixed_fine : (s : At) → s.marked ≡ false → Fine Tree e.in_read (PrefixedR e.in_read) s (reads.prefixed e s)
  prefixed_fine s u = by_prefix (prefix_at (next s)) refl
    where
      by_prefix : (o : Option Prefix) → prefix_at (next s) ≡ o → Fine Tree e.in_read (PrefixedR e.in_read) s (reads.prefixed_by e s o)
      by_prefix None h = fine_as (projected_fine s u) (λ s m h. (_, grammar.plain h.1))
      by_prefix (Some p) h = fine_as (fine_pass (λ j. prefix_at j ≡ Some p) (λ m. then_on (reads.projected e m) (λ t k. Got (TPrefix (start s) k.past p t) k))
          (prefix_token (next s) p h) h
          (word_projected e.in_read) (λ m v. fine_last _ (projected_fine m v)))
          (λ s m h. (_, grammar.prefixed h.1.0 (subst (λ z. IsProjected e.in_read z m h.2.0) h.1.1 h.2.1)))

  abbrev OperatorR : Level → At → At → Type 0
  OperatorR l = Token_of (λ j. (o : Operator) × (operator_at l j ≡ Some o))

  chain_fine : (l : Level) (part : Parser Tree) → ((s : At) → s.marked ≡ false → Fine Tree e.in_read (OperandR l e.in_read) s (part s))
      → (s : At) → s.marked ≡ false → Fine Tree e.in_read (ChainR l e.in_read) s (reads.chain_of part l s)
  chain_fine l part good s u = fine_as (fine_then (good s u) (word_steps l e.in_read) (λ t a i.
      fine_last _ (all_fine e.in_read (Then (OperatorR l) (OperandR l e.in_read)) (StepsR l e.in_read) (no_steps l e.in_read) cons (word_steps l e.in_read)
      (reads.another_step part l) another [] a i)))
      (λ s m h. (_, grammar.chained h.1.1 h.2.1 refl))
    where
      cons : (s m : At) → Then (Then (OperatorR l) (OperandR l e.in_read)) (StepsR l e.in_read) s m → StepsR l e.in_read s m
      cons s m h = (_, grammar.a_step h.1.1.0.1 (subst (λ z. IsOperand l e.in_read z h.0 h.1.2.0) h.1.1.1 h.1.2.1) h.2.1)

      by_operator : (s : At) (o : Option Operator) → operator_at l (next s) ≡ o
          → TurnFine Step e.in_read (Then (OperatorR l) (OperandR l e.in_read)) s (reads.step_by part s o)
      by_operator s None h = fine_stop
      by_operator s (Some o) h = fine_part (then_on (part (passed s)) (λ t m. Got (record { operator = o; operand = t }) m))
          (fine_pass (λ j. (o : Operator) × (operator_at l j ≡ Some o)) (λ m. then_on (part m) (λ t k. Got (record { operator = o; operand = t }) k))
          (operator_token l (next s) o h) (o, h)
          (word_operand l e.in_read) (λ m v. fine_last _ (good m v)))

      another : (s : At) → (e.in_read ≡ false → s.marked ≡ false)
          → TurnFine Step e.in_read (Then (OperatorR l) (OperandR l e.in_read)) s (reads.another_step part l s)
      another s u = by_operator s (operator_at l (next s)) refl

  product_fine : (s : At) → s.marked ≡ false → Fine Tree e.in_read (ChainR levels.Product e.in_read) s (reads.chain_of (reads.prefixed e) levels.Product s)
  product_fine = chain_fine levels.Product (reads.prefixed e) (λ s u. fine_as (prefixed_fine s u) (λ s m h. (_, grammar.of_product h.1)))

  sum_fine : (s : At) → s.marked ≡ false → Fine Tree e.in_read (ChainR levels.Sum e.in_read) s (reads.sum e s)
  sum_fine = chain_fine levels.Sum (reads.chain_of (reads.prefixed e) levels.Product) (λ s u. fine_as (product_fine s u) (λ s m h. (_, grammar.of_sum h.1)))

  abbrev ComparedR : At → At → Type 0
  ComparedR s m = Then (Token_of (λ j. (c : Comparison) × (comparison_at j ≡ Some c))) (ChainR levels.Sum e.in_read) s m ⊎ Nothing s m

  with_compared : (s m a : At) → ChainR levels.Sum e.in_read s a → ComparedR a m → ComparisonR e.in_read s m
  with_compared s m a x (inl h) = (_, grammar.compared x.1 h.1.0.1 (subst (λ z. IsChain levels.Sum e.in_read z m h.2.0) h.1.1 h.2.1))
  with_compared s m a x (inr h) = (_, grammar.alone (subst (λ z. IsChain levels.Sum e.in_read s z x.0) h x.1))

  comparison_fine : (s : At) → s.marked ≡ false → Fine Tree e.in_read (ComparisonR e.in_read) s (reads.comparison e s)
  comparison_fine s u = fine_as (fine_then (sum_fine s u) word_or_none (λ t a i. by_comparison t a i (comparison_at (next a)) refl))
      (λ s m h. with_compared s m h.0 h.1 h.2)
    where
      by_comparison : (t : Tree) (a : At) → (e.in_read ≡ false → a.marked ≡ false) → (o : Option Comparison) → comparison_at (next a) ≡ o
          → Fine Tree e.in_read ComparedR a (reads.compared e (start s) t a o)
      by_comparison t a i None h = fine_as (fine_nothing t i) (λ s m h. inr h)
      by_comparison t a i (Some c) h = fine_as (fine_pass (λ j. (c : Comparison) × (comparison_at j ≡ Some c))
          (λ m. then_on (reads.sum e m) (λ u k. Got (TCompare (start s) k.past c t u) k))
          (comparison_token (next a) c h) (c, h) (word_chain levels.Sum e.in_read (word_operand levels.Sum e.in_read)) (λ m v. fine_last _ (sum_fine m v)))
          (λ s m h. inl h)

  and_fine : (s : At) → s.marked ≡ false → Fine Tree e.in_read (ChainR levels.And e.in_read) s (reads.chain_of (reads.comparison e) levels.And s)
  and_fine = chain_fine levels.And (reads.comparison e) (λ s u. fine_as (comparison_fine s u) (λ s m h. (_, grammar.of_and h.1)))

  expr_fine : (s : At) → s.marked ≡ false → Fine Tree e.in_read (ExprR e.in_read) s (reads.expr e s)
  expr_fine s u = fine_as (chain_fine levels.Or (reads.operand e levels.Or) (λ s u. fine_as (and_fine s u) (λ s m h. (_, grammar.of_or h.1))) s u)
      (λ s m h. (_, grammar.expr h.1))

by_conditions_fine : (d : ℕ) (inner : ℕ → Bool → Parser Tree) → ((c : ℕ) (r : Bool) (s : At) → s.marked ≡ false → Fine Tree r (ExprR r) s (inner c r s))
    → (c : ℕ) (r : Bool) (s : At) → s.marked ≡ false → Fine Tree r (ExprR r) s (by_conditions d inner c r s)
by_conditions_fine d inner good zero r s u =
    expr_fine (record { room = d; in_read = r; conditions = zero; inner = inner zero; test = nowhere })
    (record { inner = good zero; test = λ s u. no_memory s }) s u
by_conditions_fine d inner good (suc c) r s u =
    expr_fine (record { room = d; in_read = r; conditions = suc c; inner = inner (suc c); test = by_conditions d inner c false })
    (record { inner = good (suc c); test = by_conditions_fine d inner good c false }) s u

expr_at_fine : (d c : ℕ) (r : Bool) (s : At) → s.marked ≡ false → Fine Tree r (ExprR r) s (expr_at d c r s)
expr_at_fine zero c r s u = by_conditions_fine zero (λ c r. nowhere) (λ c r s u. no_memory s) c r s u
expr_at_fine (suc d) c r s u = by_conditions_fine (suc d) (expr_at d) (expr_at_fine d) c r s u

inner_at_fine : (d c : ℕ) (r : Bool) (s : At) → s.marked ≡ false → Fine Tree r (ExprR r) s (inner_at d c r s)
inner_at_fine zero c r s u = no_memory s
inner_at_fine (suc d) c r s u = expr_at_fine d c r s u

test_at_fine : (d c : ℕ) (s : At) → s.marked ≡ false → Fine Tree false (ExprR false) s (test_at d c s)
test_at_fine d zero s u = no_memory s
test_at_fine d (suc c) s u = expr_at_fine d c false s u

-- a block that was read is a word of the grammar
pub block_is_fine : (r : Room) (s : At) → s.marked ≡ false → Fine BlockTree false BlockR s (reads.block (around r) s)
block_is_fine r s u = block_fine (around r) (record { inner = inner_at_fine r.brackets r.conditions; test = test_at_fine r.brackets r.conditions }) s u
