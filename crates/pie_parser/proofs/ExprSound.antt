-- An expression that is read is one of the grammar.
use Rattle.std.proofs.Common.{◌≡◌, ◌⊎◌, inl, inr, ℕ, zero, suc, Bool, true, false, cond, ◌==◌, List, [], ◌∷◌, ◌++◌, length, Option, Some, None, refl, sym}
use Rattle.std.proofs.Common.{subst, ap, ◌∙◌}
use Rattle.pie_parser.specs.declared.kind.Kind.{Kind}
use Rattle.pie_parser.specs.declared.kind.Kind.TheVariants as kinds
use Rattle.pie_parser.specs.declared.chain.Level.{Level}
use Rattle.pie_parser.specs.declared.chain.Level.TheVariants as levels
use Rattle.pie_parser.specs.declared.error.ParseFault.TheVariants.{Expected, OutOfMemory}
use Rattle.pie_parser.specs.declared.tree.Name.{Name}
use Rattle.pie_parser.specs.declared.tree.Index.{Index}
use Rattle.pie_parser.specs.declared.tree.Step.{Step}
use Rattle.pie_parser.specs.declared.tree.Line.{Line}
use Rattle.pie_parser.specs.declared.tree.Line.TheVariants as line_kinds
use Rattle.pie_parser.specs.declared.tree.Operator.{Operator}
use Rattle.pie_parser.specs.declared.tree.Comparison.{Comparison}
use Rattle.pie_parser.specs.declared.tree.Prefix.{Prefix}
use Rattle.pie_parser.specs.declared.tree.CallKind.{CallKind}
use Rattle.pie_parser.specs.declared.tree.CallKind.TheVariants as calls
use Rattle.pie_parser.specs.declared.tree.EffectKind.{EffectKind}
use Rattle.pie_parser.specs.declared.tree.EffectKind.TheVariants as effects
use Rattle.pie_parser.specs.declared.reader.Room.{Room}
use Rattle.pie_parser.specs.Kinds.{is}
use Rattle.pie_parser.specs.Tests.{operator_at, comparison_at, prefix_at, effect_at}
use Rattle.pie_lexer.specs.declared.token.Token.{Token}
use Rattle.pie_lexer.specs.declared.token.TokenKind.{TokenKind}
use Rattle.pie_lexer.specs.declared.token.TokenKind.TheVariants as tokens
use Rattle.pie_parser.specs.declared.tree.Literal.{Literal}
use Rattle.pie_parser.specs.Plain.{Tree, TLiteral, TName, TTuple, TList, TIf, TCall, TCompare, BlockTree, NoElse, AnElse}
use Rattle.pie_parser.specs.TreeView.{trees_of}
use Rattle.pie_parser.specs.At.{At}
use Rattle.pie_parser.specs.Places.{Parsed, Got, Miss, Parser, then_on, Passed, next, start, passed, want, open_bracket, name, index}
use Rattle.pie_parser.specs.inner.Turns.{Turn, Stop, Part, all_behind}
use Rattle.pie_parser.specs.inner.Pieces.{Piece, ALine, TheLast, on_piece, onto_lines}
use Rattle.pie_parser.specs.TypeReading.{plain_type, written_type, inner_type}
use Rattle.pie_parser.specs.ExprReading as reads
use Rattle.pie_parser.specs.ExprReading.{Around, around, by_conditions, expr_at, inner_at, test_at, nowhere, chain, projection}
use Rattle.pie_parser.specs.TypeGrammar.{Eats, IsName, IsType, IsPlain}
use Rattle.pie_parser.specs.Grammar as grammar
use Rattle.pie_parser.specs.Grammar.{IsIndex, Indices, ByOfRequire, ByOfRead, IsExpr, IsChain, IsOperand, Steps, IsComparison, IsPrefixed, IsProjected}
use Rattle.pie_parser.specs.Grammar.{IsPrimary, Arguments, More, IsBlock, Lines}
use Rattle.pie_parser.proofs.Readings.{is_same, is_other, chosen, got_same, as_got, missed, bound, eaten, opened, part_same, stopped, folded_behind}
use Rattle.pie_parser.proofs.TypesSound.{type_is_written, plain_is_written}

indices_sound : (s m : At) (ns : List Index) → reads.indices s ≡ Got ns m → Indices s m ns
indices_sound s m ns h = let z = folded_behind reads.another_index Indices (λ s. grammar.no_index) one [] ns s m h in subst (Indices s m) (sym z.2) z.1
  where
    one : (s a m : At) (x : Index) (ys : List Index) → reads.another_index s ≡ Part (Got x a) → Indices a m ys → Indices s m (x ∷ ys)
    one s a m x ys e q = elim (chosen (is (next s) kinds.Dot) (Part (index (passed s))) Stop (Part (Got x a)) e) [
      | inl c ↦ grammar.an_index (is_same (next s) kinds.Dot c.0, refl) (part_same c.1) q
      | inr c ↦ stopped c.1
    ]

read_by_sound : (s m : At) (k : EffectKind) → next s ≡ kinds.By → reads.read_by (passed s) (next (passed s)) ≡ Got k m → ByOfRead s m k
read_by_sound s m k b h = by_kind (next (passed s)) refl h
  where
    by_kind : (j : Kind) → next (passed s) ≡ j → reads.read_by (passed s) j ≡ Got k m → ByOfRead s m k
    by_kind kinds.Hash e h = as_got (ByOfRead s) h (grammar.by_hash (b, refl) (e, refl))
    by_kind kinds.Mark e h = as_got (ByOfRead s) h (grammar.by_mark (b, refl) (e, refl))
    by_kind j e h = missed h

by_of_read_sound : (s m : At) (k : EffectKind) → reads.by_of_read s ≡ Got k m → ByOfRead s m k
by_of_read_sound s m k h = elim (chosen s.marked (Got effects.ReadByMark (record s { marked = false })) _ (Got k m) h) [
  | inl c ↦ as_got (ByOfRead s) c.1 (grammar.marked c.0)
  | inr c ↦ elim (chosen (is (next s) kinds.By) (reads.read_by (passed s) (next (passed s))) (Got effects.Read s) (Got k m) c.1) [
    | inl d ↦ read_by_sound s m k (is_same (next s) kinds.By d.0) d.1
    | inr d ↦ as_got (ByOfRead s) d.1 grammar.nothing
  ]
]

by_of_require_sound : (r : Bool) (s m : At) (k : CallKind) → reads.by_of_require r s ≡ Got k m → ByOfRequire r s m k
by_of_require_sound r s m k h = elim (chosen (is (next s) kinds.By) _ (Got calls.Require s) (Got k m) h) [
  | inr c ↦ as_got (ByOfRequire r s) c.1 (grammar.nothing (is_other (next s) kinds.By c.0))
  | inl c ↦ elim (chosen (is (next (passed s)) kinds.Hash) (Got calls.RequireByHash (passed (passed s))) _ (Got k m) c.1) [
    | inl d ↦ as_got (ByOfRequire r s) d.1 (grammar.by_hash (is_same (next s) kinds.By c.0, refl) (is_same (next (passed s)) kinds.Hash d.0, refl))
    | inr d ↦ mark r (is_same (next s) kinds.By c.0) d.1
  ]
]
  where
    mark : (r : Bool) → next s ≡ kinds.By → cond r (then_on (want kinds.Mark (passed s))
        (λ _ m. Got calls.Require (record m { past = s.past; marked = true }))) (Miss Expected (passed s)) ≡ Got k m
        → ByOfRequire r s m k
    mark true b h =
        let x = bound (want kinds.Mark (passed s)) (λ _ m. Got calls.Require (record m { past = s.past; marked = true })) k m h in
        as_got (ByOfRequire true s) x.3 (grammar.passes_mark (b, refl) (eaten kinds.Mark (passed s) x.1 x.0 x.2))
    mark false b h = missed h

literal_stays : (s a : At) (l : Literal) → reads.literal_here s ≡ Got l a → a ≡ s
literal_stays s a l h = elim (chosen s.marked (Miss Expected s) (reads.literal_in s s.rest) (Got l a) h) [
  | inl c ↦ missed c.1
  | inr c ↦ by_rest s.rest c.1
]
  where
    by_kind : (k : TokenKind) → reads.literal_by s k ≡ Got l a → a ≡ s
    by_kind (tokens.Int n) h = sym (got_same h).1
    by_kind (tokens.Text t) h = sym (got_same h).1
    by_kind tokens.True h = sym (got_same h).1
    by_kind tokens.False h = sym (got_same h).1
    by_kind tokens.UnitWord h = sym (got_same h).1
    by_kind k h = missed h

    by_rest : (ts : List Token) → reads.literal_in s ts ≡ Got l a → a ≡ s
    by_rest [] h = missed h
    by_rest (t ∷ ts) h = by_kind t.kind h

-- the readings inside a bracket and of a condition are of the grammar
record Good (e : Around) : Type 0 where
  inner : (r : Bool) (s m : At) (t : Tree) → e.inner r s ≡ Got t m → IsExpr r s m t
  test : (s m : At) (t : Tree) → e.test s ≡ Got t m → IsExpr false s m t

module _ (e : Around) (g : Good e) where
  more_sound : (t : Tree) (zs : List Tree) (s m : At) → reads.listed e t s ≡ Got zs m → (ys : List Tree) × More s m ys × (zs ≡ t ∷ ys)
  more_sound t zs s m h = folded_behind (reads.another e) More (λ s. grammar.no_more) one (t ∷ []) zs s m h
    where
      one : (s a m : At) (x : Tree) (ys : List Tree) → reads.another e s ≡ Part (Got x a) → More a m ys → More s m (x ∷ ys)
      one s a m x ys q k = elim (chosen (is (next s) kinds.Comma) (Part (e.inner false (passed s))) Stop (Part (Got x a)) q) [
        | inl c ↦ grammar.one_more (is_same (next s) kinds.Comma c.0, refl) (g.inner false (passed s) a x (part_same c.1)) k
        | inr c ↦ stopped c.1
      ]

  arguments_sound : (s m : At) (ts : List Tree) → reads.arguments e s ≡ Got ts m → Arguments s m ts
  arguments_sound s m ts h =
      let b0 = bound (open_bracket kinds.OpenRound e.room s) _ ts m h in
      elim (chosen (is (next b0.1) kinds.CloseRound) (Got [] (passed b0.1)) _ (Got ts m) b0.3) [
        | inl c ↦ as_got (Arguments s) c.1 (grammar.none (opened kinds.OpenRound e.room s b0.1 b0.0 b0.2) (is_same (next b0.1) kinds.CloseRound c.0, refl))
        | inr c ↦ some b0.1 (opened kinds.OpenRound e.room s b0.1 b0.0 b0.2) c.1
      ]
    where
      some : (a : At) → Eats kinds.OpenRound s a → then_on (e.inner false a)
          (λ t b. then_on (reads.listed e t b) (λ xs c. then_on (want kinds.CloseRound c) (λ _ k. Got xs k))) ≡ Got ts m → Arguments s m ts
      some a q h =
          let b = bound (e.inner false a) _ ts m h in
          let c = bound (reads.listed e b.0 b.1) _ ts m b.3 in
          let d = bound (want kinds.CloseRound c.1) _ ts m c.3 in
          let z = more_sound b.0 c.0 b.1 c.1 c.2 in
          as_got (Arguments s) (ap (λ xs. Got xs d.1) (sym z.2) ∙ d.3)
          (grammar.some q (g.inner false a b.1 b.0 b.2) z.1 (eaten kinds.CloseRound c.1 d.1 d.0 d.2))

  call_sound : (i : ℕ) (k : CallKind) (n : Name) (s m : At) (t : Tree) → reads.call e i k n s ≡ Got t m → (ts : List Tree) × Arguments s m ts
      × (t ≡ TCall i m.past k n (trees_of ts))
  call_sound i k n s m t h =
      let b = bound (reads.arguments e s) _ t m h in
      let x = got_same b.3 in
      (b.0, subst (λ z. Arguments s z b.0) x.1 (arguments_sound s b.1 b.0 b.2), sym x.0 ∙ ap (λ (z : At). TCall i z.past k n (trees_of b.0)) x.1)

  name_or_call_sound : (s m : At) (t : Tree) → reads.name_or_call e s ≡ Got t m → IsPrimary e.in_read s m t
  name_or_call_sound s m t h =
      let b = bound (name s) _ t m h in
      elim (chosen (is (next b.1) kinds.OpenRound) (reads.call e b.0.at calls.Plain b.0 b.1) (Got (TName b.0.at b.0.end b.0.text) b.1) (Got t m) b.3) [
        | inl c ↦ (let z = call_sound b.0.at calls.Plain b.0 b.1 m t c.1 in subst (IsPrimary e.in_read s m) (sym z.2) (grammar.call b.2 z.1))
        | inr c ↦ as_got (IsPrimary e.in_read s) c.1 (grammar.a_name b.2)
      ]

  null_sound : (s m : At) (t : Tree) → reads.null e s ≡ Got t m → IsPrimary e.in_read s m t
  null_sound s m t h =
      let b0 = bound (want kinds.Null s) _ t m h in
      let b1 = bound (plain_type e.room (inner_type e.room) b0.1) _ t m b0.3 in
      as_got (IsPrimary e.in_read s) b1.3 (grammar.null (eaten kinds.Null s b0.1 b0.0 b0.2) (plain_is_written e.room b0.1 b1.1 b1.0 b1.2))

  empty_sound : (s m : At) (t : Tree) → reads.empty e s ≡ Got t m → IsPrimary e.in_read s m t
  empty_sound s m t h =
      let b0 = bound (want kinds.Empty s) _ t m h in
      let b1 = bound (written_type e.room (inner_type e.room) b0.1) _ t m b0.3 in
      as_got (IsPrimary e.in_read s) b1.3 (grammar.empty (eaten kinds.Empty s b0.1 b0.0 b0.2) (type_is_written e.room b0.1 b1.1 b1.0 b1.2))

  read_sound : (s m : At) (t : Tree) → reads.read e s ≡ Got t m → IsPrimary e.in_read s m t
  read_sound s m t h =
      let b0 = bound (want kinds.Read s) _ t m h in
      let b1 = bound (open_bracket kinds.OpenRound e.room b0.1) _ t m b0.3 in
      let b2 = bound (e.inner true b1.1) _ t m b1.3 in
      let b3 = bound (reads.by_of_read b2.1) _ t m b2.3 in
      let b4 = bound (want kinds.CloseRound b3.1) _ t m b3.3 in
      as_got (IsPrimary e.in_read s) b4.3 (grammar.read (eaten kinds.Read s b0.1 b0.0 b0.2) (opened kinds.OpenRound e.room b0.1 b1.1 b1.0 b1.2)
      (g.inner true b1.1 b2.1 b2.0 b2.2) (by_of_read_sound b2.1 b3.1 b3.0 b3.2) (eaten kinds.CloseRound b3.1 b4.1 b4.0 b4.2))

  write_sound : (s m : At) (t : Tree) → reads.write e s ≡ Got t m → IsPrimary e.in_read s m t
  write_sound s m t h =
      let b0 = bound (want kinds.Write s) _ t m h in
      let b1 = bound (open_bracket kinds.OpenRound e.room b0.1) _ t m b0.3 in
      let b2 = bound (e.inner false b1.1) _ t m b1.3 in
      let b3 = bound (want kinds.Comma b2.1) _ t m b2.3 in
      let b4 = bound (e.inner false b3.1) _ t m b3.3 in
      let b5 = bound (want kinds.CloseRound b4.1) _ t m b4.3 in
      as_got (IsPrimary e.in_read s) b5.3 (grammar.write (eaten kinds.Write s b0.1 b0.0 b0.2) (opened kinds.OpenRound e.room b0.1 b1.1 b1.0 b1.2)
      (g.inner false b1.1 b2.1 b2.0 b2.2) (eaten kinds.Comma b2.1 b3.1 b3.0 b3.2) (g.inner false b3.1 b4.1 b4.0 b4.2)
      (eaten kinds.CloseRound b4.1 b5.1 b5.0 b5.2))

  fail_sound : (s m : At) (t : Tree) → reads.fail e s ≡ Got t m → IsPrimary e.in_read s m t
  fail_sound s m t h =
      let b0 = bound (want kinds.Fail s) _ t m h in
      let b1 = bound (written_type e.room (inner_type e.room) b0.1) _ t m b0.3 in
      let b2 = bound (open_bracket kinds.OpenRound e.room b1.1) _ t m b1.3 in
      let b3 = bound (e.inner false b2.1) _ t m b2.3 in
      let b4 = bound (want kinds.CloseRound b3.1) _ t m b3.3 in
      as_got (IsPrimary e.in_read s) b4.3 (grammar.fail (eaten kinds.Fail s b0.1 b0.0 b0.2) (type_is_written e.room b0.1 b1.1 b1.0 b1.2)
      (opened kinds.OpenRound e.room b1.1 b2.1 b2.0 b2.2) (g.inner false b2.1 b3.1 b3.0 b3.2) (eaten kinds.CloseRound b3.1 b4.1 b4.0 b4.2))

  require_sound : (s m : At) (t : Tree) → reads.require e s ≡ Got t m → IsPrimary e.in_read s m t
  require_sound s m t h =
      let b0 = bound (want kinds.Require s) _ t m h in
      let b1 = bound (name b0.1) _ t m b0.3 in
      let b2 = bound (reads.arguments e b1.1) _ t m b1.3 in
      let b3 = bound (reads.by_of_require e.in_read b2.1) _ t m b2.3 in
      as_got (IsPrimary e.in_read s) b3.3 (grammar.require (eaten kinds.Require s b0.1 b0.0 b0.2) (b1.2) (arguments_sound b1.1 b2.1 b2.0 b2.2)
      (by_of_require_sound e.in_read b2.1 b3.1 b3.0 b3.2))

  run_sound : (s m : At) (t : Tree) → reads.run e s ≡ Got t m → IsPrimary e.in_read s m t
  run_sound s m t h =
      let b = bound (want kinds.Run s) _ t m h in
      let c = bound (name b.1) _ t m b.3 in
      let z = call_sound (start s) calls.Run c.0 c.1 m t c.3 in
      subst (IsPrimary e.in_read s m) (sym z.2) (grammar.run (eaten kinds.Run s b.1 b.0 b.2) c.2 z.1)

  rounds_sound : (s m : At) (t : Tree) → reads.rounds e s ≡ Got t m → IsPrimary e.in_read s m t
  rounds_sound s m t h =
      let b = bound (open_bracket kinds.OpenRound e.room s) _ t m h in
      let q = opened kinds.OpenRound e.room s b.1 b.0 b.2 in
      let c = bound (e.inner false b.1) _ t m b.3 in
      let x = g.inner false b.1 c.1 c.0 c.2 in
      elim (chosen (is (next c.1) kinds.Comma) _ _ (Got t m) c.3) [
        | inl d ↦ items b.1 c.1 c.0 q x (is_same (next c.1) kinds.Comma d.0) d.1
        | inr d ↦ (let f = bound (want kinds.CloseRound c.1) _ t m d.1 in
            as_got (IsPrimary e.in_read s) f.3 (grammar.brackets q x (eaten kinds.CloseRound c.1 f.1 f.0 f.2)))
      ]
    where
      items : (a b : At) (u : Tree) → Eats kinds.OpenRound s a → IsExpr false a b u → next b ≡ kinds.Comma
          → then_on (reads.listed e u b) (λ ts c. then_on (want kinds.CloseRound c) (λ _ k. Got (TTuple (start s) k.past (trees_of ts)) k)) ≡ Got t m
          → IsPrimary e.in_read s m t
      items a b u q x k h =
          let c = bound (reads.listed e u b) _ t m h in
          let d = bound (want kinds.CloseRound c.1) _ t m c.3 in
          let z = more_sound u c.0 b c.1 c.2 in
          as_got (IsPrimary e.in_read s) (ap (λ xs. Got (TTuple (start s) d.1.past (trees_of xs)) d.1) (sym z.2) ∙ d.3)
          (grammar.tuple q x k z.1 (eaten kinds.CloseRound c.1 d.1 d.0 d.2))

  squares_sound : (s m : At) (t : Tree) → reads.squares e s ≡ Got t m → IsPrimary e.in_read s m t
  squares_sound s m t h =
      let b = bound (open_bracket kinds.OpenSquare e.room s) _ t m h in
      let q = opened kinds.OpenSquare e.room s b.1 b.0 b.2 in
      let c = bound (e.inner false b.1) _ t m b.3 in
      let x = g.inner false b.1 c.1 c.0 c.2 in
      elim (chosen (is (next c.1) kinds.For) (reads.each e (start s) c.0 c.1) _ (Got t m) c.3) [
        | inl d ↦ each b.1 c.1 c.0 q x d.1
        | inr d ↦ items b.1 c.1 c.0 q x d.1
      ]
    where
      each : (a b : At) (u : Tree) → Eats kinds.OpenSquare s a → IsExpr false a b u → reads.each e (start s) u b ≡ Got t m → IsPrimary e.in_read s m t
      each a b u q x h =
          let c = bound (want kinds.For b) _ t m h in
          let d = bound (name c.1) _ t m c.3 in
          let f = bound (want kinds.In d.1) _ t m d.3 in
          let i = bound (e.inner false f.1) _ t m f.3 in
          let j = bound (want kinds.CloseSquare i.1) _ t m i.3 in
          as_got (IsPrimary e.in_read s) j.3 (grammar.each q x (eaten kinds.For b c.1 c.0 c.2) d.2 (eaten kinds.In d.1 f.1 f.0 f.2)
          (g.inner false f.1 i.1 i.0 i.2) (eaten kinds.CloseSquare i.1 j.1 j.0 j.2))

      items : (a b : At) (u : Tree) → Eats kinds.OpenSquare s a → IsExpr false a b u
          → then_on (reads.listed e u b) (λ ts c. then_on (want kinds.CloseSquare c) (λ _ k. Got (TList (start s) k.past (trees_of ts)) k)) ≡ Got t m
          → IsPrimary e.in_read s m t
      items a b u q x h =
          let c = bound (reads.listed e u b) _ t m h in
          let d = bound (want kinds.CloseSquare c.1) _ t m c.3 in
          let z = more_sound u c.0 b c.1 c.2 in
          as_got (IsPrimary e.in_read s) (ap (λ xs. Got (TList (start s) d.1.past (trees_of xs)) d.1) (sym z.2) ∙ d.3)
          (grammar.list q x z.1 (eaten kinds.CloseSquare c.1 d.1 d.0 d.2))

  effect_sound : (s m : At) (t : Tree) → reads.effect e s ≡ Got t m → IsPrimary e.in_read s m t
  effect_sound s m t h = by_effect (effect_at (next s)) refl h
    where
      by_effect : (o : Option EffectKind) → effect_at (next s) ≡ o → reads.effect_by e s o ≡ Got t m → IsPrimary e.in_read s m t
      by_effect None q h = missed h
      by_effect (Some k) q h =
          let b = bound (open_bracket kinds.OpenRound e.room (passed s)) _ t m h in
          let c = bound (e.inner false b.1) _ t m b.3 in
          let d = bound (want kinds.CloseRound c.1) _ t m c.3 in
          as_got (IsPrimary e.in_read s) d.3 (grammar.effect q (opened kinds.OpenRound e.room (passed s) b.1 b.0 b.2) (g.inner false b.1 c.1 c.0 c.2)
          (eaten kinds.CloseRound c.1 d.1 d.0 d.2))

  -- what a line before others makes of lines
  line_sound : (s a m : At) (l : Line) (ls : List Line) (u : Option Tree) → reads.piece e s ≡ Part (Got (ALine l) a) → Lines a m ls u → Lines s m (l ∷ ls) u
  line_sound s a m l ls u h q = by_kind (next s) h
    where
      val_line : (x : Line) (k : At) → reads.val e s ≡ Got x k → Got (ALine x) k ≡ Got (ALine l) a → Lines s m (l ∷ ls) u
      val_line x k h j =
          let w = got_same j in
          let same : x ≡ l = (let v = w.0 in cc) in
          let b = bound (want kinds.Val s) _ x k h in
          let c = bound (name b.1) _ x k b.3 in
          let d = bound (want kinds.Assign c.1) _ x k c.3 in
          let f = bound (e.inner false d.1) _ x k d.3 in
          let i = bound (want kinds.Semicolon f.1) _ x k f.3 in
          let n = got_same i.3 in
          let rest : Lines i.1 m ls u = subst (λ z. Lines z m ls u) (sym (n.1 ∙ w.1)) q in
          subst (λ z. Lines s m (z ∷ ls) u) (n.0 ∙ same)
          (grammar.a_val (eaten kinds.Val s b.1 b.0 b.2) c.2 (eaten kinds.Assign c.1 d.1 d.0 d.2) (g.inner false d.1 f.1 f.0 f.2)
          (eaten kinds.Semicolon f.1 i.1 i.0 i.2) rest)

      expr_line : reads.expr_piece e s ≡ Got (ALine l) a → Lines s m (l ∷ ls) u
      expr_line h =
          let b = bound (e.inner false s) _ (ALine l) a h in
          elim (chosen (is (next b.1) kinds.Semicolon) (Got (ALine (line_kinds.Expr b.0)) (passed b.1)) (Got (TheLast b.0) b.1) (Got (ALine l) a) b.3) [
            | inl c ↦ (let w = got_same c.1 in
                let same : line_kinds.Expr b.0 ≡ l = (let v = w.0 in cc) in
                subst (λ z. Lines s m (z ∷ ls) u) same (grammar.an_expr (g.inner false s b.1 b.0 b.2) (is_same (next b.1) kinds.Semicolon c.0, refl)
                (subst (λ z. Lines z m ls u) (sym w.1) q)))
            | inr c ↦ (let w = got_same c.1 in let v = w.0 in absurd cc)
          ]

      by_kind : (k : Kind) → reads.piece_by e s k ≡ Part (Got (ALine l) a) → Lines s m (l ∷ ls) u
      by_kind kinds.CloseBrace h = stopped h
      by_kind kinds.Val h = (let b = bound (reads.val e s) (λ x k. Got (ALine x) k) (ALine l) a (part_same h) in val_line b.0 b.1 b.2 b.3)
      by_kind k h = expr_line (part_same h)

  last_sound : (s m : At) (t : Tree) → reads.piece e s ≡ Part (Got (TheLast t) m) → IsExpr false s m t
  last_sound s m t h = by_kind (next s) h
    where
      last : reads.expr_piece e s ≡ Got (TheLast t) m → IsExpr false s m t
      last h =
          let b = bound (e.inner false s) _ (TheLast t) m h in
          elim (chosen (is (next b.1) kinds.Semicolon) (Got (ALine (line_kinds.Expr b.0)) (passed b.1)) (Got (TheLast b.0) b.1) (Got (TheLast t) m) b.3) [
            | inl c ↦ (let w = got_same c.1 in let v = w.0 in absurd cc)
            | inr c ↦ (let w = got_same c.1 in
                let same : b.0 ≡ t = (let v = w.0 in cc) in
                subst (IsExpr false s m) same (subst (λ z. IsExpr false s z b.0) w.1 (g.inner false s b.1 b.0 b.2)))
          ]

      by_kind : (k : Kind) → reads.piece_by e s k ≡ Part (Got (TheLast t) m) → IsExpr false s m t
      by_kind kinds.CloseBrace h = stopped h
      by_kind kinds.Val h = (let b = bound (reads.val e s) (λ x k. Got (ALine x) k) (TheLast t) m (part_same h) in let w = got_same b.3 in let v = w.0 in
          absurd cc)
      by_kind k h = last (part_same h)

  -- lines as one value
  abbrev LinesOf : At → At → List Line × Option Tree → Type 0
  LinesOf s m x = Lines s m x.0 x.1

  pieces_sound : (n : ℕ) (s m : At) (x : List Line × Option Tree) → reads.pieces e n s ≡ Got x m → LinesOf s m x
  pieces_sound zero s m x h = as_got (LinesOf s) h grammar.no_line
  pieces_sound (suc n) s m x h = by_piece n s m x (reads.piece e s) refl h (pieces_sound n)
    where
      by_piece : (n : ℕ) (s m : At) (x : List Line × Option Tree) (t : Turn Piece) → reads.piece e s ≡ t → on_piece t s (reads.pieces e n) ≡ Got x m
          → ((a k : At) (y : List Line × Option Tree) → reads.pieces e n a ≡ Got y k → LinesOf a k y) → LinesOf s m x
      by_piece n s m x Stop q h again = as_got (LinesOf s) h grammar.no_line
      by_piece n s m x (Part (Miss f a)) q h again = missed h
      by_piece n s m x (Part (Got (TheLast t) a)) q h again = as_got (LinesOf s) h (grammar.the_last (last_sound s a t q))
      by_piece n s m x (Part (Got (ALine l) a)) q h again =
          let b = bound (reads.pieces e n a) (λ y k. Got (l ∷ y.0, y.1) k) x m h in
          as_got (LinesOf s) b.3 (line_sound s a b.1 l b.0.0 b.0.1 q (again a b.1 b.0 b.2))

  all_pieces_sound : (s m : At) (x : List Line × Option Tree) → reads.all_pieces e s ≡ Got x m → LinesOf s m x
  all_pieces_sound s m x h = by_answer (reads.pieces e (length s.rest) s) refl h
    where
      by_answer : (p : Parsed (List Line × Option Tree)) → reads.pieces e (length s.rest) s ≡ p → onto_lines [] p ≡ Got x m → LinesOf s m x
      by_answer (Got y k) q h = as_got (LinesOf s) h (pieces_sound (length s.rest) s k y q)
      by_answer (Miss f k) q h = missed h

  block_sound : (s m : At) (t : BlockTree) → reads.block e s ≡ Got t m → IsBlock s m t
  block_sound s m t h =
      let b = bound (open_bracket kinds.OpenBrace e.room s) _ t m h in
      let c = bound (reads.all_pieces e b.1) _ t m b.3 in
      let d = bound (want kinds.CloseBrace c.1) _ t m c.3 in
      as_got (IsBlock s) d.3 (grammar.block (opened kinds.OpenBrace e.room s b.1 b.0 b.2) (all_pieces_sound b.1 c.1 c.0 c.2)
      (eaten kinds.CloseBrace c.1 d.1 d.0 d.2))

  condition_sound : (s m : At) (t : Tree) → reads.condition e s ≡ Got t m → IsPrimary e.in_read s m t
  condition_sound s m t h = elim (chosen (e.conditions == 0) (Miss OutOfMemory s) _ (Got t m) h) [
    | inl c ↦ missed c.1
    | inr c ↦ tested c.1
  ]
    where
      tested : then_on (want kinds.If s) (λ _ a. then_on (e.test a) (λ u b. reads.branches e (start s) u b)) ≡ Got t m → IsPrimary e.in_read s m t
      tested h =
          let b = bound (want kinds.If s) _ t m h in
          let c = bound (e.test b.1) _ t m b.3 in
          let q = eaten kinds.If s b.1 b.0 b.2 in
          let x = g.test b.1 c.1 c.0 c.2 in
          let d = bound (reads.block e c.1) _ t m c.3 in
          let y = block_sound c.1 d.1 d.0 d.2 in
          elim (chosen (is (next d.1) kinds.Else) (then_on (reads.block e (passed d.1)) (λ u k. Got (TIf (start s) k.past c.0 d.0 (AnElse u)) k))
          (Got (TIf (start s) d.1.past c.0 d.0 NoElse) d.1) (Got t m) d.3) [
            | inl f ↦ (let i = bound (reads.block e (passed d.1)) (λ u k. Got (TIf (start s) k.past c.0 d.0 (AnElse u)) k) t m f.1 in
                as_got (IsPrimary e.in_read s) i.3 (grammar.if_else q x y (is_same (next d.1) kinds.Else f.0, refl) (block_sound (passed d.1) i.1 i.0 i.2)))
            | inr f ↦ as_got (IsPrimary e.in_read s) f.1 (grammar.if_alone q x y)
          ]

  literal_sound : (s m : At) (t : Tree) → reads.literal s ≡ Got t m → IsPrimary e.in_read s m t
  literal_sound s m t h =
      let b = bound (reads.literal_here s) _ t m h in
      let k = literal_stays s b.1 b.0 b.2 in
      as_got (IsPrimary e.in_read s) (subst (λ (z : At). Got (TLiteral (start s) (passed z).past b.0) (passed z) ≡ Got t m) k b.3)
      (grammar.literal (subst (λ z. reads.literal_here s ≡ Got b.0 z) k b.2))

  primary_sound : (s m : At) (t : Tree) → reads.primary e s ≡ Got t m → IsPrimary e.in_read s m t
  primary_sound s m t h = by_kind (next s) h
    where
      by_kind : (k : Kind) → reads.primary_by e s k ≡ Got t m → IsPrimary e.in_read s m t
      by_kind kinds.Name h = name_or_call_sound s m t h
      by_kind kinds.Null h = null_sound s m t h
      by_kind kinds.Empty h = empty_sound s m t h
      by_kind kinds.OpenRound h = rounds_sound s m t h
      by_kind kinds.OpenSquare h = squares_sound s m t h
      by_kind kinds.If h = condition_sound s m t h
      by_kind kinds.Path h = effect_sound s m t h
      by_kind kinds.Exists h = effect_sound s m t h
      by_kind kinds.Digest h = effect_sound s m t h
      by_kind kinds.List h = effect_sound s m t h
      by_kind kinds.Read h = read_sound s m t h
      by_kind kinds.Write h = write_sound s m t h
      by_kind kinds.Fail h = fail_sound s m t h
      by_kind kinds.Require h = require_sound s m t h
      by_kind kinds.Run h = run_sound s m t h
      by_kind k h = literal_sound s m t h

  projected_sound : (s m : At) (t : Tree) → reads.projected e s ≡ Got t m → IsProjected e.in_read s m t
  projected_sound s m t h =
      let b = bound (reads.primary e s) _ t m h in
      let c = bound (reads.indices b.1) _ t m b.3 in
      as_got (IsProjected e.in_read s) c.3 (grammar.projected (primary_sound s b.1 b.0 b.2) (indices_sound b.1 c.1 c.0 c.2) refl)

  prefixed_sound : (s m : At) (t : Tree) → reads.prefixed e s ≡ Got t m → IsPrefixed e.in_read s m t
  prefixed_sound s m t h = by_prefix (prefix_at (next s)) refl h
    where
      by_prefix : (o : Option Prefix) → prefix_at (next s) ≡ o → reads.prefixed_by e s o ≡ Got t m → IsPrefixed e.in_read s m t
      by_prefix None q h = grammar.plain (projected_sound s m t h)
      by_prefix (Some p) q h = (let b = bound (reads.projected e (passed s)) _ t m h in
          as_got (IsPrefixed e.in_read s) b.3 (grammar.prefixed q (projected_sound (passed s) b.1 b.0 b.2)))

  chain_sound : (l : Level) (part : Parser Tree) → ((s m : At) (t : Tree) → part s ≡ Got t m → IsOperand l e.in_read s m t)
      → (s m : At) (t : Tree) → reads.chain_of part l s ≡ Got t m → IsChain l e.in_read s m t
  chain_sound l part good s m t h =
      let b = bound (part s) _ t m h in
      let c = bound (all_behind [] (reads.another_step part l) b.1) _ t m b.3 in
      let z = folded_behind (reads.another_step part l) (Steps l e.in_read) (λ s. grammar.no_step) one [] c.0 b.1 c.1 c.2 in
      as_got (IsChain l e.in_read s) c.3 (grammar.chained (good s b.1 b.0 b.2) (subst (Steps l e.in_read b.1 c.1) (sym z.2) z.1) refl)
    where
      by_operator : (s a m : At) (x : Step) (ys : List Step) (o : Option Operator) → operator_at l (next s) ≡ o → reads.step_by part s o ≡ Part (Got x a)
          → Steps l e.in_read a m ys → Steps l e.in_read s m (x ∷ ys)
      by_operator s a m x ys None q h k = stopped h
      by_operator s a m x ys (Some o) q h k =
          let b = bound (part (passed s)) (λ u i. Got (record { operator = o; operand = u }) i) x a (part_same h) in
          let w = got_same b.3 in
          subst (λ z. Steps l e.in_read s m (z ∷ ys)) w.0 (grammar.a_step q (good (passed s) b.1 b.0 b.2) (subst (λ z. Steps l e.in_read z m ys) (sym w.1) k))

      one : (s a m : At) (x : Step) (ys : List Step) → reads.another_step part l s ≡ Part (Got x a) → Steps l e.in_read a m ys → Steps l e.in_read s m (x ∷ ys)
      one s a m x ys h k = by_operator s a m x ys (operator_at l (next s)) refl h k

  sum_sound : (s m : At) (t : Tree) → reads.sum e s ≡ Got t m → IsChain levels.Sum e.in_read s m t
  sum_sound s m t h = chain_sound levels.Sum (reads.chain_of (reads.prefixed e) levels.Product)
      (λ s m t h. grammar.of_sum (chain_sound levels.Product (reads.prefixed e) (λ s m t h. grammar.of_product (prefixed_sound s m t h)) s m t h)) s m t h

  comparison_sound : (s m : At) (t : Tree) → reads.comparison e s ≡ Got t m → IsComparison e.in_read s m t
  comparison_sound s m t h =
      let b = bound (reads.sum e s) _ t m h in by_comparison b.0 b.1 (sum_sound s b.1 b.0 b.2) (comparison_at (next b.1)) refl b.3
    where
      by_comparison : (u : Tree) (a : At) → IsChain levels.Sum e.in_read s a u → (o : Option Comparison) → comparison_at (next a) ≡ o
          → reads.compared e (start s) u a o ≡ Got t m → IsComparison e.in_read s m t
      by_comparison u a x None q h = as_got (IsComparison e.in_read s) h (grammar.alone x)
      by_comparison u a x (Some c) q h = (let b = bound (reads.sum e (passed a)) _ t m h in
          as_got (IsComparison e.in_read s) b.3 (grammar.compared x q (sum_sound (passed a) b.1 b.0 b.2)))

  expr_sound : (s m : At) (t : Tree) → reads.expr e s ≡ Got t m → IsExpr e.in_read s m t
  expr_sound s m t h = grammar.expr (chain_sound levels.Or (reads.operand e levels.Or)
      (λ s m t h. grammar.of_or (chain_sound levels.And (reads.comparison e) (λ s m t h. grammar.of_and (comparison_sound s m t h)) s m t h)) s m t h)

by_conditions_sound : (d : ℕ) (inner : ℕ → Bool → Parser Tree) → ((c : ℕ) (r : Bool) (s m : At) (t : Tree) → inner c r s ≡ Got t m → IsExpr r s m t)
    → (c : ℕ) (r : Bool) (s m : At) (t : Tree) → by_conditions d inner c r s ≡ Got t m → IsExpr r s m t
by_conditions_sound d inner good zero r s m t h =
    expr_sound (record { room = d; in_read = r; conditions = zero; inner = inner zero; test = nowhere })
    (record { inner = good zero; test = λ s m t h. missed h }) s m t h
by_conditions_sound d inner good (suc c) r s m t h =
    expr_sound (record { room = d; in_read = r; conditions = suc c; inner = inner (suc c); test = by_conditions d inner c false })
    (record { inner = good (suc c); test = by_conditions_sound d inner good c false }) s m t h

expr_at_sound : (d c : ℕ) (r : Bool) (s m : At) (t : Tree) → expr_at d c r s ≡ Got t m → IsExpr r s m t
expr_at_sound zero c r s m t h = by_conditions_sound zero (λ c r. nowhere) (λ c r s m t h. missed h) c r s m t h
expr_at_sound (suc d) c r s m t h = by_conditions_sound (suc d) (expr_at d) (expr_at_sound d) c r s m t h

inner_at_sound : (d c : ℕ) (r : Bool) (s m : At) (t : Tree) → inner_at d c r s ≡ Got t m → IsExpr r s m t
inner_at_sound zero c r s m t h = missed h
inner_at_sound (suc d) c r s m t h = expr_at_sound d c r s m t h

test_at_sound : (d c : ℕ) (s m : At) (t : Tree) → test_at d c s ≡ Got t m → IsExpr false s m t
test_at_sound d zero s m t h = missed h
test_at_sound d (suc c) s m t h = expr_at_sound d c false s m t h

-- a block that is read is one of the grammar
pub block_is_written : (r : Room) (s m : At) (t : BlockTree) → reads.block (around r) s ≡ Got t m → IsBlock s m t
block_is_written r s m t h = block_sound (around r)
    (record { inner = inner_at_sound r.brackets r.conditions; test = test_at_sound r.brackets r.conditions }) s m t h
