-- Types, projections and what stands behind `by` stand there too without their spans, and without the tokens behind.
use Rattle.std.proofs.Common.{ℕ, ◌<◌, ◌≤◌, Bool, List, length, sym, subst, ap, ◌∙◌, arith}
use Rattle.pie_parser.specs.declared.kind.Kind.TheVariants as kinds
use Rattle.pie_parser.specs.declared.tree.Index.{Index}
use Rattle.pie_parser.specs.declared.tree.CallKind.{CallKind}
use Rattle.pie_parser.specs.declared.tree.EffectKind.{EffectKind}
use Rattle.pie_parser.specs.PlainTypes.{TypeTree, PlainT, ListT, TupleT, NullableT, ConsT}
use Rattle.pie_parser.specs.TypeReading.{plain_at}
use Rattle.pie_parser.specs.At.{At}
use Rattle.pie_parser.specs.TypeGrammar as types
use Rattle.pie_parser.specs.TypeGrammar.{Eats, IsName, IsType, IsPlain, MoreTypes}
use Rattle.pie_parser.specs.Grammar as grammar
use Rattle.pie_parser.specs.Grammar.{IsIndex, Indices, ByOfRequire, ByOfRead, IsExpr, IsChain, IsOperand, Steps, IsComparison, IsPrefixed, IsProjected}
use Rattle.pie_parser.specs.Grammar.{IsPrimary, Arguments, More, IsBlock, Lines}
use Rattle.pie_parser.proofs.Hits.{Less}
use Rattle.pie_parser.proofs.Shorter.{index_less, type_less, more_types_count, indices_count}
use Rattle.pie_spelling_laws.specs.Spans.{bare_indices, bare_type}
use Rattle.pie_spelling_laws.proofs.Lengths.{plain_less}
use Rattle.pie_spelling_laws.proofs.Bare.{type_list, types_bare}
use Rattle.pie_spelling_laws.proofs.Places.{cut, start_cut, next_cut, passed_cut, next_whole, by_less, in_eats, eats_cut, name_cut, index_cut}

module _ (n : ℕ) where
  mutual
    pub type_cut : {s m : At} {t : TypeTree} → IsType s m t → n ≤ length m.rest → IsType (cut n s) (cut n m) (bare_type t)
    type_cut (types.plain x) l = types.plain (plain_cut x l)
    type_cut {s = s} {m = m} (types.nullable {a = a} {t = t} x q) l =
        let la = in_eats n kinds.Question (λ e. cc) (λ e. cc) a m q l in
        subst (λ i. IsType (cut n s) (cut n m) (NullableT i 0 (bare_type t))) (start_cut n s)
        (types.nullable (plain_cut x la) (eats_cut n kinds.Question (λ e. cc) (λ e. cc) a m q l))

    pub plain_cut : {s m : At} {t : TypeTree} → IsPlain s m t → n ≤ length m.rest → IsPlain (cut n s) (cut n m) (bare_type t)
    plain_cut {s = s} {m = m} (types.keyword {p = p} h e) l =
        let less : Less s m = plain_less (types.keyword h e) in
        let o : n < length s.rest = omega arith in
        subst (λ i. IsPlain (cut n s) (cut n m) (PlainT i 0 p)) (start_cut n s)
        (types.keyword (ap plain_at (next_cut n s o) ∙ h) (ap (cut n) e ∙ sym (passed_cut n s o)))
    plain_cut {s = s} {m = m} (types.named {n = x} h) l = types.named (name_cut n s m x h l)
    plain_cut {s = s} {m = m} (types.listed {a = a} {b = b} {t = t} q x p) l =
        let lb = in_eats n kinds.CloseSquare (λ e. cc) (λ e. cc) b m p l in
        let la = by_less n a b (type_less x) lb in
        subst (λ i. IsPlain (cut n s) (cut n m) (ListT i 0 (bare_type t))) (start_cut n s)
        (types.listed (eats_cut n kinds.OpenSquare (λ e. cc) (λ e. cc) s a q la) (type_cut x lb) (eats_cut n kinds.CloseSquare (λ e. cc) (λ e. cc) b m p l))
    plain_cut {s = s} {m = m} (types.tuple {a = a} {b = b} {c = c} {d = d} {e = e} {t = t} {u = u} {ts = ts} q x p y k z) l =
        let le = in_eats n kinds.CloseRound (λ e. cc) (λ e. cc) e m z l in
        let ld : n ≤ length d.rest = omega (arith, more_types_count k) in
        let lc = by_less n c d (type_less y) ld in
        let lb = in_eats n kinds.Comma (λ e. cc) (λ e. cc) b c p lc in
        let la = by_less n a b (type_less x) lb in
        subst (IsPlain (cut n s) (cut n m)) (λ i. TupleT (start_cut n s i) 0 (ConsT (bare_type t) (ConsT (bare_type u) (types_bare ts i))))
        (types.tuple (eats_cut n kinds.OpenRound (λ e. cc) (λ e. cc) s a q la) (type_cut x lb) (eats_cut n kinds.Comma (λ e. cc) (λ e. cc) b c p lc)
        (type_cut y ld) (more_types_cut k le) (eats_cut n kinds.CloseRound (λ e. cc) (λ e. cc) e m z l))

    more_types_cut : {s m : At} {ts : List TypeTree} → MoreTypes s m ts → n ≤ length m.rest → MoreTypes (cut n s) (cut n m) (type_list ts)
    more_types_cut types.no_more l = types.no_more
    more_types_cut {s = s} {m = m} (types.one_more {a = a} {b = b} q x k) l =
        let lb : n ≤ length b.rest = omega (arith, more_types_count k) in
        let la = by_less n a b (type_less x) lb in
        types.one_more (eats_cut n kinds.Comma (λ e. cc) (λ e. cc) s a q la) (type_cut x lb) (more_types_cut k l)

  pub indices_cut : {s m : At} {ns : List Index} → Indices s m ns → n ≤ length m.rest → Indices (cut n s) (cut n m) (bare_indices ns)
  indices_cut grammar.no_index l = grammar.no_index
  indices_cut {s = s} {m = m} (grammar.an_index {a = a} {b = b} {n = x} q i k) l =
      let lb : n ≤ length b.rest = omega (arith, indices_count k) in
      let la = by_less n a b (index_less a b x i) lb in
      grammar.an_index (eats_cut n kinds.Dot (λ e. cc) (λ e. cc) s a q la) (index_cut n a b x i lb) (indices_cut k l)

  pub by_require_cut : {r : Bool} {s m : At} {k : CallKind} → ByOfRequire r s m k → n ≤ length m.rest → ByOfRequire r (cut n s) (cut n m) k
  by_require_cut {s = s} (grammar.nothing h) l = grammar.nothing (λ e. h (next_whole n s kinds.By (λ d. cc) e))
  by_require_cut {s = s} {m = m} (grammar.by_hash {a = a} q p) l =
      let la = in_eats n kinds.Hash (λ e. cc) (λ e. cc) a m p l in
      grammar.by_hash (eats_cut n kinds.By (λ e. cc) (λ e. cc) s a q la) (eats_cut n kinds.Hash (λ e. cc) (λ e. cc) a m p l)
  by_require_cut {s = s} (grammar.passes_mark {a = a} {b = b} q p) l =
      let la = in_eats n kinds.Mark (λ e. cc) (λ e. cc) a b p l in
      grammar.passes_mark (eats_cut n kinds.By (λ e. cc) (λ e. cc) s a q la) (eats_cut n kinds.Mark (λ e. cc) (λ e. cc) a b p l)

  pub by_read_cut : {s m : At} {k : EffectKind} → ByOfRead s m k → n ≤ length m.rest → ByOfRead (cut n s) (cut n m) k
  by_read_cut grammar.nothing l = grammar.nothing
  by_read_cut {s = s} {m = m} (grammar.by_hash {a = a} q p) l =
      let la = in_eats n kinds.Hash (λ e. cc) (λ e. cc) a m p l in
      grammar.by_hash (eats_cut n kinds.By (λ e. cc) (λ e. cc) s a q la) (eats_cut n kinds.Hash (λ e. cc) (λ e. cc) a m p l)
  by_read_cut {s = s} {m = m} (grammar.by_mark {a = a} q p) l =
      let la = in_eats n kinds.Mark (λ e. cc) (λ e. cc) a m p l in
      grammar.by_mark (eats_cut n kinds.By (λ e. cc) (λ e. cc) s a q la) (eats_cut n kinds.Mark (λ e. cc) (λ e. cc) a m p l)
  by_read_cut (grammar.marked h) l = grammar.marked h
