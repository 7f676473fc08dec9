-- What stands between two places of the grammar stands there too without its spans, and without the tokens behind.
use Rattle.std.proofs.Common.{◌≡◌, ℕ, ◌<◌, ◌≤◌, Bool, List, ◌∷◌, length, Option, sym, subst, ap, ◌∙◌, arith}
use Rattle.pie_parser.specs.declared.kind.Kind.TheVariants as kinds
use Rattle.pie_parser.specs.declared.chain.Level.{Level}
use Rattle.pie_parser.specs.declared.chain.Level.TheVariants as levels
use Rattle.pie_parser.specs.declared.tree.Step.{Step}
use Rattle.pie_parser.specs.declared.tree.Line.{Line}
use Rattle.pie_parser.specs.declared.tree.Line.TheVariants as line_kinds
use Rattle.pie_parser.specs.declared.tree.CallKind.TheVariants as calls
use Rattle.pie_parser.specs.declared.tree.Param.{Param}
use Rattle.pie_parser.specs.Tests.{operator_at, comparison_at, prefix_at, effect_at}
use Rattle.pie_parser.specs.Plain.{Tree, TLiteral, TNull, TEmpty, TCompare, TPrefix, TTuple, TList, TEach, TIf, TCall, TEffect, TWrite, TFail, Cons, BlockTree}
use Rattle.pie_parser.specs.Plain.{TBlock, NoElse, AnElse}
use Rattle.pie_parser.specs.FunctionTrees.{FunctionTree}
use Rattle.pie_parser.specs.At.{At}
use Rattle.pie_parser.specs.Places.{start, passed}
use Rattle.pie_parser.specs.TypeGrammar.{Eats}
use Rattle.pie_parser.specs.Grammar as grammar
use Rattle.pie_parser.specs.Grammar.{IsIndex, Indices, ByOfRequire, ByOfRead, IsExpr, IsChain, IsOperand, Steps, IsComparison, IsPrefixed, IsProjected}
use Rattle.pie_parser.specs.Grammar.{IsPrimary, Arguments, More, IsBlock, Lines}
use Rattle.pie_parser.specs.FunctionGrammar as functions
use Rattle.pie_parser.specs.FunctionGrammar.{IsParam, MoreParams, IsParams, IsFunction}
use Rattle.pie_parser.proofs.Hits.{eats_less}
use Rattle.pie_parser.proofs.Shorter.{operator_less, name_less, literal_less, effect_less, type_less, indices_count, expr_less, steps_count, arguments_less}
use Rattle.pie_parser.proofs.Shorter.{more_count, block_less, lines_count}
use Rattle.pie_spelling_laws.specs.Spans.{bare_name, bare_type, bare, bare_block, bare_param, bare_params, bare_function}
use Rattle.pie_spelling_laws.proofs.Lengths.{passes, plain_less, sum_less, projected_less, operand_less, by_require_short, by_read_short, param_less, params_count}
use Rattle.pie_spelling_laws.proofs.Lengths.{params_less}
use Rattle.pie_spelling_laws.proofs.Bare.{tree_list, trees_bare, step_list, line_list, lines_bare, bare_option, last_bare, chain_bare, projection_bare}
use Rattle.pie_spelling_laws.proofs.Places.{cut, start_cut, next_cut, passed_cut, by_less, in_eats, eats_cut, name_cut, literal_cut}
use Rattle.pie_spelling_laws.proofs.PartsCut.{type_cut, plain_cut, indices_cut, by_require_cut, by_read_cut}

module _ (n : ℕ) where
  as_tree : {r : Bool} {s m : At} {t u : Tree} → t ≡ u → IsPrimary r s m t → IsPrimary r s m u
  as_tree {r = r} {s = s} {m = m} e x = subst (IsPrimary r s m) e x

  mutual
    expr_cut : {r : Bool} {s m : At} {t : Tree} → IsExpr r s m t → n ≤ length m.rest → IsExpr r (cut n s) (cut n m) (bare t)
    expr_cut (grammar.expr x) l = grammar.expr (chain_cut x l)

    chain_cut : {v : Level} {r : Bool} {s m : At} {t : Tree} → IsChain v r s m t → n ≤ length m.rest → IsChain v r (cut n s) (cut n m) (bare t)
    chain_cut {s = s} {m = m} (grammar.chained {a = a} {t = t} {xs = xs} x k e) l =
        let la : n ≤ length a.rest = omega (arith, steps_count k) in
        grammar.chained (operand_cut x la) (steps_cut k l) (ap bare e ∙ chain_bare (start s) m.past (start (cut n s)) t xs (start_cut n s))

    operand_cut : {v : Level} {r : Bool} {s m : At} {t : Tree} → IsOperand v r s m t → n ≤ length m.rest → IsOperand v r (cut n s) (cut n m) (bare t)
    operand_cut (grammar.of_or x) l = grammar.of_or (chain_cut x l)
    operand_cut (grammar.of_and x) l = grammar.of_and (comparison_cut x l)
    operand_cut (grammar.of_sum x) l = grammar.of_sum (chain_cut x l)
    operand_cut (grammar.of_product x) l = grammar.of_product (prefixed_cut x l)

    steps_cut : {v : Level} {r : Bool} {s m : At} {xs : List Step} → Steps v r s m xs → n ≤ length m.rest → Steps v r (cut n s) (cut n m) (step_list xs)
    steps_cut grammar.no_step l = grammar.no_step
    steps_cut {v = v} {r = r} {s = s} {m = m} (grammar.a_step {a = a} {o = o} {t = t} h x k) l =
        let la : n ≤ length a.rest = omega (arith, steps_count k) in
        let ls : n < length s.rest = omega (arith, operand_less x, operator_less v s o h) in
        grammar.a_step (ap (operator_at v) (next_cut n s ls) ∙ h)
        (subst (λ z. IsOperand v r z (cut n a) (bare t)) (sym (passed_cut n s ls)) (operand_cut x la)) (steps_cut k l)

    comparison_cut : {r : Bool} {s m : At} {t : Tree} → IsComparison r s m t → n ≤ length m.rest → IsComparison r (cut n s) (cut n m) (bare t)
    comparison_cut (grammar.alone x) l = grammar.alone (chain_cut x l)
    comparison_cut {r = r} {s = s} {m = m} (grammar.compared {a = a} {c = c} {t = t} {u = u} x h y) l =
        let la : n < length a.rest = omega (arith, sum_less y, passes a) in
        let lb : n ≤ length a.rest = omega arith in
        subst (IsComparison r (cut n s) (cut n m)) (λ i. TCompare (start_cut n s i) 0 c (bare t) (bare u))
        (grammar.compared (chain_cut x lb) (ap comparison_at (next_cut n a la) ∙ h)
        (subst (λ z. IsChain levels.Sum r z (cut n m) (bare u)) (sym (passed_cut n a la)) (chain_cut y l)))

    prefixed_cut : {r : Bool} {s m : At} {t : Tree} → IsPrefixed r s m t → n ≤ length m.rest → IsPrefixed r (cut n s) (cut n m) (bare t)
    prefixed_cut (grammar.plain x) l = grammar.plain (projected_cut x l)
    prefixed_cut {r = r} {s = s} {m = m} (grammar.prefixed {p = p} {t = t} h x) l =
        let ls : n < length s.rest = omega (arith, projected_less x, passes s) in
        subst (IsPrefixed r (cut n s) (cut n m)) (λ i. TPrefix (start_cut n s i) 0 p (bare t))
        (grammar.prefixed (ap prefix_at (next_cut n s ls) ∙ h) (subst (λ z. IsProjected r z (cut n m) (bare t)) (sym (passed_cut n s ls)) (projected_cut x l)))

    projected_cut : {r : Bool} {s m : At} {t : Tree} → IsProjected r s m t → n ≤ length m.rest → IsProjected r (cut n s) (cut n m) (bare t)
    projected_cut {s = s} {m = m} (grammar.projected {a = a} {t = t} {ns = ns} x k e) l =
        let la : n ≤ length a.rest = omega (arith, indices_count k) in
        grammar.projected (primary_cut x la) (indices_cut n k l) (ap bare e ∙ projection_bare (start s) m.past (start (cut n s)) t ns (start_cut n s))

    primary_cut : {r : Bool} {s m : At} {t : Tree} → IsPrimary r s m t → n ≤ length m.rest → IsPrimary r (cut n s) (cut n m) (bare t)
    primary_cut {r = r} {s = s} (grammar.literal {l = x} h) l =
        let ls : n < length s.rest = omega (arith, literal_less s s x h) in
        subst (λ z. IsPrimary r (cut n s) z (TLiteral 0 0 x)) (passed_cut n s ls)
        (as_tree (λ i. TLiteral (start_cut n s i) (passed_cut n s ls i).past x) (grammar.literal (literal_cut n s x h ls)))
    primary_cut {s = s} {m = m} (grammar.a_name {n = x} h) l = grammar.a_name (name_cut n s m x h l)
    primary_cut {s = s} {m = m} (grammar.call {a = a} {n = x} {ts = ts} h x0) l =
        let la = by_less n a m (arguments_less x0) l in
        as_tree (λ i. TCall 0 0 calls.Plain (bare_name x) (trees_bare ts i)) (grammar.call (name_cut n s a x h la) (arguments_cut x0 l))
    primary_cut {s = s} {m = m} (grammar.null {a = a} {t = t} x0 x1) l =
        let la = by_less n a m (plain_less x1) l in
        as_tree (λ i. TNull (start_cut n s i) 0 (bare_type t)) (grammar.null (eats_cut n kinds.Null (λ e. cc) (λ e. cc) s a x0 la) (plain_cut n x1 l))
    primary_cut {s = s} {m = m} (grammar.empty {a = a} {t = t} x0 x1) l =
        let la = by_less n a m (type_less x1) l in
        as_tree (λ i. TEmpty (start_cut n s i) 0 (bare_type t)) (grammar.empty (eats_cut n kinds.Empty (λ e. cc) (λ e. cc) s a x0 la) (type_cut n x1 l))
    primary_cut {s = s} {m = m} (grammar.brackets {a = a} {b = b} x0 x1 x2) l =
        let lb = in_eats n kinds.CloseRound (λ e. cc) (λ e. cc) b m x2 l in
        let la = by_less n a b (expr_less x1) lb in
        grammar.brackets (eats_cut n kinds.OpenRound (λ e. cc) (λ e. cc) s a x0 la) (expr_cut x1 lb) (eats_cut n kinds.CloseRound (λ e. cc) (λ e. cc) b m x2 l)
    primary_cut {s = s} {m = m} (grammar.tuple {a = a} {b = b} {c = c} {t = t} {ts = ts} x0 x1 x2 x3 x4) l =
        let lc = in_eats n kinds.CloseRound (λ e. cc) (λ e. cc) c m x4 l in
        let lb : n ≤ length b.rest = omega (arith, more_count x3) in
        let lo : n < length b.rest = omega (arith, more_count x3, eats_less kinds.CloseRound c m x4 (λ e. cc) (λ e. cc)) in
        let la = by_less n a b (expr_less x1) lb in
        as_tree (λ i. TTuple (start_cut n s i) 0 (Cons (bare t) (trees_bare ts i)))
        (grammar.tuple (eats_cut n kinds.OpenRound (λ e. cc) (λ e. cc) s a x0 la) (expr_cut x1 lb) (next_cut n b lo ∙ x2) (more_cut x3 lc)
        (eats_cut n kinds.CloseRound (λ e. cc) (λ e. cc) c m x4 l))
    primary_cut {s = s} {m = m} (grammar.list {a = a} {b = b} {c = c} {t = t} {ts = ts} x0 x1 x2 x3) l =
        let lc = in_eats n kinds.CloseSquare (λ e. cc) (λ e. cc) c m x3 l in
        let lb : n ≤ length b.rest = omega (arith, more_count x2) in
        let la = by_less n a b (expr_less x1) lb in
        as_tree (λ i. TList (start_cut n s i) 0 (Cons (bare t) (trees_bare ts i)))
        (grammar.list (eats_cut n kinds.OpenSquare (λ e. cc) (λ e. cc) s a x0 la) (expr_cut x1 lb) (more_cut x2 lc)
        (eats_cut n kinds.CloseSquare (λ e. cc) (λ e. cc) c m x3 l))
    primary_cut {s = s} {m = m} (grammar.each {a = a} {b = b} {c = c} {d = d} {e = e} {f = f} {t = t} {u = u} {n = x} x0 x1 x2 x3 x4 x5 x6) l =
        let lf = in_eats n kinds.CloseSquare (λ e. cc) (λ e. cc) f m x6 l in
        let le = by_less n e f (expr_less x5) lf in
        let ld = in_eats n kinds.In (λ e. cc) (λ e. cc) d e x4 le in
        let lc = by_less n c d (name_less c d x x3) ld in
        let lb = in_eats n kinds.For (λ e. cc) (λ e. cc) b c x2 lc in
        let la = by_less n a b (expr_less x1) lb in
        as_tree (λ i. TEach (start_cut n s i) 0 (bare t) (bare_name x) (bare u))
        (grammar.each (eats_cut n kinds.OpenSquare (λ e. cc) (λ e. cc) s a x0 la) (expr_cut x1 lb) (eats_cut n kinds.For (λ e. cc) (λ e. cc) b c x2 lc)
        (name_cut n c d x x3 ld) (eats_cut n kinds.In (λ e. cc) (λ e. cc) d e x4 le) (expr_cut x5 lf)
        (eats_cut n kinds.CloseSquare (λ e. cc) (λ e. cc) f m x6 l))
    primary_cut {s = s} {m = m} (grammar.if_alone {a = a} {b = b} {t = t} {x = y} x0 x1 x2) l =
        let lb = by_less n b m (block_less x2) l in
        let la = by_less n a b (expr_less x1) lb in
        as_tree (λ i. TIf (start_cut n s i) 0 (bare t) (bare_block y) NoElse)
        (grammar.if_alone (eats_cut n kinds.If (λ e. cc) (λ e. cc) s a x0 la) (expr_cut x1 lb) (block_cut x2 l))
    primary_cut {s = s} {m = m} (grammar.if_else {a = a} {b = b} {c = c} {d = d} {t = t} {x = y} {y = z} x0 x1 x2 x3 x4) l =
        let ld = by_less n d m (block_less x4) l in
        let lc = in_eats n kinds.Else (λ e. cc) (λ e. cc) c d x3 ld in
        let lb = by_less n b c (block_less x2) lc in
        let la = by_less n a b (expr_less x1) lb in
        as_tree (λ i. TIf (start_cut n s i) 0 (bare t) (bare_block y) (AnElse (bare_block z)))
        (grammar.if_else (eats_cut n kinds.If (λ e. cc) (λ e. cc) s a x0 la) (expr_cut x1 lb) (block_cut x2 lc)
        (eats_cut n kinds.Else (λ e. cc) (λ e. cc) c d x3 ld) (block_cut x4 l))
    primary_cut {s = s} {m = m} (grammar.effect {a = a} {b = b} {k = k} {t = t} h x1 x2 x3) l =
        let lb = in_eats n kinds.CloseRound (λ e. cc) (λ e. cc) b m x3 l in
        let la = by_less n a b (expr_less x2) lb in
        let lp = in_eats n kinds.OpenRound (λ e. cc) (λ e. cc) (passed s) a x1 la in
        let ls : n < length s.rest = omega (arith, effect_less s k h) in
        as_tree (λ i. TEffect (start_cut n s i) 0 k (bare t))
        (grammar.effect (ap effect_at (next_cut n s ls) ∙ h)
        (subst (λ z. Eats kinds.OpenRound z (cut n a)) (sym (passed_cut n s ls)) (eats_cut n kinds.OpenRound (λ e. cc) (λ e. cc) (passed s) a x1 la))
        (expr_cut x2 lb)
        (eats_cut n kinds.CloseRound (λ e. cc) (λ e. cc) b m x3 l))
    primary_cut {s = s} {m = m} (grammar.read {a = a} {b = b} {c = c} {d = d} {k = k} {t = t} x0 x1 x2 x3 x4) l =
        let ld = in_eats n kinds.CloseRound (λ e. cc) (λ e. cc) d m x4 l in
        let lc : n ≤ length c.rest = omega (arith, by_read_short x3) in
        let lb = by_less n b c (expr_less x2) lc in
        let la = in_eats n kinds.OpenRound (λ e. cc) (λ e. cc) a b x1 lb in
        as_tree (λ i. TEffect (start_cut n s i) 0 k (bare t))
        (grammar.read (eats_cut n kinds.Read (λ e. cc) (λ e. cc) s a x0 la) (eats_cut n kinds.OpenRound (λ e. cc) (λ e. cc) a b x1 lb) (expr_cut x2 lc)
        (by_read_cut n x3 ld) (eats_cut n kinds.CloseRound (λ e. cc) (λ e. cc) d m x4 l))
    primary_cut {s = s} {m = m} (grammar.write {a = a} {b = b} {c = c} {d = d} {e = e} {t = t} {u = u} x0 x1 x2 x3 x4 x5) l =
        let le = in_eats n kinds.CloseRound (λ e. cc) (λ e. cc) e m x5 l in
        let ld = by_less n d e (expr_less x4) le in
        let lc = in_eats n kinds.Comma (λ e. cc) (λ e. cc) c d x3 ld in
        let lb = by_less n b c (expr_less x2) lc in
        let la = in_eats n kinds.OpenRound (λ e. cc) (λ e. cc) a b x1 lb in
        as_tree (λ i. TWrite (start_cut n s i) 0 (bare t) (bare u))
        (grammar.write (eats_cut n kinds.Write (λ e. cc) (λ e. cc) s a x0 la) (eats_cut n kinds.OpenRound (λ e. cc) (λ e. cc) a b x1 lb) (expr_cut x2 lc)
        (eats_cut n kinds.Comma (λ e. cc) (λ e. cc) c d x3 ld) (expr_cut x4 le) (eats_cut n kinds.CloseRound (λ e. cc) (λ e. cc) e m x5 l))
    primary_cut {s = s} {m = m} (grammar.fail {a = a} {b = b} {c = c} {d = d} {t = t} {u = u} x0 x1 x2 x3 x4) l =
        let ld = in_eats n kinds.CloseRound (λ e. cc) (λ e. cc) d m x4 l in
        let lc = by_less n c d (expr_less x3) ld in
        let lb = in_eats n kinds.OpenRound (λ e. cc) (λ e. cc) b c x2 lc in
        let la = by_less n a b (type_less x1) lb in
        as_tree (λ i. TFail (start_cut n s i) 0 (bare_type t) (bare u))
        (grammar.fail (eats_cut n kinds.Fail (λ e. cc) (λ e. cc) s a x0 la) (type_cut n x1 lb) (eats_cut n kinds.OpenRound (λ e. cc) (λ e. cc) b c x2 lc)
        (expr_cut x3 ld) (eats_cut n kinds.CloseRound (λ e. cc) (λ e. cc) d m x4 l))
    primary_cut {s = s} {m = m} (grammar.require {a = a} {b = b} {c = c} {n = x} {ts = ts} {k = k} x0 x1 x2 x3) l =
        let lc : n ≤ length c.rest = omega (arith, by_require_short x3) in
        let lb = by_less n b c (arguments_less x2) lc in
        let la = by_less n a b (name_less a b x x1) lb in
        as_tree (λ i. TCall (start_cut n s i) 0 k (bare_name x) (trees_bare ts i))
        (grammar.require (eats_cut n kinds.Require (λ e. cc) (λ e. cc) s a x0 la) (name_cut n a b x x1 lb) (arguments_cut x2 lc) (by_require_cut n x3 l))
    primary_cut {s = s} {m = m} (grammar.run {a = a} {b = b} {n = x} {ts = ts} x0 x1 x2) l =
        let lb = by_less n b m (arguments_less x2) l in
        let la = by_less n a b (name_less a b x x1) lb in
        as_tree (λ i. TCall (start_cut n s i) 0 calls.Run (bare_name x) (trees_bare ts i))
        (grammar.run (eats_cut n kinds.Run (λ e. cc) (λ e. cc) s a x0 la) (name_cut n a b x x1 lb) (arguments_cut x2 l))

    arguments_cut : {s m : At} {ts : List Tree} → Arguments s m ts → n ≤ length m.rest → Arguments (cut n s) (cut n m) (tree_list ts)
    arguments_cut {s = s} {m = m} (grammar.none {a = a} q p) l =
        let la = in_eats n kinds.CloseRound (λ e. cc) (λ e. cc) a m p l in
        grammar.none (eats_cut n kinds.OpenRound (λ e. cc) (λ e. cc) s a q la) (eats_cut n kinds.CloseRound (λ e. cc) (λ e. cc) a m p l)
    arguments_cut {s = s} {m = m} (grammar.some {a = a} {b = b} {c = c} q x k p) l =
        let lc = in_eats n kinds.CloseRound (λ e. cc) (λ e. cc) c m p l in
        let lb : n ≤ length b.rest = omega (arith, more_count k) in
        let la = by_less n a b (expr_less x) lb in
        grammar.some (eats_cut n kinds.OpenRound (λ e. cc) (λ e. cc) s a q la) (expr_cut x lb) (more_cut k lc)
        (eats_cut n kinds.CloseRound (λ e. cc) (λ e. cc) c m p l)

    more_cut : {s m : At} {ts : List Tree} → More s m ts → n ≤ length m.rest → More (cut n s) (cut n m) (tree_list ts)
    more_cut grammar.no_more l = grammar.no_more
    more_cut {s = s} {m = m} (grammar.one_more {a = a} {b = b} q x k) l =
        let lb : n ≤ length b.rest = omega (arith, more_count k) in
        let la = by_less n a b (expr_less x) lb in
        grammar.one_more (eats_cut n kinds.Comma (λ e. cc) (λ e. cc) s a q la) (expr_cut x lb) (more_cut k l)

    pub block_cut : {s m : At} {t : BlockTree} → IsBlock s m t → n ≤ length m.rest → IsBlock (cut n s) (cut n m) (bare_block t)
    block_cut {s = s} {m = m} (grammar.block {a = a} {b = b} {ls = ls} {u = u} q k p) l =
        let lb = in_eats n kinds.CloseBrace (λ e. cc) (λ e. cc) b m p l in
        let la : n ≤ length a.rest = omega (arith, lines_count k) in
        subst (IsBlock (cut n s) (cut n m)) (λ i. TBlock (start_cut n s i) 0 (lines_bare ls i) (last_bare u i))
        (grammar.block (eats_cut n kinds.OpenBrace (λ e. cc) (λ e. cc) s a q la) (lines_cut k lb) (eats_cut n kinds.CloseBrace (λ e. cc) (λ e. cc) b m p l))

    lines_cut : {s m : At} {ls : List Line} {u : Option Tree} → Lines s m ls u → n ≤ length m.rest → Lines (cut n s) (cut n m) (line_list ls) (bare_option u)
    lines_cut grammar.no_line l = grammar.no_line
    lines_cut (grammar.the_last x) l = grammar.the_last (expr_cut x l)
    lines_cut {s = s} {m = m} (grammar.an_expr {a = a} {b = b} x q k) l =
        let lb : n ≤ length b.rest = omega (arith, lines_count k) in
        let la = in_eats n kinds.Semicolon (λ e. cc) (λ e. cc) a b q lb in
        grammar.an_expr (expr_cut x la) (eats_cut n kinds.Semicolon (λ e. cc) (λ e. cc) a b q lb) (lines_cut k l)
    lines_cut {s = s} {m = m} (grammar.a_val {a = a} {b = b} {c = c} {d = d} {e = e} {n = x} {t = t} {ls = ls} {u = u} q i p y z k) l =
        let le : n ≤ length e.rest = omega (arith, lines_count k) in
        let ld = in_eats n kinds.Semicolon (λ e. cc) (λ e. cc) d e z le in
        let lc = by_less n c d (expr_less y) ld in
        let lb = in_eats n kinds.Assign (λ e. cc) (λ e. cc) b c p lc in
        let la = by_less n a b (name_less a b x i) lb in
        subst (λ j. Lines (cut n s) (cut n m) (line_kinds.Val j 0 (bare_name x) (bare t) ∷ line_list ls) (bare_option u)) (start_cut n s)
        (grammar.a_val (eats_cut n kinds.Val (λ e. cc) (λ e. cc) s a q la) (name_cut n a b x i lb) (eats_cut n kinds.Assign (λ e. cc) (λ e. cc) b c p lc)
        (expr_cut y ld) (eats_cut n kinds.Semicolon (λ e. cc) (λ e. cc) d e z le) (lines_cut k l))

  param_cut : {s m : At} {p : Param} → IsParam s m p → n ≤ length m.rest → IsParam (cut n s) (cut n m) (bare_param p)
  param_cut {s = s} {m = m} (functions.param {a = a} {b = b} {n = x} i q t) l =
      let lb = by_less n b m (type_less t) l in
      let la = in_eats n kinds.Colon (λ e. cc) (λ e. cc) a b q lb in
      functions.param (name_cut n s a x i la) (eats_cut n kinds.Colon (λ e. cc) (λ e. cc) a b q lb) (type_cut n t l)

  more_params_cut : {s m : At} {ps : List Param} → MoreParams s m ps → n ≤ length m.rest → MoreParams (cut n s) (cut n m) (bare_params ps)
  more_params_cut functions.no_more l = functions.no_more
  more_params_cut {s = s} {m = m} (functions.one_more {a = a} {b = b} q x k) l =
      let lb : n ≤ length b.rest = omega (arith, params_count k) in
      let la = by_less n a b (param_less x) lb in
      functions.one_more (eats_cut n kinds.Comma (λ e. cc) (λ e. cc) s a q la) (param_cut x lb) (more_params_cut k l)

  params_cut : {s m : At} {ps : List Param} → IsParams s m ps → n ≤ length m.rest → IsParams (cut n s) (cut n m) (bare_params ps)
  params_cut {s = s} {m = m} (functions.none {a = a} q p) l =
      let la = in_eats n kinds.CloseRound (λ e. cc) (λ e. cc) a m p l in
      functions.none (eats_cut n kinds.OpenRound (λ e. cc) (λ e. cc) s a q la) (eats_cut n kinds.CloseRound (λ e. cc) (λ e. cc) a m p l)
  params_cut {s = s} {m = m} (functions.some {a = a} {b = b} {c = c} q x k p) l =
      let lc = in_eats n kinds.CloseRound (λ e. cc) (λ e. cc) c m p l in
      let lb : n ≤ length b.rest = omega (arith, params_count k) in
      let la = by_less n a b (param_less x) lb in
      functions.some (eats_cut n kinds.OpenRound (λ e. cc) (λ e. cc) s a q la) (param_cut x lb) (more_params_cut k lc)
      (eats_cut n kinds.CloseRound (λ e. cc) (λ e. cc) c m p l)

  -- a function stands there without its spans, and without the tokens behind
  pub function_cut : {s m : At} {f : FunctionTree} → IsFunction s m f → n ≤ length m.rest → IsFunction (cut n s) (cut n m) (bare_function f)
  function_cut {s = s} {m = m} (functions.function {a = a} {b = b} {c = c} {d = d} {e = e} {n = x} {ps = ps} {t = t} {x = y} q i k p z w) l =
      let le = by_less n e m (block_less w) l in
      let ld = by_less n d e (type_less z) le in
      let lc = in_eats n kinds.Arrow (λ e. cc) (λ e. cc) c d p ld in
      let lb = by_less n b c (params_less k) lc in
      let la = by_less n a b (name_less a b x i) lb in
      subst (λ j.
      IsFunction (cut n s) (cut n m) (record { at = j; end = 0; name = bare_name x; params = bare_params ps; result = bare_type t; body = bare_block y }))
      (start_cut n s)
      (functions.function (eats_cut n kinds.Func (λ e. cc) (λ e. cc) s a q la) (name_cut n a b x i lb) (params_cut k lc)
      (eats_cut n kinds.Arrow (λ e. cc) (λ e. cc) c d p ld) (type_cut n z le) (block_cut w l))
