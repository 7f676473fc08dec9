-- A pipeline of the grammar is read, or a limit is met.
use Rattle.std.proofs.Common.{◌≡◌, ◌⊎◌, inl, inr, ℕ, ◌+◌, ◌-◌, ◌<◌, ◌≤◌, zero, suc, Bool, true, false, cond, List, [], ◌∷◌, ◌++◌, length, Result, Ok, Err, refl}
use Rattle.std.proofs.Common.{sym, subst, ap, ◌∙◌, arith}
use Rattle.pie_lexer.specs.declared.token.Token.{Token}
use Rattle.pie_parser.specs.declared.kind.Kind.{Kind}
use Rattle.pie_parser.specs.declared.kind.Kind.TheVariants as kinds
use Rattle.pie_parser.specs.declared.error.ParseFault.TheVariants.{Expected, TooDeep, OutOfMemory}
use Rattle.pie_parser.specs.declared.tree.Name.{Name}
use Rattle.pie_parser.specs.declared.tree.Param.{Param}
use Rattle.pie_parser.specs.declared.reader.Room.{Room}
use Rattle.pie_parser.specs.Kinds.{is}
use Rattle.pie_parser.specs.At.{At}
use Rattle.pie_parser.specs.Places.{Parsed, Got, Miss, then_on, Passed, done, next, start, passed, want, open_bracket, name}
use Rattle.pie_parser.specs.inner.Turns.{Turn, Stop, Part, on_turn, many, onto, all_behind}
use Rattle.pie_parser.specs.TypeReading.{written_type, inner_type}
use Rattle.pie_parser.specs.ExprReading.{block, around}
use Rattle.pie_parser.specs.FunctionTrees.{FunctionTree}
use Rattle.pie_parser.specs.FunctionReading as reads
use Rattle.pie_parser.specs.TypeGrammar.{Eats, IsName, IsType}
use Rattle.pie_parser.specs.Plain.{BlockTree}
use Rattle.pie_parser.specs.Grammar.{IsBlock}
use Rattle.pie_parser.specs.Grammar as exprs
use Rattle.pie_parser.specs.FunctionGrammar as grammar
use Rattle.pie_parser.specs.FunctionGrammar.{IsParam, MoreParams, IsParams, IsFunction, Functions, IsPipeline}
use Rattle.pie_parser.proofs.Strength.{is_one}
use Rattle.pie_parser.proofs.Hits.{Hits, Less, after, at_true, at_false, wanted, bracket, behind_them, eats_less}
use Rattle.pie_parser.proofs.Shorter.{name_less, type_less, block_less}
use Rattle.pie_parser.proofs.TypesComplete.{Off, off_by, hits_by, name_kind, type_is_hit}
use Rattle.pie_parser.proofs.ExprComplete.{block_is_hit}

param_less : {s m : At} {p : Param} → IsParam s m p → Less s m
param_less {s = s} {m = m} (grammar.param {a = a} {b = b} {n = n} i q t) = omega
    (arith, name_less s a n i, eats_less kinds.Colon a b q (λ e. cc) (λ e. cc), type_less t)

params_count : {s m : At} {ps : List Param} → MoreParams s m ps → length ps + length m.rest ≤ length s.rest
params_count grammar.no_more = omega arith
params_count {s = s} {m = m} (grammar.one_more {a = a} q x k) = omega (arith, eats_less kinds.Comma s a q (λ e. cc) (λ e. cc), param_less x, params_count k)

params_less : {s m : At} {ps : List Param} → IsParams s m ps → Less s m
params_less {s = s} {m = m} (grammar.none {a = a} q p) = omega
    (arith, eats_less kinds.OpenRound s a q (λ e. cc) (λ e. cc), eats_less kinds.CloseRound a m p (λ e. cc) (λ e. cc))
params_less {s = s} {m = m} (grammar.some {a = a} {c = c} q x k p) = omega
    (arith, eats_less kinds.OpenRound s a q (λ e. cc) (λ e. cc), param_less x, params_count k, eats_less kinds.CloseRound c m p (λ e. cc) (λ e. cc))

function_less : {s m : At} {t : FunctionTree} → IsFunction s m t → Less s m
function_less {s = s} {m = m} (grammar.function {a = a} {b = b} {c = c} {d = d} {n = n} q i x p t k) =
    omega (
      arith,
      eats_less kinds.Func s a q (λ e. cc) (λ e. cc),
      name_less a b n i,
      params_less x,
      eats_less kinds.Arrow c d p (λ e. cc) (λ e. cc),
      type_less t,
      block_less k,
    )

functions_count : {s m : At} {fs : List FunctionTree} → Functions s m fs → length fs + length m.rest ≤ length s.rest
functions_count grammar.no_function = omega arith
functions_count (grammar.a_function x k) = omega (arith, function_less x, functions_count k)

param_hits : (d : ℕ) {s m : At} {p : Param} → IsParam s m p → Off kinds.Question m → Hits (reads.param d s) p m
param_hits d {s = s} {m = m} (grammar.param {a = a} {b = b} {n = n} {t = t} i q x) o =
    after (name s) _ n a _ _ (hits_by (name s) n a i)
    (after (want kinds.Colon a) _ done b _ _ (wanted kinds.Colon a b q)
    (after (written_type d (inner_type d) b) _ t m _ _ (type_is_hit d x o) (refl, refl)))

more_off : (k : Kind) {s m : At} {ps : List Param} → MoreParams s m ps → is kinds.Comma k ≡ false → Off k m → Off k s
more_off k grammar.no_more c o = o
more_off k {s = s} (grammar.one_more q x y) c o = off_by k kinds.Comma s q.0 c

more_hits : (d n : ℕ) {s m : At} {ps : List Param} → MoreParams s m ps → length ps ≤ n → Off kinds.Comma m → Off kinds.Question m
    → Hits (many (reads.another_param d) n s) ps m
more_hits d zero grammar.no_more l c f = (refl, refl)
more_hits d zero (grammar.one_more q x k) l c f = absurd (omega arith)
more_hits d (suc n) {s = s} grammar.no_more l c f =
    subst (λ y. Hits (on_turn (cond y (Part (reads.param d (passed s))) Stop) s (many (reads.another_param d) n)) [] s) (sym c) (refl, refl)
more_hits d (suc n) {s = s} {m = m} (grammar.one_more {a = a} {b = b} {p = p} {ps = ps} q x k) l c f =
    subst (λ y. Hits (on_turn (cond y (Part (reads.param d (passed s))) Stop) s (many (reads.another_param d) n)) (p ∷ ps) m)
    (sym (is_one (next s) kinds.Comma q.0))
    (after (reads.param d (passed s)) _ p b _ _ (param_hits d (subst (λ z. IsParam z b p) q.1 x) (more_off kinds.Question k refl f))
    (after (many (reads.another_param d) n b) _ ps m _ _ (more_hits d n k (omega arith) c f) (refl, refl)))

param_name : {s m : At} {p : Param} → IsParam s m p → next s ≡ kinds.Name
param_name {s = s} (grammar.param {a = a} {n = n} i q t) = name_kind s a n i

params_hits : (d : ℕ) {s m : At} {ps : List Param} → IsParams s m ps → Hits (reads.params d s) ps m
params_hits d {s = s} {m = m} (grammar.none {a = a} q p) = after (open_bracket kinds.OpenRound d s) _ done a _ _ (bracket kinds.OpenRound d s a q)
    (at_true (is (next a) kinds.CloseRound) (Got [] (passed a)) _ _ _ (is_one (next a) kinds.CloseRound p.0) (refl, sym p.1))
params_hits d {s = s} {m = m} (grammar.some {a = a} {b = b} {c = c} {p = p} {ps = ps} q x k z) = after (open_bracket kinds.OpenRound d s) _ done a _ _
    (bracket kinds.OpenRound d s a q)
    (at_false (is (next a) kinds.CloseRound) (Got [] (passed a)) _ _ _ (off_by kinds.CloseRound kinds.Name a (param_name x) refl)
    (after (reads.param (d - 1) a) _ p b _ _ (param_hits (d - 1) x (more_off kinds.Question k refl (off_by kinds.Question kinds.CloseRound c z.0 refl)))
    (after (reads.more_params (d - 1) p b) _ (p ∷ ps) c _ _
    (behind_them (p ∷ []) ps _ c (more_hits (d - 1) (length b.rest) k (omega (arith, params_count k)) (off_by kinds.Comma kinds.CloseRound c z.0 refl)
    (off_by kinds.Question kinds.CloseRound c z.0 refl)))
    (after (want kinds.CloseRound c) _ done m _ _ (wanted kinds.CloseRound c m z) (refl, refl)))))

starts_block : {s m : At} {t : BlockTree} → IsBlock s m t → next s ≡ kinds.OpenBrace
starts_block (exprs.block q k p) = q.0

function_hits : (r : Room) {s m : At} {t : FunctionTree} → IsFunction s m t → Hits (reads.function r s) t m
function_hits r {s = s} {m = m} (grammar.function {a = a} {b = b} {c = c} {d = d} {e = e} {n = n} {ps = ps} {t = t} {x = x} q i k p y z) =
    after (want kinds.Func s) _ done a _ _ (wanted kinds.Func s a q)
    (after (name a) _ n b _ _ (hits_by (name a) n b i)
    (after (reads.params r.brackets b) _ ps c _ _ (params_hits r.brackets k)
    (after (want kinds.Arrow c) _ done d _ _ (wanted kinds.Arrow c d p)
    (after (written_type r.brackets (inner_type r.brackets) d) _ t e _ _
    (type_is_hit r.brackets y (off_by kinds.Question kinds.OpenBrace e (starts_block z) refl))
    (after (block (around r) e) _ x m _ _ (block_is_hit r z) (refl, refl))))))

functions_hits : (r : Room) (n : ℕ) {s m : At} {fs : List FunctionTree} → Functions s m fs → length fs ≤ n → next m ≡ kinds.End
    → Hits (many (reads.another_function r) n s) fs m
functions_hits r zero grammar.no_function l e = (refl, refl)
functions_hits r zero (grammar.a_function x k) l e = absurd (omega arith)
functions_hits r (suc n) {s = s} grammar.no_function l e =
    subst (λ y. Hits (on_turn (cond y Stop (Part (reads.function r s))) s (many (reads.another_function r) n)) [] s) (sym (is_one (next s) kinds.End e))
    (refl, refl)
functions_hits r (suc n) {s = s} {m = m} (grammar.a_function {a = a} {f = f} {fs = fs} x k) l e =
    subst (λ y. Hits (on_turn (cond y Stop (Part (reads.function r s))) s (many (reads.another_function r) n)) (f ∷ fs) m)
    (sym (off_by kinds.End kinds.Func s (starts_function x) refl))
    (after (reads.function r s) _ f a _ _ (function_hits r x)
    (after (many (reads.another_function r) n a) _ fs m _ _ (functions_hits r n k (omega arith) e) (refl, refl)))
  where
    starts_function : {s m : At} {t : FunctionTree} → IsFunction s m t → next s ≡ kinds.Func
    starts_function (grammar.function q i k p y z) = q.0

-- a pipeline of the grammar is read as these functions, or a limit is met
pub pipeline_hits : (ts : List Token) (fs : List FunctionTree) → IsPipeline ts fs → (m : At) × Hits (reads.read_all ts) fs m
pipeline_hits ts fs (m, k, e) =
    let r : Room = record { brackets = 64; conditions = 100; in_read = false } in
    let s : At = record { past = 0; rest = ts; marked = false } in (
      m,
      after (reads.functions r s) (λ fs m. cond (is (next m) kinds.End) (Got fs m) (Miss Expected m)) fs m _ _
          (behind_them [] fs _ m (functions_hits r (length ts) k (omega (arith, functions_count k)) e))
          (at_true (is (next m) kinds.End) (Got fs m) _ fs m (is_one (next m) kinds.End e) (refl, refl)),
    )
