-- The tokens of a pipeline are one list of functions.
use Rattle.std.proofs.Common.{◌≡◌, ℕ, ◌≤◌, zero, suc, false, cond, List, [], ◌∷◌, length, refl, sym, subst, ◌∙◌, arith}
use Rattle.pie_lexer.specs.declared.token.Token.{Token}
use Rattle.pie_parser.specs.declared.kind.Kind.{Kind}
use Rattle.pie_parser.specs.declared.kind.Kind.TheVariants as kinds
use Rattle.pie_parser.specs.declared.tree.Param.{Param}
use Rattle.pie_parser.specs.Kinds.{is}
use Rattle.pie_parser.specs.At.{At}
use Rattle.pie_parser.specs.Places.{Parsed, Got, Miss, Parser, then_on, done, next, start, passed, want, open_bracket, name}
use Rattle.pie_parser.specs.inner.Turns.{Stop, Part, on_turn, many}
use Rattle.pie_parser.specs.TypeReading.{written_type, inner_type}
use Rattle.pie_parser.specs.FunctionTrees.{FunctionTree}
use Rattle.pie_parser.specs.FunctionReading as reads
use Rattle.pie_parser.specs.Plain.{BlockTree}
use Rattle.pie_parser.specs.Grammar.{IsBlock}
use Rattle.pie_parser.specs.Grammar as exprs
use Rattle.pie_parser.specs.FunctionGrammar as grammar
use Rattle.pie_parser.specs.FunctionGrammar.{IsParam, MoreParams, IsParams, IsFunction, Functions, IsPipeline}
use Rattle.pie_parser.proofs.Strength.{is_one}
use Rattle.pie_parser.proofs.Hits.{eats_less}
use Rattle.pie_parser.proofs.Shorter.{name_less, type_less}
use Rattle.pie_parser.proofs.TypesComplete.{Off, off_by, name_kind}
use Rattle.pie_spelling_laws.proofs.Lengths.{param_less, params_count, params_less}
use Rattle.pie_spelling_laws.proofs.Finds.{Finds, after, at_true, at_false, finds_by, wanted, bracket, behind_them}
use Rattle.pie_spelling_laws.proofs.TypesRead.{type_is_found}
use Rattle.pie_spelling_laws.proofs.ExprRead.{read_block, block_is_found}

-- ---- a function is found, and where it ends

param_found : (d : ℕ) {s m : At} {p : Param} → IsParam s m p → length s.rest ≤ d → Off kinds.Question m → Finds (reads.param d s) p m
param_found d {s = s} {m = m} (grammar.param {a = a} {b = b} {n = n} {t = t} i q x) w o =
    after (name s) _ n a _ _ (finds_by (name s) n a i)
    (after (want kinds.Colon a) _ done b _ _ (wanted kinds.Colon a b q)
    (after (written_type d (inner_type d) b) _ t m _ _ (type_is_found d x
    (omega (arith, w, name_less s a n i, eats_less kinds.Colon a b q (λ e. cc) (λ e. cc))) o) (refl, refl)))

more_off : (k : Kind) {s m : At} {ps : List Param} → MoreParams s m ps → is kinds.Comma k ≡ false → Off k m → Off k s
more_off k grammar.no_more c o = o
more_off k {s = s} (grammar.one_more q x y) c o = off_by k kinds.Comma s q.0 c

more_found : (d n : ℕ) {s m : At} {ps : List Param} → MoreParams s m ps → length s.rest ≤ d → length ps ≤ n → Off kinds.Comma m → Off kinds.Question m
    → Finds (many (reads.another_param d) n s) ps m
more_found d zero grammar.no_more w l c f = (refl, refl)
more_found d zero (grammar.one_more q x k) w l c f = absurd (omega arith)
more_found d (suc n) {s = s} grammar.no_more w l c f =
    subst (λ y. Finds (on_turn (cond y (Part (reads.param d (passed s))) Stop) s (many (reads.another_param d) n)) [] s) (sym c) (refl, refl)
more_found d (suc n) {s = s} {m = m} (grammar.one_more {a = a} {b = b} {p = p} {ps = ps} q x k) w l c f =
    let la = eats_less kinds.Comma s a q (λ e. cc) (λ e. cc) in
    subst (λ y. Finds (on_turn (cond y (Part (reads.param d (passed s))) Stop) s (many (reads.another_param d) n)) (p ∷ ps) m)
    (sym (is_one (next s) kinds.Comma q.0))
    (after (reads.param d (passed s)) _ p b _ _ (subst (λ z. Finds (reads.param d z) p b) q.1
    (param_found d x (omega arith) (more_off kinds.Question k refl f)))
    (after (many (reads.another_param d) n b) _ ps m _ _ (more_found d n k (omega (arith, param_less x)) (omega arith) c f) (refl, refl)))

param_name : {s m : At} {p : Param} → IsParam s m p → next s ≡ kinds.Name
param_name {s = s} (grammar.param {a = a} {n = n} i q t) = name_kind s a n i

abbrev read_params : ℕ → Parser (List Param)
read_params n s = then_on (open_bracket kinds.OpenRound (suc n) s) (λ _ a. reads.params_in n a)

params_found : (d : ℕ) {s m : At} {ps : List Param} → IsParams s m ps → length s.rest ≤ suc d → Finds (read_params d s) ps m
params_found d {s = s} {m = m} (grammar.none {a = a} q p) w = after (open_bracket kinds.OpenRound (suc d) s) _ done a _ _ (bracket kinds.OpenRound d s a q)
    (at_true (is (next a) kinds.CloseRound) (Got [] (passed a)) _ _ _ (is_one (next a) kinds.CloseRound p.0) (refl, sym p.1))
params_found d {s = s} {m = m} (grammar.some {a = a} {b = b} {c = c} {p = p} {ps = ps} q x k z) w =
    let la = eats_less kinds.OpenRound s a q (λ e. cc) (λ e. cc) in
    after (open_bracket kinds.OpenRound (suc d) s) _ done a _ _ (bracket kinds.OpenRound d s a q)
    (at_false (is (next a) kinds.CloseRound) (Got [] (passed a)) _ _ _ (off_by kinds.CloseRound kinds.Name a (param_name x) refl)
    (after (reads.param d a) _ p b _ _ (param_found d x (omega arith) (more_off kinds.Question k refl (off_by kinds.Question kinds.CloseRound c z.0 refl)))
    (after (reads.more_params d p b) _ (p ∷ ps) c _ _
    (behind_them (p ∷ []) ps _ c (more_found d (length b.rest) k (omega (arith, param_less x)) (omega (arith, params_count k))
    (off_by kinds.Comma kinds.CloseRound c z.0 refl) (off_by kinds.Question kinds.CloseRound c z.0 refl)))
    (after (want kinds.CloseRound c) _ done m _ _ (wanted kinds.CloseRound c m z) (refl, refl)))))

starts_block : {s m : At} {t : BlockTree} → IsBlock s m t → next s ≡ kinds.OpenBrace
starts_block (exprs.block q k p) = q.0

abbrev read_function : ℕ → Parser FunctionTree
read_function n s = then_on (want kinds.Func s) (λ _ a. then_on (name a) (λ i b. then_on (read_params n b) (λ ps c. then_on (want kinds.Arrow c) (λ _ d.
    then_on (written_type n (inner_type n) d) (λ t f. then_on (read_block n f) (λ x m.
    Got (record { at = start s; end = m.past; name = i; params = ps; result = t; body = x }) m))))))

function_found : (d : ℕ) {s m : At} {t : FunctionTree} → IsFunction s m t → length s.rest ≤ d → Finds (read_function d s) t m
function_found o {s = s} {m = m} (grammar.function {a = a} {b = b} {c = c} {d = d} {e = e} {n = n} {ps = ps} {t = t} {x = x} q i k p y z) w =
    let la = eats_less kinds.Func s a q (λ e. cc) (λ e. cc) in
    let lb = name_less a b n i in
    let lc = params_less k in
    let ld = eats_less kinds.Arrow c d p (λ e. cc) (λ e. cc) in
    let le = type_less y in
    after (want kinds.Func s) _ done a _ _ (wanted kinds.Func s a q)
    (after (name a) _ n b _ _ (finds_by (name a) n b i)
    (after (read_params o b) _ ps c _ _ (params_found o k (omega arith))
    (after (want kinds.Arrow c) _ done d _ _ (wanted kinds.Arrow c d p)
    (after (written_type o (inner_type o) d) _ t e _ _ (type_is_found o y (omega arith) (off_by kinds.Question kinds.OpenBrace e (starts_block z) refl))
    (after (read_block o e) _ x m _ _ (block_is_found o z (omega arith)) (refl, refl))))))

-- ---- one function, which ends at one place

found_once : {A : Type 0} (p : Parsed A) (x y : A) (m k : At) → Finds p x m → Finds p y k → (x ≡ y) × (m ≡ k)
found_once (Got z a) x y m k h g = (sym h.0 ∙ g.0, sym h.1 ∙ g.1)
found_once (Miss f a) x y m k h g = absurd h

one_function : {s m k : At} {f g : FunctionTree} → IsFunction s m f → IsFunction s k g → (f ≡ g) × (m ≡ k)
one_function {s = s} {m = m} {k = k} {f = f} {g = g} x y =
    found_once (read_function (length s.rest) s) f g m k (function_found (length s.rest) x (omega arith)) (function_found (length s.rest) y (omega arith))

-- ---- one list of functions, up to the end

starts_function : {s m : At} {f : FunctionTree} → IsFunction s m f → next s ≡ kinds.Func
starts_function (grammar.function q i k p y z) = q.0

goes_or_ends : {s m : At} {f : FunctionTree} → IsFunction s m f → next s ≡ kinds.End → ⊥
goes_or_ends x e = let c = sym (starts_function x) ∙ e in cc

one_list : {s m k : At} {fs gs : List FunctionTree} → Functions s m fs → Functions s k gs → next m ≡ kinds.End → next k ≡ kinds.End → fs ≡ gs
one_list grammar.no_function grammar.no_function e h = refl
one_list grammar.no_function (grammar.a_function y b) e h = absurd (goes_or_ends y e)
one_list (grammar.a_function x a) grammar.no_function e h = absurd (goes_or_ends x h)
one_list {m = m} (grammar.a_function {a = i} {f = f} {fs = fs} x a) (grammar.a_function {a = j} {f = g} {fs = gs} y b) e h =
    let one = one_function x y in
    λ l. one.0 l ∷ one_list (subst (λ z. Functions z m fs) one.1 a) b e h l

-- a pipeline's tokens are one list of functions
pub one_pipeline : (ts : List Token) (fs gs : List FunctionTree) → IsPipeline ts fs → IsPipeline ts gs → fs ≡ gs
one_pipeline ts fs gs x y = one_list x.1 y.1 x.2 y.2
