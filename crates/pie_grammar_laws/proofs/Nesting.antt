-- From how many brackets may be opened to how many stand open.
use Rattle.std.proofs.Common.{◌≡◌, ℕ, ◌+◌, ◌-◌, ◌<◌, true, false, cond, List, [], ◌∷◌, ◌++◌, refl, sym, subst, ap, ◌∙◌, arith}
use Rattle.pie_lexer.specs.declared.token.Token.{Token}
use Rattle.pie_parser.specs.declared.kind.Kind.{Kind}
use Rattle.pie_parser.specs.declared.kind.Kind.TheVariants as kinds
use Rattle.pie_parser.specs.Kinds.{kind_of_token}
use Rattle.pie_grammar_laws.specs.Brackets.{opens, closes, open_behind, open_after, IsShallow}
use Rattle.pie_grammar_laws.proofs.Twins.{Keeps, kept, opening, closing, other}

closes_none : (k : Kind) → closes k ≡ true → opens k ≡ false
closes_none kinds.CloseRound h = refl
closes_none kinds.CloseSquare h = refl
closes_none kinds.CloseBrace h = refl
closes_none k h = cc

open_more : (n : ℕ) (k : Kind) → opens k ≡ true → open_behind n k ≡ n + 1
open_more n k h = ap (λ b. cond b (n + 1) (cond (closes k) (n - 1) n)) h

open_less : (n : ℕ) (k : Kind) → closes k ≡ true → open_behind n k ≡ n - 1
open_less n k h = ap (λ b. cond b (n + 1) (cond (closes k) (n - 1) n)) (closes_none k h) ∙ ap (λ b. cond b (n - 1) n) h

open_same : (n : ℕ) (k : Kind) → opens k ≡ false → closes k ≡ false → open_behind n k ≡ n
open_same n k h i = ap (λ b. cond b (n + 1) (cond (closes k) (n - 1) n)) h ∙ ap (λ b. cond b (n - 1) n) i

-- brackets that stand open and brackets that may be opened are 64
pub open_is : {d e : ℕ} {w : List Token} (n : ℕ) → Keeps 64 d w e → n + d ≡ 64 → open_after n w + e ≡ 64
open_is n kept h = h
open_is n (opening {d = d} {e = e} {t = t} {ts = ts} o k) h = subst (λ m. open_after m ts + e ≡ 64) (sym (open_more n (kind_of_token t.kind) o))
    (open_is (n + 1) k (omega arith))
open_is n (closing {e = e} {t = t} {ts = ts} c l k) h = subst (λ m. open_after m ts + e ≡ 64) (sym (open_less n (kind_of_token t.kind) c))
    (open_is (n - 1) k (omega arith))
open_is n (other {e = e} {t = t} {ts = ts} o c k) h = subst (λ m. open_after m ts + e ≡ 64) (sym (open_same n (kind_of_token t.kind) o c)) (open_is n k h)

tail_same : {x y : Token} {xs ys : List Token} → x ∷ xs ≡ y ∷ ys → (x ≡ y) × (xs ≡ ys)
tail_same h = (cc, cc)

-- an opening bracket among them stands inside fewer than 64
shallow_from : {d e : ℕ} {w : List Token} (n : ℕ) → Keeps 64 d w e → n + d ≡ 64 → (a : List Token) (x : Token) (r : List Token) → w ≡ a ++ x ∷ r
    → opens (kind_of_token x.kind) ≡ true → open_after n a < 64
shallow_from n kept h [] x r q o = absurd cc
shallow_from n kept h (y ∷ a) x r q o = absurd cc
shallow_from n (opening i k) h [] x r q o = omega arith
shallow_from n (opening {t = t} i k) h (y ∷ a) x r q o =
    let s = tail_same q in
    subst (λ m. open_after m a < 64) (sym (ap (λ (z : Token). open_behind n (kind_of_token z.kind)) (sym s.0) ∙ open_more n (kind_of_token t.kind) i))
    (shallow_from (n + 1) k (omega arith) a x r s.1 o)
shallow_from n (closing {t = t} c l k) h [] x r q o =
    let s = tail_same q in
    let z : true ≡ false = sym o ∙ ap (λ (i : Token). opens (kind_of_token i.kind)) (sym s.0) ∙ closes_none (kind_of_token t.kind) c in cc
shallow_from n (closing {t = t} c l k) h (y ∷ a) x r q o =
    let s = tail_same q in
    subst (λ m. open_after m a < 64) (sym (ap (λ (z : Token). open_behind n (kind_of_token z.kind)) (sym s.0) ∙ open_less n (kind_of_token t.kind) c))
    (shallow_from (n - 1) k (omega arith) a x r s.1 o)
shallow_from n (other i c k) h [] x r q o =
    let s = tail_same q in
    let z : true ≡ false = sym o ∙ ap (λ (i : Token). opens (kind_of_token i.kind)) (sym s.0) ∙ i in cc
shallow_from n (other {t = t} i c k) h (y ∷ a) x r q o =
    let s = tail_same q in
    subst (λ m. open_after m a < 64) (sym (ap (λ (z : Token). open_behind n (kind_of_token z.kind)) (sym s.0) ∙ open_same n (kind_of_token t.kind) i c))
    (shallow_from n k h a x r s.1 o)

pub shallow_is : {e : ℕ} {w : List Token} → Keeps 64 64 w e → IsShallow w
shallow_is k a x r q o = shallow_from 0 k refl a x r q o
