-- One turn of each loop over tokens, and ranges that are cut at the end of a text.
use Rattle.std.proofs.Common.{◌≡◌, ℕ, zero, suc, ◌+◌, ◌-◌, ◌<◌, ◌≤◌, Bool, true, false, cond, List, [], ◌∷◌, ◌++◌, length, get_or, drop, take, ap, sym, ◌∙◌}
use Rattle.std.proofs.Common.{refl, append_assoc, arith}
use Rattle.std.specs.Prelude.{min, slice_range}
use Rattle.std.proofs.lemmas.List.{drop_more, take_more, append-nil, length-drop, take_min}
use Rattle.std.proofs.Math.Seq.{drop-length}
use Rattle.std.specs.Cmp.{IsTotalOrder}
use Rattle.std.proofs.lemmas.Cmp.{then_total, on_total, nat_cmp_total, nat_list_cmp_total}
use Rattle.pie_lexer.specs.declared.token.Token.{Token}
use Rattle.pie_types.proofs.Left.{list_left}
use Rattle.pie_digest.specs.Digests.{is_func, before_func, spelling, spaced, digest_here, digests_of, name_cmp}

pub spaced_turn : (done text : List ℕ) (ts : List Token) (i : ℕ) (t : Token) → i < length ts → t ≡ get_or ts i t
    → done ++ spaced text (drop i ts) ≡ ((done ++ 32 ∷ []) ++ spelling text t) ++ spaced text (drop (i + 1) ts)
spaced_turn done text ts i t h e =
    ap (λ rest. done ++ spaced text rest) (list_left ts i t h e)
    ∙ sym (append_assoc (done ++ 32 ∷ []) (spelling text t) (spaced text (drop (i + 1) ts))
    ∙ append_assoc done (32 ∷ []) (spelling text t ++ spaced text (drop (i + 1) ts)))

pub digests_turn : (done : List (List ℕ × List ℕ)) (text : List ℕ) (ts : List Token) (i : ℕ) → i < length ts
    → done ++ digests_of text (drop i ts) ≡ (done ++ digest_here text (drop i ts)) ++ digests_of text (drop (i + 1) ts)
digests_turn done text [] i h = absurd (omega arith)
digests_turn done text (d ∷ ts) i h =
    let e = drop_more (d ∷ ts) i d h in
    let here = digest_here text (get_or (d ∷ ts) i d ∷ drop (i + 1) (d ∷ ts)) in
    let rest = digests_of text (drop (i + 1) (d ∷ ts)) in
    ap (λ us. done ++ digests_of text us) e
    ∙ sym (append_assoc done here rest)
    ∙ ap (λ us. (done ++ digest_here text us) ++ rest) (sym e)

-- ---- the next function

step_is : (t : Token) (ts : List Token) (b : Bool) → is_func t.kind ≡ b → before_func (t ∷ ts) ≡ cond b [] (t ∷ before_func ts)
step_is t ts b e = ap (λ c. cond c [] (t ∷ before_func ts)) e

pub func_here : (ts : List Token) (i : ℕ) (t : Token) → i < length ts → t ≡ get_or ts i t → is_func t.kind ≡ true
    → before_func ts ≡ take i ts ++ before_func (drop i ts) → take i ts ≡ before_func ts
func_here ts i t h e f so =
    sym (so ∙ ap (λ us. take i ts ++ before_func us) (list_left ts i t h e)
    ∙ ap (λ us. take i ts ++ us) (step_is t (drop (i + 1) ts) true f) ∙ append-nil (take i ts))

pub no_func_yet : (ts : List Token) (i : ℕ) (t : Token) → i < length ts → t ≡ get_or ts i t → is_func t.kind ≡ false
    → before_func ts ≡ take i ts ++ before_func (drop i ts) → before_func ts ≡ take (i + 1) ts ++ before_func (drop (i + 1) ts)
no_func_yet ts i t h e f so =
    let rest = before_func (drop (i + 1) ts) in
    so ∙ ap (λ us. take i ts ++ before_func us) (list_left ts i t h e)
    ∙ ap (λ us. take i ts ++ us) (step_is t (drop (i + 1) ts) false f)
    ∙ sym (append_assoc (take i ts) (t ∷ []) rest)
    ∙ ap (λ (u : Token). (take i ts ++ u ∷ []) ++ rest) e
    ∙ ap (λ us. us ++ rest) (sym (take_more ts i t h))

pub no_func : (ts : List Token) → before_func ts ≡ take (length ts) ts ++ before_func (drop (length ts) ts) → take (length ts) ts ≡ before_func ts
no_func ts so = sym (so ∙ ap (λ us. take (length ts) ts ++ before_func us) (drop-length ts) ∙ append-nil (take (length ts) ts))

-- ---- the order of names

pub name_total : IsTotalOrder name_cmp
name_total = then_total (on_total length nat_cmp_total) nat_list_cmp_total

-- ---- ranges

drop_past : {X : Type 0} (n : ℕ) (xs : List X) → length xs ≤ n → drop n xs ≡ []
drop_past n xs h = none (drop n xs) (length-drop n xs ∙ omega arith)
  where
    none : {Y : Type 0} (ys : List Y) → length ys ≡ 0 → ys ≡ []
    none [] e = refl
    none (y ∷ ys) e = absurd (omega arith)

take_none : {X : Type 0} (n : ℕ) (xs : List X) → n ≡ 0 → take n xs ≡ []
take_none n xs e = ap (λ k. take k xs) e

take_nil : {X : Type 0} (n : ℕ) (xs : List X) → xs ≡ [] → take n xs ≡ []
take_nil {X} zero xs e = refl
take_nil {X} (suc n) xs e = ap (λ (ys : List X). take (suc n) ys) e

range_is : {X : Type 0} (xs : List X) (a b c d : ℕ) → c ≡ min a d → d ≡ min b (length xs) → slice_range xs c d ≡ slice_range xs a b
range_is [] a b c d p q =
    take_nil (d - c) (drop c []) (drop_past c [] (omega arith)) ∙ sym (take_nil (b - a) (drop a []) (drop_past a [] (omega arith)))
range_is (x ∷ xs) zero b c d p q =
    let c0 : c ≡ 0 = omega (arith, p) in
    let same : b ≡ b - 0 = omega arith in
    let back : d - 0 ≡ min b (length (x ∷ xs)) = omega (arith, q) in
    ap (λ k. slice_range (x ∷ xs) k d) c0 ∙ ap (λ k. take k (x ∷ xs)) back ∙ take_min b (x ∷ xs)
    ∙ ap (λ k. take k (x ∷ xs)) same
range_is (x ∷ xs) (suc a) zero c d p q =
    take_none (d - c) (drop c (x ∷ xs)) (omega (arith, q)) ∙ sym (take_none (0 - suc a) (drop (suc a) (x ∷ xs)) (omega arith))
range_is (x ∷ xs) (suc a) (suc b) zero d p q = absurd (omega (arith, p, q))
range_is (x ∷ xs) (suc a) (suc b) (suc c) zero p q = absurd (omega (arith, p, q))
range_is (x ∷ xs) (suc a) (suc b) (suc c) (suc d) p q =
    let e : suc d - suc c ≡ d - c = omega arith in
    let f : b - a ≡ suc b - suc a = omega arith in
    ap (λ k. take k (drop c xs)) e ∙ range_is xs a b c d (omega (arith, p)) (omega (arith, q)) ∙ ap (λ k. take k (drop a xs)) f

pub range_within : (xs : List ℕ) (a b : ℕ) → slice_range xs (min a (min b (length xs))) (min b (length xs)) ≡ slice_range xs a b
range_within xs a b = range_is xs a b (min a (min b (length xs))) (min b (length xs)) refl refl
