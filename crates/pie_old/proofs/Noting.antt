-- Digests of names, of which one more is noted.
use Rattle.std.proofs.Common.{◌≡◌, ℕ, ◌<◌, ◌+◌, Bool, true, false, cond, List, ◌∷◌, Option, Some, None, length, get_or, drop, refl, sym, ap, ◌∙◌}
use Rattle.std.specs.Prelude.{String, bytes_eq}
use Rattle.std.specs.BTreeMap.{BTreeMap, get_by_text}
use Rattle.std.proofs.lemmas.Slice.Eq.{bytes_eq-Decides}
use Rattle.std.proofs.lemmas.List.{drop_more}
use Rattle.pie_old.specs.inner.Code.{kept, digest_in}

agree : (b c : Bool) → (b ≡ true → c ≡ true) → (c ≡ true → b ≡ true) → b ≡ c
agree true c h k = sym (h refl)
agree false true h k = k refl
agree false false h k = refl

same_either : (a b : List ℕ) → bytes_eq a b ≡ bytes_eq b a
same_either a b = agree (bytes_eq a b) (bytes_eq b a)
    (λ h. (bytes_eq-Decides b a).1 (sym ((bytes_eq-Decides a b).0 h)))
    (λ h. (bytes_eq-Decides a b).1 (sym ((bytes_eq-Decides b a).0 h)))

by_test : (b c : Bool) (x : List ℕ) (o : Option (List ℕ)) → b ≡ c → (b ≡ true → o ≡ None) → cond b (Some x) o ≡ kept o (cond c (Some x) None)
by_test true true x o e h = ap (λ o. kept o (Some x)) (sym (h refl))
by_test false false x None e h = refl
by_test false false x (Some m) e h = refl
by_test true false x o e h = cc
by_test false true x o e h = cc

-- a digest was noted at a name that had none
pub noted_so : {Z : Type 0} (old new : BTreeMap (String Z) (List ℕ)) (bs x : List ℕ) → get_by_text old bs ≡ None
    → ((q : List ℕ) → get_by_text new q ≡ cond (bytes_eq bs q) (Some x) (get_by_text old q))
    → (q : List ℕ) → get_by_text new q ≡ kept (get_by_text old q) (cond (bytes_eq q bs) (Some x) None)
noted_so old new bs x gone up q =
    up q ∙ by_test (bytes_eq bs q) (bytes_eq q bs) x (get_by_text old q) (same_either bs q)
    (λ h. ap (get_by_text old) (sym ((bytes_eq-Decides bs q).0 h)) ∙ gone)

kept_if : (c : Bool) (x : List ℕ) (o : Option (List ℕ)) → (c ≡ true → (m : List ℕ) × (o ≡ Some m)) → o ≡ kept o (cond c (Some x) None)
kept_if c x (Some m) h = refl
kept_if false x None h = refl
kept_if true x None h = let p = h refl in let q = p.1 in cc

-- a name that has a digest keeps it
pub kept_so : {Z : Type 0} (old : BTreeMap (String Z) (List ℕ)) (bs x m : List ℕ) → get_by_text old bs ≡ Some m
    → (q : List ℕ) → get_by_text old q ≡ kept (get_by_text old q) (cond (bytes_eq q bs) (Some x) None)
kept_so old bs x m there q = kept_if (bytes_eq q bs) x (get_by_text old q) (λ h. (m, ap (get_by_text old) ((bytes_eq-Decides q bs).0 h) ∙ there))

three : (o p q : Option (List ℕ)) → kept (kept o p) q ≡ kept o (kept p q)
three (Some x) p q = refl
three None p q = refl

-- one function more is noted
pub noted_more : (old new : List ℕ → Option (List ℕ)) (funcs : List (List ℕ × List ℕ)) (i : ℕ) (f : List ℕ × List ℕ) → i < length funcs
    → f ≡ get_or funcs i f → ((q : List ℕ) → new q ≡ kept (old q) (cond (bytes_eq q f.0) (Some f.1) None))
    → ((q : List ℕ) → kept (old q) (digest_in (drop i funcs) q) ≡ digest_in funcs q)
    → (q : List ℕ) → kept (new q) (digest_in (drop (i + 1) funcs) q) ≡ digest_in funcs q
noted_more old new funcs i f l e n inv q =
    let rest = drop (i + 1) funcs in
    let front : drop i funcs ≡ f ∷ rest = drop_more funcs i f l ∙ ap (λ (g : List ℕ × List ℕ). g ∷ rest) (sym e) in
    ap (λ (o : Option (List ℕ)). kept o (digest_in rest q)) (n q)
    ∙ three (old q) (cond (bytes_eq q f.0) (Some f.1) None) (digest_in rest q)
    ∙ ap (λ (fs : List (List ℕ × List ℕ)). kept (old q) (digest_in fs q)) (sym front)
    ∙ inv q
