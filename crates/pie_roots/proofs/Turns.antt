-- Reading values one after another.
use Rattle.std.proofs.Common.{◌≡◌, ℕ, zero, suc, ◌+◌, ◌-◌, ◌<◌, ◌≤◌, Bool, true, false, cond, List, [], ◌∷◌, ◌++◌, length, drop, Some, None, refl, sym, ap, ◌∙◌}
use Rattle.std.proofs.Common.{arith}
use Rattle.pie_lexer.specs.declared.token.TokenKind.{TokenKind}
use Rattle.pie_value.specs.Tree.{Tree}
use Rattle.pie_roots.specs.declared.lead.Lead.{Lead}
use Rattle.pie_roots.specs.declared.lead.Sign.TheVariants.{Comma}
use Rattle.pie_roots.specs.inner.Leads.{starts}
use Rattle.pie_roots.specs.inner.Reading.{Parsed, then_on, lead, more, value_by, value_within}

left_is : (n i : ℕ) → i < n → n - i ≡ suc (n - (i + 1))
left_is n i h = omega arith

-- a comma, and a value more
pub one_more : (inner : List TokenKind → Parsed Tree) (n i : ℕ) (ts : List Tree) (ks : List TokenKind) (t : Tree) (rest : List TokenKind) → i < n
    → starts Comma ks ≡ true → inner (drop 1 ks) ≡ Some (t, rest) → more inner (n - i) ts ks ≡ more inner (n - (i + 1)) (ts ++ t ∷ []) rest
one_more inner n i ts ks t rest h c e =
    ap (λ (k : ℕ). more inner k ts ks) (left_is n i h)
    ∙ ap (λ (b : Bool). cond b (then_on (inner (drop 1 ks)) (λ u after. more inner (n - (i + 1)) (ts ++ u ∷ []) after)) (Some (ts, ks))) c
    ∙ ap (λ (p : Parsed Tree). then_on p (λ u after. more inner (n - (i + 1)) (ts ++ u ∷ []) after)) e

-- a comma, and no value
pub one_fails : (inner : List TokenKind → Parsed Tree) (n i : ℕ) (ts : List Tree) (ks : List TokenKind) → i < n
    → starts Comma ks ≡ true → inner (drop 1 ks) ≡ None → more inner (n - i) ts ks ≡ None
one_fails inner n i ts ks h c e =
    ap (λ (k : ℕ). more inner k ts ks) (left_is n i h)
    ∙ ap (λ (b : Bool). cond b (then_on (inner (drop 1 ks)) (λ u after. more inner (n - (i + 1)) (ts ++ u ∷ []) after)) (Some (ts, ks))) c
    ∙ ap (λ (p : Parsed Tree). then_on p (λ u after. more inner (n - (i + 1)) (ts ++ u ∷ []) after)) e

-- no comma
pub one_stops : (inner : List TokenKind → Parsed Tree) (n i : ℕ) (ts : List Tree) (ks : List TokenKind) → i < n
    → starts Comma ks ≡ false → more inner (n - i) ts ks ≡ Some (ts, ks)
one_stops inner n i ts ks h c =
    ap (λ (k : ℕ). more inner k ts ks) (left_is n i h)
    ∙ ap (λ (b : Bool). cond b (then_on (inner (drop 1 ks)) (λ u after. more inner (n - (i + 1)) (ts ++ u ∷ []) after)) (Some (ts, ks))) c

-- no room
pub none_left : (inner : List TokenKind → Parsed Tree) (n i : ℕ) (ts : List Tree) (ks : List TokenKind) → n ≤ i → more inner (n - i) ts ks ≡ Some (ts, ks)
none_left inner n i ts ks h =
    let z : n - i ≡ 0 = omega arith in ap (λ (k : ℕ). more inner k ts ks) z

-- a value that may have items
pub value_goes : (d : ℕ) (ks : List TokenKind) (l : Lead) (rest : List TokenKind) → (d ≡ 0 → ⊥) → lead ks ≡ Some (l, rest)
    → value_within d ks ≡ value_by (value_within (d - 1)) l rest
value_goes zero ks l rest h e = absurd (h refl)
value_goes (suc d) ks l rest h e =
    let p : d ≡ suc d - 1 = omega arith in
    ap (λ (q : Parsed Lead). then_on q (value_by (value_within d))) e ∙ ap (λ (k : ℕ). value_by (value_within k) l rest) p

-- a value that doesn't begin
pub value_stops : (d : ℕ) (ks : List TokenKind) → lead ks ≡ None → value_within d ks ≡ None
value_stops zero ks e = refl
value_stops (suc d) ks e = ap (λ (q : Parsed Lead). then_on q (value_by (value_within d))) e
