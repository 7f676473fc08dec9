-- What stands between quotes is the same however it is read, and a text in quotes is the longest at its place.
use Rattle.std.proofs.Common.{◌≡◌, ◌≢◌, ◌⊎◌, inl, inr, ℕ, List, [], ◌∷◌, ◌++◌, length, Some, None, refl, sym, subst, ap, ◌∙◌, arith, append_assoc}
use Rattle.pie_lexer.specs.Quotes.{escape_of, Inside, nothing, plain, escape, EndsOpen, IsBadEscape}
use Rattle.pie_lexer.specs.Tokens.{Lexeme, Kind, Spells, quoted, IsLongest}
use Rattle.pie_lexer.specs.declared.token.TokenKind.TheVariants as kinds
use Rattle.pie_lexer.proofs.Spelled.{sort_of, quoted_is, nonempty}

-- no more can stand between the quotes here
abbrev pub Stops : List ℕ → Type 0
Stops [] = Unit {0}
Stops (b ∷ []) = (b ≡ 34) ⊎ (b ≡ 10) ⊎ (b ≡ 92)
Stops (b ∷ e ∷ _) = (b ≡ 34) ⊎ (b ≡ 10) ⊎ ((b ≡ 92) × (escape_of e ≡ None))

pub stops_at_quote : (r : List ℕ) → Stops (34 ∷ r)
stops_at_quote [] = inl refl
stops_at_quote (e ∷ r) = inl refl

pub stops_open : (r : List ℕ) → EndsOpen r → Stops r
stops_open [] h = tt
stops_open (b ∷ []) (inl h) = inr (inl h)
stops_open (b ∷ []) (inr h) = inr (inr h)
stops_open (b ∷ c ∷ r) h = inr (inl h)

pub stops_bad : (r : List ℕ) → IsBadEscape r → Stops r
stops_bad [] h = absurd h
stops_bad (b ∷ []) h = absurd h
stops_bad (b ∷ e ∷ r) h = inr (inr h)

not_plain : (r : List ℕ) (b : ℕ) (bs : List ℕ) → Stops r → r ≡ b ∷ bs → b ≢ 34 → b ≢ 92 → b ≢ 10 → ⊥
not_plain [] b bs s e p q n = cc
not_plain (c ∷ []) b bs s e p q n =
    let h : c ≡ b = cc in elim s [ inl x ↦ p (sym h ∙ x) | inr y ↦ elim y [ inl x ↦ n (sym h ∙ x) | inr x ↦ q (sym h ∙ x) ] ]
not_plain (c ∷ d ∷ r) b bs s e p q n =
    let h : c ≡ b = cc in elim s [ inl x ↦ p (sym h ∙ x) | inr y ↦ elim y [ inl x ↦ n (sym h ∙ x) | inr x ↦ q (sym h ∙ x.0) ] ]

not_escape : (r : List ℕ) (e c : ℕ) (bs : List ℕ) → Stops r → r ≡ 92 ∷ e ∷ bs → escape_of e ≡ Some c → ⊥
not_escape [] e c bs s h k = cc
not_escape (a ∷ []) e c bs s h k = cc
not_escape (a ∷ d ∷ r) e c bs s h k =
    let x : a ≡ 92 = cc in
    let y : d ≡ e = cc in
    elim s [
      | inl z ↦ absurd (omega arith)
      | inr z ↦ elim z [ inl n ↦ absurd (omega arith) | inr n ↦ clash d e c y n.1 k ]
    ]
  where
    clash : (d e c : ℕ) → d ≡ e → escape_of d ≡ None → escape_of e ≡ Some c → ⊥
    clash d e c y n k = let p : None ≡ Some c = sym n ∙ ap escape_of y ∙ k in cc

pub inside_same : {i s j t : List ℕ} → (r q : List ℕ) → Inside i s → Inside j t → Stops r → Stops q → i ++ r ≡ j ++ q → (i ≡ j) × (s ≡ t) × (r ≡ q)
inside_same r q nothing nothing x y e = (refl, refl, e)
inside_same r q nothing (plain {b = b} {inner = j} p1 p2 p3 m) x y e = absurd (not_plain r b (j ++ q) x e p1 p2 p3)
inside_same r q nothing (escape {e = f} {c = c} {inner = j} k m) x y e = absurd (not_escape r f c (j ++ q) x e k)
inside_same r q (plain {b = b} {inner = i} p1 p2 p3 m) nothing x y e = absurd (not_plain q b (i ++ r) y (sym e) p1 p2 p3)
inside_same r q (plain {b = b} {inner = i} p1 p2 p3 m) (plain {b = c} {inner = j} q1 q2 q3 n) x y e =
    let h : b ≡ c = cc in
    let t : i ++ r ≡ j ++ q = cc in
    let z = inside_same r q m n x y t in
    (cc (h, z.0), cc (h, z.1), z.2)
inside_same r q (plain {b = b} {inner = i} p1 p2 p3 m) (escape {e = f} {c = c} {inner = j} k n) x y e = absurd (p2 (let h : b ≡ 92 = cc in h))
inside_same r q (escape {e = f} {c = c} {inner = i} k m) nothing x y e = absurd (not_escape q f c (i ++ r) y (sym e) k)
inside_same r q (escape {e = f} {c = c} {inner = i} k m) (plain {b = b} {inner = j} q1 q2 q3 n) x y e = absurd (q2 (let h : b ≡ 92 = cc in h))
inside_same r q (escape {e = f} {c = c} {inner = i} k m) (escape {e = g} {c = d} {inner = j} l n) x y e =
    let h : f ≡ g = cc in
    let t : i ++ r ≡ j ++ q = cc in
    let o : Some c ≡ Some d = sym k ∙ ap escape_of h ∙ l in
    let a : c ≡ d = cc in
    let z = inside_same r q m n x y t in
    (cc (h, z.0), cc (a, z.1), z.2)

quoted_front : (inner r after : List ℕ) → (inner ++ 34 ∷ []) ++ after ≡ inner ++ 34 ∷ after
quoted_front inner r after = append_assoc inner (34 ∷ []) after

same_quoted : (inner said r v after : List ℕ) (y : Lexeme) → Inside inner said → 34 ∷ (inner ++ 34 ∷ r) ≡ v ++ after → Spells v y
    → (v ≡ 34 ∷ (inner ++ 34 ∷ [])) × (y ≡ Kind (kinds.Text said))
same_quoted inner said r [] after y i e s = (let x = nonempty [] y s in cc (x.2), let x = nonempty [] y s in let n : [] ≡ x.0 ∷ x.1 = x.2 in cc)
same_quoted inner said r (c ∷ vs) after y i e s =
    let h : 34 ≡ c = cc in
    let t : inner ++ 34 ∷ r ≡ vs ++ after = cc in
    let q = quoted_is c vs y (subst (λ n. sort_of n ≡ 3) h refl) s in
    let u : inner ++ 34 ∷ r ≡ q.0 ++ 34 ∷ after = t ∙ ap (λ w. w ++ after) q.2 ∙ append_assoc q.0 (34 ∷ []) after in
    let z = inside_same (34 ∷ r) (34 ∷ after) i q.3 (stops_at_quote r) (stops_at_quote after) u in
    let k : vs ≡ inner ++ 34 ∷ [] = q.2 ∙ ap (λ w. w ++ 34 ∷ []) (sym z.0) in
    (cc (h, k), q.4 ∙ ap (λ w. Kind (kinds.Text w)) (sym z.1))

pub longest_quoted : (inner said r : List ℕ) → Inside inner said
    → IsLongest (34 ∷ (inner ++ 34 ∷ r)) (34 ∷ (inner ++ 34 ∷ [])) r (Kind (kinds.Text said))
longest_quoted inner said r i = record {
  front = ap (λ t. 34 ∷ t) (sym (append_assoc inner (34 ∷ []) r));
  spelled = quoted i refl;
  longest = λ v after y e s. let q = same_quoted inner said r v after y i e s in let h = ap length q.0 in omega arith;
}
