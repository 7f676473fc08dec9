-- What stands between quotes, and where a scan over it ends.
use Rattle.std.proofs.Common.{◌≡◌, ◌≢◌, inl, inr, ℕ, ◌+◌, ◌-◌, true, false, ◌==◌, List, [], ◌∷◌, ◌++◌, length, None, refl, subst, ap, append_assoc}
use Rattle.std.proofs.Common.{length-append, arith}
use Rattle.std.proofs.lemmas.Bool.Decides.{eqb_tells}
use Rattle.pie_lexer.specs.Quotes.{escape_of, Inside, nothing, plain, escape, EndsOpen, IsBadEscape}
use Rattle.pie_lexer.proofs.Prefixes.{some_or_none}
use Rattle.pie_lexer.specs.inner.Scanning.{End, Closes, Opens, Fails, scan}

pub inside-append : {a s b t : List ℕ} → Inside a s → Inside b t → Inside (a ++ b) (s ++ t)
inside-append nothing i = i
inside-append (plain p q r j) i = plain p q r (inside-append j i)
inside-append (escape e j) i = escape e (inside-append j i)

-- what an end says of the bytes behind the opening quote
abbrev pub Said : List ℕ → End → Type 0
Said tail (Closes said n) = (inner : List ℕ) × (rest : List ℕ) × (tail ≡ inner ++ 34 ∷ rest) × Inside inner said × (n ≡ length inner + 2)
Said tail Opens = (inner : List ℕ) × (said : List ℕ) × (rest : List ℕ) × (tail ≡ inner ++ rest) × Inside inner said × EndsOpen rest
Said tail (Fails n) = (inner : List ℕ) × (said : List ℕ) × (rest : List ℕ) × (tail ≡ inner ++ rest) × Inside inner said × IsBadEscape rest
    × (n ≡ length inner + 1)

-- what a byte is to a scan
data Sort (b : ℕ) : Type 0 where
  closes : (b == 34) ≡ true → b ≡ 34 → Sort b
  ends : (b == 34) ≡ false → (b == 10) ≡ true → b ≡ 10 → Sort b
  escapes : (b == 34) ≡ false → (b == 10) ≡ false → (b == 92) ≡ true → b ≡ 92 → Sort b
  other : (b == 34) ≡ false → (b == 10) ≡ false → (b == 92) ≡ false → b ≢ 34 → b ≢ 10 → b ≢ 92 → Sort b

sorted : (b : ℕ) → Sort b
sorted b =
    elim (eqb_tells b 34) [
      | inl p ↦ closes p.0 p.1
      | inr p ↦ elim (eqb_tells b 10) [
        | inl q ↦ ends p.0 q.0 q.1
        | inr q ↦ elim (eqb_tells b 92) [ inl r ↦ escapes p.0 q.0 r.0 r.1 | inr r ↦ other p.0 q.0 r.0 p.1 q.1 r.1 ]
      ]
    ]

bad_here : (pre said bs : List ℕ) (e n : ℕ) → Inside pre said → escape_of e ≡ None → n ≡ length pre + 2 → Said (pre ++ 92 ∷ e ∷ bs) (Fails (n - 1))
bad_here pre said bs e n i h l = (pre, said, 92 ∷ e ∷ bs, refl, i, (refl, h), omega arith)

open_at : (pre said : List ℕ) (b : ℕ) (bs : List ℕ) → Inside pre said → b ≡ 10 → Said (pre ++ b ∷ bs) Opens
open_at pre said b [] i h = (pre, said, b ∷ [], refl, i, inl h)
open_at pre said b (c ∷ bs) i h = (pre, said, b ∷ c ∷ bs, refl, i, h)

closed_at : (pre said : List ℕ) (b : ℕ) (bs : List ℕ) (n : ℕ) → Inside pre said → b ≡ 34 → n ≡ length pre + 1 → Said (pre ++ b ∷ bs) (Closes said (n + 1))
closed_at pre said b bs n i h l = (pre, bs, ap (λ x. pre ++ x ∷ bs) h, i, omega arith)

longer : (pre : List ℕ) (b n : ℕ) → n ≡ length pre + 1 → n + 1 ≡ length (pre ++ b ∷ []) + 1
longer pre b n l = omega (arith, length-append pre (b ∷ []))

longer_two : (pre : List ℕ) (e n : ℕ) → n ≡ length pre + 2 → n + 1 ≡ length (pre ++ 92 ∷ e ∷ []) + 1
longer_two pre e n l = omega (arith, length-append pre (92 ∷ e ∷ []))

mutual
  pub plain_says : (bs pre said : List ℕ) (n : ℕ) → Inside pre said → n ≡ length pre + 1 → Said (pre ++ bs) (scan (said, false) bs n)
  plain_says [] pre said n i l = (pre, said, [], refl, i, tt)
  plain_says (b ∷ bs) pre said n i l =
      elim (sorted b) [
        | closes p h ↦ rw p (closed_at pre said b bs n i h l)
        | ends p q h ↦ rw (p, q) (open_at pre said b bs i h)
        | escapes p q r h ↦ rw (p, q, r) (rw h (escaped_says bs pre said (n + 1) i (omega arith)))
        | other p q r x y z ↦ rw (p, q, r) (subst (λ t. Said t (scan (said ++ b ∷ [], false) bs (n + 1))) (append_assoc pre (b ∷ []) bs)
            (plain_says bs (pre ++ b ∷ []) (said ++ b ∷ []) (n + 1) (inside-append i (plain x z y nothing)) (longer pre b n l)))
      ]

  pub escaped_says : (bs pre said : List ℕ) (n : ℕ) → Inside pre said → n ≡ length pre + 2 → Said (pre ++ 92 ∷ bs) (scan (said, true) bs n)
  escaped_says [] pre said n i l = (pre, said, 92 ∷ [], refl, i, inr refl)
  escaped_says (e ∷ bs) pre said n i l =
      elim (some_or_none (escape_of e)) [
        | inl h ↦ rw h (bad_here pre said bs e n i h l)
        | inr c ↦ rw c.1 (subst (λ t. Said t (scan (said ++ c.0 ∷ [], false) bs (n + 1))) (append_assoc pre (92 ∷ e ∷ []) bs)
            (plain_says bs (pre ++ 92 ∷ e ∷ []) (said ++ c.0 ∷ []) (n + 1) (inside-append i (escape c.1 nothing)) (longer_two pre e n l)))
      ]
