-- Neighbours of a listing that have one path and two numbers.
use Rattle.std.proofs.Common.{◌≡◌, ◌≢◌, ℕ, ◌<◌, ◌≤◌, ◌+◌, ◌-◌, ◌==◌, ◌&&◌, not, Bool, true, false, List, length, get_or, refl, sym, ap, ◌∙◌, subst, inl}
use Rattle.std.proofs.Common.{inr, arith}
use Rattle.std.specs.Prelude.{Some}
use Rattle.std.specs.Ordering.{is_gt}
use Rattle.std.specs.List.{Contains}
use Rattle.std.proofs.lemmas.Bool.{cases_lt}
use Rattle.std.proofs.lemmas.Bool.Decides.{Decides-eqb}
use Rattle.std.proofs.lemmas.List.{get_or_default}
use Rattle.std.proofs.lemmas.List.Elements.{Contains-get_or}
use Rattle.pie_base.specs.Path.{same_text}
use Rattle.pie_value.specs.Order.{byte_order}
use Rattle.pie_checks.specs.Listings.{Entry, IsInOrder, Stands, IsShared, IsFirstShared}
use Rattle.pie_checks.proofs.PathOrder.{same_both}
use Rattle.pie_checks.proofs.Gathering.{same_is, same_refl}

-- below a place, entries of one path have one number
abbrev pub SameBelow : List Entry → ℕ → Type 0
SameBelow es i = (j l : ℕ) (d : Entry) → j ≤ l → l < i → (get_or es j d).0 ≡ (get_or es l d).0 → (get_or es j d).1 ≡ (get_or es l d).1

-- whether two entries have one path and two numbers
abbrev pub differ : Entry → Entry → Bool
differ a b = same_text a.0 b.0 && not (a.1 == b.1)

equal_numbers : (t : Bool) (m n : ℕ) → t ≡ true → (t && not (m == n)) ≡ false → m ≡ n
equal_numbers t m n same h = (Decides-eqb m n).0 (by_case t (m == n) same h)
  where
    by_case : (t b : Bool) → t ≡ true → (t && not b) ≡ false → b ≡ true
    by_case t true same h = refl
    by_case true false same h = cc
    by_case false false same h = cc

pub not_differ : (a b : Entry) → differ a b ≡ false → a.0 ≡ b.0 → a.1 ≡ b.1
not_differ a b h e = equal_numbers (same_text a.0 b.0) a.1 b.1 (ap (same_text a.0) (sym e) ∙ same_refl a.0) h

both_true : (a b : Bool) → (a && not b) ≡ true → (a ≡ true) × (b ≡ false)
both_true true true h = cc
both_true true false h = (refl, refl)
both_true false b h = cc

pub do_differ : (a b : Entry) → differ a b ≡ true → (a.0 ≡ b.0) × (a.1 ≢ b.1)
do_differ a b h =
    let parts = both_true (same_text a.0 b.0) (a.1 == b.1) h in
    (same_is a.0 b.0 parts.0, λ e. let on : (a.1 == b.1) ≡ true = (Decides-eqb a.1 b.1).1 e in absurd (cc))

pub same_at_first : (es : List Entry) → SameBelow es 1
same_at_first es j l d le lt e = ap (λ (k : ℕ). (get_or es k d).1) (omega arith)

-- one entry more
pub same_more : (es : List Entry) (i : ℕ) (a b : Entry) → IsInOrder es → 0 < i → i < length es → a ≡ get_or es (i - 1) a → b ≡ get_or es i b
    → differ a b ≡ false → SameBelow es i → SameBelow es (i + 1)
same_more es i a b up pos l ea eb alike h j k d le lt e =
    elim (cases_lt k i) [
      | inl low ↦ h j k d le low e
      | inr high ↦
          let at : k ≡ i = omega arith in
          elim (cases_lt j i) [
            | inl before ↦
                let ga : get_or es (i - 1) d ≡ a = get_or_default es (i - 1) d a (omega arith) ∙ sym ea in
                let gb : get_or es i d ≡ b = get_or_default es i d b l ∙ sym eb in
                let last : (get_or es j d).0 ≡ (get_or es i d).0 = e ∙ ap (λ (m : ℕ). (get_or es m d).0) at in
                let low = up j (i - 1) d (omega arith) (omega arith) in
                let high = subst (λ (p : List ℕ). is_gt (byte_order (get_or es (i - 1) d).0 p) ≡ false) (sym last) (up (i - 1) i d (omega arith) l) in
                let mid : (get_or es j d).0 ≡ (get_or es (i - 1) d).0 = same_both (get_or es j d).0 (get_or es (i - 1) d).0 low high in
                let next : a.0 ≡ b.0 = sym (ap (λ (x : Entry). x.0) ga) ∙ sym mid ∙ last ∙ ap (λ (x : Entry). x.0) gb in
                h j (i - 1) d (omega arith) (omega arith) mid ∙ ap (λ (x : Entry). x.1) ga ∙ not_differ a b alike next ∙ sym (ap (λ (x : Entry). x.1) gb)
                ∙ sym (ap (λ (m : ℕ). (get_or es m d).1) at)
            | inr there ↦ ap (λ (m : ℕ). (get_or es m d).1) (omega arith)
          ]
    ]

apart : (es : List Entry) (i : ℕ) (q : List ℕ) (m n : ℕ) (s : Stands es q m) (t : Stands es q n) → SameBelow es i → m ≢ n → s.0 ≤ t.0 → t.0 < i → ⊥
apart es i q m n s t h other le lt =
    let second : get_or es t.0 (q, m) ≡ (q, n) = get_or_default es t.0 (q, m) (q, n) t.1 ∙ t.2 in
    other (sym (ap (λ (x : Entry). x.1) s.2) ∙ h s.0 t.0 (q, m) le lt (ap (λ (x : Entry). x.0) s.2 ∙ sym (ap (λ (x : Entry). x.0) second))
    ∙ ap (λ (x : Entry). x.1) second)

-- of two numbers beside a path, one stands past a place below which paths have one number
past : (es : List Entry) (i : ℕ) (q : List ℕ) → SameBelow es i → IsShared es q → (k : ℕ) × (n : ℕ) × (i ≤ k) × (k < length es) × (get_or es k (q, n) ≡ (q, n))
past es i q h sh =
    elim (cases_lt sh.2.0 i) [
      | inl first ↦ elim (cases_lt sh.3.0 i) [
        | inl second ↦ elim (cases_lt sh.2.0 sh.3.0) [
          | inl le ↦ absurd (apart es i q sh.0 sh.1 sh.2 sh.3 h sh.4 (omega arith) second)
          | inr ge ↦ absurd (apart es i q sh.1 sh.0 sh.3 sh.2 h (λ e. sh.4 (sym e)) ge first)
        ]
        | inr far ↦ (sh.3.0, sh.1, far, sh.3.1, sh.3.2)
      ]
      | inr far ↦ (sh.2.0, sh.0, far, sh.2.1, sh.2.2)
    ]

pub none_shared : (es : List Entry) (i : ℕ) → length es ≤ i → SameBelow es i → (q : List ℕ) → IsShared es q → ⊥
none_shared es i l h q sh = let far = past es i q h sh in absurd (omega (arith, far.2, far.3))

stands_at : (es : List Entry) (i : ℕ) (a : Entry) → i < length es → a ≡ get_or es i a → Contains es a
stands_at es i a l e = subst (Contains es) (sym e) (Contains-get_or es i a l)

-- the first neighbours that differ
pub first_shared : (es : List Entry) (i : ℕ) (a b : Entry) → IsInOrder es → 0 < i → i < length es → a ≡ get_or es (i - 1) a → b ≡ get_or es i b
    → differ a b ≡ true → SameBelow es i → IsFirstShared es (Some b.0)
first_shared es i a b up pos l ea eb h same =
    let parts = do_differ a b h in
    let first : Stands es b.0 a.1 = subst (λ (p : List ℕ). Contains es (p, a.1)) parts.0 (stands_at es (i - 1) a (omega arith) ea) in (
      (a.1, b.1, first, stands_at es i b l eb, parts.1),
      λ q sh.
          let far = past es i q same sh in
          let hit : get_or es far.0 b ≡ (q, far.1) = get_or_default es far.0 b (q, far.1) far.3 ∙ far.4 in
          subst (λ (x : Entry). is_gt (byte_order x.0 q) ≡ false) (sym eb)
          (subst (λ (x : Entry). is_gt (byte_order (get_or es i b).0 x.0) ≡ false) hit (up i far.0 b far.2 far.3)),
    )
