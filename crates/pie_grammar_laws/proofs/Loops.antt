-- Parts as often as they come: read alike in two texts.
use Rattle.std.proofs.Common.{◌≡◌, ℕ, ◌+◌, ◌≤◌, zero, suc, Bool, true, false, cond, List, [], ◌∷◌, ◌++◌, length, refl, subst, arith, length-append}
use Rattle.pie_lexer.specs.declared.token.Token.{Token}
use Rattle.pie_parser.specs.At.{At}
use Rattle.pie_parser.specs.Places.{Parsed, Got}
use Rattle.pie_parser.specs.inner.Turns.{Turn, Stop, Part, on_turn, many, onto, all_behind}
use Rattle.pie_grammar_laws.proofs.Twins.{Texts, place, Twin, before, gone, Alike, both_got, both_miss, past_got, past_miss, then_alike, any_alike, from_gone}
use Rattle.pie_grammar_laws.proofs.Twins.{got_alike}

-- both turns stop, or both read a part alike
pub data TurnsAlike (A : Type 0) (z : Texts) (d : ℕ) (ts : List Token) : Turn A → Turn A → Type 0 where
  both_stop : TurnsAlike A z d ts Stop Stop
  both_part : (p q : Parsed A) → Alike A z 1 d d ts p q → TurnsAlike A z d ts (Part p) (Part q)

-- a part, where a test says so
pub cond_turn : {A : Type 0} {z : Texts} {d : ℕ} {ts : List Token} {x y : Bool} {p q : Parsed A} → x ≡ y → (x ≡ true → Alike A z 1 d d ts p q)
    → TurnsAlike A z d ts (cond x (Part p) Stop) (cond y (Part q) Stop)
cond_turn {A = A} {z = z} {d = d} {ts = ts} {x = x} {p = p} {q = q} e h = subst (λ y. TurnsAlike A z d ts (cond x (Part p) Stop) (cond y (Part q) Stop)) e
    (by_test x h)
  where
    by_test : (x : Bool) → (x ≡ true → Alike A z 1 d d ts p q) → TurnsAlike A z d ts (cond x (Part p) Stop) (cond x (Part q) Stop)
    by_test true h = both_part p q (h refl)
    by_test false h = both_stop

onto_alike : {A : Type 0} {z : Texts} {c d e : ℕ} {ts : List Token} {p q : Parsed (List A)} (xs : List A) → Alike (List A) z c d e ts p q
    → Alike (List A) z c d e ts (onto xs p) (onto xs q)
onto_alike xs (both_got a m k w x) = both_got (xs ++ a) m k w x
onto_alike xs (both_miss f m k w x) = both_miss f m k w x
onto_alike xs (past_got a m q l x) = past_got (xs ++ a) m (onto xs q) l x
onto_alike xs (past_miss f m q l x) = past_miss f m (onto xs q) l x

module _ {A : Type 0} (z : Texts) (d : ℕ) (turn : At → Turn A) (good : (s t : At) → Twin z s t → TurnsAlike A z d s.rest (turn s) (turn t)) where
  -- all parts from here, with so many turns left in either text
  abbrev Many : ℕ → ℕ → Type 0
  Many n j = (s t : At) → Twin z s t → length s.rest ≤ n → length s.rest + length z.two ≤ j + length z.one
      → Alike (List A) z 0 d d s.rest (many turn n s) (many turn j t)

  a_turn : (n j : ℕ) → Many n j → Many (suc n) (suc j)
  a_turn n j again s t w l i = by_turn (turn s) (turn t) (good s t w)
    where
      by_turn : (x y : Turn A) → TurnsAlike A z d s.rest x y → Alike (List A) z 0 d d s.rest (on_turn x s (many turn n)) (on_turn y t (many turn j))
      by_turn _ _ both_stop = got_alike w refl
      by_turn _ _ (both_part p q h) =
          any_alike (then_alike h (λ a m k v g. then_alike (again m k v (omega arith) (omega arith)) (λ bs m k v g. got_alike v refl)))

  many_alike : (n j : ℕ) → Many n j
  many_alike zero j s t w l i = by_place s t w l i
    where
      by_place : (s t : At) → Twin z s t → length s.rest ≤ zero → length s.rest + length z.two ≤ j + length z.one
          → Alike (List A) z 0 d d s.rest (Got [] s) (many turn j t)
      by_place _ _ (before p v b) l i = (let x = length-append v (z.token ∷ z.one) in absurd (omega arith))
      by_place _ _ (gone s g) l i = from_gone (many turn j s) g (got_alike (gone s g) refl)
  many_alike (suc n) zero s t w l i = by_place (many_alike n n) s t w l i
    where
      by_place : Many n n → (s t : At) → Twin z s t → length s.rest ≤ suc n → length s.rest + length z.two ≤ zero + length z.one
          → Alike (List A) z 0 d d s.rest (many turn (suc n) s) (Got [] t)
      by_place again _ _ (before p v b) l i = (let x = length-append v (z.token ∷ z.one) in absurd (omega arith))
      by_place again _ _ (gone s g) l i = from_gone (Got [] s) g (a_turn n n again s s (gone s g) l (omega arith))
  many_alike (suc n) (suc j) s t w l i = a_turn n j (many_alike n j) s t w l i

  pub all_alike : (xs : List A) (s t : At) → Twin z s t → Alike (List A) z 0 d d s.rest (all_behind xs turn s) (all_behind xs turn t)
  all_alike xs _ _ (before p v b) =
      let x = length-append v (z.token ∷ z.one) in
      let y = length-append v (z.token ∷ z.two) in
      onto_alike xs (many_alike (length (v ++ z.token ∷ z.one)) (length (v ++ z.token ∷ z.two)) (place p (v ++ z.token ∷ z.one) b)
      (place p (v ++ z.token ∷ z.two) b) (before p v b) (omega arith) (omega arith))
  all_alike xs _ _ (gone s g) =
      onto_alike xs (from_gone (many turn (length s.rest) s) g
      (many_alike (length s.rest) (length s.rest + length z.two) s s (gone s g) (omega arith) (omega arith)))
