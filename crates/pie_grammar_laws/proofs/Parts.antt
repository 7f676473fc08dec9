-- Parts as often as they come are a word of the grammar.
use Rattle.std.proofs.Common.{◌≡◌, ℕ, zero, suc, Bool, true, false, cond, List, [], ◌∷◌, ◌++◌, length, refl, sym, subst}
use Rattle.pie_lexer.specs.declared.token.Token.{Token}
use Rattle.pie_parser.specs.At.{At}
use Rattle.pie_parser.specs.Places.{Parsed}
use Rattle.pie_parser.specs.inner.Turns.{Turn, Stop, Part, on_turn, many, onto, all_behind}
use Rattle.pie_grammar_laws.proofs.Words.{Then, Word, Fine, fine_got, fine_miss, no_memory, fine_then, fine_as, fine_last, fine_nothing, Nothing}

-- a turn that stops, or reads a part that is a word
pub data TurnFine (A : Type 0) (k : Bool) (R : At → At → Type 0) (s : At) : Turn A → Type 0 where
  fine_stop : TurnFine A k R s Stop
  fine_part : (p : Parsed A) → Fine A k R s p → TurnFine A k R s (Part p)

pub turn_cond : {A : Type 0} {k : Bool} {R : At → At → Type 0} {s : At} {p : Parsed A} (x : Bool) → (x ≡ true → Fine A k R s p)
    → TurnFine A k R s (cond x (Part p) Stop)
turn_cond {p = p} true h = fine_part p (h refl)
turn_cond false h = fine_stop

onto_fine : {A : Type 0} {k : Bool} {R : At → At → Type 0} {s : At} {p : Parsed (List A)} (xs : List A) → Fine (List A) k R s p
    → Fine (List A) k R s (onto xs p)
onto_fine xs (fine_got a m x) = fine_got (xs ++ a) m x
onto_fine xs (fine_miss f m x) = fine_miss f m x
onto_fine xs (no_memory m) = no_memory m

module _ {A : Type 0} (k : Bool) (R Q : At → At → Type 0) (nil : (s m : At) → Nothing s m → Q s m) (more : (s m : At) → Then R Q s m → Q s m) (w : Word Q)
    (turn : At → Turn A) (good : (s : At) → (k ≡ false → s.marked ≡ false) → TurnFine A k R s (turn s)) where
  many_fine : (n : ℕ) (s : At) → (k ≡ false → s.marked ≡ false) → Fine (List A) k Q s (many turn n s)
  many_fine zero s u = fine_as (fine_nothing [] u) nil
  many_fine (suc n) s u = by_turn (turn s) (good s u) (many_fine n)
    where
      by_turn : (t : Turn A) → TurnFine A k R s t → ((m : At) → (k ≡ false → m.marked ≡ false) → Fine (List A) k Q m (many turn n m))
          → Fine (List A) k Q s (on_turn t s (many turn n))
      by_turn _ fine_stop again = fine_as (fine_nothing [] u) nil
      by_turn _ (fine_part p h) again = fine_as (fine_then h w (λ x m i. fine_last _ (again m i))) more

  pub all_fine : (xs : List A) (s : At) → (k ≡ false → s.marked ≡ false) → Fine (List A) k Q s (all_behind xs turn s)
  all_fine xs s u = onto_fine xs (many_fine (length s.rest) s u)

  -- a part that is sure to come, and all after it
  pub some_fine : (xs : List A) (s : At) (x : Token) (us : List Token) (p : Parsed A) → s.rest ≡ x ∷ us → turn s ≡ Part p → (k ≡ false → s.marked ≡ false)
      → Fine (List A) k (Then R Q) s (all_behind xs turn s)
  some_fine xs s x us p e h u = onto_fine xs (subst (λ (ts : List Token). Fine (List A) k (Then R Q) s (many turn (length ts) s)) (sym e)
      (subst (λ t. Fine (List A) k (Then R Q) s (on_turn t s (many turn (length us)))) (sym h)
      (fine_then part w (λ x m i. fine_last _ (many_fine (length us) m i)))))
    where
      of_part : (t : Turn A) → TurnFine A k R s t → t ≡ Part p → Fine A k R s p
      of_part _ fine_stop i = absurd cc
      of_part _ (fine_part q f) i = subst (Fine A k R s) (let j = i in cc) f

      part : Fine A k R s p
      part = of_part (turn s) (good s u) h
