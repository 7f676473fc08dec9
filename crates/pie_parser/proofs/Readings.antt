-- What an answer says of the readings that it was made of.
use Rattle.std.proofs.Common.{◌≡◌, ◌⊎◌, inl, inr, ℕ, zero, suc, Bool, true, false, cond, ◌==◌, List, [], ◌∷◌, ◌++◌, length, Option, Some, None, refl, sym}
use Rattle.std.proofs.Common.{subst, ap, ◌∙◌, rules}
use denote.Enum.Bare.{same_true, same_false}
use Rattle.pie_parser.specs.contracts.kind.Kind.{the_type}
use Rattle.pie_parser.specs.declared.kind.Kind.{Kind}
use Rattle.pie_parser.specs.declared.error.ParseFault.{ParseFault}
use Rattle.pie_parser.specs.declared.error.ParseFault.TheVariants.{Expected, TooDeep}
use Rattle.pie_parser.specs.Kinds.{is}
use Rattle.pie_parser.specs.At.{At}
use Rattle.pie_parser.specs.Places.{Parsed, Got, Miss, Parser, then_on, Passed, done, next, passed, want, open_bracket}
use Rattle.pie_parser.specs.inner.Turns.{Turn, Stop, Part, on_turn, many, onto, all_behind}
use Rattle.pie_parser.specs.TypeGrammar.{Eats}

pub is_same : (k j : Kind) → is k j ≡ true → k ≡ j
is_same k j h = same_true the_type (search rules) k j h

pub is_other : (k j : Kind) → is k j ≡ false → k ≡ j → ⊥
is_other k j h = same_false the_type k j h

pub chosen : {A : Type 0} (t : Bool) (x y z : A) → cond t x y ≡ z → ((t ≡ true) × (x ≡ z)) ⊎ ((t ≡ false) × (y ≡ z))
chosen true x y z h = inl (refl, h)
chosen false x y z h = inr (refl, h)

pub got_same : {A : Type 0} {x y : A} {a m : At} → Got x a ≡ Got y m → (x ≡ y) × (a ≡ m)
got_same h = (cc, cc)

-- a relation that holds of what was read holds of the answer
pub as_got : {A : Type 0} (R : At → A → Type 0) {x y : A} {a m : At} → Got x a ≡ Got y m → R a x → R m y
as_got R {x = x} {m = m} h r = let e = got_same h in subst (R m) e.0 (subst (λ k. R k x) e.1 r)

pub missed : {A : Type 0} {B : Type 0} {f : ParseFault} {s m : At} {y : A} → Miss f s ≡ Got y m → B
missed h = absurd cc

pub bound : {A B : Type 0} (p : Parsed A) (f : A → At → Parsed B) (y : B) (m : At) → then_on p f ≡ Got y m → (x : A) × (a : At) × (p ≡ Got x a)
    × (f x a ≡ Got y m)
bound (Got x a) f y m h = (x, a, refl, h)
bound (Miss e a) f y m h = missed h

pub eaten : (k : Kind) (s m : At) (x : Passed) → want k s ≡ Got x m → Eats k s m
eaten k s m x h = elim (chosen (is (next s) k) (Got done (passed s)) (Miss Expected s) (Got x m) h) [
  | inl c ↦ (is_same (next s) k c.0, sym (got_same c.1).1)
  | inr c ↦ missed c.1
]

pub opened : (k : Kind) (d : ℕ) (s m : At) (x : Passed) → open_bracket k d s ≡ Got x m → Eats k s m
opened k d s m x h = elim (chosen (is (next s) k) (cond (d == 0) (Miss TooDeep s) (Got done (passed s))) (Miss Expected s) (Got x m) h) [
  | inl c ↦ elim (chosen (d == 0) (Miss TooDeep s) (Got done (passed s)) (Got x m) c.1) [
    | inl b ↦ missed b.1
    | inr b ↦ (is_same (next s) k c.0, sym (got_same b.1).1)
  ]
  | inr c ↦ missed c.1
]

pub part_same : {A : Type 0} {p q : Parsed A} → Part p ≡ Part q → p ≡ q
part_same h = cc

pub stopped : {A : Type 0} {B : Type 0} {p : Parsed A} → Stop ≡ Part p → B
stopped h = absurd cc

-- what holds of no part, and of a part before what it holds of, holds of all parts
module _ {A : Type 0} (turn : At → Turn A) (Q : At → At → List A → Type 0) (nil : (s : At) → Q s s [])
    (more : (s a m : At) (x : A) (xs : List A) → turn s ≡ Part (Got x a) → Q a m xs → Q s m (x ∷ xs)) where
  pub folded : (n : ℕ) (s m : At) (xs : List A) → many turn n s ≡ Got xs m → Q s m xs
  folded zero s m xs h = as_got (Q s) h (nil s)
  folded (suc n) s m xs h = by_turn n s m xs (turn s) refl h (folded n)
    where
      by_turn : (n : ℕ) (s m : At) (xs : List A) (t : Turn A) → turn s ≡ t → on_turn t s (many turn n) ≡ Got xs m
          → ((a k : At) (ys : List A) → many turn n a ≡ Got ys k → Q a k ys) → Q s m xs
      by_turn n s m xs Stop e h again = as_got (Q s) h (nil s)
      by_turn n s m xs (Part (Miss f a)) e h again = missed h
      by_turn n s m xs (Part (Got x a)) e h again =
          let b = bound (many turn n a) (λ ys k. Got (x ∷ ys) k) xs m h in
          as_got (Q s) b.3 (more s a b.1 x b.0 e (again a b.1 b.0 b.2))

  pub folded_behind : (xs zs : List A) (s m : At) → all_behind xs turn s ≡ Got zs m → (ys : List A) × Q s m ys × (zs ≡ xs ++ ys)
  folded_behind xs zs s m h = by_answer (many turn (length s.rest) s) refl h
    where
      by_answer : (p : Parsed (List A)) → many turn (length s.rest) s ≡ p → onto xs p ≡ Got zs m → (ys : List A) × Q s m ys × (zs ≡ xs ++ ys)
      by_answer (Got ys k) e h = let g = got_same h in (ys, subst (λ z. Q s z ys) g.1 (folded (length s.rest) s k ys e), sym g.0)
      by_answer (Miss f k) e h = missed h
