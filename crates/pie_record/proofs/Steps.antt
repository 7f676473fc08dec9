-- What it says of the parts that reading them one after another succeeds.
use Rattle.std.proofs.Common.{◌≡◌, ℕ, Bool, true, false, ◌&&◌, cond, List, ◌++◌, Ok, Err, refl, ap, subst, ◌∙◌, append_assoc}
use Rattle.std.specs.Prelude.{Option, Some, None, ◌⊎◌}
use Rattle.std.proofs.Common.{inl, inr}
use Rattle.pie_value.specs.Reading.{Parsed as Decoded}
use Rattle.pie_value.proofs.Taking.{IsBytes, Takes}
use Rattle.pie_record.specs.declared.record_fault.RecordFault.{RecordFault}
use Rattle.pie_record.specs.Reading.{Parsed, then_on, told, known}

abbrev pub pair : {A : Type 0} → A → List ℕ → Parsed A
pair a rest = Ok (a, rest)

found : {A : Type 0} → A × List ℕ → Parsed A
found p = Ok p

same_pair : {A : Type 0} (p q : A × List ℕ) → found p ≡ found q → p ≡ q
unfolding found
same_pair p q e = cc

pub same_value : {A : Type 0} (a b : A) (x y : List ℕ) → pair a x ≡ pair b y → a ≡ b
unfolding found
same_value {A = A} a b x y e = ap (λ (p : A × List ℕ). p.0) (same_pair (a, x) (b, y) e)

pub same_rest : {A : Type 0} (a b : A) (x y : List ℕ) → pair a x ≡ pair b y → x ≡ y
unfolding found
same_rest {A = A} a b x y e = ap (λ (p : A × List ℕ). p.1) (same_pair (a, x) (b, y) e)

-- the first of two steps did not fail
pub then_ok : {A B : Type 0} (p : Parsed A) (k : A → List ℕ → Parsed B) (b : B) (rest : List ℕ) → then_on p k ≡ Ok (b, rest)
    → (a : A) × (mid : List ℕ) × (p ≡ Ok (a, mid)) × (k a mid ≡ Ok (b, rest))
then_ok (Ok q) k b rest e = (q.0, q.1, refl, e)
then_ok (Err d) k b rest e = absurd (cc)

-- what the decoder of values read
pub told_ok : {A : Type 0} (p : Decoded A) (a : A) (rest : List ℕ) → told p ≡ Ok (a, rest) → p ≡ Ok (a, rest)
unfolding found
told_ok {A} (Ok q) a rest e = ap (λ (x : A × List ℕ). Ok x) (same_pair q (a, rest) e)
told_ok (Err d) a rest e = absurd (cc)

pub told_on : {A : Type 0} (p : Decoded A) (a : A) (rest : List ℕ) → p ≡ Ok (a, rest) → told p ≡ Ok (a, rest)
told_on {A} p a rest e = ap (λ (q : Decoded A). told q) e

-- a test that was passed
pub guard_ok : {A : Type 0} (b : Bool) (a : A) (x : List ℕ) (d : RecordFault) (c : A) (y : List ℕ) → cond b (pair a x) (Err d) ≡ Ok (c, y)
    → (b ≡ true) × (a ≡ c) × (x ≡ y)
guard_ok true a x d c y e = (refl, same_value a c x y e, same_rest a c x y e)
guard_ok false a x d c y e = absurd (cc)

pub guard_on : {A : Type 0} (b : Bool) (a : A) (x : List ℕ) (d : RecordFault) → b ≡ true → cond b (pair a x) (Err d) ≡ pair a x
guard_on true a x d e = refl
guard_on false a x d e = absurd (cc)

pub known_ok : {A : Type 0} (o : Option A) (rest : List ℕ) (a : A) (after : List ℕ) → known o rest ≡ Ok (a, after) → (o ≡ Some a) × (rest ≡ after)
known_ok None rest a after e = absurd (cc)
known_ok (Some x) rest a after e = (ap Some (same_value x a rest after e), same_rest x a rest after e)

-- a choice among what a byte may stand for
pub choice : {A : Type 0} (b : Bool) (x : A) (o : Option A) (y : A) → cond b (Some x) o ≡ Some y → ((b ≡ true) × (x ≡ y)) ⊎ (o ≡ Some y)
choice true x o y e = inl (refl, cc)
choice false x o y e = inr e

pub both_true : (a b : Bool) → (a && b) ≡ true → (a ≡ true) × (b ≡ true)
both_true true true e = (refl, refl)
both_true true false e = absurd (cc)
both_true false b e = absurd (cc)

pub both_on : (a b : Bool) → a ≡ true → b ≡ true → (a && b) ≡ true
both_on true true e f = refl
both_on true false e f = absurd (cc)
both_on false b e f = absurd (cc)

-- a reader and the bytes that it reads: what it took was the bytes of a thing that fits, and these bytes are read again
pub record Codec {A : Type 0} (one : List ℕ → Parsed A) (bytes : A → List ℕ) (Fits : A → Type 0) : Type 0 where
  pub taken : (bs : List ℕ) (a : A) (rest : List ℕ) → IsBytes bs → one bs ≡ Ok (a, rest) → Takes bs (bytes a) rest × Fits a
  pub again : (a : A) (rest : List ℕ) → Fits a → one (bytes a ++ rest) ≡ Ok (a, rest)

-- two steps of which the first is a codec
pub step : {A B : Type 0} {one : List ℕ → Parsed A} {bytes : A → List ℕ} {Fits : A → Type 0} → Codec one bytes Fits → (k : A → List ℕ → Parsed B)
    → (a : A) (tail rest : List ℕ) (b : B) → Fits a → k a (tail ++ rest) ≡ Ok (b, rest) → then_on (one ((bytes a ++ tail) ++ rest)) k ≡ Ok (b, rest)
step {A} {B} {one} {bytes} {Fits} c k a tail rest b fits e =
    ap (λ (bs : List ℕ). then_on (one bs) k) (append_assoc (bytes a) tail rest)
    ∙ ap (λ (p : Parsed A). then_on p k) (c.again a (tail ++ rest) fits) ∙ e

-- the last step, which gives the whole
pub last : {A B : Type 0} {one : List ℕ → Parsed A} {bytes : A → List ℕ} {Fits : A → Type 0} → Codec one bytes Fits → (f : A → B)
    → (a : A) (rest : List ℕ) → Fits a → then_on (one (bytes a ++ rest)) (λ x after. pair (f x) after) ≡ Ok (f a, rest)
last {A} {B} {one} {bytes} {Fits} c f a rest fits = ap (λ (p : Parsed A). then_on p (λ x after. pair (f x) after)) (c.again a rest fits)

-- what the last step read
pub last_ok : {A B : Type 0} {one : List ℕ → Parsed A} {bytes : A → List ℕ} {Fits : A → Type 0} → Codec one bytes Fits → (f : A → B)
    → (bs : List ℕ) (b : B) (rest : List ℕ) → IsBytes bs → then_on (one bs) (λ x after. pair (f x) after) ≡ Ok (b, rest)
    → (a : A) × (f a ≡ b) × Takes bs (bytes a) rest × Fits a
last_ok {A} {B} {one} {bytes} {Fits} c f bs b rest fits e =
    let h = then_ok (one bs) (λ x after. pair (f x) after) b rest e in
    let p = c.taken bs h.0 h.1 fits h.2 in
    (h.0, same_value (f h.0) b h.1 rest h.3, subst (Takes bs (bytes h.0)) (same_rest (f h.0) b h.1 rest h.3) p.0, p.1)
