-- A reading that finds what stands there: no limit stops it.
use Rattle.std.proofs.Common.{◌≡◌, ℕ, ◌<◌, zero, suc, Bool, true, false, cond, ◌==◌, List, ◌++◌, refl, sym, subst, ap, ◌∙◌, arith}
use Rattle.std.proofs.lemmas.Bool.Decides.{nat_tests}
use Rattle.pie_parser.specs.declared.kind.Kind.{Kind}
use Rattle.pie_parser.specs.declared.error.ParseFault.TheVariants.{Expected, TooDeep}
use Rattle.pie_parser.specs.Kinds.{is}
use Rattle.pie_parser.specs.At.{At}
use Rattle.pie_parser.specs.Places.{Parsed, Got, Miss, then_on, done, next, passed, want, open_bracket}
use Rattle.pie_parser.specs.inner.Turns.{onto}
use Rattle.pie_parser.specs.TypeGrammar.{Eats}
use Rattle.pie_parser.proofs.Strength.{is_one}

-- the reading finds this value, up to this place
abbrev pub Finds : {A : Type 0} → Parsed A → A → At → Type 0
Finds (Got a m) b k = (a ≡ b) × (m ≡ k)
Finds (Miss f m) b k = ⊥

pub one_find : {A : Type 0} (p : Parsed A) (x y : A) (m k : At) → Finds p x m → Finds p y k → x ≡ y
one_find (Got z a) x y m k h g = sym h.0 ∙ g.0
one_find (Miss f a) x y m k h g = absurd h

pub after : {A B : Type 0} (p : Parsed A) (f : A → At → Parsed B) (x : A) (a : At) (y : B) (m : At) → Finds p x a → Finds (f x a) y m → Finds (then_on p f) y m
after (Got z k) f x a y m h q = subst (λ i. Finds (f i k) y m) (sym h.0) (subst (λ i. Finds (f x i) y m) (sym h.1) q)
after (Miss e k) f x a y m h q = absurd h

pub at_true : {A : Type 0} (b : Bool) (p q : Parsed A) (y : A) (m : At) → b ≡ true → Finds p y m → Finds (cond b p q) y m
at_true b p q y m e h = subst (λ c. Finds (cond c p q) y m) (sym e) h

pub at_false : {A : Type 0} (b : Bool) (p q : Parsed A) (y : A) (m : At) → b ≡ false → Finds q y m → Finds (cond b p q) y m
at_false b p q y m e h = subst (λ c. Finds (cond c p q) y m) (sym e) h

pub finds_by : {A : Type 0} (p : Parsed A) (x : A) (m : At) → p ≡ Got x m → Finds p x m
finds_by p x m e = subst (λ q. Finds q x m) (sym e) (refl, refl)

pub wanted : (k : Kind) (s m : At) → Eats k s m → Finds (want k s) done m
wanted k s m h = at_true (is (next s) k) (Got done (passed s)) (Miss Expected s) done m (is_one (next s) k h.0) (refl, sym h.1)

not_zero : (d : ℕ) → (suc d == 0) ≡ false
not_zero d = grind (arith, nat_tests)

-- an opening bracket where one more than this may be opened
pub bracket : (k : Kind) (d : ℕ) (s m : At) → Eats k s m → Finds (open_bracket k (suc d) s) done m
bracket k d s m h = at_true (is (next s) k) (cond (suc d == 0) (Miss TooDeep s) (Got done (passed s))) (Miss Expected s) done m (is_one (next s) k h.0)
    (at_false (suc d == 0) (Miss TooDeep s) (Got done (passed s)) done m (not_zero d) (refl, sym h.1))

pub bracket_in : (k : Kind) (d : ℕ) (s m : At) → 0 < d → Eats k s m → Finds (open_bracket k d s) done m
bracket_in k zero s m l h = absurd (omega arith)
bracket_in k (suc d) s m l h = bracket k d s m h

pub behind_them : {A : Type 0} (xs ys : List A) (p : Parsed (List A)) (m : At) → Finds p ys m → Finds (onto xs p) (xs ++ ys) m
behind_them xs ys (Got zs k) m h = (ap (λ i. xs ++ i) h.0, h.1)
behind_them xs ys (Miss e k) m h = h
