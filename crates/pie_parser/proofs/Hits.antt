-- A reading that finds what stands there, or meets a limit.
use Rattle.std.proofs.Common.{◌≡◌, ◌⊎◌, inl, inr, ℕ, ◌+◌, ◌<◌, ◌≤◌, suc, Bool, true, false, cond, ◌==◌, List, [], ◌∷◌, ◌++◌, length, Option, Some, None, refl}
use Rattle.std.proofs.Common.{sym, subst, ap, ◌∙◌, arith}
use Rattle.pie_lexer.specs.declared.token.Token.{Token}
use Rattle.pie_parser.specs.declared.kind.Kind.{Kind}
use Rattle.pie_parser.specs.declared.kind.Kind.TheVariants as kinds
use Rattle.pie_parser.specs.declared.error.ParseFault.{ParseFault}
use Rattle.pie_parser.specs.declared.error.ParseFault.TheVariants.{Expected, TooDeep, OutOfMemory}
use Rattle.pie_parser.specs.Kinds.{is}
use Rattle.pie_parser.specs.At.{At}
use Rattle.pie_parser.specs.Places.{Parsed, Got, Miss, Parser, then_on, Passed, done, first_kind, next, behind, passed, want, open_bracket}
use Rattle.pie_parser.specs.inner.Turns.{many, onto}
use Rattle.pie_parser.specs.TypeGrammar.{Eats}
use Rattle.pie_parser.proofs.Strength.{is_one}

abbrev pub Hits : {A : Type 0} → Parsed A → A → At → Type 0
Hits (Got a m) b k = (a ≡ b) × (m ≡ k)
Hits (Miss Expected m) b k = ⊥
Hits (Miss TooDeep m) b k = Unit {0}
Hits (Miss OutOfMemory m) b k = Unit {0}

pub after : {A B : Type 0} (p : Parsed A) (f : A → At → Parsed B) (x : A) (a : At) (y : B) (m : At) → Hits p x a → Hits (f x a) y m → Hits (then_on p f) y m
after (Got z k) f x a y m h q = subst (λ i. Hits (f i k) y m) (sym h.0) (subst (λ i. Hits (f x i) y m) (sym h.1) q)
after (Miss Expected k) f x a y m h q = absurd h
after (Miss TooDeep k) f x a y m h q = tt
after (Miss OutOfMemory k) f x a y m h q = tt

pub at_true : {A : Type 0} (b : Bool) (p q : Parsed A) (y : A) (m : At) → b ≡ true → Hits p y m → Hits (cond b p q) y m
at_true b p q y m e h = subst (λ c. Hits (cond c p q) y m) (sym e) h

pub at_false : {A : Type 0} (b : Bool) (p q : Parsed A) (y : A) (m : At) → b ≡ false → Hits q y m → Hits (cond b p q) y m
at_false b p q y m e h = subst (λ c. Hits (cond c p q) y m) (sym e) h

-- a value that is another by an equation
pub got_as : {A : Type 0} (x y : A) (m : At) → x ≡ y → Hits (Got x m) y m
got_as x y m e = (e, refl)

pub wanted : (k : Kind) (s m : At) → Eats k s m → Hits (want k s) done m
wanted k s m h = at_true (is (next s) k) (Got done (passed s)) (Miss Expected s) done m (is_one (next s) k h.0) (refl, sym h.1)

pub bracket : (k : Kind) (d : ℕ) (s m : At) → Eats k s m → Hits (open_bracket k d s) done m
bracket k d s m h = at_true (is (next s) k) (cond (d == 0) (Miss TooDeep s) (Got done (passed s))) (Miss Expected s) done m (is_one (next s) k h.0)
    (by_room (d == 0))
  where
    by_room : (b : Bool) → Hits (cond b (Miss TooDeep s) (Got done (passed s))) done m
    by_room true = tt
    by_room false = (refl, sym h.1)

pub behind_them : {A : Type 0} (xs ys : List A) (p : Parsed (List A)) (m : At) → Hits p ys m → Hits (onto xs p) (xs ++ ys) m
behind_them xs ys (Got zs k) m h = (ap (λ i. xs ++ i) h.0, h.1)
behind_them xs ys (Miss Expected k) m h = h
behind_them xs ys (Miss TooDeep k) m h = tt
behind_them xs ys (Miss OutOfMemory k) m h = tt

-- no more tokens are left than before
abbrev pub Short : At → At → Type 0
Short s m = length m.rest ≤ length s.rest

-- fewer tokens are left than before
abbrev pub Less : At → At → Type 0
Less s m = length m.rest < length s.rest

passes_one : (s : At) (k : Kind) → s.marked ≡ false → first_kind s.rest ≡ k → (kinds.End ≡ k → ⊥) → Less s (passed s)
passes_one s k u e ends = by_rest s.rest e
  where
    by_rest : (ts : List Token) → first_kind ts ≡ k → length (behind s ts).rest < length ts
    by_rest [] e = absurd (ends e)
    by_rest (t ∷ ts) e = omega arith

pub less_by : (s : At) (k : Kind) → next s ≡ k → (kinds.End ≡ k → ⊥) → (kinds.Marked ≡ k → ⊥) → Less s (passed s)
less_by s k e ends marks = by_mark s.marked refl e
  where
    by_mark : (b : Bool) → s.marked ≡ b → cond b kinds.Marked (first_kind s.rest) ≡ k → Less s (passed s)
    by_mark true u e = absurd (marks e)
    by_mark false u e = passes_one s k u e ends

pub eats_less : (k : Kind) (s m : At) → Eats k s m → (kinds.End ≡ k → ⊥) → (kinds.Marked ≡ k → ⊥) → Less s m
eats_less k s m h ends marks = subst (λ z. Less s z) (sym h.1) (less_by s k h.0 ends marks)
