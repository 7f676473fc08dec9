-- Two texts that go on alike up to a token: what is read before that token is read alike in both.
use Rattle.std.proofs.Common.{◌≡◌, ℕ, ◌+◌, ◌≤◌, suc, Bool, true, false, cond, List, [], ◌∷◌, ◌++◌, length, refl, sym, subst, ap, ◌∙◌, append_assoc, arith}
use Rattle.std.proofs.Common.{length-append}
use Rattle.pie_lexer.specs.declared.token.Token.{Token}
use Rattle.pie_parser.specs.declared.kind.Kind.{Kind}
use Rattle.pie_parser.specs.declared.error.ParseFault.{ParseFault}
use Rattle.pie_parser.specs.declared.error.ParseFault.TheVariants.{Expected, TooDeep, OutOfMemory}
use Rattle.pie_parser.specs.Kinds.{kind_of_token}
use Rattle.pie_parser.specs.At.{At}
use Rattle.pie_parser.specs.Places.{Parsed, Got, Miss, then_on, first_kind, next, start}
use Rattle.pie_grammar_laws.specs.Brackets.{opens, closes}

-- two texts that share a token, and what stands behind it in each; and how many brackets may be open
pub record Texts : Type 0 where
  pub token : Token
  pub one : List Token
  pub two : List Token
  pub limit : ℕ

abbrev pub place : ℕ → List Token → Bool → At
place e ts b = record { past = e; rest = ts; marked = b }

-- a place in the first text and in the second: before the shared token they are alike; behind it the second counts no more
pub data Twin (z : Texts) : At → At → Type 0 where
  before : (e : ℕ) (v : List Token) (b : Bool) → Twin z (place e (v ++ z.token ∷ z.one) b) (place e (v ++ z.token ∷ z.two) b)
  gone : (s : At) → length s.rest ≤ length z.one → Twin z s s

pub next_is : {z : Texts} {s t : At} → Twin z s t → next s ≡ next t
next_is (before e [] b) = refl
next_is (before e (y ∷ v) b) = refl
next_is (gone s l) = refl

pub start_is : {z : Texts} {s t : At} → Twin z s t → start s ≡ start t
start_is (before e [] b) = refl
start_is (before e (y ∷ v) b) = refl
start_is (gone s l) = refl

pub past_is : {z : Texts} {s t : At} → Twin z s t → s.past ≡ t.past
past_is (before e v b) = refl
past_is (gone s l) = refl

pub mark_is : {z : Texts} {s t : At} → Twin z s t → s.marked ≡ t.marked
mark_is (before e v b) = refl
mark_is (gone s l) = refl

-- of so many brackets, where so many may be opened before these tokens, and so many behind them
pub data Keeps (limit : ℕ) : ℕ → List Token → ℕ → Type 0 where
  kept : {d : ℕ} → Keeps limit d [] d
  opening : {d e : ℕ} {t : Token} {ts : List Token} → opens (kind_of_token t.kind) ≡ true → Keeps limit d ts e → Keeps limit (suc d) (t ∷ ts) e
  closing : {d e : ℕ} {t : Token} {ts : List Token} → closes (kind_of_token t.kind) ≡ true → suc d ≤ limit → Keeps limit (suc d) ts e → Keeps limit d (t ∷ ts) e
  other : {d e : ℕ} {t : Token} {ts : List Token} → opens (kind_of_token t.kind) ≡ false → closes (kind_of_token t.kind) ≡ false → Keeps limit d ts e
      → Keeps limit d (t ∷ ts) e

keeps_on : {l d e f : ℕ} {v w : List Token} → Keeps l d v e → Keeps l e w f → Keeps l d (v ++ w) f
keeps_on kept k = k
keeps_on (opening h j) k = opening h (keeps_on j k)
keeps_on (closing h i j) k = closing h i (keeps_on j k)
keeps_on (other h i j) k = other h i (keeps_on j k)

-- between these tokens and those stands a word of at least so many, before which so many brackets may be opened, and so many behind it
pub record Takes (l c d e : ℕ) (ts ms : List Token) : Type 0 where
  pub word : List Token
  pub splits : ts ≡ word ++ ms
  pub takes : c ≤ length word
  pub keeps : Keeps l d word e

pub takes_none : {l d : ℕ} {ts : List Token} → Takes l 0 d d ts ts
takes_none = record { word = []; splits = refl; takes = omega arith; keeps = kept }

takes_on : {l b c d e f : ℕ} {ts ms ns : List Token} → Takes l c d e ts ms → Takes l b e f ms ns → Takes l c d f ts ns
takes_on x y = record {
  word = x.word ++ y.word;
  splits = x.splits ∙ ap (λ i. x.word ++ i) y.splits ∙ sym (append_assoc x.word y.word _);
  takes = (let l = length-append x.word y.word in let m = x.takes in omega arith);
  keeps = keeps_on x.keeps y.keeps;
}

pub takes_any : {l c d e : ℕ} {ts ms : List Token} → Takes l c d e ts ms → Takes l 0 d e ts ms
takes_any x = record { word = x.word; splits = x.splits; takes = omega arith; keeps = x.keeps }

pub takes_less : {l c d e : ℕ} {ts ms : List Token} → Takes l c d e ts ms → c + length ms ≤ length ts
takes_less {ms = ms} x = let l = length-append x.word ms in let m = x.takes in let i = ap length x.splits in omega arith

-- what a refusal says: where brackets nest too deep, none may be opened, and one stands there
pub record Missed (l d : ℕ) (ts : List Token) (f : ParseFault) (ms : List Token) : Type 0 where
  pub room : ℕ
  pub word : Takes l 0 d room ts ms
  pub deep : f ≡ TooDeep → (room ≡ 0) × (opens (first_kind ms) ≡ true)

missed_on : {l c d e : ℕ} {f : ParseFault} {ts ms ns : List Token} → Takes l c d e ts ms → Missed l e ms f ns → Missed l d ts f ns
missed_on x y = record { room = y.room; word = takes_on (takes_any x) y.word; deep = y.deep }

-- what is read in the first text, and in the second: alike, unless the first reading goes past the shared token
pub data Alike (A : Type 0) (z : Texts) (c d e : ℕ) (ts : List Token) : Parsed A → Parsed A → Type 0 where
  both_got : (a : A) (m k : At) → Twin z m k → Takes z.limit c d e ts m.rest → Alike A z c d e ts (Got a m) (Got a k)
  both_miss : (f : ParseFault) (m k : At) → Twin z m k → Missed z.limit d ts f m.rest → Alike A z c d e ts (Miss f m) (Miss f k)
  past_got : (a : A) (m : At) (q : Parsed A) → length m.rest ≤ length z.one → Takes z.limit c d e ts m.rest → Alike A z c d e ts (Got a m) q
  past_miss : (f : ParseFault) (m : At) (q : Parsed A) → length m.rest ≤ length z.one → Missed z.limit d ts f m.rest → Alike A z c d e ts (Miss f m) q

-- a reading behind a word
pub behind_word : {A : Type 0} {z : Texts} {b c d e h : ℕ} {ts ms : List Token} {p q : Parsed A} → Takes z.limit c d e ts ms → Alike A z b e h ms p q
    → Alike A z c d h ts p q
behind_word t (both_got a m k w x) = both_got a m k w (takes_on t x)
behind_word t (both_miss f m k w x) = both_miss f m k w (missed_on t x)
behind_word t (past_got a m q l x) = past_got a m q l (takes_on t x)
behind_word t (past_miss f m q l x) = past_miss f m q l (missed_on t x)

-- a reading from behind the shared token says nothing of the second text
pub from_gone : {A : Type 0} {z : Texts} {c d e : ℕ} {ts : List Token} {p q : Parsed A} (r : Parsed A) → length ts ≤ length z.one → Alike A z c d e ts p q
    → Alike A z c d e ts p r
from_gone r l (both_got a m k w x) = past_got a m r (let y = takes_less x in omega arith) x
from_gone r l (both_miss f m k w x) = past_miss f m r (let y = takes_less x.word in omega arith) x
from_gone r l (past_got a m q g x) = past_got a m r g x
from_gone r l (past_miss f m q g x) = past_miss f m r g x

pub then_alike : {A B : Type 0} {z : Texts} {b c d e h : ℕ} {ts : List Token} {p q : Parsed A} {f g : A → At → Parsed B} → Alike A z c d e ts p q
    → ((a : A) (m k : At) → Twin z m k → c + length m.rest ≤ length ts → Alike B z b e h m.rest (f a m) (g a k))
    → Alike B z c d h ts (then_on p f) (then_on q g)
then_alike (both_got a m k w x) j = behind_word x (j a m k w (takes_less x))
then_alike (both_miss f m k w x) j = both_miss f m k w x
then_alike {q = q} {g = g} (past_got a m r l x) j = behind_word x (from_gone (then_on q g) l (j a m m (gone m l) (takes_less x)))
then_alike {q = q} {g = g} (past_miss f m r l x) j = past_miss f m (then_on q g) l x

pub any_alike : {A : Type 0} {z : Texts} {c d e : ℕ} {ts : List Token} {p q : Parsed A} → Alike A z c d e ts p q → Alike A z 0 d e ts p q
any_alike (both_got a m k w x) = both_got a m k w (takes_any x)
any_alike (both_miss f m k w x) = both_miss f m k w x
any_alike (past_got a m q l x) = past_got a m q l (takes_any x)
any_alike (past_miss f m q l x) = past_miss f m q l x

-- a value as it stands
pub got_alike : {A : Type 0} {z : Texts} {d : ℕ} {m k : At} {a b : A} → Twin z m k → a ≡ b → Alike A z 0 d d m.rest (Got a m) (Got b k)
got_alike {A = A} {z = z} {d = d} {m = m} {k = k} {a = a} w e = subst (λ b. Alike A z 0 d d m.rest (Got a m) (Got b k)) e (both_got a m k w takes_none)

-- a refusal at the place itself
pub wrong_alike : {A : Type 0} {z : Texts} {c d e : ℕ} {m k : At} → Twin z m k → Alike A z c d e m.rest (Miss Expected m) (Miss Expected k)
wrong_alike {m = m} {k = k} w = both_miss Expected m k w (record { room = _; word = takes_none; deep = λ e. absurd cc })

pub memory_alike : {A : Type 0} {z : Texts} {c d e : ℕ} {m k : At} → Twin z m k → Alike A z c d e m.rest (Miss OutOfMemory m) (Miss OutOfMemory k)
memory_alike {m = m} {k = k} w = both_miss OutOfMemory m k w (record { room = _; word = takes_none; deep = λ e. absurd cc })

-- one of two readings, by a test that answers alike
pub cond_alike : {A : Type 0} {z : Texts} {c d e : ℕ} {ts : List Token} {x y : Bool} {p q r u : Parsed A} → x ≡ y
    → (x ≡ true → Alike A z c d e ts p r) → (x ≡ false → Alike A z c d e ts q u) → Alike A z c d e ts (cond x p q) (cond y r u)
cond_alike {A = A} {z = z} {c = c} {d = d} {e = e} {ts = ts} {x = x} {p = p} {q = q} {r = r} {u = u} h i j =
    subst (λ y. Alike A z c d e ts (cond x p q) (cond y r u)) h (by_test x i j)
  where
    by_test : (x : Bool) → (x ≡ true → Alike A z c d e ts p r) → (x ≡ false → Alike A z c d e ts q u) → Alike A z c d e ts (cond x p q) (cond x r u)
    by_test true i j = i refl
    by_test false i j = j refl

-- one of two readings and what is read behind it, by a test that answers alike
pub cond_then : {A B : Type 0} {z : Texts} {c d e : ℕ} {ts : List Token} {x y : Bool} (p q r u : Parsed A) (f g : A → At → Parsed B) → x ≡ y
    → (x ≡ true → Alike B z c d e ts (then_on p f) (then_on r g)) → (x ≡ false → Alike B z c d e ts (then_on q f) (then_on u g))
    → Alike B z c d e ts (then_on (cond x p q) f) (then_on (cond y r u) g)
cond_then {A = A} {B = B} {z = z} {c = c} {d = d} {e = e} {ts = ts} {x = x} p q r u f g h i j =
    subst (λ y. Alike B z c d e ts (then_on (cond x p q) f) (then_on (cond y r u) g)) h (by_test x i j)
  where
    by_test : (x : Bool) → (x ≡ true → Alike B z c d e ts (then_on p f) (then_on r g)) → (x ≡ false → Alike B z c d e ts (then_on q f) (then_on u g))
        → Alike B z c d e ts (then_on (cond x p q) f) (then_on (cond x r u) g)
    by_test true i j = i refl
    by_test false i j = j refl

-- readings that are chosen by what is next
pub by_next : {A : Type 0} {z : Texts} {c d e : ℕ} {ts : List Token} {s t : At} (F G : Kind → Parsed A) → Twin z s t
    → ((k : Kind) → next s ≡ k → Alike A z c d e ts (F k) (G k)) → Alike A z c d e ts (F (next s)) (G (next t))
by_next {A = A} {z = z} {c = c} {d = d} {e = e} {ts = ts} {s = s} F G w h = subst (λ k. Alike A z c d e ts (F (next s)) (G k)) (next_is w) (h (next s) refl)
