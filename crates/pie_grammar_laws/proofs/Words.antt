-- What was read is a word of the grammar, and what was read before a refusal can be completed to one.
use Rattle.std.proofs.Common.{◌≡◌, ℕ, Bool, true, false, cond, List, [], ◌∷◌, ◌++◌, refl, sym, subst, ap, ◌∙◌, append_assoc}
use Rattle.pie_lexer.specs.declared.token.Token.{Token}
use Rattle.pie_parser.specs.declared.kind.Kind.TheVariants as kinds
use Rattle.pie_parser.specs.declared.error.ParseFault.{ParseFault}
use Rattle.pie_parser.specs.declared.error.ParseFault.TheVariants.{Expected, TooDeep, OutOfMemory}
use Rattle.pie_parser.specs.At.{At}
use Rattle.pie_parser.specs.Places.{Parsed, Got, Miss, then_on, first_kind}
use Rattle.pie_grammar_laws.proofs.Twins.{place}

-- a `by` may stand behind only where one stands: a `require` takes the `by` behind it
abbrev pub Follows : List Token → List Token → Type 0
Follows ms r = first_kind r ≡ kinds.By → first_kind ms ≡ kinds.By

-- no `by` is first
abbrev pub NotBy : List Token → Type 0
NotBy r = first_kind r ≡ kinds.By → ⊥

-- the word stands between two places with these marks, whatever follows that may follow
abbrev pub IsWord : (At → At → Type 0) → List Token → Bool → Bool → (List Token → Type 0) → Type 0
IsWord R w b c F = (p : ℕ) (r : List Token) → F r → (e : ℕ) × R (place p (w ++ r) b) (place e r c)

-- one part behind another
abbrev pub Then : (At → At → Type 0) → (At → At → Type 0) → At → At → Type 0
Then R Q s m = (a : At) × R s a × Q a m

-- a word of a part
pub record Word (R : At → At → Type 0) : Type 0 where
  pub word : List Token
  pub off : (r : List Token) → NotBy r → NotBy (word ++ r)
  pub reads : IsWord R word false false NotBy

-- what was read between two places is a word; only inside a `read` (`k`) may the place behind it be marked
pub record Been (k : Bool) (R : At → At → Type 0) (s m : At) : Type 0 where
  pub word : List Token
  pub splits : s.rest ≡ word ++ m.rest
  pub marks : k ≡ false → m.marked ≡ false
  pub reads : IsWord R word s.marked m.marked (Follows m.rest)

-- what was read up to a refusal can be completed; where a bracket nests too deep, it stands there rightly
pub record Open (f : ParseFault) (R : At → At → Type 0) (s m : At) : Type 0 where
  pub word : List Token
  pub splits : s.rest ≡ word ++ m.rest
  pub more : List Token
  pub stands : f ≡ TooDeep → (x : Token) × (us : List Token) × (vs : List Token) × (m.rest ≡ x ∷ us) × (more ≡ x ∷ vs)
  pub off : (r : List Token) → NotBy r → Follows s.rest ((word ++ more) ++ r)
  pub reads : IsWord R (word ++ more) s.marked false NotBy

pub data Fine (A : Type 0) (k : Bool) (R : At → At → Type 0) (s : At) : Parsed A → Type 0 where
  fine_got : (a : A) (m : At) → Been k R s m → Fine A k R s (Got a m)
  fine_miss : (f : ParseFault) (m : At) → Open f R s m → Fine A k R s (Miss f m)
  no_memory : (m : At) → Fine A k R s (Miss OutOfMemory m)

follows_on : (w ms ns r : List Token) → ms ≡ w ++ ns → Follows ns r → Follows ms (w ++ r)
follows_on [] ms ns r e f = λ h. ap first_kind e ∙ f h
follows_on (y ∷ w) ms ns r e f = λ h. ap first_kind e ∙ h

-- two parts that were read, one behind the other
pub been_then : {k h : Bool} {R Q : At → At → Type 0} {s m n : At} → Been k R s m → Been h Q m n → Been h (Then R Q) s n
been_then {R = R} {Q = Q} {s = s} {m = m} {n = n} x y = record {
  word = x.word ++ y.word;
  splits = x.splits ∙ ap (λ i. x.word ++ i) y.splits ∙ sym (append_assoc x.word y.word n.rest);
  marks = y.marks;
  reads = λ p r f.
      let i = x.reads p (y.word ++ r) (follows_on y.word m.rest n.rest r y.splits f) in
      let j = y.reads i.0 r f in (
        j.0,
        subst (λ us. Then R Q (place p us s.marked) (place j.0 r n.marked)) (sym (append_assoc x.word y.word r))
            (place i.0 (y.word ++ r) m.marked, i.1, j.1),
      );
}

-- a part behind what was read
pub after_been : {B : Type 0} {k h : Bool} {R Q : At → At → Type 0} {s m : At} {p : Parsed B} → Been k R s m → Fine B h Q m p → Fine B h (Then R Q) s p
after_been x (fine_got b n y) = fine_got b n (been_then x y)
after_been {R = R} {Q = Q} {s = s} {m = m} x (fine_miss f n y) = fine_miss f n (record {
  word = x.word ++ y.word;
  splits = x.splits ∙ ap (λ i. x.word ++ i) y.splits ∙ sym (append_assoc x.word y.word n.rest);
  more = y.more;
  stands = y.stands;
  off = λ r b. subst (Follows s.rest) (sym (three r)) (follows_on x.word s.rest m.rest ((y.word ++ y.more) ++ r) x.splits (y.off r b));
  reads = λ p r b.
      let i = x.reads p ((y.word ++ y.more) ++ r) (y.off r b) in
      let j = y.reads i.0 r b in
      (j.0, subst (λ us. Then R Q (place p us s.marked) (place j.0 r false)) (sym (three r)) (place i.0 ((y.word ++ y.more) ++ r) m.marked, i.1, j.1));
})
  where
    three : (r : List Token) → ((x.word ++ y.word) ++ y.more) ++ r ≡ x.word ++ ((y.word ++ y.more) ++ r)
    three r = ap (λ i. i ++ r) (append_assoc x.word y.word y.more) ∙ append_assoc x.word (y.word ++ y.more) r
after_been x (no_memory n) = no_memory n

pub fine_then : {A B : Type 0} {k h : Bool} {R Q : At → At → Type 0} {s : At} {p : Parsed A} {f : A → At → Parsed B} → Fine A k R s p → Word Q
    → ((a : A) (m : At) → (k ≡ false → m.marked ≡ false) → Fine B h Q m (f a m)) → Fine B h (Then R Q) s (then_on p f)
fine_then (fine_got a m x) q j = after_been x (j a m x.marks)
fine_then {R = R} {Q = Q} {s = s} (fine_miss f m x) q j = fine_miss f m (record {
  word = x.word;
  splits = x.splits;
  more = x.more ++ q.word;
  stands = λ e. let y = x.stands e in (y.0, y.1, y.2 ++ q.word, y.3, ap (λ i. i ++ q.word) y.4);
  off = λ r b. subst (Follows s.rest) (sym (three r)) (x.off (q.word ++ r) (q.off r b));
  reads = λ p r b.
      let i = x.reads p (q.word ++ r) (q.off r b) in
      let j = q.reads i.0 r b in
      (j.0, subst (λ us. Then R Q (place p us s.marked) (place j.0 r false)) (sym (three r)) (place i.0 (q.word ++ r) false, i.1, j.1));
})
  where
    three : (r : List Token) → (x.word ++ (x.more ++ q.word)) ++ r ≡ (x.word ++ x.more) ++ (q.word ++ r)
    three r = ap (λ i. i ++ r) (sym (append_assoc x.word x.more q.word)) ∙ append_assoc (x.word ++ x.more) q.word r
fine_then (no_memory m) q j = no_memory m

-- the same as another relation
pub fine_as : {A : Type 0} {k : Bool} {R Q : At → At → Type 0} {s : At} {p : Parsed A} → Fine A k R s p → ((s m : At) → R s m → Q s m) → Fine A k Q s p
fine_as (fine_got a m x) h = fine_got a m (record {
  word = x.word;
  splits = x.splits;
  marks = x.marks;
  reads = λ p r f. let i = x.reads p r f in
      (i.0, h _ _ i.1);
})
fine_as (fine_miss f m x) h = fine_miss f m (record {
  word = x.word;
  splits = x.splits;
  more = x.more;
  stands = x.stands;
  off = x.off;
  reads = λ p r b.
      let i = x.reads p r b in (i.0, h _ _ i.1);
})
fine_as (no_memory m) h = no_memory m

-- the same with another value
pub fine_last : {A B : Type 0} {k : Bool} {R : At → At → Type 0} {s : At} {p : Parsed A} (g : A → At → B) → Fine A k R s p
    → Fine B k R s (then_on p (λ a m. Got (g a m) m))
fine_last g (fine_got a m x) = fine_got (g a m) m x
fine_last g (fine_miss f m x) = fine_miss f m x
fine_last g (no_memory m) = no_memory m

-- where no place behind is marked, none is inside a `read` either
pub fine_weaker : {A : Type 0} {k : Bool} {R : At → At → Type 0} {s : At} {p : Parsed A} → Fine A false R s p → Fine A k R s p
fine_weaker (fine_got a m x) = fine_got a m (record { word = x.word; splits = x.splits; marks = λ e. x.marks refl; reads = x.reads })
fine_weaker (fine_miss f m x) = fine_miss f m x
fine_weaker (no_memory m) = no_memory m

pub fine_cond : {A : Type 0} {k : Bool} {R : At → At → Type 0} {s : At} {p q : Parsed A} (x : Bool) → (x ≡ true → Fine A k R s p)
    → (x ≡ false → Fine A k R s q) → Fine A k R s (cond x p q)
fine_cond true h i = h refl
fine_cond false h i = i refl

-- nothing is read
abbrev pub Nothing : At → At → Type 0
Nothing s m = s ≡ m

pub fine_nothing : {A : Type 0} {k : Bool} {s : At} (a : A) → (k ≡ false → s.marked ≡ false) → Fine A k Nothing s (Got a s)
fine_nothing {s = s} a u = fine_got a s (record { word = []; splits = refl; marks = u; reads = λ p r f. (p, refl) })

pub word_nothing : Word Nothing
word_nothing = record { word = []; off = λ r b. b; reads = λ p r b. (p, refl) }

pub word_then : {R Q : At → At → Type 0} → Word R → Word Q → Word (Then R Q)
word_then {R = R} {Q = Q} x y = record {
  word = x.word ++ y.word;
  off = λ r b. subst NotBy (sym (append_assoc x.word y.word r)) (x.off (y.word ++ r) (y.off r b));
  reads = λ p r b.
      let i = x.reads p (y.word ++ r) (y.off r b) in
      let j = y.reads i.0 r b in
      (j.0, subst (λ us. Then R Q (place p us false) (place j.0 r false)) (sym (append_assoc x.word y.word r)) (place i.0 (y.word ++ r) false, i.1, j.1));
}

pub word_as : {R Q : At → At → Type 0} → Word R → ((s m : At) → R s m → Q s m) → Word Q
word_as x h = record { word = x.word; off = x.off; reads = λ p r b. let i = x.reads p r b in (i.0, h _ _ i.1) }

-- a refusal at a place that isn't marked, where a word may stand
pub fine_wrong : {A : Type 0} {k : Bool} {R : At → At → Type 0} {s : At} → Word R → s.marked ≡ false → Fine A k R s (Miss Expected s)
fine_wrong {R = R} {s = s} w u = fine_miss Expected s (record {
  word = [];
  splits = refl;
  more = w.word;
  stands = λ e. absurd cc;
  off = λ r b h. absurd (w.off r b h);
  reads = λ p r b. let i = w.reads p r b in (i.0, subst (λ c. R (place p (w.word ++ r) c) (place i.0 r false)) (sym u) i.1);
})
