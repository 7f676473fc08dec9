-- What an answer of a reading says of its parts.
use Rattle.std.proofs.Common.{◌≡◌, ◌⊎◌, inl, inr, ℕ, Bool, true, false, cond, List, [], ◌∷◌, ◌++◌, length, drop, Option, Some, None, refl, sym, subst, ap, ◌∙◌}
use Rattle.pie_lexer.specs.declared.token.TokenKind.{TokenKind}
use Rattle.pie_lexer.specs.declared.token.TokenKind.TheVariants as kinds
use Rattle.pie_roots.specs.declared.lead.Sign.{Sign}
use Rattle.pie_roots.specs.declared.lead.Sign.TheVariants.{Comma, OpenRound, CloseRound, CloseSquare}
use Rattle.pie_roots.specs.inner.Leads.{is_sign, starts}
use Rattle.pie_roots.specs.inner.Reading.{Parsed, then_on, kept, Passed, done, want, first, name_of, text_of, name, text, text_inside}
use Rattle.pie_roots.specs.Written.{bracketed}

-- nothing read isn't something read
pub missed : {A P : Type 0} {a : A} → None ≡ Some a → P
missed {A = A} {P = P} h = subst (λ (o : Option A). elim o as (λ _. Type 0) [ None ↦ Unit {0} | Some x ↦ P ]) h tt

-- one of two answers
pub chosen : {A : Type 0} (b : Bool) (x y z : A) → cond b x y ≡ z → ((b ≡ true) × (x ≡ z)) ⊎ ((b ≡ false) × (y ≡ z))
chosen true x y z h = inl (refl, h)
chosen false x y z h = inr (refl, h)

-- what stands behind an answer
abbrev pub OnSome : {A : Type 0} → (A → List TokenKind → Type 0) → Parsed A → Type 0
OnSome P (Some p) = P p.0 p.1
OnSome P None = ⊥

-- an answer is this one
abbrev pub Gets : {A : Type 0} → Parsed A → A → List TokenKind → Type 0
Gets p a r = p ≡ Some (a, r)

-- two answers that are one
pub got : {A : Type 0} (P : A → List TokenKind → Type 0) {a b : A} {r s : List TokenKind} → Gets (Some (a, r)) b s → P a r → P b s
got P e p = subst (OnSome P) e p

pub some_same : {A : Type 0} {a b : A} → Some a ≡ Some b → a ≡ b
some_same e = cc

-- one reading after another: what the first answered, and what the second did with it
pub bound : {A B : Type 0} (p : Parsed A) (k : A → List TokenKind → Parsed B) (b : B) (m : List TokenKind) → then_on p k ≡ Some (b, m)
    → (a : A) × (r : List TokenKind) × (p ≡ Some (a, r)) × (k a r ≡ Some (b, m))
bound (Some p) k b m h = (p.0, p.1, refl, h)
bound None k b m h = missed h

pub kept_is : {A : Type 0} (o : Option A) (ks : List TokenKind) (a : A) (rest : List TokenKind) → kept o ks ≡ Some (a, rest) → (o ≡ Some a) × (ks ≡ rest)
kept_is {A = A} (Some x) ks a rest h =
    let P : A → List TokenKind → Type 0 = λ b s. (Some x ≡ Some b) × (ks ≡ s) in got P h (refl, refl)
kept_is None ks a rest h = missed h

-- a reading that went well, in front of another
pub after : {A B : Type 0} (p : Parsed A) (k : A → List TokenKind → Parsed B) (a : A) (r : List TokenKind) (q : Parsed B) → p ≡ Some (a, r) → k a r ≡ q
    → then_on p k ≡ q
after p k a r q e h = ap (λ o. then_on o k) e ∙ h

-- the token that a sign is
abbrev pub kind_of : Sign → TokenKind
kind_of Comma = kinds.Comma
kind_of OpenRound = kinds.OpenRound
kind_of CloseRound = kinds.CloseRound
kind_of CloseSquare = kinds.CloseSquare

sign_is : (s : Sign) (k : TokenKind) → is_sign s k ≡ true → k ≡ kind_of s
sign_is Comma kinds.Comma h = refl
sign_is OpenRound kinds.OpenRound h = refl
sign_is CloseRound kinds.CloseRound h = refl
sign_is CloseSquare kinds.CloseSquare h = refl
sign_is s k h = cc

pub starts_is : (s : Sign) (ks : List TokenKind) → starts s ks ≡ true → ks ≡ kind_of s ∷ drop 1 ks
starts_is s [] h = cc
starts_is s (k ∷ ks) h = ap (λ j. j ∷ ks) (sign_is s k h)

pub starts_so : (s : Sign) (ks : List TokenKind) → starts s (kind_of s ∷ ks) ≡ true
starts_so Comma ks = refl
starts_so OpenRound ks = refl
starts_so CloseRound ks = refl
starts_so CloseSquare ks = refl

pub want_is : (s : Sign) (ks : List TokenKind) (d : Passed) (rest : List TokenKind) → want s ks ≡ Some (d, rest) → ks ≡ kind_of s ∷ rest
want_is s ks d rest h = elim (chosen (starts s ks) (Some (done, drop 1 ks)) None (Some (d, rest)) h) [
  | inl c ↦ got (λ (_ : Passed) (r : List TokenKind). ks ≡ kind_of s ∷ r) c.1 (starts_is s ks c.0)
  | inr c ↦ missed c.1
]

pub want_so : (s : Sign) (ks : List TokenKind) → want s (kind_of s ∷ ks) ≡ Some (done, ks)
want_so s ks = ap (λ b. cond b (Some (done, ks)) None) (starts_so s ks)

text_of_is : (k : TokenKind) (said : List ℕ) → text_of k ≡ Some said → k ≡ kinds.Text said
text_of_is (kinds.Text w) said h = cc
text_of_is k said h = cc

name_of_is : (k : TokenKind) (w : List ℕ) → name_of k ≡ Some w → k ≡ kinds.Name w
name_of_is (kinds.Name v) w h = cc
name_of_is k w h = cc

pub text_is : (ks : List TokenKind) (said : List ℕ) (rest : List TokenKind) → text ks ≡ Some (said, rest) → ks ≡ kinds.Text said ∷ rest
text_is [] said rest h = missed h
text_is (k ∷ ks) said rest h =
    let p = kept_is (text_of k) ks said rest h in ap (λ j. j ∷ ks) (text_of_is k said p.0) ∙ ap (λ r. kinds.Text said ∷ r) p.1

pub name_is : (ks : List TokenKind) (w : List ℕ) (rest : List TokenKind) → name ks ≡ Some (w, rest) → ks ≡ kinds.Name w ∷ rest
name_is [] w rest h = missed h
name_is (k ∷ ks) w rest h =
    let p = kept_is (name_of k) ks w rest h in ap (λ j. j ∷ ks) (name_of_is k w p.0) ∙ ap (λ r. kinds.Name w ∷ r) p.1

pub inside_is : (ks : List TokenKind) (said : List ℕ) (rest : List TokenKind) → text_inside ks ≡ Some (said, rest) → ks ≡ bracketed said ++ rest
inside_is ks said rest h =
    let a = bound (want OpenRound ks) _ said rest h in
    let b = bound (text a.1) _ said rest a.3 in
    let c = bound (want CloseRound b.1) _ said rest b.3 in
    let P : List ℕ → List TokenKind → Type 0 = λ w r. bracketed b.0 ++ c.1 ≡ bracketed w ++ r in
    want_is OpenRound ks a.0 a.1 a.2
    ∙ ap (λ r. kinds.OpenRound ∷ r) (text_is a.1 b.0 b.1 b.2)
    ∙ ap (λ r. kinds.OpenRound ∷ kinds.Text b.0 ∷ r) (want_is CloseRound b.1 c.0 c.1 c.2)
    ∙ got P c.3 refl
