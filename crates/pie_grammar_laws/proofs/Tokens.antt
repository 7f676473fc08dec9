-- A token, a name, a bracket: read alike in two texts.
use Rattle.std.proofs.Common.{◌≡◌, ◌⊎◌, inl, inr, ℕ, ◌≤◌, zero, suc, Bool, true, false, cond, ◌==◌, List, [], ◌∷◌, ◌++◌, length, refl, sym, subst, ap, ◌∙◌}
use Rattle.std.proofs.Common.{arith, rules}
use Rattle.pie_lexer.specs.declared.token.Token.{Token}
use Rattle.pie_lexer.specs.declared.token.TokenKind.{TokenKind}
use Rattle.pie_lexer.specs.declared.token.TokenKind.TheVariants as tokens
use Rattle.pie_parser.specs.declared.kind.Kind.{Kind}
use Rattle.pie_parser.specs.declared.kind.Kind.TheVariants as kinds
use Rattle.pie_parser.specs.declared.error.ParseFault.TheVariants.{Expected, TooDeep}
use Rattle.pie_parser.specs.declared.tree.Name.{Name}
use Rattle.pie_parser.specs.declared.tree.Index.{Index}
use Rattle.pie_parser.specs.declared.tree.Literal.{Literal}
use Rattle.pie_parser.specs.Kinds.{is, kind_of_token}
use Rattle.pie_parser.specs.At.{At}
use Rattle.pie_parser.specs.Places.{Parsed, Got, Miss, then_on, Passed, done, first_kind, next, start, start_of, behind, passed, want, open_bracket, name}
use Rattle.pie_parser.specs.Places.{name_in, name_by, index, index_in, index_by}
use Rattle.pie_parser.specs.declared.tree.Literal.TheVariants as literals
use Rattle.pie_parser.specs.Plain.{Tree, TLiteral}
use Rattle.pie_parser.specs.ExprReading.{literal_by, literal_in, literal}
use Rattle.pie_parser.proofs.Readings.{is_same}
use Rattle.pie_grammar_laws.specs.Brackets.{opens, closes}
use Rattle.pie_grammar_laws.proofs.Twins.{Texts, place, Twin, before, gone, next_is, Keeps, kept, opening, closing, other, Takes, takes_none, Alike, both_got}
use Rattle.pie_grammar_laws.proofs.Twins.{both_miss, past_got, then_alike, got_alike, wrong_alike, cond_alike, cond_then}

-- the kinds that are tokens and no brackets
abbrev pub is_plain : Kind → Bool
is_plain kinds.OpenRound = false
is_plain kinds.OpenSquare = false
is_plain kinds.OpenBrace = false
is_plain kinds.CloseRound = false
is_plain kinds.CloseSquare = false
is_plain kinds.CloseBrace = false
is_plain kinds.End = false
is_plain kinds.Marked = false
is_plain k = true

plain_opens : (k : Kind) → is_plain k ≡ true → opens k ≡ false
plain_opens kinds.OpenRound h = cc
plain_opens kinds.OpenSquare h = cc
plain_opens kinds.OpenBrace h = cc
plain_opens k h = refl

plain_closes : (k : Kind) → is_plain k ≡ true → closes k ≡ false
plain_closes kinds.CloseRound h = cc
plain_closes kinds.CloseSquare h = cc
plain_closes kinds.CloseBrace h = cc
plain_closes k h = refl

-- the kinds that are tokens
abbrev pub is_token : Kind → Bool
is_token kinds.End = false
is_token kinds.Marked = false
is_token k = true

pub plain_token : (k : Kind) → is_plain k ≡ true → is_token k ≡ true
plain_token kinds.End h = h
plain_token kinds.Marked h = h
plain_token k h = refl

pub opens_token : (k : Kind) → opens k ≡ true → is_token k ≡ true
opens_token kinds.OpenRound h = refl
opens_token kinds.OpenSquare h = refl
opens_token kinds.OpenBrace h = refl
opens_token k h = cc

closes_token : (k : Kind) → closes k ≡ true → is_token k ≡ true
closes_token kinds.CloseRound h = refl
closes_token kinds.CloseSquare h = refl
closes_token kinds.CloseBrace h = refl
closes_token k h = cc

-- where a token is next, the place isn't marked
pub unmarked_by : (b : Bool) (j : Kind) → is_token (cond b kinds.Marked j) ≡ true → b ≡ false
unmarked_by true j h = cc
unmarked_by false j h = refl

pub next_first : (s : At) → is_token (next s) ≡ true → next s ≡ first_kind s.rest
next_first s h = ap (λ b. cond b kinds.Marked (first_kind s.rest)) (unmarked_by s.marked (first_kind s.rest) h)

-- how a token of this kind changes how many brackets may be opened
abbrev pub Counts : ℕ → Kind → ℕ → ℕ → Type 0
Counts l k d e = (x : Token) → kind_of_token x.kind ≡ k → Keeps l d (x ∷ []) e

pub plain_counts : {l : ℕ} (k : Kind) (d : ℕ) → is_plain k ≡ true → Counts l k d d
plain_counts k d h = λ x q. other (ap opens q ∙ plain_opens k h) (ap closes q ∙ plain_closes k h) kept

pub opens_counts : {l : ℕ} (k : Kind) (d e : ℕ) → opens k ≡ true → d ≡ suc e → Counts l k d e
opens_counts {l = l} k d e h n = λ x q. subst (λ i. Keeps l i (x ∷ []) e) (sym n) (opening (ap opens q ∙ h) kept)

pub closes_counts : {l : ℕ} (k : Kind) (d e : ℕ) → closes k ≡ true → e ≡ suc d → e ≤ l → Counts l k d e
closes_counts {l = l} k d e h n f = λ x q. subst (λ i. Keeps l d (x ∷ []) i) (sym n) (closing (ap closes q ∙ h) (omega arith) kept)

one_token : {l d e : ℕ} (x : Token) (ts : List Token) → Keeps l d (x ∷ []) e → Takes l 1 d e (x ∷ ts) ts
one_token x ts k = record { word = x ∷ []; splits = refl; takes = omega arith; keeps = k }

-- the token that is next is passed alike
pub pass_as : {z : Texts} {d e : ℕ} {s t : At} → Twin z s t → is_token (next s) ≡ true → Counts z.limit (next s) d e
    → Alike Passed z 1 d e s.rest (Got done (passed s)) (Got done (passed t))
pass_as {z = z} {d = d} {e = e} (before p [] b) i c =
    let s : At = place p (z.token ∷ z.one) b in
    past_got done (place z.token.end z.one b) (Got done (place z.token.end z.two b)) (omega arith) (one_token z.token z.one (c z.token (sym (next_first s i))))
pass_as {z = z} {d = d} {e = e} (before p (y ∷ v) b) i c =
    let s : At = place p (y ∷ v ++ z.token ∷ z.one) b in
    both_got done (place y.end (v ++ z.token ∷ z.one) b) (place y.end (v ++ z.token ∷ z.two) b) (before y.end v b)
    (one_token y (v ++ z.token ∷ z.one) (c y (sym (next_first s i))))
pass_as {z = z} {d = d} {e = e} (gone s l) i c = by_rest s.rest refl
  where
    by_rest : (ts : List Token) → s.rest ≡ ts → Alike Passed z 1 d e s.rest (Got done (behind s s.rest)) (Got done (behind s s.rest))
    by_rest [] q = (let y : false ≡ true = ap is_token (sym (ap first_kind q)) ∙ ap is_token (sym (next_first s i)) ∙ i in cc)
    by_rest (y ∷ ts) q = subst (λ us. Alike Passed z 1 d e us (Got done (behind s us)) (Got done (behind s us))) (sym q)
        (past_got done (place y.end ts s.marked) _ (let n = ap length q in omega arith) (one_token y ts (c y (sym (next_first s i ∙ ap first_kind q)))))

pub pass_alike : {z : Texts} {s t : At} (d : ℕ) → Twin z s t → is_plain (next s) ≡ true
    → Alike Passed z 1 d d s.rest (Got done (passed s)) (Got done (passed t))
pass_alike {s = s} d w h = pass_as w (plain_token (next s) h) (plain_counts (next s) d h)

-- what is read behind the token that is next
pub passing : {A : Type 0} {z : Texts} {b h : ℕ} {s t : At} (d : ℕ) (F G : At → Parsed A) → Twin z s t → is_plain (next s) ≡ true
    → ((m k : At) → Twin z m k → Alike A z b d h m.rest (F m) (G k)) → Alike A z 1 d h s.rest (F (passed s)) (G (passed t))
passing d F G w i h = then_alike {f = λ _ m. F m} {g = λ _ m. G m} (pass_alike d w i) (λ a m k v l. h m k v)

-- what is read behind the closing bracket that is next
pub closing_by : {A : Type 0} {z : Texts} {b h e : ℕ} {s t : At} (d : ℕ) (F G : At → Parsed A) → Twin z s t → closes (next s) ≡ true → e ≡ suc d → e ≤ z.limit
    → ((m k : At) → Twin z m k → Alike A z b e h m.rest (F m) (G k)) → Alike A z 1 d h s.rest (F (passed s)) (G (passed t))
closing_by {e = e} {s = s} d F G w i n f h =
    then_alike {f = λ _ m. F m} {g = λ _ m. G m} (pass_as w (closes_token (next s) i) (closes_counts (next s) d e i n f)) (λ a m k v l. h m k v)

want_as : {z : Texts} {d e : ℕ} {s t : At} (k : Kind) → Twin z s t → is_token k ≡ true → Counts z.limit k d e
    → Alike Passed z 1 d e s.rest (want k s) (want k t)
want_as {z = z} {d = d} {e = e} {s = s} {t = t} k w i c = cond_alike (ap (λ j. is j k) (next_is w)) pass (λ q. wrong_alike w)
  where
    pass : is (next s) k ≡ true → Alike Passed z 1 d e s.rest (Got done (passed s)) (Got done (passed t))
    pass q = let n = is_same (next s) k q in pass_as w (ap is_token n ∙ i) (subst (λ j. Counts z.limit j d e) (sym n) c)

-- a token that is no bracket
pub plain_alike : {z : Texts} {d : ℕ} {s t : At} (k : Kind) → Twin z s t → is_plain k ≡ true → Alike Passed z 1 d d s.rest (want k s) (want k t)
plain_alike {d = d} k w h = want_as k w (plain_token k h) (plain_counts k d h)

-- a closing bracket
pub close_alike : {z : Texts} {d e : ℕ} {s t : At} (k : Kind) → Twin z s t → closes k ≡ true → e ≡ suc d → e ≤ z.limit
    → Alike Passed z 1 d e s.rest (want k s) (want k t)
close_alike {d = d} {e = e} k w h n f = want_as k w (closes_token k h) (closes_counts k d e h n f)

some_room : (e : ℕ) → (suc e == 0) ≡ false
some_room e = search rules

-- an opening bracket, and what is read inside it
pub open_alike : {A : Type 0} {z : Texts} {b h : ℕ} {s t : At} (f g : Passed → At → Parsed A) (k : Kind) (d : ℕ) → Twin z s t → opens k ≡ true
    → ((e : ℕ) → d ≡ suc e → (m n : At) → Twin z m n → Alike A z b e h m.rest (f done m) (g done n))
    → Alike A z 1 d h s.rest (then_on (open_bracket k d s) f) (then_on (open_bracket k d t) g)
open_alike {A = A} {z = z} {b = b} {h = h} {s = s} {t = t} f g k d w o inside = cond_then _ _ _ _ _ _ (ap (λ j. is j k) (next_is w))
    (λ q. by_room d (is_same (next s) k q) inside) (λ q. wrong_alike w)
  where
    by_done : (e : ℕ) (a : Passed) (m n : At) → Twin z m n → ((m n : At) → Twin z m n → Alike A z b e h m.rest (f done m) (g done n))
        → Alike A z b e h m.rest (f a m) (g a n)
    by_done e done m n w i = i m n w

    by_room : (d : ℕ) → next s ≡ k → ((e : ℕ) → d ≡ suc e → (m n : At) → Twin z m n → Alike A z b e h m.rest (f done m) (g done n))
        → Alike A z 1 d h s.rest (then_on (cond (d == 0) (Miss TooDeep s) (Got done (passed s))) f)
        (then_on (cond (d == 0) (Miss TooDeep t) (Got done (passed t))) g)
    by_room zero n inside = both_miss TooDeep s t w
        (record { room = zero; word = takes_none; deep = λ e. (refl, ap opens (sym (next_first s (ap is_token n ∙ opens_token k o)) ∙ n) ∙ o) })
    by_room (suc e) n inside = subst (λ x. Alike A z 1 (suc e) h s.rest (then_on (cond x (Miss TooDeep s) (Got done (passed s))) f)
        (then_on (cond x (Miss TooDeep t) (Got done (passed t))) g)) (sym (some_room e))
        (then_alike {f = f} {g = g} (pass_as w (ap is_token n ∙ opens_token k o)
        (subst (λ j. Counts z.limit j (suc e) e) (sym n) (opens_counts k (suc e) e o refl)))
        (λ a m i w l. by_done e a m i w (inside e refl)))

-- what a reading by the first token makes of a token of this kind: nothing, or a value of the token, which it passes
abbrev pub ByKind : {A : Type 0} → (At → Token → List Token → TokenKind → Parsed A) → TokenKind → Type 0
ByKind {A = A} F k = ((s : At) (x : Token) (ts : List Token) → F s x ts k ≡ Miss Expected s)
    ⊎ ((is_plain (kind_of_token k) ≡ true) × (a : Token → A)
    × ((s : At) (x : Token) (ts : List Token) → s.rest ≡ x ∷ ts → F s x ts k ≡ Got (a x) (place x.end ts s.marked)))

by_token : {A : Type 0} {z : Texts} {d : ℕ} {s t : At} (F : At → Token → List Token → TokenKind → Parsed A) (x : Token) (us vs : List Token) → ByKind F x.kind
    → Twin z s t → s.rest ≡ x ∷ us → t.rest ≡ x ∷ vs → s.marked ≡ false → Alike A z 1 d d s.rest (F s x us x.kind) (F t x vs x.kind)
by_token {A = A} {z = z} {d = d} {s = s} {t = t} F x us vs (inl h) w p q m =
    subst (λ i. Alike A z 1 d d s.rest i (F t x vs x.kind)) (sym (h s x us))
    (subst (λ j. Alike A z 1 d d s.rest (Miss Expected s) j) (sym (h t x vs)) (wrong_alike w))
by_token {A = A} {z = z} {d = d} {s = s} {t = t} F x us vs (inr h) w p q m =
    let n : next s ≡ kind_of_token x.kind = ap (λ b. cond b kinds.Marked (first_kind s.rest)) m ∙ ap first_kind p in
    let here : F s x us x.kind ≡ Got (h.1 x) (passed s) = h.2 s x us p ∙ ap (λ r. Got (h.1 x) (behind s r)) (sym p) in
    let there : F t x vs x.kind ≡ Got (h.1 x) (passed t) = h.2 t x vs q ∙ ap (λ r. Got (h.1 x) (behind t r)) (sym q) in
    subst (λ i. Alike A z 1 d d s.rest i (F t x vs x.kind)) (sym here) (subst (λ j. Alike A z 1 d d s.rest (Got (h.1 x) (passed s)) j) (sym there)
    (passing d (Got (h.1 x)) (Got (h.1 x)) w (ap is_plain n ∙ h.0) (λ m k v. got_alike v refl)))

pub name_kinds : (k : TokenKind) → ByKind name_by k
name_kinds (tokens.Name y) = inr (refl, λ x. record { at = x.at; end = x.end; text = y }, λ s x ts e. refl)
name_kinds k = inl (λ s x ts. refl)

pub index_kinds : (k : TokenKind) → ByKind index_by k
index_kinds (tokens.Int n) = inr (refl, λ x. record { at = x.at; end = x.end; number = n }, λ s x ts e. refl)
index_kinds k = inl (λ s x ts. refl)

-- a literal, by its token
abbrev pub literal_of : At → Token → List Token → TokenKind → Parsed Tree
literal_of s x ts k = then_on (literal_by s k) (λ l a. Got (TLiteral (start s) (passed a).past l) (passed a))

literal_is : (l : Literal) (s : At) (x : Token) (ts : List Token) → s.rest ≡ x ∷ ts
    → Got (TLiteral (start s) (passed s).past l) (passed s) ≡ Got (TLiteral x.at x.end l) (place x.end ts s.marked)
literal_is l s x ts e = ap (λ r. Got (TLiteral (start_of s.past r) (behind s r).past l) (behind s r)) e

pub literal_kinds : (k : TokenKind) → ByKind literal_of k
literal_kinds (tokens.Int n) = inr (refl, λ x. TLiteral x.at x.end (literals.Int n), literal_is (literals.Int n))
literal_kinds (tokens.Text t) = inr (refl, λ x. TLiteral x.at x.end (literals.Text t), literal_is (literals.Text t))
literal_kinds tokens.True = inr (refl, λ x. TLiteral x.at x.end (literals.Bool true), literal_is (literals.Bool true))
literal_kinds tokens.False = inr (refl, λ x. TLiteral x.at x.end (literals.Bool false), literal_is (literals.Bool false))
literal_kinds tokens.UnitWord = inr (refl, λ x. TLiteral x.at x.end literals.Unit, literal_is literals.Unit)
literal_kinds k = inl (λ s x ts. refl)

pub name_alike : {z : Texts} {d : ℕ} {s t : At} → Twin z s t → Alike Name z 1 d d s.rest (name s) (name t)
name_alike {z = z} {d = d} (before p [] b) = let w = before p [] b in
    cond_alike refl (λ e. wrong_alike w) (λ e. by_token name_by z.token z.one z.two (name_kinds z.token.kind) w refl refl e)
name_alike {z = z} {d = d} (before p (y ∷ v) b) = let w = before p (y ∷ v) b in
    cond_alike refl (λ e. wrong_alike w) (λ e. by_token name_by y (v ++ z.token ∷ z.one) (v ++ z.token ∷ z.two) (name_kinds y.kind) w refl refl e)
name_alike {z = z} {d = d} (gone s l) = by_rest s.rest refl
  where
    by_rest : (ts : List Token) → s.rest ≡ ts → Alike Name z 1 d d s.rest (cond s.marked (Miss Expected s) (name_in s ts))
        (cond s.marked (Miss Expected s) (name_in s ts))
    by_rest [] q = cond_alike refl (λ e. wrong_alike (gone s l)) (λ e. wrong_alike (gone s l))
    by_rest (x ∷ ts) q = cond_alike refl (λ e. wrong_alike (gone s l)) (λ e. by_token name_by x ts ts (name_kinds x.kind) (gone s l) q q e)

pub index_alike : {z : Texts} {d : ℕ} {s t : At} → Twin z s t → Alike Index z 1 d d s.rest (index s) (index t)
index_alike {z = z} {d = d} (before p [] b) = let w = before p [] b in
    cond_alike refl (λ e. wrong_alike w) (λ e. by_token index_by z.token z.one z.two (index_kinds z.token.kind) w refl refl e)
index_alike {z = z} {d = d} (before p (y ∷ v) b) = let w = before p (y ∷ v) b in
    cond_alike refl (λ e. wrong_alike w) (λ e. by_token index_by y (v ++ z.token ∷ z.one) (v ++ z.token ∷ z.two) (index_kinds y.kind) w refl refl e)
index_alike {z = z} {d = d} (gone s l) = by_rest s.rest refl
  where
    by_rest : (ts : List Token) → s.rest ≡ ts → Alike Index z 1 d d s.rest (cond s.marked (Miss Expected s) (index_in s ts))
        (cond s.marked (Miss Expected s) (index_in s ts))
    by_rest [] q = cond_alike refl (λ e. wrong_alike (gone s l)) (λ e. wrong_alike (gone s l))
    by_rest (x ∷ ts) q = cond_alike refl (λ e. wrong_alike (gone s l)) (λ e. by_token index_by x ts ts (index_kinds x.kind) (gone s l) q q e)

pub literal_alike : {z : Texts} {d : ℕ} {s t : At} → Twin z s t → Alike Tree z 1 d d s.rest (literal s) (literal t)
literal_alike {z = z} {d = d} (before p [] b) = let w = before p [] b in
    cond_then _ _ _ _ _ _ refl (λ e. wrong_alike w) (λ e. by_token literal_of z.token z.one z.two (literal_kinds z.token.kind) w refl refl e)
literal_alike {z = z} {d = d} (before p (y ∷ v) b) = let w = before p (y ∷ v) b in
    cond_then _ _ _ _ _ _ refl (λ e. wrong_alike w) (λ e. by_token literal_of y (v ++ z.token ∷ z.one) (v ++ z.token ∷ z.two)
    (literal_kinds y.kind) w refl refl e)
literal_alike {z = z} {d = d} (gone s l) = by_rest s.rest refl
  where
    f : Literal → At → Parsed Tree
    f i a = Got (TLiteral (start s) (passed a).past i) (passed a)

    by_rest : (ts : List Token) → s.rest ≡ ts → Alike Tree z 1 d d s.rest (then_on (cond s.marked (Miss Expected s) (literal_in s ts)) f)
        (then_on (cond s.marked (Miss Expected s) (literal_in s ts)) f)
    by_rest [] q = cond_then {x = s.marked} {y = s.marked} _ _ _ _ f f refl (λ e. wrong_alike (gone s l)) (λ e. wrong_alike (gone s l))
    by_rest (x ∷ ts) q = cond_then {x = s.marked} {y = s.marked} _ _ _ _ f f refl (λ e. wrong_alike (gone s l))
        (λ e. by_token literal_of x ts ts (literal_kinds x.kind) (gone s l) q q e)
