-- A spelling with a space or the end behind it is read as that token alone.
use Rattle.std.proofs.Common.{◌≡◌, inl, inr, ℕ, ◌+◌, ◌-◌, Bool, true, false, ◌==◌, ◌&&◌, not, List, [], ◌∷◌, ◌++◌, length, take, drop, Some, Ok, Err, Result}
use Rattle.std.proofs.Common.{refl, sym, subst, ap, ◌∙◌, arith, append_assoc}
use Rattle.std.specs.List.{list_all}
use Rattle.std.proofs.lemmas.List.{append-nil, drop-drop}
use Rattle.std.proofs.Math.Seq.{take-append_seam, drop-append_seam}
use Rattle.std.proofs.lemmas.Bool.Decides.{nat_tests}
use Rattle.pie_lexer.specs.Bytes.{is_digit, is_word_byte, gap_len}
use Rattle.pie_lexer.specs.Words.{word_kind}
use Rattle.pie_lexer.specs.Marks.{Row, doubles, look_up, mark_of, double_of, single_of}
use Rattle.pie_lexer.specs.Tokens.{number_of, Lexeme, Number, Kind, Spells, word, digits, quoted, mark, Means, before, Lexes, ended, gap, token, refused}
use Rattle.pie_lexer.specs.declared.token.Token.{Token}
use Rattle.pie_lexer.specs.declared.token.TokenKind.{TokenKind}
use Rattle.pie_lexer.specs.declared.token.TokenKind.TheVariants as kinds
use Rattle.pie_lexer.specs.declared.error.LexError.{LexError}
use Rattle.pie_lexer.proofs.Prefixes.{both_true, chosen}
use Rattle.pie_lexer.proofs.Spelled.{sort_of, letter_sort, digit_sort, mark_sort, word_is, digits_are, quoted_is, mark_is, nonempty}
use Rattle.pie_lexer.proofs.Quoting.{stops_at_quote, inside_same}
use Rattle.pie_spelling_laws.specs.Spelling.{spelling, joined, kinds_of}

-- nothing or a space stands here
abbrev pub Parts : List ℕ → Type 0
Parts [] = Unit {0}
Parts (b ∷ _) = b ≡ 32

-- a part that meets a test is the same in two texts, where no byte behind it meets the test
same_part : (p : ℕ → Bool) → p 32 ≡ false → (v w r q : List ℕ) → list_all p v ≡ true → list_all p w ≡ true → Parts r → Parts q → v ++ r ≡ w ++ q → (v ≡ w)
    × (r ≡ q)
same_part p n [] [] r q h k x y e = (refl, e)
same_part p n [] (b ∷ w) [] q h k x y e = cc
same_part p n [] (b ∷ w) (c ∷ r) q h k x y e =
    let s : b ≡ 32 = (let z : c ≡ b = cc in sym z ∙ x) in
    let t : true ≡ false = sym (both_true (p b) (list_all p w) k).0 ∙ ap p s ∙ n in cc
same_part p n (a ∷ v) [] r [] h k x y e = cc
same_part p n (a ∷ v) [] r (c ∷ q) h k x y e =
    let s : a ≡ 32 = (let z : a ≡ c = cc in z ∙ y) in
    let t : true ≡ false = sym (both_true (p a) (list_all p v) h).0 ∙ ap p s ∙ n in cc
same_part p n (a ∷ v) (b ∷ w) r q h k x y e =
    let s : a ≡ b = cc in
    let t : v ++ r ≡ w ++ q = cc in
    let z = same_part p n v w r q (both_true (p a) (list_all p v) h).1 (both_true (p b) (list_all p w) k).1 x y t in
    (cc (s, z.0), z.1)

same : (a b : ℕ) → (a == b) ≡ true → a ≡ b
same a b h = grind (arith, nat_tests)

-- what each row of a table meets at its second byte, what is found by it meets
row_meets : (p : ℕ → Bool) (a b : ℕ) (rows : List Row) (k : TokenKind) → list_all (λ r. p r.1) rows ≡ true → look_up a b rows ≡ Some k → p b ≡ true
row_meets p a b [] k h e = cc
row_meets p a b (row ∷ rows) k h e =
    let q = both_true (p row.1) (list_all (λ r. p r.1) rows) h in
    elim (chosen (a == row.0 && b == row.1) (Some row.2) (look_up a b rows) (Some k) e) [
      | inl c ↦ ap p (same b row.1 (both_true (a == row.0) (b == row.1) c.0).1) ∙ q.0
      | inr c ↦ row_meets p a b rows k q.1 c.1
    ]

-- no mark of two bytes ends in a space
no_spaced_mark : (a : ℕ) (k : TokenKind) → double_of a 32 ≡ Some k → ⊥
no_spaced_mark a k h = let t : false ≡ true = row_meets (λ b. not (b == 32)) a 32 doubles k refl h in cc

no_spaced : (a b : ℕ) (r q : List ℕ) (k : TokenKind) → double_of a b ≡ Some k → Parts r → r ≡ b ∷ q → ⊥
no_spaced a b [] q k h p e = cc
no_spaced a b (c ∷ r) q k h p e = let s : b ≡ 32 = (let z : c ≡ b = cc in sym z ∙ p) in no_spaced_mark a k (ap (double_of a) (sym s) ∙ h)

same_mark : (v w r q : List ℕ) (k j : TokenKind) → mark_of v ≡ Some k → mark_of w ≡ Some j → Parts r → Parts q → v ++ r ≡ w ++ q → (v ≡ w) × (r ≡ q) × (k ≡ j)
same_mark [] w r q k j h i n m e = cc
same_mark (a ∷ []) [] r q k j h i n m e = cc
same_mark (a ∷ []) (c ∷ []) r q k j h i n m e =
    let s : a ≡ c = cc in
    let t : r ≡ q = cc in
    let o : Some k ≡ Some j = sym h ∙ ap single_of s ∙ i in (cc (s), t, cc (o))
same_mark (a ∷ []) (c ∷ d ∷ []) r q k j h i n m e = absurd (no_spaced c d r q j i n (let t : r ≡ d ∷ q = cc in t))
same_mark (a ∷ []) (c ∷ d ∷ f ∷ w) r q k j h i n m e = cc
same_mark (a ∷ b ∷ []) [] r q k j h i n m e = cc
same_mark (a ∷ b ∷ []) (c ∷ []) r q k j h i n m e = absurd (no_spaced a b q r k h m (let t : q ≡ b ∷ r = cc in t))
same_mark (a ∷ b ∷ []) (c ∷ d ∷ []) r q k j h i n m e =
    let s : a ≡ c = cc in
    let u : b ≡ d = cc in
    let t : r ≡ q = cc in
    let o : Some k ≡ Some j = sym h ∙ ap (λ x. double_of x b) s ∙ ap (double_of c) u ∙ i in (cc (s, u), t, cc (o))
same_mark (a ∷ b ∷ []) (c ∷ d ∷ f ∷ w) r q k j h i n m e = cc
same_mark (a ∷ b ∷ g ∷ v) w r q k j h i n m e = cc

not_spelled : (y : Lexeme) → Spells [] y → ⊥
not_spelled y t = let n = nonempty [] y t in let k : [] ≡ n.0 ∷ n.1 = n.2 in cc

-- two spellings of which each has a space or the end behind it are one, and so is what stands behind
pub same_spelling : (v w r q : List ℕ) (x y : Lexeme) → Spells v x → Spells w y → Parts r → Parts q → v ++ r ≡ w ++ q → (r ≡ q) × (x ≡ y)
same_spelling v [] r q x y s t n m e = absurd (not_spelled y t)
same_spelling v (c ∷ cs) r q x y (word {b = b} {bs = bs} l h) t n m e =
    let s : b ≡ c = cc in
    let u : bs ++ r ≡ cs ++ q = cc in
    let k = word_is c cs y (subst (λ i. sort_of i ≡ 1) s (letter_sort b l)) t in
    let z = same_part is_word_byte refl bs cs r q h k.0 n m u in
    (z.1, ap (λ i. Kind (word_kind (i ∷ bs))) s ∙ ap (λ i. Kind (word_kind (c ∷ i))) z.0 ∙ sym k.1)
same_spelling v (c ∷ cs) r q x y (digits {b = b} {bs = bs} l h) t n m e =
    let s : b ≡ c = cc in
    let u : bs ++ r ≡ cs ++ q = cc in
    let k = digits_are c cs y (subst (λ i. sort_of i ≡ 2) s (digit_sort b l)) t in
    let z = same_part is_digit refl bs cs r q h k.0 n m u in
    (z.1, ap (λ i. Number (number_of (i ∷ bs))) s ∙ ap (λ i. Number (number_of (c ∷ i))) z.0 ∙ sym k.1)
same_spelling v (c ∷ cs) r q x y (quoted {inner = inner} {said = said} i f) t n m e =
    let e2 : 34 ∷ ((inner ++ 34 ∷ []) ++ r) ≡ c ∷ (cs ++ q) = ap (λ a. a ++ r) (sym f) ∙ e in
    let s : 34 ≡ c = cc in
    let u : (inner ++ 34 ∷ []) ++ r ≡ cs ++ q = cc in
    let k = quoted_is c cs y (subst (λ i. sort_of i ≡ 3) s refl) t in
    let o : inner ++ 34 ∷ r ≡ k.0 ++ 34 ∷ q = sym (append_assoc inner (34 ∷ []) r) ∙ u ∙ ap (λ a. a ++ q) k.2 ∙ append_assoc k.0 (34 ∷ []) q in
    let z = inside_same (34 ∷ r) (34 ∷ q) i k.3 (stops_at_quote r) (stops_at_quote q) o in
    (let g : 34 ∷ r ≡ 34 ∷ q = z.2 in cc (g), ap (λ a. Kind (kinds.Text a)) z.1 ∙ sym k.4)
same_spelling [] (c ∷ cs) r q x y (mark {k = k} f) t n m e = cc
same_spelling (b ∷ bs) (c ∷ cs) r q x y (mark {k = k} f) t n m e =
    let s : b ≡ c = cc in
    let o = mark_is c cs y (subst (λ i. sort_of i ≡ 4) s (mark_sort b bs k f)) t in
    let z = same_mark (b ∷ bs) (c ∷ cs) r q k o.0 f o.1 n m e in
    (z.1, ap Kind z.2 ∙ sym o.2)

means_same : (x : Lexeme) (k j : TokenKind) → Means x k → Means x j → k ≡ j
means_same (Number n) k j a b = a.1 ∙ sym b.1
means_same (Kind z) k j a b = a ∙ sym b

-- each of these tokens has the kind that its spelling has
abbrev pub AllSpelled : List ℕ → List Token → Type 0
AllSpelled text [] = Unit {0}
AllSpelled text (t ∷ ts) = ((x : Lexeme) × Spells (spelling text t) x × Means x t.kind) × AllSpelled text ts

-- what is joined behind a first spelling
abbrev behind : List ℕ → List Token → List ℕ
behind text [] = []
behind text (t ∷ ts) = 32 ∷ joined text (t ∷ ts)

joined_is : (text : List ℕ) (t : Token) (ts : List Token) → joined text (t ∷ ts) ≡ spelling text t ++ behind text ts
joined_is text t [] = sym (append-nil (spelling text t))
joined_is text t (u ∷ us) = refl

behind_parts : (text : List ℕ) (ts : List Token) → Parts (behind text ts)
behind_parts text [] = tt
behind_parts text (t ∷ ts) = refl

not_nothing : (text : List ℕ) (t : Token) (ts : List Token) (x : Lexeme) → Spells (spelling text t) x → joined text (t ∷ ts) ≡ [] → ⊥
not_nothing text t ts x s e =
    let n = nonempty (spelling text t) x s in
    let k : n.0 ∷ (n.1 ++ behind text ts) ≡ [] = ap (λ a. a ++ behind text ts) (sym n.2) ∙ sym (joined_is text t ts) ∙ e in cc

rest_same : (text other : List ℕ) (us vs : List Token) → behind text us ≡ behind other vs → (joined text us ≡ joined other vs → kinds_of us ≡ kinds_of vs)
    → kinds_of us ≡ kinds_of vs
rest_same text other [] [] e again = refl
rest_same text other [] (v ∷ vs) e again = cc
rest_same text other (u ∷ us) [] e again = cc
rest_same text other (u ∷ us) (v ∷ vs) e again = again (let f : joined text (u ∷ us) ≡ joined other (v ∷ vs) = cc in f)

-- tokens whose joined spellings are equal have equal kinds
pub kinds_same : (text other : List ℕ) (us vs : List Token) → AllSpelled text us → AllSpelled other vs → joined text us ≡ joined other vs
    → kinds_of us ≡ kinds_of vs
kinds_same text other [] [] a b e = refl
kinds_same text other [] (v ∷ vs) a b e = absurd (not_nothing other v vs b.0.0 b.0.1 (sym e))
kinds_same text other (u ∷ us) [] a b e = absurd (not_nothing text u us a.0.0 a.0.1 e)
kinds_same text other (u ∷ us) (v ∷ vs) a b e =
    let z = same_spelling (spelling text u) (spelling other v) (behind text us) (behind other vs) a.0.0 b.0.0 a.0.1 b.0.1 (behind_parts text us)
    (behind_parts other vs)
    (sym (joined_is text u us) ∙ e ∙ joined_is other v vs) in
    let k : u.kind ≡ v.kind = means_same b.0.0 u.kind v.kind (subst (λ x. Means x u.kind) z.1 a.0.2) b.0.2 in
    let l = rest_same text other us vs z.0 (λ f. kinds_same text other us vs a.1 b.1 f) in
    λ i. k i ∷ l i

-- an answer's tokens are spelled
abbrev AnswerSpelled : List ℕ → Result (List Token) LexError → Type 0
AnswerSpelled text (Ok ts) = AllSpelled text ts
AnswerSpelled text (Err e) = Unit {0}

one_before : (text : List ℕ) (t : Token) (r : Result (List Token) LexError) → ((x : Lexeme) × Spells (spelling text t) x × Means x t.kind)
    → AnswerSpelled text r → AnswerSpelled text (before t r)
one_before text t (Ok ts) h a = (h, a)
one_before text t (Err e) h a = tt

token_spelled : (text w rest : List ℕ) (at : ℕ) (k : TokenKind) (x : Lexeme) → drop at text ≡ w ++ rest → Spells w x → Means x k
    → (x : Lexeme) × Spells (spelling text (record { kind = k; at = at; end = at + length w })) x × Means x k
token_spelled text w rest at k x e s m =
    let n : at + length w - at ≡ length w = omega arith in
    let f : take (at + length w - at) (drop at text) ≡ w = ap (λ i. take i (drop at text)) n ∙ ap (take (length w)) e ∙ take-append_seam w rest in
    (x, subst (λ v. Spells v x) (sym f) s, m)

answer_spelled : (text : List ℕ) (at : ℕ) (here : List ℕ) (r : Result (List Token) LexError) → Lexes at here r → drop at text ≡ here → AnswerSpelled text r
answer_spelled text at here r ended e = tt
answer_spelled text at here r (gap h l) e =
    answer_spelled text (at + gap_len here) (drop (gap_len here) here) r l (sym (drop-drop (gap_len here) at text) ∙ ap (drop (gap_len here)) e)
answer_spelled text at here r (token w rest x k {r = q} g h m l) e =
    let f : drop at text ≡ w ++ rest = e ∙ h.front in
    one_before text (record { kind = k; at = at; end = at + length w }) q (token_spelled text w rest at k x f h.spelled m)
    (answer_spelled text (at + length w) rest q l (sym (drop-drop (length w) at text) ∙ ap (drop (length w)) f ∙ drop-append_seam w rest))
answer_spelled text at here r (refused g f) e = tt

spelled_behind : (text : List ℕ) (us vs : List Token) → AllSpelled text (us ++ vs) → AllSpelled text vs
spelled_behind text [] vs a = a
spelled_behind text (u ∷ us) vs a = spelled_behind text us vs a.1

spelled_before : (text : List ℕ) (us vs : List Token) → AllSpelled text (us ++ vs) → AllSpelled text us
spelled_before text [] vs a = tt
spelled_before text (u ∷ us) vs a = (a.0, spelled_before text us vs a.1)

-- a stretch of the tokens of a text is spelled
pub stretch_spelled : (text : List ℕ) (front us rest : List Token) → Lexes 0 text (Ok (front ++ (us ++ rest))) → AllSpelled text us
stretch_spelled text front us rest l = spelled_before text us rest
    (spelled_behind text front (us ++ rest) (answer_spelled text 0 text (Ok (front ++ (us ++ rest))) l refl))
