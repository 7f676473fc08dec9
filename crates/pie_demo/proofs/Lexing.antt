-- The tokens of a text, computed.
use Rattle.std.proofs.Common.{◌≡◌, ◌==◌, ℕ, zero, suc, ◌+◌, Bool, true, false, cond, List, [], ◌∷◌}
use Rattle.std.proofs.Common.{drop, take, Option, None, Some, Result, Ok, Err, refl, sym, ap, subst, ◌∙◌, arith}
use Rattle.std.specs.List.{prefix_len}
use Rattle.std.proofs.lemmas.Bool.{eqb-true}
use Rattle.pie_lexer.specs.Bytes.{is_letter, is_word_byte, gap_len}
use Rattle.pie_lexer.specs.Marks.{pair_at, byte_at}
use Rattle.pie_lexer.specs.Tokens.{Lexes, ended}
use Rattle.pie_lexer.specs.Words.{word_kind}
use Rattle.pie_lexer.specs.declared.error.LexError.{LexError}
use Rattle.pie_lexer.specs.declared.token.Token.{Token}
use Rattle.pie_lexer.specs.declared.token.TokenKind.{TokenKind}
use Rattle.pie_lexer.specs.declared.token.TokenKind.TheVariants as kinds
use Rattle.pie_lexer.specs.inner.Answers.{after, IsTokenAt}
use Rattle.pie_lexer.specs.inner.Scanning.{End, Closes, Opens, Fails, scan}
use Rattle.pie_lexer.proofs.Passing.{gap_carries, token_carries}
use Rattle.pie_lexer.proofs.Spelled.{sort_of}
use Rattle.pie_lexer.proofs.Takes.{byte_taken, pair_taken, text_taken, word_taken}

some_same : {A : Type 0} {x y : A} → Some x ≡ Some y → x ≡ y
some_same e = cc

-- ---- the token in front

abbrev token_of : TokenKind → ℕ → ℕ → Token
token_of k at n = record { kind = k; at = at; end = at + n }

abbrev quoted_here : ℕ → End → Option Token
quoted_here at (Closes said n) = Some (token_of (kinds.Text said) at n)
quoted_here at Opens = None
quoted_here at (Fails n) = None

abbrev byte_here : ℕ → Option TokenKind → Option Token
byte_here at (Some k) = Some (token_of k at 1)
byte_here at None = None

abbrev mark_here : ℕ → Option TokenKind → Option TokenKind → Option Token
mark_here at (Some k) other = Some (token_of k at 2)
mark_here at None other = byte_here at other

-- digits are left out
abbrev token_here : ℕ → List ℕ → Option Token
token_here at [] = None
token_here at (b ∷ bs) =
    cond (is_letter b) (Some (token_of (word_kind (take (prefix_len is_word_byte (b ∷ bs)) (b ∷ bs))) at (prefix_len is_word_byte (b ∷ bs))))
    (cond (b == 34) (quoted_here at (scan ([], false) bs 1))
    (cond (sort_of b == 4) (mark_here at (pair_at (b ∷ bs)) (byte_at (b ∷ bs))) None))

token_found : (at : ℕ) (text : List ℕ) (t : Token) → token_here at text ≡ Some t → IsTokenAt at text t
token_found at [] t h = cc
token_found at (b ∷ bs) t h = by (is_letter b) refl (b == 34) refl (sort_of b == 4) refl h
  where
    is : (u : Token) → Some u ≡ Some t → IsTokenAt at (b ∷ bs) u → IsTokenAt at (b ∷ bs) t
    is u e h = subst (IsTokenAt at (b ∷ bs)) (some_same e) h

    quoted : (z : End) → scan ([], false) bs 1 ≡ z → b ≡ 34 → quoted_here at z ≡ Some t → IsTokenAt at (b ∷ bs) t
    quoted (Closes said n) e q h = is (token_of (kinds.Text said) at n) h (text_taken (b ∷ bs) bs said n at (ap (λ x. x ∷ bs) q) (sym e))
    quoted Opens e q h = cc
    quoted (Fails n) e q h = cc

    marked : (o p : Option TokenKind) → pair_at (b ∷ bs) ≡ o → byte_at (b ∷ bs) ≡ p → sort_of b ≡ 4 → mark_here at o p ≡ Some t → IsTokenAt at (b ∷ bs) t
    marked (Some k) p e f s h = is (token_of k at 2) h (pair_taken (b ∷ bs) at k s (sym e))
    marked None (Some k) e f s h = is (token_of k at 1) h (byte_taken (b ∷ bs) at k s e (sym f))
    marked None None e f s h = cc

    by : (l : Bool) → is_letter b ≡ l → (q : Bool) → (b == 34) ≡ q → (m : Bool) → (sort_of b == 4) ≡ m
        → cond l (Some (token_of (word_kind (take (prefix_len is_word_byte (b ∷ bs)) (b ∷ bs))) at (prefix_len is_word_byte (b ∷ bs))))
        (cond q (quoted_here at (scan ([], false) bs 1)) (cond m (mark_here at (pair_at (b ∷ bs)) (byte_at (b ∷ bs))) None)) ≡ Some t
        → IsTokenAt at (b ∷ bs) t
    by true e q f m g h =
        let n = prefix_len is_word_byte (b ∷ bs) in
        is (token_of (word_kind (take n (b ∷ bs))) at n) h (word_taken (b ∷ bs) n at (word_kind (take n (b ∷ bs))) (omega arith) e refl refl)
    by false e true f m g h = quoted (scan ([], false) bs 1) refl (eqb-true b 34 f) h
    by false e false f true g h = marked (pair_at (b ∷ bs)) (byte_at (b ∷ bs)) refl refl (eqb-true (sort_of b) 4 g) h
    by false e false f false g h = cc

-- ---- all tokens

abbrev with_token : Token → Option (List Token) → Option (List Token)
with_token t (Some ts) = Some (t ∷ ts)
with_token t None = None

abbrev on_token : (ℕ → Option (List Token)) → Option Token → Option (List Token)
on_token go (Some t) = with_token t (go t.end)
on_token go None = None

abbrev on_gap : (ℕ → Option (List Token)) → ℕ → ℕ → List ℕ → Option (List Token)
on_gap go at zero [] = Some []
on_gap go at zero (b ∷ bs) = on_token go (token_here at (b ∷ bs))
on_gap go at (suc g) rest = go (at + suc g)

abbrev pub tokens_from : List ℕ → ℕ → ℕ → Option (List Token)
tokens_from text zero at = None
tokens_from text (suc n) at = on_gap (tokens_from text n) at (gap_len (drop at text)) (drop at text)

after_none : (r : Result (List Token) LexError) → after [] r ≡ r
after_none (Ok ts) = refl
after_none (Err e) = refl

-- what is found with so much room is right
abbrev Behind : List ℕ → ℕ → Type 0
Behind text n = (i : ℕ) (us : List Token) → tokens_from text n i ≡ Some us → Lexes i (drop i text) (Ok us)

pub lexes_from : (text : List ℕ) (n at : ℕ) (ts : List Token) → tokens_from text n at ≡ Some ts → Lexes at (drop at text) (Ok ts)
lexes_from text zero at ts h = cc
lexes_from text (suc n) at ts h = by (gap_len (drop at text)) refl (drop at text) refl h (λ i us k. lexes_from text n i us k)
  where
    by_rest : (t : Token) → gap_len (drop at text) ≡ 0 → IsTokenAt at (drop at text) t → (o : Option (List Token)) → tokens_from text n t.end ≡ o
        → with_token t o ≡ Some ts → Behind text n → Lexes at (drop at text) (Ok ts)
    by_rest t e k None l h behind = cc
    by_rest t e k (Some us) l h behind =
        let s = token_carries text at t [] (t ∷ []) e k refl (Ok us) (behind t.end us l) in
        let same : s.0 ≡ Ok ts = sym (after_none s.0) ∙ sym s.2 ∙ ap Ok (some_same h) in
        subst (Lexes at (drop at text)) same s.1

    by_token : gap_len (drop at text) ≡ 0 → (o : Option Token) → token_here at (drop at text) ≡ o → on_token (tokens_from text n) o ≡ Some ts
        → Behind text n → Lexes at (drop at text) (Ok ts)
    by_token e None k h behind = cc
    by_token e (Some t) k h behind = by_rest t e (token_found at (drop at text) t k) (tokens_from text n t.end) refl h behind

    by : (g : ℕ) → gap_len (drop at text) ≡ g → (rest : List ℕ) → drop at text ≡ rest → on_gap (tokens_from text n) at g rest ≡ Some ts
        → Behind text n → Lexes at (drop at text) (Ok ts)
    by zero e [] f h behind = subst (λ x. Lexes at x (Ok ts)) (sym f) (subst (λ us. Lexes at [] (Ok us)) (some_same h) ended)
    by zero e (b ∷ bs) f h behind = by_token e (token_here at (b ∷ bs)) (ap (token_here at) f) h behind
    by (suc g) e rest f h behind =
        let s = gap_carries text at (suc g) [] (omega arith) (sym e) (Ok ts) (behind (at + suc g) ts h) in
        subst (Lexes at (drop at text)) (sym (after_none s.0) ∙ sym s.2) s.1
