-- The printed form of a value, of items and of a task is cut into their tokens.
use Rattle.std.proofs.Common.{◌≡◌, ℕ, suc, true, false, List, [], ◌∷◌, ◌++◌, ℤ, pos, negsuc, refl, sym, subst, ap, append_assoc}
use Rattle.std.specs.Prelude.{codes}
use Rattle.std.specs.Fmt.{signed_decimal}
use Rattle.hex.specs.Hex.{encode_lower}
use Rattle.pie_lexer.specs.Tokens.{ended}
use Rattle.pie_lexer.specs.declared.token.TokenKind.{TokenKind}
use Rattle.pie_lexer.specs.declared.token.TokenKind.TheVariants as kinds
use Rattle.pie_value.specs.Tree.{Tree, Trees, TUnit, TBool, TInt, TText, TPath, TList, TTuple, TNull, TBytes, Nil, Cons, items_of}
use Rattle.pie_value.specs.Shown.{quoted, shown, listed, listed_on}
use Rattle.pie_roots.specs.Written.{number_tokens, bracketed, value_tokens, items_tokens, more_tokens}
use Rattle.pie_root_laws.specs.Printed.{IsName, name, IsNarrow, HasNarrow, HaveNarrow, PrintableTasksAreCut}
use Rattle.pie_root_laws.proofs.Pieces.{Cuts, Ends, space_cut, open_round, close_round, open_square, close_square, comma, word_cut, decimal_cut, minus_cut}
use Rattle.pie_root_laws.proofs.Pieces.{text_cut}

-- a text and tokens, where others stand behind each
as_grouped : (text other : List ℕ) (ks js : List TokenKind) → text ≡ other → ks ≡ js → Cuts other js → Cuts text ks
as_grouped text other ks js e f c = subst (λ t. Cuts t ks) (sym e) (subst (λ k. Cuts other k) (sym f) c)

-- a text in quotes and in round brackets
bracketed_cut : (bs rest : List ℕ) (ks : List TokenKind) → Cuts rest ks → Cuts (40 ∷ ((quoted bs ++ 41 ∷ []) ++ rest)) (bracketed bs ++ ks)
bracketed_cut bs rest ks c =
    let e : (quoted bs ++ 41 ∷ []) ++ rest ≡ quoted bs ++ 41 ∷ rest = append_assoc (quoted bs) (41 ∷ []) rest in
    open_round ((quoted bs ++ 41 ∷ []) ++ rest) (kinds.Text bs ∷ kinds.CloseRound ∷ ks)
    (subst (λ t. Cuts t (kinds.Text bs ∷ kinds.CloseRound ∷ ks)) (sym e) (text_cut bs (41 ∷ rest) (kinds.CloseRound ∷ ks) (close_round rest ks c)))

number_cut : (n : ℤ) (rest : List ℕ) (ks : List TokenKind) → IsNarrow n → Ends rest → Cuts rest ks → Cuts (signed_decimal n ++ rest) (number_tokens n ++ ks)
number_cut (pos n) rest ks small e c = decimal_cut n rest ks small e c
number_cut (negsuc n) rest ks small e c =
    minus_cut (suc n) rest (kinds.Int (pos (suc n)) ∷ ks) small (decimal_cut (suc n) rest ks small e c)

ends_more : (ts : Trees) (b : ℕ) (rest : List ℕ) → Ends (b ∷ rest) → Ends (listed_on ts ++ b ∷ rest)
ends_more Nil b rest e = e
ends_more (Cons t ts) b rest e = refl

mutual
  value_cut : (t : Tree) (rest : List ℕ) (ks : List TokenKind) → HasNarrow t → Ends rest → Cuts rest ks → Cuts (shown t ++ rest) (value_tokens t ++ ks)
  value_cut TUnit rest ks h e c = word_cut 117 (codes "nit") rest kinds.UnitWord ks refl refl e refl c
  value_cut (TBool true) rest ks h e c = word_cut 116 (codes "rue") rest kinds.True ks refl refl e refl c
  value_cut (TBool false) rest ks h e c = word_cut 102 (codes "alse") rest kinds.False ks refl refl e refl c
  value_cut (TInt n) rest ks h e c = number_cut n rest ks h e c
  value_cut (TText bs) rest ks h e c = text_cut bs rest ks c
  value_cut (TPath bs) rest ks h e c =
      word_cut 112 (codes "ath") (40 ∷ ((quoted bs ++ 41 ∷ []) ++ rest)) kinds.Path (bracketed bs ++ ks) refl refl refl refl (bracketed_cut bs rest ks c)
  value_cut (TList ts) rest ks h e c =
      as_grouped (91 ∷ ((listed ts ++ 93 ∷ []) ++ rest)) (91 ∷ (listed ts ++ 93 ∷ rest)) (value_tokens (TList ts) ++ ks)
      (kinds.OpenSquare ∷ (items_tokens ts ++ kinds.CloseSquare ∷ ks)) (ap (λ r. 91 ∷ r) (append_assoc (listed ts) (93 ∷ []) rest))
      (ap (λ r. kinds.OpenSquare ∷ r) (append_assoc (items_tokens ts) (kinds.CloseSquare ∷ []) ks))
      (open_square (listed ts ++ 93 ∷ rest) (items_tokens ts ++ kinds.CloseSquare ∷ ks)
      (items_cut ts 93 rest (kinds.CloseSquare ∷ ks) h refl (close_square rest ks c)))
  value_cut (TTuple ts) rest ks h e c =
      as_grouped (40 ∷ ((listed ts ++ 41 ∷ []) ++ rest)) (40 ∷ (listed ts ++ 41 ∷ rest)) (value_tokens (TTuple ts) ++ ks)
      (kinds.OpenRound ∷ (items_tokens ts ++ kinds.CloseRound ∷ ks)) (ap (λ r. 40 ∷ r) (append_assoc (listed ts) (41 ∷ []) rest))
      (ap (λ r. kinds.OpenRound ∷ r) (append_assoc (items_tokens ts) (kinds.CloseRound ∷ []) ks))
      (open_round (listed ts ++ 41 ∷ rest) (items_tokens ts ++ kinds.CloseRound ∷ ks)
      (items_cut ts 41 rest (kinds.CloseRound ∷ ks) h refl (close_round rest ks c)))
  value_cut TNull rest ks h e c = word_cut 110 (codes "ull") rest kinds.Null ks refl refl e refl c
  value_cut (TBytes bs) rest ks h e c =
      let digits = encode_lower bs in
      word_cut 98 (codes "ytes") (40 ∷ ((quoted digits ++ 41 ∷ []) ++ rest)) (kinds.Name (codes "bytes")) (bracketed digits ++ ks) refl refl refl refl
      (bracketed_cut digits rest ks c)

  items_cut : (ts : Trees) (b : ℕ) (rest : List ℕ) (ks : List TokenKind) → HaveNarrow ts → Ends (b ∷ rest) → Cuts (b ∷ rest) ks
      → Cuts (listed ts ++ b ∷ rest) (items_tokens ts ++ ks)
  items_cut Nil b rest ks h e c = c
  items_cut (Cons t ts) b rest ks h e c =
      as_grouped ((shown t ++ listed_on ts) ++ b ∷ rest) (shown t ++ (listed_on ts ++ b ∷ rest)) ((value_tokens t ++ more_tokens ts) ++ ks)
      (value_tokens t ++ (more_tokens ts ++ ks)) (append_assoc (shown t) (listed_on ts) (b ∷ rest)) (append_assoc (value_tokens t) (more_tokens ts) ks)
      (value_cut t (listed_on ts ++ b ∷ rest) (more_tokens ts ++ ks) h.0 (ends_more ts b rest e) (more_cut ts b rest ks h.1 e c))

  more_cut : (ts : Trees) (b : ℕ) (rest : List ℕ) (ks : List TokenKind) → HaveNarrow ts → Ends (b ∷ rest) → Cuts (b ∷ rest) ks
      → Cuts (listed_on ts ++ b ∷ rest) (more_tokens ts ++ ks)
  more_cut Nil b rest ks h e c = c
  more_cut (Cons t ts) b rest ks h e c =
      let text = (shown t ++ listed_on ts) ++ b ∷ rest in
      let js = (value_tokens t ++ more_tokens ts) ++ ks in
      comma (32 ∷ text) js (space_cut text js (as_grouped text (shown t ++ (listed_on ts ++ b ∷ rest)) js
      (value_tokens t ++ (more_tokens ts ++ ks)) (append_assoc (shown t) (listed_on ts) (b ∷ rest)) (append_assoc (value_tokens t) (more_tokens ts) ks)
      (value_cut t (listed_on ts ++ b ∷ rest) (more_tokens ts ++ ks) h.0 (ends_more ts b rest e) (more_cut ts b rest ks h.1 e c))))

nothing_cut : Cuts [] []
nothing_cut at = ([], ended, refl)

name_cut : (w rest : List ℕ) (ks : List TokenKind) → IsName w → Ends rest → Cuts rest ks → Cuts (w ++ rest) (kinds.Name w ∷ ks)
name_cut w rest ks (name {b = b} {bs = bs} l h k) e c = word_cut b bs rest (kinds.Name (b ∷ bs)) ks l h e k c

pub task_cut : PrintableTasksAreCut
task_cut t p =
    let ts = items_of t.args in
    name_cut t.func (40 ∷ (listed ts ++ 41 ∷ [])) (kinds.OpenRound ∷ (items_tokens ts ++ kinds.CloseRound ∷ [])) p.func refl
    (open_round (listed ts ++ 41 ∷ []) (items_tokens ts ++ kinds.CloseRound ∷ [])
    (items_cut ts 41 [] (kinds.CloseRound ∷ []) p.numbers refl (close_round [] [] nothing_cut))) 0
