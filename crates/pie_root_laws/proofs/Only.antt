-- What the lexer cuts holds names and narrow numbers alone.
use Rattle.std.proofs.Common.{◌≡◌, ◌⊎◌, inl, inr, ℕ, Bool, true, false, ◌&&◌, ◌==◌, List, [], ◌∷◌, ◌++◌, Option, Some, None, Result, Ok, Err}
use Rattle.std.proofs.Common.{pos, negsuc, refl, sym, subst, ap}
use Rattle.std.specs.List.{list_all}
use Rattle.pie_lexer.specs.Bytes.{is_letter, is_word_byte}
use Rattle.pie_lexer.specs.Words.{same_text, type_words, flow_words, effect_words, or_else, keyword_of, named, word_kind}
use Rattle.pie_lexer.specs.Words as words
use Rattle.pie_lexer.specs.Marks as marks
use Rattle.pie_lexer.specs.Marks.{Row, doubles, singles, mark_of}
use Rattle.pie_lexer.specs.Tokens.{Lexeme, Spells, word, digits, quoted, mark, Means, before, Lexes, ended, gap, token, refused}
use Rattle.pie_lexer.specs.declared.token.Token.{Token}
use Rattle.pie_lexer.specs.declared.token.TokenKind.{TokenKind}
use Rattle.pie_lexer.specs.declared.token.TokenKind.TheVariants as kinds
use Rattle.pie_lexer.specs.declared.error.LexError.{LexError}
use Rattle.pie_lexer.proofs.Prefixes.{both_true, chosen}
use Rattle.pie_value.specs.declared.task.Task.{Task}
use Rattle.pie_value.specs.Tree.{Tree, Trees, TUnit, TBool, TInt, TText, TPath, TList, TTuple, TNull, TBytes, Nil, Cons, items_of}
use Rattle.pie_roots.specs.Kinds.{kinds_of}
use Rattle.pie_roots.specs.Written.{value_tokens, items_tokens, more_tokens, task_tokens}
use Rattle.pie_root_laws.specs.Printed.{IsName, name, IsNarrow, HasNarrow, HaveNarrow, IsPrintable, NoOthersAreCut, PrintedFormsNameTasks}
use Rattle.pie_root_laws.specs.Printed.{NamedTasksAreNamedAgain}
use Rattle.pie_root_laws.proofs.Values.{task_cut}

-- a name in a token is a name, and a number is narrow
abbrev IsSound : TokenKind → Type 0
IsSound (kinds.Name w) = IsName w
IsSound (kinds.Int n) = IsNarrow n
IsSound k = Unit {0}

abbrev AllSound : List TokenKind → Type 0
AllSound [] = Unit {0}
AllSound (k ∷ ks) = IsSound k × AllSound ks

-- a token that is neither a name nor a number
abbrev is_fixed : TokenKind → Bool
is_fixed (kinds.Name w) = false
is_fixed (kinds.Int n) = false
is_fixed k = true

fixed_sound : (k : TokenKind) → is_fixed k ≡ true → IsSound k
fixed_sound (kinds.Name w) h = absurd (let f : ⊥ = cc in f)
fixed_sound (kinds.Int n) h = absurd (let f : ⊥ = cc in f)
fixed_sound k h = tt

-- ---- what a lexeme means

word_fixed : (w : List ℕ) (rows : List (List ℕ × TokenKind)) (k : TokenKind) → list_all (λ r. is_fixed r.1) rows ≡ true → words.look_up w rows ≡ Some k
    → is_fixed k ≡ true
word_fixed w [] k h e = cc
word_fixed w (row ∷ rows) k h e =
    let q = both_true (is_fixed row.1) (list_all (λ r. is_fixed r.1) rows) h in
    elim (chosen (same_text w row.0) (Some row.1) (words.look_up w rows) (Some k) e) [
      | inl c ↦ (let s : Some row.1 ≡ Some k = c.1 in let t : row.1 ≡ k = cc in subst (λ k. is_fixed k ≡ true) t q.0)
      | inr c ↦ word_fixed w rows k q.1 c.1
    ]

one_of : (o p : Option TokenKind) (k : TokenKind) → or_else o p ≡ Some k → (o ≡ Some k) ⊎ (p ≡ Some k)
one_of None p k h = inr h
one_of (Some j) p k h = inl h

keyword_fixed : (w : List ℕ) (k : TokenKind) → keyword_of w ≡ Some k → is_fixed k ≡ true
keyword_fixed w k h = elim (one_of (words.look_up w type_words) (or_else (words.look_up w flow_words) (words.look_up w effect_words)) k h) [
  | inl a ↦ word_fixed w type_words k refl a
  | inr b ↦ elim (one_of (words.look_up w flow_words) (words.look_up w effect_words) k b) [
    | inl a ↦ word_fixed w flow_words k refl a
    | inr a ↦ word_fixed w effect_words k refl a
  ]
]

named_sound : (b : ℕ) (bs : List ℕ) (o : Option TokenKind) → is_letter b ≡ true → list_all is_word_byte bs ≡ true → keyword_of (b ∷ bs) ≡ o
    → IsSound (named (b ∷ bs) o)
named_sound b bs None l h e = name l h (ap (named (b ∷ bs)) e)
named_sound b bs (Some k) l h e = fixed_sound k (keyword_fixed (b ∷ bs) k e)

mark_fixed : (a b : ℕ) (rows : List Row) (k : TokenKind) → list_all (λ r. is_fixed r.2) rows ≡ true → marks.look_up a b rows ≡ Some k → is_fixed k ≡ true
mark_fixed a b [] k h e = cc
mark_fixed a b (row ∷ rows) k h e =
    let q = both_true (is_fixed row.2) (list_all (λ r. is_fixed r.2) rows) h in
    elim (chosen (a == row.0 && b == row.1) (Some row.2) (marks.look_up a b rows) (Some k) e) [
      | inl c ↦ (let s : Some row.2 ≡ Some k = c.1 in let t : row.2 ≡ k = cc in subst (λ k. is_fixed k ≡ true) t q.0)
      | inr c ↦ mark_fixed a b rows k q.1 c.1
    ]

marked_sound : (w : List ℕ) (k : TokenKind) → mark_of w ≡ Some k → is_fixed k ≡ true
marked_sound [] k h = cc
marked_sound (a ∷ []) k h = mark_fixed a 0 singles k refl h
marked_sound (a ∷ b ∷ []) k h = mark_fixed a b doubles k refl h
marked_sound (a ∷ b ∷ c ∷ w) k h = cc

meant_sound : (w : List ℕ) (x : Lexeme) (k : TokenKind) → Spells w x → Means x k → IsSound k
meant_sound w x k (word {b = b} {bs = bs} l h) m = subst IsSound (sym m) (named_sound b bs (keyword_of (b ∷ bs)) l h refl)
meant_sound w x k (digits d h) m = subst IsSound (sym m.1) m.0
meant_sound w x k (quoted i e) m = subst IsSound (sym m) tt
meant_sound w x k (mark {k = j} e) m = subst IsSound (sym m) (fixed_sound j (marked_sound w j e))

-- ---- what is cut

before_ok : (t : Token) (r : Result (List Token) LexError) (ts : List Token) → before t r ≡ Ok ts → (us : List Token) × (r ≡ Ok us) × (ts ≡ t ∷ us)
before_ok t (Ok us) ts e = (us, refl, (let h : ts ≡ t ∷ us = cc in h))
before_ok t (Err x) ts e = absurd (let f : ⊥ = cc in f)

cut_sound : {at : ℕ} {text : List ℕ} {r : Result (List Token) LexError} → Lexes at text r → (ts : List Token) → r ≡ Ok ts → AllSound (kinds_of ts)
cut_sound ended ts e = let h : ts ≡ [] = cc in subst (λ us. AllSound (kinds_of us)) (sym h) tt
cut_sound (gap g l) ts e = cut_sound l ts e
cut_sound {at = at} (token w rest x k {r = r} g i m l) ts e =
    let q = before_ok _ r ts e in subst (λ us. AllSound (kinds_of us)) (sym q.2) (meant_sound w x k i.spelled m, cut_sound l q.0 q.1)
cut_sound (refused g x) ts e = absurd (let f : ⊥ = cc in f)

-- ---- what was printed

parted : (js ks : List TokenKind) → AllSound (js ++ ks) → AllSound js × AllSound ks
parted [] ks h = (tt, h)
parted (j ∷ js) ks h = let q = parted js ks h.1 in ((h.0, q.0), q.1)

mutual
  value_sound : (t : Tree) → AllSound (value_tokens t) → HasNarrow t
  value_sound TUnit h = tt
  value_sound (TBool b) h = tt
  value_sound (TInt (pos n)) h = h.0
  value_sound (TInt (negsuc n)) h = h.1.0
  value_sound (TText bs) h = tt
  value_sound (TPath bs) h = tt
  value_sound (TList ts) h = items_sound ts (parted (items_tokens ts) (kinds.CloseSquare ∷ []) h.1).0
  value_sound (TTuple ts) h = items_sound ts (parted (items_tokens ts) (kinds.CloseRound ∷ []) h.1).0
  value_sound TNull h = tt
  value_sound (TBytes bs) h = tt

  items_sound : (ts : Trees) → AllSound (items_tokens ts) → HaveNarrow ts
  items_sound Nil h = tt
  items_sound (Cons t ts) h = let q = parted (value_tokens t) (more_tokens ts) h in (value_sound t q.0, more_sound ts q.1)

  more_sound : (ts : Trees) → AllSound (more_tokens ts) → HaveNarrow ts
  more_sound Nil h = tt
  more_sound (Cons t ts) h = let q = parted (value_tokens t) (more_tokens ts) h.1 in (value_sound t q.0, more_sound ts q.1)

sound_printable : (t : Task) → AllSound (task_tokens t) → IsPrintable t
sound_printable t h =
    let ts = items_of t.args in record { func = h.0; numbers = items_sound ts (parted (items_tokens ts) (kinds.CloseRound ∷ []) h.1.1).0 }

pub only_printable : NoOthersAreCut
only_printable t c = sound_printable t (subst AllSound c.2 (cut_sound c.1 c.0 refl))

pub printed_names : PrintedFormsNameTasks
printed_names t p proper small = let c = task_cut t p in (c.0, c.1, record { printed = c.2; proper = proper; small = small })

pub named_again : NamedTasksAreNamedAgain
named_again line t n =
    let w = n.2 in printed_names t (sound_printable t (subst AllSound w.printed (cut_sound n.1 n.0 refl))) w.proper w.small
