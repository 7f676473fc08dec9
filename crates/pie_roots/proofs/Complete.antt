-- What is written is read.
use Rattle.std.proofs.Common.{◌≡◌, ◌⊎◌, inl, inr, ℕ, zero, suc, ◌+◌, ◌≤◌, ◌<◌, max, pos, negsuc, ℤ, Bool, true, false, ◌&&◌, ◌==◌, cond, List, [], ◌∷◌, ◌++◌}
use Rattle.std.proofs.Common.{length, drop, Option, Some, None, Ok, Err, Result, refl, sym, subst, ap, ◌∙◌, append_assoc, arith}
use Rattle.std.specs.Prelude.{nat_le, codes}
use Rattle.std.proofs.lemmas.List.{length-append, append-nil}
use Rattle.std.proofs.lemmas.Bool.{le-leb}
use Rattle.std.proofs.lemmas.Bool.Decides.{nat_tests}
use Rattle.hex.specs.Hex.{encode_lower, decode_of, IsBytes}
use Rattle.hex.proofs.HexLemmas.{decode_of-encode_lower}
use Rattle.pie_base.specs.Path.{is_path}
use Rattle.pie_lexer.specs.declared.token.TokenKind.{TokenKind}
use Rattle.pie_lexer.specs.declared.token.TokenKind.TheVariants as kinds
use Rattle.pie_value.specs.declared.task.Task.{Task}
use Rattle.pie_value.specs.Tree.{Tree, Trees, TUnit, TBool, TInt, TText, TPath, TList, TTuple, TNull, TBytes, Nil, Cons, items_of, list_of, count_of}
use Rattle.pie_value.specs.Size.{depth_of, deepest_of}
use Rattle.pie_value.proofs.Elements.{list_of_items}
use Rattle.pie_roots.specs.declared.lead.Sign.{Sign}
use Rattle.pie_roots.specs.declared.lead.Sign.TheVariants.{Comma, OpenRound, CloseRound, CloseSquare}
use Rattle.pie_roots.specs.inner.Leads.{same_text, starts}
use Rattle.pie_roots.specs.inner.Reading.{Parsed, then_on, kept, want, done, text, text_inside, spelled_path, digits_say, spelled_bytes, path, blob, tuple, more}
use Rattle.pie_roots.specs.inner.Reading.{listed, items, value_within, ended, task_of, name}
use Rattle.pie_roots.specs.Written.{bracketed, value_tokens, items_tokens, more_tokens, task_tokens, IsProper, AreProper}
use Rattle.pie_roots.proofs.Readings.{after, kind_of, starts_so, want_so}

items_of_list : (ts : Trees) → items_of (list_of ts) ≡ ts
items_of_list Nil = refl
items_of_list (Cons t ts) = ap (Cons t) (items_of_list ts)

length_list : (ts : Trees) → length (list_of ts) ≡ count_of ts
length_list Nil = refl
length_list (Cons t ts) = omega (arith, length_list ts)

equal_bytes : (b : ℕ) → (b == b) ≡ true
equal_bytes b = grind (arith, nat_tests)

same_refl : (w : List ℕ) → same_text w w ≡ true
same_refl [] = refl
same_refl (b ∷ w) = ap (λ x. x && same_text w w) (equal_bytes b) ∙ same_refl w

-- a closing bracket
data Closes : Sign → Type 0 where
  round : Closes CloseRound
  square : Closes CloseSquare

-- no value begins with a closing bracket
not_closed : (s : Sign) (c : Closes s) (t : Tree) (rest : List TokenKind) → starts s (value_tokens t ++ rest) ≡ false
not_closed s round TUnit rest = refl
not_closed s round (TBool true) rest = refl
not_closed s round (TBool false) rest = refl
not_closed s round (TInt (pos n)) rest = refl
not_closed s round (TInt (negsuc n)) rest = refl
not_closed s round (TText w) rest = refl
not_closed s round (TPath w) rest = refl
not_closed s round (TList ts) rest = refl
not_closed s round (TTuple ts) rest = refl
not_closed s round TNull rest = refl
not_closed s round (TBytes w) rest = refl
not_closed s square TUnit rest = refl
not_closed s square (TBool true) rest = refl
not_closed s square (TBool false) rest = refl
not_closed s square (TInt (pos n)) rest = refl
not_closed s square (TInt (negsuc n)) rest = refl
not_closed s square (TText w) rest = refl
not_closed s square (TPath w) rest = refl
not_closed s square (TList ts) rest = refl
not_closed s square (TTuple ts) rest = refl
not_closed s square TNull rest = refl
not_closed s square (TBytes w) rest = refl

no_comma : (s : Sign) (c : Closes s) (rest : List TokenKind) → starts Comma (kind_of s ∷ rest) ≡ false
no_comma s round rest = refl
no_comma s square rest = refl

inside_so : (said : List ℕ) (rest : List TokenKind) → text_inside (bracketed said ++ rest) ≡ Some (said, rest)
inside_so said rest = refl

path_so : (said : List ℕ) (rest : List TokenKind) → is_path said ≡ true → path (bracketed said ++ rest) ≡ Some (said, rest)
path_so said rest h = ap (λ b. kept (cond b (Some said) None) rest) h

blob_so : (bytes : List ℕ) (rest : List TokenKind) → IsBytes bytes → blob (bracketed (encode_lower bytes) ++ rest) ≡ Some (bytes, rest)
blob_so bytes rest h =
    ap (λ r. kept (digits_say (encode_lower bytes) r) rest) (decode_of-encode_lower bytes h)
    ∙ ap (λ b. kept (cond b (Some bytes) None) rest) (same_refl (encode_lower bytes))

count_le : (ts : Trees) (rest : List TokenKind) → count_of ts ≤ length (more_tokens ts ++ rest)
count_le Nil rest = omega arith
count_le (Cons t ts) rest =
    let e = append_assoc (value_tokens t) (more_tokens ts) rest in
    let l = length-append (value_tokens t) (more_tokens ts ++ rest) in
    let k = ap length e in
    omega (arith, count_le ts rest, l, k)

-- values that nest at most so deep are read inside a bracket
module _ (d : ℕ) (inner : List TokenKind → Parsed Tree) (inside : (t : Tree) (rest : List TokenKind) → depth_of t ≤ d → IsProper t
    → inner (value_tokens t ++ rest) ≡ Some (t, rest)) where
  more_so : (n : ℕ) (ts : List Tree) (us : Trees) (s : Sign) (c : Closes s) (rest : List TokenKind) → count_of us ≤ n → deepest_of us ≤ d → AreProper us
      → more inner n ts (more_tokens us ++ kind_of s ∷ rest) ≡ Some (ts ++ list_of us, kind_of s ∷ rest)
  more_so zero ts Nil s c rest l e p = ap (λ vs. Some (vs, kind_of s ∷ rest)) (sym (append-nil ts))
  more_so (suc n) ts Nil s c rest l e p =
      ap (λ b. cond b (then_on (inner rest) (λ t r. more inner n (ts ++ t ∷ []) r)) (Some (ts, kind_of s ∷ rest))) (no_comma s c rest)
      ∙ ap (λ vs. Some (vs, kind_of s ∷ rest)) (sym (append-nil ts))
  more_so zero ts (Cons u us) s c rest l e p = absurd (omega arith)
  more_so (suc n) ts (Cons u us) s c rest l e p =
      let tail = more_tokens us ++ kind_of s ∷ rest in
      let seam : (value_tokens u ++ more_tokens us) ++ kind_of s ∷ rest ≡ value_tokens u ++ tail = append_assoc (value_tokens u) (more_tokens us)
      (kind_of s ∷ rest) in
      let one : depth_of u ≤ d = omega arith in
      let others : deepest_of us ≤ d = omega arith in
      let fewer : count_of us ≤ n = omega arith in
      after (inner ((value_tokens u ++ more_tokens us) ++ kind_of s ∷ rest)) (λ t r. more inner n (ts ++ t ∷ []) r) u tail
      (Some (ts ++ list_of (Cons u us), kind_of s ∷ rest))
      (ap inner seam ∙ inside u tail one p.0)
      (more_so n (ts ++ u ∷ []) us s c rest fewer others p.1 ∙ ap (λ vs. Some (vs, kind_of s ∷ rest)) (append_assoc ts (u ∷ []) (list_of us)))

  items_so : (us : Trees) (s : Sign) (c : Closes s) (rest : List TokenKind) → deepest_of us ≤ d → AreProper us
      → items inner s (items_tokens us ++ kind_of s ∷ rest) ≡ Some (list_of us, rest)
  items_so Nil s c rest e p = ap (λ b. cond b (Some ([], rest))
      (then_on (listed inner (kind_of s ∷ rest)) (λ ts a. then_on (want s a) (λ _ r. Some (ts, r))))) (starts_so s rest)
  items_so (Cons u us) s c rest e p =
      let tail = more_tokens us ++ kind_of s ∷ rest in
      let seam : (value_tokens u ++ more_tokens us) ++ kind_of s ∷ rest ≡ value_tokens u ++ tail = append_assoc (value_tokens u) (more_tokens us)
      (kind_of s ∷ rest) in
      let one : depth_of u ≤ d = omega arith in
      let others : deepest_of us ≤ d = omega arith in
      let all : listed inner (value_tokens u ++ tail) ≡ Some (list_of (Cons u us), kind_of s ∷ rest) =
      after (inner (value_tokens u ++ tail)) (λ t r. more inner (length r) (t ∷ []) r) u tail (Some (list_of (Cons u us), kind_of s ∷ rest))
      (inside u tail one p.0) (more_so (length tail) (u ∷ []) us s c rest (count_le us (kind_of s ∷ rest)) others p.1) in
      ap (items inner s) seam
      ∙ ap (λ b. cond b (Some ([], drop 1 (value_tokens u ++ tail)))
      (then_on (listed inner (value_tokens u ++ tail)) (λ ts a. then_on (want s a) (λ _ r. Some (ts, r))))) (not_closed s c u tail)
      ∙ after (listed inner (value_tokens u ++ tail)) (λ ts a. then_on (want s a) (λ _ r. Some (ts, r))) (list_of (Cons u us)) (kind_of s ∷ rest)
      (Some (list_of (Cons u us), rest)) all
      (after (want s (kind_of s ∷ rest)) (λ _ r. Some (list_of (Cons u us), r)) done rest (Some (list_of (Cons u us), rest)) (want_so s rest) refl)

value_so : (d : ℕ) (t : Tree) (rest : List TokenKind) → depth_of t ≤ d → IsProper t → value_within d (value_tokens t ++ rest) ≡ Some (t, rest)
value_so zero TUnit rest e p = absurd (omega arith)
value_so zero (TBool b) rest e p = absurd (omega arith)
value_so zero (TInt n) rest e p = absurd (omega arith)
value_so zero (TText w) rest e p = absurd (omega arith)
value_so zero (TPath w) rest e p = absurd (omega arith)
value_so zero (TList ts) rest e p = absurd (omega arith)
value_so zero (TTuple ts) rest e p = absurd (omega arith)
value_so zero TNull rest e p = absurd (omega arith)
value_so zero (TBytes w) rest e p = absurd (omega arith)
value_so (suc d) TUnit rest e p = refl
value_so (suc d) (TBool true) rest e p = refl
value_so (suc d) (TBool false) rest e p = refl
value_so (suc d) (TInt (pos n)) rest e p = refl
value_so (suc d) (TInt (negsuc n)) rest e p = refl
value_so (suc d) (TText w) rest e p = refl
value_so (suc d) (TPath w) rest e p = after (path (bracketed w ++ rest)) (λ said r. Some (TPath said, r)) w rest (Some (TPath w, rest)) (path_so w rest p) refl
value_so (suc d) (TList ts) rest e p =
    let others : deepest_of ts ≤ d = omega arith in
    let seam : (items_tokens ts ++ kinds.CloseSquare ∷ []) ++ rest ≡ items_tokens ts ++ kinds.CloseSquare ∷ rest = append_assoc (items_tokens ts)
    (kinds.CloseSquare ∷ []) rest in
    after (items (value_within d) CloseSquare ((items_tokens ts ++ kinds.CloseSquare ∷ []) ++ rest)) (λ us r. Some (TList (items_of us), r)) (list_of ts) rest
    (Some (TList ts, rest))
    (ap (items (value_within d) CloseSquare) seam ∙ items_so d (value_within d) (value_so d) ts CloseSquare square rest others p)
    (ap (λ us. Some (TList us, rest)) (items_of_list ts))
value_so (suc d) (TTuple ts) rest e p =
    let others : deepest_of ts ≤ d = omega arith in
    let seam : (items_tokens ts ++ kinds.CloseRound ∷ []) ++ rest ≡ items_tokens ts ++ kinds.CloseRound ∷ rest = append_assoc (items_tokens ts)
    (kinds.CloseRound ∷ []) rest in
    let two : nat_le 2 (length (list_of ts)) ≡ true = ap (nat_le 2) (length_list ts) ∙ le-leb 2 (count_of ts) p.0 in
    after (items (value_within d) CloseRound ((items_tokens ts ++ kinds.CloseRound ∷ []) ++ rest)) (λ us r. kept (tuple us) r) (list_of ts) rest
    (Some (TTuple ts, rest))
    (ap (items (value_within d) CloseRound) seam ∙ items_so d (value_within d) (value_so d) ts CloseRound round rest others p.1)
    (ap (λ b. kept (cond b (Some (TTuple (items_of (list_of ts)))) None) rest) two ∙ ap (λ us. Some (TTuple us, rest)) (items_of_list ts))
value_so (suc d) TNull rest e p = refl
value_so (suc d) (TBytes w) rest e p = after (blob (bracketed (encode_lower w) ++ rest)) (λ said r. Some (TBytes said, r)) w rest (Some (TBytes w, rest))
    (blob_so w rest p) refl

-- the tokens of a task are read as that task
pub task_so : (t : Task) → deepest_of (items_of t.args) ≤ 64 → AreProper (items_of t.args) → task_of (task_tokens t) ≡ Some (t, [])
task_so t e p =
    let us = items_of t.args in
    let ks = items_tokens us ++ kinds.CloseRound ∷ [] in
    let end = λ (ts : List Tree) (rest : List TokenKind). ended (record { func = t.func; args = ts }) rest in
    after (items (value_within 64) CloseRound ks) end (list_of us) [] (Some (t, [])) (items_so 64 (value_within 64) (value_so 64) us CloseRound round [] e p)
    (ap (λ ts. ended (record { func = t.func; args = ts }) []) (list_of_items t.args))
