-- What a line is, by its word and its path.
use Rattle.std.proofs.Common.{◌≡◌, ◌≢◌, ℕ, Bool, true, false, cond, List, [], ◌∷◌, Option, Some, None, Result, Ok, Err, refl, sym, ap, subst, ◌∙◌, ◌==◌, ◌++◌}
use Rattle.std.proofs.Common.{drop, length}
use denote.Ref.{Bor}
use Rattle.std.specs.Prelude.{MatchOption}
use Rattle.std.specs.Str.{is_utf8, IsUtf8}
use Rattle.std.specs.Str.Pattern.{FindsTextPrefix, StripsPrefix}
use Rattle.std.proofs.lemmas.Bool.{eqb-true, eq-eqb}
use Rattle.std.proofs.lemmas.Str.{is_utf8-from_IsUtf8, IsUtf8-from_is_utf8}
use Rattle.pie_script.specs.declared.line.Read.{Read}
use Rattle.pie_base.specs.Path.{is_path}
use Rattle.pie_script.specs.declared.fault.InputFault.{InputFault}
use Rattle.pie_script.specs.declared.fault.InputFault.TheVariants as fault
use Rattle.pie_script.specs.Line.{Line, Blank, Content, Put, Del, Change, Build, Wrong, NotText, BadPath, with_word, after_word, word_line, script_line}
use Rattle.pie_script.specs.inner.LineReads.{PathNamed, PathRead, ScriptPathRead, IsRead, StandsAfter}
use Rattle.pie_script.specs.Steps.{first_wrong}
use Rattle.pie_script.specs.Reading.{ReadsOne}
use Rattle.pie_script.specs.inner.Taking.{placed_one}

-- a path that is read makes the line of its word
pub word_ok : (made : List ℕ → Line) (found : Option (List ℕ)) (rest path : List ℕ) (other : Line) (n : ℕ) → found ≡ Some rest
    → ScriptPathRead (Ok path) rest n → with_word made found other ≡ made path
word_ok made found rest path other n f h =
    ap (λ x. with_word made x other) f ∙ ap (λ b. cond b (made rest) (Wrong BadPath)) h.0 ∙ ap made (sym h.1)

-- and what is wrong with it is what is wrong with the line
pub word_err : (made : List ℕ → Line) (found : Option (List ℕ)) (rest text : List ℕ) (other : Line) (n : ℕ) (e : InputFault) → found ≡ Some rest
    → ScriptPathRead (Err e) rest n → IsRead (Err e) (with_word made found other) text n
word_err made found rest text other n fault.OutOfMemory f h = h
word_err made found rest text other n (fault.BadPath at) f h =
    ap (λ x. first_wrong n (with_word made x other ∷ [])) f ∙ ap (λ b. first_wrong n (cond b (made rest) (Wrong BadPath) ∷ [])) h.0
    ∙ ap (λ k. Some (fault.BadPath k)) (sym h.1)
word_err made found rest text other n (fault.NotText at) f h = absurd h
word_err made found rest text other n (fault.BadWord at) f h = absurd h
word_err made found rest text other n fault.TooLong f h = absurd h

-- a line that is wrong by itself is so at its place
pub placed_wrong : (n : ℕ) (after_put : Bool) (l : Line) (e : InputFault) → first_wrong n (l ∷ []) ≡ Some e
    → first_wrong n (placed_one after_put l ∷ []) ≡ Some e
placed_wrong n true Blank e h = h
placed_wrong n false Blank e h = h
placed_wrong n true (Content b) e h = h
placed_wrong n false (Content b) e h = cc
placed_wrong n true (Put p) e h = h
placed_wrong n false (Put p) e h = h
placed_wrong n true (Del p) e h = h
placed_wrong n false (Del p) e h = h
placed_wrong n true (Change p) e h = h
placed_wrong n false (Change p) e h = h
placed_wrong n true Build e h = h
placed_wrong n false Build e h = h
placed_wrong n true (Wrong k) e h = h
placed_wrong n false (Wrong k) e h = h

pub take_err : (A : Type 0) (e : InputFault) (after_put : Bool) (l : Line) (text : List ℕ) (n : ℕ) (leaves : Type 0) → IsRead (Err e) l text n
    → ReadsOne {A = A} (Err e) (placed_one after_put l) n leaves
take_err A fault.OutOfMemory after_put l text n leaves h = h
take_err A (fault.NotText at) after_put l text n leaves h = placed_wrong n after_put l (fault.NotText at) h
take_err A (fault.BadPath at) after_put l text n leaves h = placed_wrong n after_put l (fault.BadPath at) h
take_err A (fault.BadWord at) after_put l text n leaves h = placed_wrong n after_put l (fault.BadWord at) h
take_err A fault.TooLong after_put l text n leaves h = h

not_true : (b : Bool) → (b ≡ true → ⊥) → b ≡ false
not_true true h = absurd (h refl)
not_true false h = refl

pub not_utf8 : (text : List ℕ) → (IsUtf8 text → ⊥) → is_utf8 text ≡ false
not_utf8 text never = not_true (is_utf8 text) (λ e. never (IsUtf8-from_is_utf8 text e))

-- bytes that are text are a path where the text is one
pub path_read : (r : Result (List ℕ) InputFault) (s text : List ℕ) (n : ℕ) → PathNamed r s n → s ≡ text → IsUtf8 text → PathRead r text n
path_read (Ok p) s text n h e u = (is_utf8-from_IsUtf8 text u, ap is_path (sym e) ∙ h.0, h.1 ∙ e)
path_read (Err fault.OutOfMemory) s text n h e u = h
path_read (Err (fault.BadPath at)) s text n h e u = (is_utf8-from_IsUtf8 text u, ap is_path (sym e) ∙ h.0, h.1)
path_read (Err (fault.NotText at)) s text n h e u = absurd h
path_read (Err (fault.BadWord at)) s text n h e u = h
path_read (Err fault.TooLong) s text n h e u = h

-- a line that is text is what its word says
pub line_read : (r : Result Read InputFault) (s text : List ℕ) (n : ℕ) → IsRead r (word_line s) s n → s ≡ text → IsUtf8 text → (length text == 0) ≡ false
    → IsRead r (script_line text) text n
line_read r s text n h e u some =
    let line : script_line text ≡ word_line text = ap (λ b. cond b Blank (cond (is_utf8 text) (word_line text) (Wrong NotText))) some
    ∙ ap (λ b. cond b (word_line text) (Wrong NotText)) (is_utf8-from_IsUtf8 text u) in
    subst (λ l. IsRead r l text n) (sym line) (subst (λ t. IsRead r (word_line t) t n) e h)

pub line_not_text : (text : List ℕ) (n : ℕ) → (IsUtf8 text → ⊥) → (length text == 0) ≡ false → first_wrong n (script_line text ∷ []) ≡ Some (fault.NotText n)
line_not_text text n never some =
    ap (λ b. first_wrong n (cond b Blank (cond (is_utf8 text) (word_line text) (Wrong NotText)) ∷ [])) some
    ∙ ap (λ b. first_wrong n (cond b (word_line text) (Wrong NotText) ∷ [])) (not_utf8 text never)

after_front : (word rest : List ℕ) → after_word word (word ++ rest) ≡ Some rest
after_front [] rest = refl
after_front (w ∷ word) rest = ap (λ b. cond b (after_word word (word ++ rest)) None) (eq-eqb w w refl) ∙ after_front word rest

after_none : (word text : List ℕ) → ((rest : List ℕ) → text ≢ word ++ rest) → after_word word text ≡ None
after_none [] text never = absurd (never text refl)
after_none (w ∷ word) [] never = refl
after_none (w ∷ word) (b ∷ text) never = after_step w b word text (w == b) refl never (λ ws. after_none word text ws)
  where
    after_step : (w b : ℕ) (word text : List ℕ) (same : Bool) → (w == b) ≡ same → ((rest : List ℕ) → (b ∷ text) ≢ (w ∷ word) ++ rest)
        → (((rest : List ℕ) → text ≢ word ++ rest) → after_word word text ≡ None) → cond same (after_word word text) None ≡ None
    after_step w b word text true is never more = more (λ rest e. never rest (ap (λ l. b ∷ l) e ∙ ap (λ x. x ∷ (word ++ rest)) (sym (eqb-true w b is))))
    after_step w b word text false is never more = refl

-- what `strip_prefix` gives is what stands after the word
pub stands_after : (r : Option (Bor (List ℕ))) (word text : List ℕ)
    → MatchOption r (FindsTextPrefix word text None) (λ x. StripsPrefix (FindsTextPrefix word) text x.now) → StandsAfter r (after_word word text)
stands_after None word text h = after_none word text h
stands_after (Some x) word text h = ap (after_word word) h.1.1 ∙ after_front word (drop h.0 text) ∙ ap Some (sym h.2)
