-- Reading roots line after line.
use Rattle.std.proofs.Common.{◌≡◌, ◌≤◌, ◌<◌, ◌+◌, ℕ, Bool, true, false, List, [], ◌∷◌, ◌++◌, length, Option, Some, None, Ok, Err, Result, refl, sym, subst, ap}
use Rattle.std.proofs.Common.{◌∙◌, append_assoc, arith}
use Rattle.std.specs.Str.{IsUtf8}
use Rattle.std.proofs.lemmas.List.{append-nil}
use Rattle.std.proofs.lemmas.List.Splits.{length-slice_split}
use Rattle.std.proofs.lemmas.List.Sums.{count_by-le-length}
use Rattle.pie_value.specs.declared.task.Task.{Task}
use Rattle.pie_roots.specs.declared.root.Root.{Root}
use Rattle.pie_roots.specs.declared.root.Root.TheVariants as roots
use Rattle.pie_roots.specs.declared.roots_fault.RootsFault.{RootsFault}
use Rattle.pie_roots.specs.declared.roots_fault.RootsFault.TheVariants.{TooLong, NotText, BadRoot, OutOfMemory}
use Rattle.pie_roots.specs.Lines.{is_newline, texts}
use Rattle.pie_roots.specs.Roots.{IsBlank, Names, IsRoot}
use Rattle.pie_roots.specs.RootLists.{Named, before, NameAll, ended, blank, named, stranger, bad, most, Reads, ReadsOnly, ReadsText, behind, Carries, Takes}
use Rattle.pie_roots.specs.RootLists.{Adds}
use Rattle.pie_roots.proofs.OneRoot.{one_root}

-- a text has at most one line more than bytes
pub few_lines : (lines : List (List ℕ)) (text : List ℕ) → lines ≡ texts text → length text ≤ most → 1 + length lines ≤ most + 2
few_lines lines text all small = omega (
  arith,
  ap (λ (l : List (List ℕ)). length l) all,
  length-slice_split is_newline text,
  count_by-le-length is_newline text,
  small,
)

behind_nil : (r : Named) → behind [] r ≡ r
behind_nil (Ok ts) = refl
behind_nil (Err n) = refl

behind_one : (old : List Task) (t : Task) (r : Named) → behind old (before t r) ≡ behind (old ++ t ∷ []) r
behind_one old t (Ok ts) = ap (λ (us : List Task). Ok us) (sym (append_assoc old (t ∷ []) ts))
behind_one old t (Err n) = refl

module _ (number : Task → Option ℕ) where
  pub blank_carries : (old : List Task) (line : List ℕ) (n : ℕ) → IsBlank line → Carries number old old line n
  blank_carries old line n b lines r x = (r, blank b x, refl)

  pub named_carries : (old new : List Task) (line : List ℕ) (n k : ℕ) (t : Task) → Names line t → number t ≡ Some k → new ≡ old ++ t ∷ []
      → Carries number old new line n
  named_carries old new line n k t m e q lines r x = (before t r, named m e x, behind_one old t r ∙ ap (λ (ts : List Task). behind ts r) (sym q))

  -- what a task on its line gives
  pub adds_takes : {A : Type 0} (result : Result A RootsFault) (old new : List Task) (line : List ℕ) (n : ℕ) (t : Task) → Names line t
      → Adds number result old new t n → Takes number result old new line n
  adds_takes (Ok a) old new line n t m h = named_carries old new line n h.0 t m h.1 h.2
  adds_takes (Err (BadRoot k)) old new line n t m h = (h.0, λ lines. stranger m h.1)
  adds_takes (Err OutOfMemory) old new line n t m h = tt
  adds_takes (Err TooLong) old new line n t m h = h
  adds_takes (Err NotText) old new line n t m h = h

  -- what a line is, and what taking it gives
  pub taken_blank : (old : List Task) (line : List ℕ) (n : ℕ) (r : Root) → IsRoot line r → r ≡ roots.Nothing → Carries number old old line n
  taken_blank old line n r h e = blank_carries old line n (subst (IsRoot line) e h)

  pub taken_task : {A : Type 0} (result : Result A RootsFault) (old new : List Task) (line : List ℕ) (n : ℕ) (t : Task) (r : Root) → IsRoot line r
      → r ≡ roots.Task t
      → Adds number result old new t n → Takes number result old new line n
  taken_task result old new line n t r h e a = adds_takes result old new line n t (subst (IsRoot line) e h) a

  pub taken_bad : (line : List ℕ) (n : ℕ) (r : Root) → IsRoot line r → r ≡ roots.Bad → (lines : List (List ℕ)) → NameAll number n (line ∷ lines) (Err n)
  taken_bad line n r h e lines = bad (subst (IsRoot line) e h)

  -- what all lines name, told by those that are left
  abbrev pub Left : List ℕ → List (List ℕ) → List Task → ℕ → Type 0
  Left text lines taken n = (r : Named) → NameAll number n lines r → NameAll number 1 (texts text) (behind taken r)

  pub left_begins : (text : List ℕ) (lines : List (List ℕ)) (taken : List Task) → lines ≡ texts text → taken ≡ [] → Left text lines taken 1
  left_begins text lines taken e q r x =
      subst (λ (ts : List Task). NameAll number 1 (texts text) (behind ts r)) (sym q)
      (subst (λ (s : Named). NameAll number 1 (texts text) s) (sym (behind_nil r)) (subst (λ (ls : List (List ℕ)). NameAll number 1 ls r) e x))

  pub left_goes_on : (text line : List ℕ) (lines rest : List (List ℕ)) (old new : List Task) (n : ℕ) → Left text lines old n → lines ≡ line ∷ rest
      → Carries number old new line n → Left text rest new (n + 1)
  left_goes_on text line lines rest old new n h e c r x =
      let s = c rest r x in
      subst (λ (q : Named). NameAll number 1 (texts text) q) s.2 (h s.0 (subst (λ (ls : List (List ℕ)). NameAll number n ls s.0) (sym e) s.1))

  pub left_ends : (text : List ℕ) (lines : List (List ℕ)) (taken : List Task) (n : ℕ) → Left text lines taken n → lines ≡ []
      → NameAll number 1 (texts text) (Ok taken)
  left_ends text lines taken n h e =
      subst (λ (ts : List Task). NameAll number 1 (texts text) (Ok ts)) (append-nil taken)
      (h (Ok []) (subst (λ (ls : List (List ℕ)). NameAll number n ls (Ok [])) (sym e) ended))

  left_refuses : (text line : List ℕ) (lines rest : List (List ℕ)) (taken : List Task) (n : ℕ) → Left text lines taken n → lines ≡ line ∷ rest
      → NameAll number n (line ∷ rest) (Err n) → NameAll number 1 (texts text) (Err n)
  left_refuses text line lines rest taken n h e x = h (Err n) (subst (λ (ls : List (List ℕ)). NameAll number n ls (Err n)) (sym e) x)

  pub left_fails : (A V : Type 0) (view : V → List Task) (f : RootsFault) (text line : List ℕ) (lines rest : List (List ℕ)) (old new : List Task) (n : ℕ)
      → Left text lines old n → lines ≡ line ∷ rest
      → Takes {A = A} number (Err f) old new line n → ReadsText {A = V} number view (Err f) (texts text)
  left_fails A V view (BadRoot m) text line lines rest old new n h e t =
      subst (λ (k : ℕ). NameAll number 1 (texts text) (Err k)) (sym t.0) (left_refuses text line lines rest old n h e (t.1 rest))
  left_fails A V view OutOfMemory text line lines rest old new n h e t = tt
  left_fails A V view TooLong text line lines rest old new n h e t = t
  left_fails A V view NotText text line lines rest old new n h e t = t

  -- lines name one thing
  apart_bad : (line : List ℕ) (t : Task) → Names line t → IsRoot line roots.Bad → ⊥
  apart_bad line t m b = b.1 t m

  one_named : (line : List ℕ) (t u : Task) → Names line t → Names line u → t ≡ u
  one_named line t u m k = let e = one_root line (roots.Task t) (roots.Task u) m k in cc

  not_blank : (line : List ℕ) (t : Task) → Names line t → IsBlank line → ⊥
  not_blank line t m b = let e = one_root line (roots.Task t) roots.Nothing m b in absurd (cc)

  apart_numbers : (t u : Task) (k : ℕ) → t ≡ u → number t ≡ Some k → number u ≡ None → ⊥
  apart_numbers t u k e p q = let r = ap number e in absurd (cc)

  pub one_naming : (n : ℕ) (lines : List (List ℕ)) (r s : Named) → NameAll number n lines r → NameAll number n lines s → r ≡ s
  one_naming n lines r s ended ended = refl
  one_naming n (line ∷ lines) r s (blank b x) (blank c y) = one_naming (n + 1) lines r s x y
  one_naming n (line ∷ lines) r s (blank b x) (named {t = t} m e y) = absurd (not_blank line t m b)
  one_naming n (line ∷ lines) r s (blank b x) (stranger {t = t} m e) = absurd (not_blank line t m b)
  one_naming n (line ∷ lines) r s (blank b x) (bad c) = absurd (c.0 b)
  one_naming n (line ∷ lines) r s (named {t = t} m e x) (blank c y) = absurd (not_blank line t m c)
  one_naming n (line ∷ lines) r s (named {t = t} {r = p} m e x) (named {t = u} {r = q} k f y) =
      let i = one_naming (n + 1) lines p q x y in
      let j = one_named line t u m k in ap (λ v. before v p) j ∙ ap (before u) i
  one_naming n (line ∷ lines) r s (named {k = i} {t = t} m e x) (stranger {t = u} k f) = absurd (apart_numbers t u i (one_named line t u m k) e f)
  one_naming n (line ∷ lines) r s (named {t = t} m e x) (bad c) = absurd (apart_bad line t m c)
  one_naming n (line ∷ lines) r s (stranger {t = t} m e) (blank c y) = absurd (not_blank line t m c)
  one_naming n (line ∷ lines) r s (stranger {t = t} m e) (named {k = i} {t = u} k f y) = absurd (apart_numbers u t i (one_named line u t k m) f e)
  one_naming n (line ∷ lines) r s (stranger m e) (stranger k f) = refl
  one_naming n (line ∷ lines) r s (stranger m e) (bad c) = refl
  one_naming n (line ∷ lines) r s (bad b) (blank c y) = absurd (b.0 c)
  one_naming n (line ∷ lines) r s (bad b) (named {t = t} k f y) = absurd (apart_bad line t k b)
  one_naming n (line ∷ lines) r s (bad b) (stranger k f) = refl
  one_naming n (line ∷ lines) r s (bad b) (bad c) = refl

  pub reads_only : {A : Type 0} (view : A → List Task) (result : Result A RootsFault) (bytes : List ℕ) → Reads number view result bytes
      → ReadsOnly number view result bytes
  reads_only view (Ok a) bytes h = λ r x. one_naming 1 (texts bytes) r (Ok (view a)) x h.2
  reads_only view (Err (BadRoot n)) bytes h = λ r x. one_naming 1 (texts bytes) r (Err n) x h.2
  reads_only view (Err OutOfMemory) bytes h = tt
  reads_only view (Err TooLong) bytes h = tt
  reads_only view (Err NotText) bytes h = tt

-- bytes that are text, by the lines of the text
pub reads_text : {A : Type 0} (number : Task → Option ℕ) (view : A → List Task) (result : Result A RootsFault) (bytes : List ℕ) → length bytes ≤ most
    → IsUtf8 bytes
    → ReadsText number view result (texts bytes) → Reads number view result bytes
reads_text number view (Ok a) bytes l u h = (l, u, h)
reads_text number view (Err (BadRoot n)) bytes l u h = (l, u, h)
reads_text number view (Err OutOfMemory) bytes l u h = tt
reads_text number view (Err TooLong) bytes l u h = absurd h
reads_text number view (Err NotText) bytes l u h = absurd h
