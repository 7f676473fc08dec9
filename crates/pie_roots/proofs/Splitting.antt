-- The first line of a text.
use Rattle.std.proofs.Common.{◌≡◌, ◌+◌, ◌≤◌, ◌<◌, ℕ, List, [], ◌∷◌, Option, Some, None, length, refl, sym, subst, ap, ◌∙◌, arith}
use Rattle.std.specs.Prelude.{MatchOption}
use denote.Ref.{Bor}
use Rattle.std.specs.List.{position_or_len, before_first, after_first}
use Rattle.std.proofs.lemmas.List.Sums.{fails_before_first}
use Rattle.std.proofs.lemmas.List.Splits.{slice_split_first, slice_split_none}
use Rattle.std.proofs.lemmas.Str.Pattern.{IsSplitOnceResult, split_once_first}
use Rattle.pie_roots.specs.Lines.{is_newline, texts}

-- what is cut off at the first newline
abbrev Cut : List ℕ → Option (Bor (List ℕ) × Bor (List ℕ)) → Type 0
Cut text None = texts text ≡ text ∷ []
Cut text (Some x) = texts text ≡ x.0.now ∷ texts x.1.now

cut : (text : List ℕ) (r : Option (Bor (List ℕ) × Bor (List ℕ))) → IsSplitOnceResult 10 text r → Cut text r
cut text None h =
    let none : position_or_len is_newline text ≡ length text = split_once_first 10 text None h (omega arith) in
    slice_split_none is_newline text (λ k d l. fails_before_first is_newline text k d (omega (arith, l, none)))
cut text (Some x) h =
    let at = split_once_first 10 text (Some x) h (omega arith) in
    slice_split_first is_newline text 0 at.0 ∙ ap (λ l. l ∷ texts (after_first is_newline text)) (sym at.1) ∙ ap (λ l. x.0.now ∷ texts l) (sym at.2)

pub first_line : (text : List ℕ) (r : Option (Bor (List ℕ) × Bor (List ℕ))) (x : Bor (List ℕ) × Bor (List ℕ)) → IsSplitOnceResult 10 text r → r ≡ Some x
    → texts text ≡ x.0.now ∷ texts x.1.now
first_line text r x h e = subst (Cut text) e (cut text r h)

pub last_line : (text : List ℕ) (r : Option (Bor (List ℕ) × Bor (List ℕ))) → IsSplitOnceResult 10 text r → r ≡ None → texts text ≡ text ∷ []
last_line text r h e = subst (Cut text) e (cut text r h)
