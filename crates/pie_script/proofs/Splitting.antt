-- The first line of a text.
use Rattle.std.proofs.Common.{◌≡◌, ◌+◌, ◌-◌, ◌≤◌, ℕ, List, [], ◌∷◌, Some, None, take, drop, length, sym, ap, ◌∙◌, arith}
use Rattle.std.specs.List.{position, position_or_len}
use Rattle.std.proofs.lemmas.List.{take_all, length-drop}
use Rattle.std.proofs.lemmas.List.Quantifiers.{position-Some}
use Rattle.std.proofs.lemmas.List.Sums.{position_or_len_is, fails_before_first}
use Rattle.std.proofs.lemmas.List.Splits.{slice_split_first, slice_split_none}
use Rattle.std.proofs.lemmas.Grind.{common_steps}
use Rattle.pie_script.specs.Line.{is_newline, texts}

pub first_text : (bytes : List ℕ) (i : ℕ) → position is_newline bytes ≡ Some i
    → texts bytes ≡ take i bytes ∷ texts (take (length bytes - (i + 1)) (drop (i + 1) bytes))
first_text bytes i found =
    let at = position-Some is_newline bytes i 0 found in
    let is : position_or_len is_newline bytes ≡ i = position_or_len_is is_newline bytes i 0 (omega (arith, at.0)) at.2 (λ l. at.1) in
    let whole : take (length bytes - (i + 1)) (drop (i + 1) bytes) ≡ drop (i + 1) bytes = take_all (length bytes - (i + 1)) (drop (i + 1) bytes)
    (omega (arith, length-drop (i + 1) bytes)) in
    slice_split_first is_newline bytes 0 (omega (arith, is, at.0))
    ∙ ap (λ n. take n bytes ∷ texts (drop (n + 1) bytes)) is
    ∙ ap (λ (l : List ℕ). take i bytes ∷ texts l) (sym whole)

pub last_text : (bytes : List ℕ) → position is_newline bytes ≡ None → texts bytes ≡ bytes ∷ []
last_text bytes none =
    let none_in : length bytes ≤ position_or_len is_newline bytes = grind (arith, common_steps) in
    slice_split_none is_newline bytes (λ k d l. fails_before_first is_newline bytes k d (omega (arith, l, none_in)))
