-- What memchr finds of a text in another.
use Rattle.std.proofs.Common.{◌≡◌, ℕ, ◌+◌, ◌-◌, ◌<◌, ◌≤◌, List, ◌++◌, take, drop, length, refl, ap, sym, ◌∙◌, arith}
use Rattle.std.specs.Prelude.{Option, Some, None, slice_range}
use Rattle.std.specs.Str.{IsUtf8, IsCharBoundary}
use Rattle.std.specs.Str.Pattern.{FindsText, LacksTextAt, SplitsAroundMatch}
use Rattle.std.proofs.lemmas.List.{length-append, length-drop, length-take}
use Rattle.std.proofs.lemmas.Str.{IsCharBoundary-from_take}
use Rattle.std.proofs.iter.Find.{text_at}
use Rattle.memchr.specs.Find.{FindsNeedle, OccursAt}
use Rattle.memchr.proofs.lemmas.MatchLemmas.{OccursAt-from_part, OccursAt-part, OccursAt-split}
use Rattle.pie_value.specs.BuiltinTexts.{first_place}
use Rattle.pie_builtins.proofs.Places.{at_first, nowhere, take_front}

-- where a text doesn't occur, it isn't what stands there
lacks : (s p : List ℕ) (i : ℕ) → i ≤ length s → (OccursAt s p i → ⊥) → LacksTextAt p s i
lacks s p i le not rest e = not (OccursAt-from_part s p i (omega (arith, le, ap length e, length-append p rest, length-drop i s))
    (ap (take (length p)) e ∙ take_front p rest))

-- the first place of a text is what the search finds
pub found_first : (s p : List ℕ) (r : Option ℕ) → FindsNeedle s p 0 r → r ≡ first_place s p
found_first s p None h = sym (nowhere s p (λ i le. lacks s p i le (h i (omega arith) (omega arith))))
found_first s p (Some k) h = sym (at_first s p (drop (k + length p) s) k
    (λ i l. lacks s p i (omega (arith, h.0.high)) (h.0.before i (omega arith) l)) (OccursAt-split s p k h.1))

-- nothing is found
pub not_found : (s p : List ℕ) → FindsNeedle s p 0 None → FindsText p s None
not_found s p h i le = lacks s p i le (h i (omega arith) (omega arith))

-- the text may be cut before and after what is found
pub cut_before : (s p : List ℕ) (k : ℕ) → IsUtf8 s → IsUtf8 p → 0 < length p → FindsNeedle s p 0 (Some k) → IsCharBoundary s k
cut_before s p k u v some h = IsCharBoundary-from_take s k u (omega (arith, h.1.fits))
    (text_at s p k u v h.1.fits (OccursAt-part s p k h.1) (λ none. absurd (omega arith))).1

pub cut_after : (s p : List ℕ) (k : ℕ) → IsUtf8 s → IsUtf8 p → 0 < length p → FindsNeedle s p 0 (Some k) → IsCharBoundary s (k + length p)
cut_after s p k u v some h = (text_at s p k u v h.1.fits (OccursAt-part s p k h.1) (λ none. absurd (omega arith))).0.after

-- and what stands before and after it
pub found : (s p front back : List ℕ) (k : ℕ) → IsUtf8 s → IsUtf8 p → 0 < length p → FindsNeedle s p 0 (Some k)
    → front ≡ slice_range s 0 k → back ≡ drop (k + length p) s → SplitsAroundMatch (FindsText p) s front back
found s p front back k u v some h at_front at_back =
    let same : k - 0 ≡ k = omega arith in
    let before : front ≡ take k s = at_front ∙ ap (λ n. take n s) same in (
      k,
      k + length p,
      (
        λ i l. lacks s p i (omega (arith, h.0.high)) (h.0.before i (omega arith) l),
        (text_at s p k u v h.1.fits (OccursAt-part s p k h.1) (λ none. absurd (omega arith))).0,
      ),
      before,
      at_back,
      omega arith,
      omega (arith, h.1.fits, ap length before, length-take k s),
      omega (arith, h.1.fits, ap length at_back, length-drop (k + length p) s),
    )
