-- Spaces at the ends of a text.
use Rattle.std.proofs.Common.{◌≡◌, ℕ, zero, suc, ◌-◌, ◌<◌, true, false, List, [], ◌∷◌, ◌++◌, length, take, drop, reverse, get_or, refl, ap, ◌∙◌, arith}
use Rattle.std.specs.Prelude.{slice_get, Some, None}
use Rattle.std.specs.Str.{IsUtf8, IsCharBoundary}
use Rattle.std.proofs.lemmas.List.{reverse-append, reverse-reverse}
use Rattle.std.proofs.lemmas.Str.{IsCharBoundary-before_ascii, IsCharBoundary-after_ascii}
use Rattle.pie_value.specs.BuiltinTexts.{is_space, after_spaces}

space_ascii : (b : ℕ) → is_space b ≡ true → b < 128
space_ascii b h = grind arith

pub past_space : (s : List ℕ) (b : ℕ) → slice_get s 0 ≡ Some b → is_space b ≡ true → after_spaces (drop 1 s) ≡ after_spaces s
past_space [] b e h = cc
past_space (x ∷ xs) b e h =
    let same : x ≡ b = cc in
    let space : is_space x ≡ true = rw same h in
    rw space refl

pub cut_past_space : (s : List ℕ) (b : ℕ) → IsUtf8 s → slice_get s 0 ≡ Some b → is_space b ≡ true → IsCharBoundary s 1
cut_past_space [] b u e h = cc
cut_past_space (x ∷ xs) b u e h =
    let same : x ≡ b = cc in
    let low : x < 128 = rw same (space_ascii b h) in
    IsCharBoundary-after_ascii (x ∷ xs) 0 u (omega arith) low

pub at_no_space : (s : List ℕ) (b : ℕ) → slice_get s 0 ≡ Some b → is_space b ≡ false → after_spaces s ≡ s
at_no_space [] b e h = cc
at_no_space (x ∷ xs) b e h =
    let same : x ≡ b = cc in
    let space : is_space x ≡ false = rw same h in
    rw space refl

pub at_no_byte : (s : List ℕ) → slice_get s 0 ≡ None → after_spaces s ≡ s
at_no_byte [] e = refl
at_no_byte (x ∷ xs) e = cc

last_split : (s : List ℕ) (i b : ℕ) → suc i ≡ length s → slice_get s i ≡ Some b → s ≡ take i s ++ b ∷ []
last_split [] i b n e = cc
last_split (x ∷ []) zero b n e = cc
last_split (x ∷ y ∷ ys) zero b n e = absurd (omega arith)
last_split (x ∷ xs) (suc i) b n e = ap (λ rest. x ∷ rest) (last_split xs i b (omega arith) e)

not_empty : (s : List ℕ) (i b : ℕ) → slice_get s i ≡ Some b → i < length s
not_empty [] i b e = cc
not_empty (x ∷ xs) zero b e = omega arith
not_empty (x ∷ xs) (suc i) b e = omega (arith, not_empty xs i b e)

-- a text that ends with a byte, backwards
turned : (s : List ℕ) (b : ℕ) → slice_get s (length s - 1) ≡ Some b → reverse s ≡ b ∷ reverse (take (length s - 1) s)
turned s b e =
    let below : length s - 1 < length s = not_empty s (length s - 1) b e in
    let split : s ≡ take (length s - 1) s ++ b ∷ [] = last_split s (length s - 1) b (omega arith) e in
    ap reverse split ∙ reverse-append (take (length s - 1) s) (b ∷ [])

pub before_space : (s : List ℕ) (b : ℕ) → slice_get s (length s - 1) ≡ Some b → is_space b ≡ true
    → after_spaces (reverse (take (length s - 1) s)) ≡ after_spaces (reverse s)
before_space s b e h = rw (turned s b e, h) refl

pub to_no_space : (s : List ℕ) (b : ℕ) → slice_get s (length s - 1) ≡ Some b → is_space b ≡ false
    → reverse (after_spaces (reverse s)) ≡ s
to_no_space s b e h =
    let stays : after_spaces (reverse s) ≡ reverse s = rw (turned s b e, h) refl in
    ap reverse stays ∙ reverse-reverse s

some_there : (s : List ℕ) (i : ℕ) → i < length s → slice_get s i ≡ None → ⊥
some_there [] i h e = omega arith
some_there (x ∷ xs) zero h e = cc
some_there (x ∷ xs) (suc i) h e = some_there xs i (omega arith) e

pub to_no_byte : (s : List ℕ) → slice_get s (length s - 1) ≡ None → reverse (after_spaces (reverse s)) ≡ s
to_no_byte [] e = refl
to_no_byte (x ∷ xs) e = absurd (some_there (x ∷ xs) (length (x ∷ xs) - 1) (omega arith) e)

got : (s : List ℕ) (i b : ℕ) → slice_get s i ≡ Some b → get_or s i 0 ≡ b
got [] i b e = cc
got (x ∷ xs) zero b e = cc
got (x ∷ xs) (suc i) b e = got xs i b e

pub cut_before_space : (s : List ℕ) (b : ℕ) → slice_get s (length s - 1) ≡ Some b → is_space b ≡ true → IsCharBoundary s (length s - 1)
cut_before_space s b e h =
    let low : get_or s (length s - 1) 0 < 128 = rw (got s (length s - 1) b e) (space_ascii b h) in
    IsCharBoundary-before_ascii s (length s - 1) (not_empty s (length s - 1) b e) low
