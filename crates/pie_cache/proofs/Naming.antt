-- The name of a cache file is a segment of a path.
use Rattle.std.proofs.Common.{◌≡◌, ℕ, zero, suc, ◌/◌, ◌%◌, ◌<◌, Bool, true, false, not, ◌&&◌, ◌||◌, cond, List, [], ◌∷◌, length, refl, ap, ◌∙◌, arith, inl, inr, eqb}
use Rattle.std.specs.Prelude.{IsTrue, slice_index, nat_lt, ◌==◌, codes}
use Rattle.std.specs.List.{list_all, list_any, onto_first}
use Rattle.std.proofs.lemmas.Bool.{and_parts, and_from, cases_lt}
use Rattle.std.proofs.lemmas.Bool.Decides.{Decides-eqb}
use Rattle.std.proofs.lemmas.Slice.Eq.{slice_eq-Decides}
use Rattle.hex.specs.Hex.{lower_digits, encode_with, encode_lower}
use Rattle.hex.proofs.HexLemmas.{length-encode_with}
use Rattle.pie_base.specs.Path.{same_text, is_slash, is_control, segments, is_segment, is_path}
use Rattle.pie_value.proofs.Taking.{IsBytes}
use Rattle.pie_cache.specs.inner.Places.{path_of_hash, is_in_cache, IsCachePath}

-- a byte that is no slash and no control character
abbrev is_plain : ℕ → Bool
is_plain b = not (is_slash b) && not (is_control b)

abbrev plain_below : ℕ → Bool
plain_below zero = true
plain_below (suc n) = is_plain (slice_index lower_digits n) && plain_below n

plain_at : (n k : ℕ) → plain_below n ≡ true → k < n → is_plain (slice_index lower_digits k) ≡ true
plain_at zero k h lt = absurd (omega (arith, lt))
plain_at (suc n) k h lt =
    let parts = and_parts (is_plain (slice_index lower_digits n)) (plain_below n) h in
    elim (cases_lt k n) [
      | inl below ↦ plain_at n k parts.1 below
      | inr top ↦
          let e : k ≡ n = omega (arith, lt, top) in
          ap (λ (i : ℕ). is_plain (slice_index lower_digits i)) e ∙ parts.0
    ]

-- each digit is plain
digit_plain : (k : ℕ) → k < 16 → is_plain (slice_index lower_digits k) ≡ true
digit_plain k lt = plain_at 16 k refl lt

tail_bytes : (b : ℕ) (bs : List ℕ) → IsBytes (b ∷ bs) → IsBytes bs
tail_bytes b bs h i = h (suc i)

digits_plain : (bs : List ℕ) → IsBytes bs → list_all is_plain (encode_lower bs) ≡ true
unfolding encode_with
digits_plain [] h = refl
digits_plain (b ∷ bs) h =
    let fits : b < 256 = h 0 in
    let high : b / 16 < 16 = omega (arith, fits) in
    let low : b % 16 < 16 = omega arith in
    and_from (is_plain (slice_index lower_digits (b / 16)))
    (is_plain (slice_index lower_digits (b % 16)) && list_all is_plain (encode_lower bs)) (digit_plain (b / 16) high)
    (and_from (is_plain (slice_index lower_digits (b % 16))) (list_all is_plain (encode_lower bs)) (digit_plain (b % 16) low)
    (digits_plain bs (tail_bytes b bs h)))

not_is : (b : Bool) → not b ≡ true → b ≡ false
not_is true e = absurd (cc)
not_is false e = refl

-- plain bytes are one segment
one_segment : (xs : List ℕ) → list_all is_plain xs ≡ true → segments xs ≡ xs ∷ []
one_segment [] h = refl
one_segment (x ∷ xs) h =
    let parts = and_parts (is_plain x) (list_all is_plain xs) h in
    let slash = not_is (is_slash x) (and_parts (not (is_slash x)) (not (is_control x)) parts.0).0 in
    ap (λ (b : Bool). cond b ([] ∷ segments xs) (onto_first x (segments xs))) slash ∙ ap (onto_first x) (one_segment xs parts.1)

-- without a control character
no_control : (xs : List ℕ) → list_all is_plain xs ≡ true → list_any is_control xs ≡ false
no_control [] h = refl
no_control (x ∷ xs) h =
    let parts = and_parts (is_plain x) (list_all is_plain xs) h in
    let control = not_is (is_control x) (and_parts (not (is_slash x)) (not (is_control x)) parts.0).1 in
    ap (λ (b : Bool). b || list_any is_control xs) control ∙ no_control xs parts.1

-- texts of different lengths are others
other_length : (xs ys : List ℕ) → length ys < length xs → not (same_text xs ys) ≡ true
other_length xs ys lt = by (same_text xs ys) refl
  where
    by : (b : Bool) → same_text xs ys ≡ b → not (same_text xs ys) ≡ true
    by true e = absurd (omega (arith, lt, ap length ((slice_eq-Decides {E = eqb} Decides-eqb xs ys (same_text xs ys) refl).0 e)))
    by false e = ap not e

plain_segment : (xs : List ℕ) → list_all is_plain xs ≡ true → 2 < length xs → is_segment xs ≡ true
plain_segment xs h long =
    let some : not (length xs == 0) ≡ true = grind (arith, long) in
    let a = other_length xs (codes ".") (omega (arith, long)) in
    let b = other_length xs (codes "..") (omega (arith, long)) in
    let c : not (list_any is_control xs) ≡ true = ap not (no_control xs h) in
    and_from (not (length xs == 0) && not (same_text xs (codes ".")) && not (same_text xs (codes ".."))) (not (list_any is_control xs))
    (and_from (not (length xs == 0) && not (same_text xs (codes "."))) (not (same_text xs (codes "..")))
    (and_from (not (length xs == 0)) (not (same_text xs (codes "."))) some a) b) c

some_not_zero : (n : ℕ) → not (suc n == 0) ≡ true
some_not_zero n = grind arith

-- the path of a cache file is one
pub hash_path : (hash : List ℕ) → IsBytes hash → length hash ≡ 32 → IsTrue (is_path (path_of_hash hash))
hash_path hash fits long =
    let ds = encode_lower hash in
    let n : length ds ≡ 64 = omega (arith, length-encode_with lower_digits hash, long) in
    let plain = digits_plain hash fits in
    let all : list_all is_segment (segments (path_of_hash hash)) ≡ true =
    ap (λ (l : List (List ℕ)). list_all is_segment (codes ".pie" ∷ (codes "cache" ∷ l))) (one_segment ds plain)
    ∙ and_from (is_segment ds) true (plain_segment ds plain (omega (arith, n))) refl in
    let short : not (nat_lt 255 (length (path_of_hash hash))) ≡ true = grind (arith, n) in
    and_from (not (length (path_of_hash hash) == 0) && not (nat_lt 255 (length (path_of_hash hash)))) (list_all is_segment (segments (path_of_hash hash)))
    (and_from (not (length (path_of_hash hash) == 0)) (not (nat_lt 255 (length (path_of_hash hash)))) (some_not_zero _) short) all

-- and lies in the cache
pub cache_inside : (path : List ℕ) → IsCachePath path → is_in_cache path ≡ true
cache_inside path h = ap is_in_cache h.2
