-- The digits of a hash give it back, and so does a key its digest.
use Rattle.std.proofs.Common.{◌≡◌, ◌∙◌, ℕ, zero, suc, ◌/◌, ◌%◌, ◌^◌, ◌<◌, List, [], ◌∷◌, ◌++◌, drop, length, take, Result, Ok, refl, sym, ap, arith}
use Rattle.std.specs.Int.{bytes_high_first, byte_at, w32, to_be_bytes}
use Rattle.std.specs.Prelude.{codes, slice_index}
use Rattle.std.proofs.lemmas.List.{length-append, take_at}
use Rattle.hex.specs.Hex.{decode_of, encode_lower, IsBytes}
use Rattle.hex.proofs.HexLemmas.{decode_of-encode_lower}
use Rattle.sha2.specs.Sha256.{digest_bytes, sha256}

-- ---- bytes

low : (n : ℕ) → n % 256 < 256
low n = omega arith

byte_low : (k n : ℕ) → byte_at k n < 256
byte_low zero n = low n
byte_low (suc k) n = low (n / 256 ^ suc k)

high_bytes : (k n : ℕ) → IsBytes (bytes_high_first k n)
high_bytes zero n i = omega arith
high_bytes (suc k) n zero = byte_low k n
high_bytes (suc k) n (suc i) = high_bytes k n i

both_bytes : (xs ys : List ℕ) → IsBytes xs → IsBytes ys → IsBytes (xs ++ ys)
both_bytes [] ys h k i = k i
both_bytes (x ∷ xs) ys h k zero = h 0
both_bytes (x ∷ xs) ys h k (suc i) = both_bytes xs ys (λ j. h (suc j)) k i

words_bytes : (h : List ℕ) (n : ℕ) → IsBytes (digest_bytes h n)
unfolding digest_bytes
words_bytes h zero i = omega arith
words_bytes h (suc n) i = both_bytes (digest_bytes h n) (to_be_bytes w32 (slice_index h n)) (words_bytes h n) (high_bytes 4 (slice_index h n)) i

hash_bytes : (m : List ℕ) → IsBytes (sha256 m)
unfolding sha256
hash_bytes m = words_bytes _ 8

-- ---- digits

ok_same : {E : Type 0} (x y : List ℕ) → ◌≡◌ {A = Result (List ℕ) E} (Ok x) (Ok y) → x ≡ y
ok_same x y e = cc

-- at one path of the cache there is one hash
pub one_hash : (a b : List ℕ) → codes ".pie/cache/" ++ encode_lower (sha256 a) ≡ codes ".pie/cache/" ++ encode_lower (sha256 b) → sha256 a ≡ sha256 b
one_hash a b e =
    let digits : encode_lower (sha256 a) ≡ encode_lower (sha256 b) = ap (drop 11) e in
    ok_same (sha256 a) (sha256 b)
    (sym (decode_of-encode_lower (sha256 a) (hash_bytes a)) ∙ ap decode_of digits ∙ decode_of-encode_lower (sha256 b) (hash_bytes b))

-- what stands in front of one end is equal
pub one_front : (a b end : List ℕ) → a ++ end ≡ b ++ end → a ≡ b
one_front a b end e =
    let long : length a ≡ length b = omega (arith, ap length e, length-append a end, length-append b end) in
    sym (take_at a end (length a) refl) ∙ ap (take (length a)) e ∙ take_at b end (length a) (sym long)
