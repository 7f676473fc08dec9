-- The last slash of a path.
use Rattle.std.proofs.Common.{◌≡◌, ℕ, ◌+◌, ◌-◌, ◌<◌, ◌≤◌, Bool, true, false, not, List, drop, length, refl, arith}
use Rattle.std.specs.Prelude.{Some, None, slice_index}
use Rattle.std.specs.List.{after_last, suffix_len}
use Rattle.std.specs.Str.{IsUtf8, IsCharBoundary}
use Rattle.std.proofs.lemmas.Bool.{eqb-true}
use Rattle.std.proofs.lemmas.List.Sums.{suffix_len_is}
use Rattle.std.proofs.lemmas.Str.{IsCharBoundary-after_ascii}
use Rattle.memchr.specs.Find.{IsLastByte, Nowhere, Passes, is_byte}
use Rattle.pie_base.specs.Path.{is_slash}

other_byte : (b : Bool) → (b ≡ true → ⊥) → not b ≡ true
other_byte true h = absurd (h refl)
other_byte false h = refl

suffix_from : (s : List ℕ) (n : ℕ) → n ≤ length s → Nowhere (Passes (is_byte 47) s) n (length s) → (0 < n → is_slash (slice_index s (n - 1)) ≡ true)
    → after_last is_slash s ≡ drop n s
suffix_from s n le none p =
    let e : suffix_len (λ x. not (is_slash x)) s ≡ length s - n = suffix_len_is (λ x. not (is_slash x)) s n 0 le
    (λ k i l. other_byte (is_slash (slice_index s k)) (none k i l)) (λ q. rw (p q) refl) in
    let m : length s - (length s - n) ≡ n = omega (arith, le) in
    rw (e, m) refl

pub after_it : (s : List ℕ) (k : ℕ) → IsLastByte (is_byte 47) s (Some k) → after_last is_slash s ≡ drop (k + 1) s
after_it s k h = suffix_from s (k + 1) (omega (arith, h.0.high)) h.0.after (λ q. let m : k + 1 - 1 ≡ k = omega arith in rw m h.1)

pub all_of_it : (s : List ℕ) → IsLastByte (is_byte 47) s None → after_last is_slash s ≡ s
all_of_it s h = suffix_from s 0 (omega arith) h (λ q. absurd (omega arith))

pub cut_after_it : (s : List ℕ) (k : ℕ) → IsUtf8 s → IsLastByte (is_byte 47) s (Some k) → IsCharBoundary s (k + 1)
cut_after_it s k u h = IsCharBoundary-after_ascii s k u h.0.high (omega (arith, eqb-true (slice_index s k) 47 h.1))
