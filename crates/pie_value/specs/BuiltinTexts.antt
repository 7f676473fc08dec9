-- What the built-in functions on texts compute, said of the bytes of texts.
use Rattle.std.specs.Prelude.{ℕ, zero, suc, ◌+◌, ◌-◌, ◌*◌, ◌^◌, ◌==◌, Bool, not, cond, ◌&&◌, ◌||◌, nat_lt, nat_le, List, [], ◌∷◌, ◌++◌}
use Rattle.std.specs.Prelude.{length, take, drop, reverse, slice_index, codes, Option, Some, None, option_map, ℤ, pos, negsuc}
use lib.Pointwise.{pointwise}

-- two texts are the same bytes
abbrev pub same_bytes : List ℕ → List ℕ → Bool
same_bytes = pointwise ◌==◌

-- the second text is a prefix of the first
abbrev pub starts_with : List ℕ → List ℕ → Bool
starts_with s p = same_bytes (take (length p) s) p

-- the second text is a suffix of the first
abbrev pub ends_with : List ℕ → List ℕ → Bool
ends_with s p = same_bytes (drop (length s - length p) s) p

-- where the second text first occurs in the first, in bytes from 0
abbrev pub first_place : List ℕ → List ℕ → Option ℕ
first_place [] p = cond (starts_with [] p) (Some 0) None
first_place (b ∷ bs) p = cond (starts_with (b ∷ bs) p) (Some 0) (option_map (λ n. n + 1) (first_place bs p))

-- what stands before an occurrence at this place, and then the pieces of what stands after it; all where there is none
abbrev pub pieces_from : Option ℕ → List ℕ → List ℕ → (List ℕ → List ℕ → List (List ℕ)) → List (List ℕ)
pieces_from None s p pieces = s ∷ []
pieces_from (Some i) s p pieces = take i s ∷ pieces (drop (i + length p) s) p

-- what stands before the first occurrence, and then the pieces of what stands after it; so many occurrences at the most
abbrev pub pieces_within : ℕ → List ℕ → List ℕ → List (List ℕ)
pieces_within zero s p = s ∷ []
pieces_within (suc n) s p = pieces_from (first_place s p) s p (pieces_within n)

-- the pieces between the non-overlapping occurrences of the second text in the first, from the left
abbrev pub pieces : List ℕ → List ℕ → List (List ℕ)
pieces s p = pieces_within (length s) s p

-- texts with another between them
abbrev pub with_between : List ℕ → List (List ℕ) → List ℕ
with_between between [] = []
with_between between (s ∷ []) = s
with_between between (s ∷ t ∷ ts) = s ++ (between ++ with_between between (t ∷ ts))

-- the occurrences of the second text in the first become the third; an empty second one changes nothing
abbrev pub replaced : List ℕ → List ℕ → List ℕ → List ℕ
replaced s [] r = s
replaced s (b ∷ p) r = with_between r (pieces s (b ∷ p))

-- texts without a last one that is empty
abbrev pub without_last_empty : List (List ℕ) → List (List ℕ)
without_last_empty [] = []
without_last_empty ([] ∷ []) = []
without_last_empty ((b ∷ bs) ∷ []) = (b ∷ bs) ∷ []
without_last_empty (s ∷ t ∷ ts) = s ∷ without_last_empty (t ∷ ts)

-- the lines of a text
abbrev pub lines_of : List ℕ → List (List ℕ)
lines_of s = without_last_empty (pieces s (codes "\n"))

-- a space, a tab, a newline or a carriage return
abbrev pub is_space : ℕ → Bool
is_space b = b == 32 || b == 9 || b == 10 || b == 13

-- a text from its first byte on that is no space
abbrev pub after_spaces : List ℕ → List ℕ
after_spaces [] = []
after_spaces (b ∷ bs) = cond (is_space b) (after_spaces bs) (b ∷ bs)

-- a text without spaces at both ends
abbrev pub trimmed : List ℕ → List ℕ
trimmed s = reverse (after_spaces (reverse (after_spaces s)))

-- no character stands across this place: the byte there doesn't continue one
abbrev pub is_between_characters : List ℕ → ℕ → Bool
is_between_characters s i = not (nat_le 128 (slice_index s i) && nat_lt (slice_index s i) 192)

-- an ASCII digit
abbrev pub is_digit : ℕ → Bool
is_digit b = nat_le 48 b && nat_le b 57

-- the number that digits spell after a number
abbrev pub digits_after : ℕ → List ℕ → Option ℕ
digits_after n [] = Some n
digits_after n (b ∷ bs) = cond (is_digit b) (digits_after (n * 10 + (b - 48)) bs) None

-- the number that one or more digits spell
abbrev pub number_spelt : List ℕ → Option ℕ
number_spelt [] = None
number_spelt (b ∷ bs) = digits_after 0 (b ∷ bs)

-- a number, if it is small enough for an integer of 64 bits
abbrev pub as_positive : ℕ → Option ℤ
as_positive n = cond (nat_lt n (2 ^ 63)) (Some (pos n)) None

-- the number below 0 of this size, if an integer of 64 bits holds it
abbrev pub as_negative : ℕ → Option ℤ
as_negative zero = Some (pos 0)
as_negative (suc n) = cond (nat_lt n (2 ^ 63)) (Some (negsuc n)) None

-- a value of an optional one
abbrev pub and_then : {A B : Type 0} → Option A → (A → Option B) → Option B
and_then None f = None
and_then (Some a) f = f a

-- the integer that a text spells: a minus sign if it is below 0, and then digits
abbrev pub int_spelt : List ℕ → Option ℤ
int_spelt [] = None
int_spelt (b ∷ bs) = cond (b == 45) (and_then (number_spelt bs) as_negative) (and_then (number_spelt (b ∷ bs)) as_positive)
