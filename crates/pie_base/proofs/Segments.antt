-- The first segment by the place of the first slash.
use Rattle.std.proofs.Common.{◌≡◌, ◌<◌, ◌≤◌, ℕ, Bool, true, false, not, cond, List, length, take, refl, sym, ap, ◌∙◌, subst, arith}
use Rattle.std.specs.Prelude.{Some, None, nat_lt, slice_index}
use Rattle.std.specs.List.{position, position_or_len}
use Rattle.std.proofs.Math.Seq.{take-length}
use Rattle.std.proofs.lemmas.List.Sums.{prefix_len-le-length}
use Rattle.std.proofs.lemmas.List.Sums.{prefix_len_stops}
use borrow.Author.Tests.{ltb-false, ltb-true}
use Rattle.pie_base.specs.Path.{is_slash, first_segment}

some_is : (b : Bool) (n i : ℕ) → cond b (Some n) None ≡ Some i → n ≡ i
some_is true n i h = cc
some_is false n i h = cc

none_is : (b : Bool) (n : ℕ) → cond b (Some n) None ≡ None → b ≡ false
none_is true n h = cc
none_is false n h = refl

pub before_first_at : (xs : List ℕ) (i : ℕ) → position is_slash xs ≡ Some i → take i xs ≡ first_segment xs
before_first_at xs i h = ap (λ n. take n xs) (sym (some_is (nat_lt (position_or_len is_slash xs) (length xs)) (position_or_len is_slash xs) i h))

full : (n : ℕ) (xs : List ℕ) → n ≤ length xs → nat_lt n (length xs) ≡ false → xs ≡ take n xs
full n xs le h =
    let e : n ≡ length xs = omega (arith, ltb-false n (length xs) h) in
    sym (ap (λ k. take k xs) e ∙ take-length xs)

pub before_first_none : (xs : List ℕ) → position is_slash xs ≡ None → xs ≡ first_segment xs
before_first_none xs h = full (position_or_len is_slash xs) xs (prefix_len-le-length (λ x. not (is_slash x)) xs)
    (none_is (nat_lt (position_or_len is_slash xs) (length xs)) (position_or_len is_slash xs) h)

-- the place that is found is inside, and a slash stands there
pub slash_found : (xs : List ℕ) (i : ℕ) → position is_slash xs ≡ Some i → (i < length xs) × (slice_index xs i ≡ 47)
slash_found xs i h =
    let n = position_or_len is_slash xs in
    elim (nat_lt n (length xs)) as (λ b. nat_lt n (length xs) ≡ b → cond b (Some n) None ≡ Some i → (i < length xs) × (slice_index xs i ≡ 47)) [
      | true ↦ λ e k.
          let same : n ≡ i = cc in
          let inside : n < length xs = ltb-true n (length xs) e in
          subst (λ m. (m < length xs) × (slice_index xs m ≡ 47)) same
          (inside, slash_is (slice_index xs n) (prefix_len_stops (λ x. not (is_slash x)) xs 0 inside))
      | false ↦ λ e k. cc
    ] refl h
  where
    slash_is : (b : ℕ) → not (is_slash b) ≡ false → b ≡ 47
    slash_is b h = grind arith
