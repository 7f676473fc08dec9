-- The last value is the top.
use Rattle.std.proofs.Common.{◌≡◌, ℕ, zero, suc, slice_set, ◌+◌, ◌-◌, ◌≤◌, ◌<◌, get_or, List, [], ◌∷◌, ◌++◌, map, reverse, length, take, drop, refl, sym, ap}
use Rattle.std.proofs.Common.{subst, ◌∙◌, arith}
use Rattle.std.proofs.lemmas.List.{reverse-append, map-append, length-reverse, reverse-reverse, take-append-drop, length-drop}
use Rattle.std.proofs.Math.Seq.{take-append_seam, drop-append_seam, drop-length}
use Rattle.std.proofs.lemmas.List.{drop_more}
use Rattle.pie_value.specs.Tree.{Tree}
use Rattle.pie_vm.specs.Steps.{IsShort}
use Rattle.pie_value.specs.declared.value.Value.{Value}
use Rattle.pie_value.specs.Values.{tree_of, trees_of}
use Rattle.pie_vm.specs.Stacks.{flipped}

pub flipped_append : (xs ys : List Value) → flipped (xs ++ ys) ≡ reverse (trees_of ys) ++ flipped xs
flipped_append xs ys = ap reverse (map-append tree_of xs ys) ∙ reverse-append (trees_of xs) (trees_of ys)

pub flipped_end : (xs : List Value) (x : Value) → flipped (xs ++ x ∷ []) ≡ tree_of x ∷ flipped xs
flipped_end xs x = flipped_append xs (x ∷ [])

pub length_map : (xs : List Value) → length (trees_of xs) ≡ length xs
length_map [] = refl
length_map (x ∷ xs) = omega (arith, length_map xs)

pub flipped_length : (xs : List Value) → length (flipped xs) ≡ length xs
flipped_length xs = length-reverse (trees_of xs) ∙ length_map xs

-- two parts, the second of this length
module _ (n : ℕ) (xs ys : List Value) (e : length ys ≡ n) where
  length_is : length (reverse (trees_of ys)) ≡ n
  length_is = length-reverse (trees_of ys) ∙ length_map ys ∙ e

  taken : take n (flipped (xs ++ ys)) ≡ reverse (trees_of ys)
  taken = ap (take n) (flipped_append xs ys) ∙ ap (λ k. take k (reverse (trees_of ys) ++ flipped xs)) (sym length_is)
      ∙ take-append_seam (reverse (trees_of ys)) (flipped xs)

  left : drop n (flipped (xs ++ ys)) ≡ flipped xs
  left = ap (drop n) (flipped_append xs ys) ∙ ap (λ k. drop k (reverse (trees_of ys) ++ flipped xs)) (sym length_is)
      ∙ drop-append_seam (reverse (trees_of ys)) (flipped xs)

pub top_values : (n : ℕ) (xs : List Value) → n ≤ length (flipped xs) → trees_of (drop (length xs - n) xs) ≡ reverse (take n (flipped xs))
top_values n xs h =
    let k = flipped_length xs in
    let e : length (drop (length xs - n) xs) ≡ n = length-drop (length xs - n) xs ∙ omega arith in
    sym (reverse-reverse (trees_of (drop (length xs - n) xs)))
    ∙ ap reverse (sym (taken n (take (length xs - n) xs) (drop (length xs - n) xs) e))
    ∙ ap (λ ys. reverse (take n (flipped ys))) (take-append-drop (length xs - n) xs)

pub left_values : (n : ℕ) (xs : List Value) → n ≤ length (flipped xs) → flipped (take (length xs - n) xs) ≡ drop n (flipped xs)
left_values n xs h =
    let k = flipped_length xs in
    let e : length (drop (length xs - n) xs) ≡ n = length-drop (length xs - n) xs ∙ omega arith in
    sym (left n (take (length xs - n) xs) (drop (length xs - n) xs) e)
    ∙ ap (λ ys. drop n (flipped ys)) (take-append-drop (length xs - n) xs)

pub set_map : (xs : List Value) (n : ℕ) (v : Value) → trees_of (slice_set xs n v) ≡ slice_set (trees_of xs) n (tree_of v)
set_map [] n v = refl
set_map (x ∷ xs) zero v = refl
set_map (x ∷ xs) (suc n) v = ap (λ ys. tree_of x ∷ ys) (set_map xs n v)

-- the last two values are the top two
pub two_at_end : (xs : List Value) (a b : Value) → 2 ≤ length xs → b ≡ get_or xs (length xs - 1) b → a ≡ get_or xs (length xs - 2) a
    → (ts : List Tree) × (flipped xs ≡ tree_of b ∷ tree_of a ∷ ts)
two_at_end xs a b h p q =
    let n = length xs in
    let e : n - 2 + 1 ≡ n - 1 = omega arith in
    let f : n - 1 + 1 ≡ n = omega arith in
    let last : drop (n - 1) xs ≡ b ∷ [] =
    drop_more xs (n - 1) b (omega arith) ∙ ap (λ k. get_or xs (n - 1) b ∷ drop k xs) f ∙ ap (λ ys. get_or xs (n - 1) b ∷ ys) (drop-length xs)
    ∙ ap (λ x. x ∷ []) (sym p) in
    let two : drop (n - 2) xs ≡ a ∷ b ∷ [] =
    drop_more xs (n - 2) a (omega arith) ∙ ap (λ k. get_or xs (n - 2) a ∷ drop k xs) e ∙ ap (λ ys. get_or xs (n - 2) a ∷ ys) last
    ∙ ap (λ x. x ∷ b ∷ []) (sym q) in (
      flipped (take (n - 2) xs),
      ap flipped (sym (take-append-drop (n - 2) xs)) ∙ flipped_append (take (n - 2) xs) (drop (n - 2) xs)
          ∙ ap (λ ys. reverse (trees_of ys) ++ flipped (take (n - 2) xs)) two,
    )

pub is_short : (xs : List Value) → length xs < 2 → IsShort (flipped xs)
is_short [] h = tt
is_short (x ∷ []) h = tt
is_short (x ∷ y ∷ xs) h = absurd (omega arith)
