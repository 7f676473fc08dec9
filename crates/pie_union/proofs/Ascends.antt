-- Ascending numbers: where a number is found, and one more or one fewer.
use Rattle.std.proofs.Common.{◌≡◌, ◌&&◌, ◌||◌, not, ℕ, suc, ◌+◌, ◌-◌, ◌<◌, ◌≤◌, true, false, List, ◌∷◌, ◌++◌, map, length, take, drop, get_or, sym, ap, ◌∙◌}
use Rattle.std.proofs.Common.{subst, inl, inr, arith, eqb}
use Rattle.std.specs.Prelude.{Result, Ok, Err, is_ok}
use Rattle.std.specs.Ordering.{nat_cmp}
use Rattle.std.specs.List.{insert, remove}
use Rattle.std.specs.List.Sorted.{IsBinarySearchResult, IsStrictlyIncreasing}
use Rattle.std.proofs.lemmas.Bool.{cases_lt}
use Rattle.std.proofs.lemmas.List.{map-append, take-map, drop-map, length-map, get_or_default}
use Rattle.std.proofs.lemmas.List.Edits.{length-insert, get_or-insert_below, get_or-insert_at, get_or-insert_above}
use Rattle.std.proofs.lemmas.List.Edits.{length-remove, get_or-remove_below, get_or-remove_above}
use Rattle.std.proofs.lemmas.List.Kept.{AllPairs-from_increasing}
use Rattle.std.proofs.lemmas.List.Sorted.{searched}
use Rattle.std.proofs.Math.ListN as at
use Rattle.pie_graph.specs.declared.edges.TaskNo.{TaskNo}
use Rattle.pie_graph.specs.Numbers.{numbers}
use Rattle.pie_union.specs.inner.Among.{among}
use Rattle.pie_union.proofs.Members.{none_among, true_among, among_insert, among_remove, joined_again, left_before}

-- where a number belongs: behind those below it, before those above it
record IsPlace (ns : List ℕ) (x i : ℕ) : Type 0 where
  pub within : i ≤ length ns
  pub below : (k : ℕ) → k < i → get_or ns k 0 < x
  pub above : (k : ℕ) → i ≤ k → k < length ns → x < get_or ns k 0

up_insert : (xs : List ℕ) (i y : ℕ) → IsStrictlyIncreasing xs → IsPlace xs y i → IsStrictlyIncreasing (insert xs i y)
up_insert xs i y up p = λ k l.
    let long = length-insert xs i y p.within in
    elim (cases_lt (k + 1) i) [
      | inl both ↦
          omega (
            arith,
            get_or-insert_below xs i y 0 k (omega arith) p.within,
            get_or-insert_below xs i y 0 (k + 1) both p.within,
            up k (omega (arith, p.within)),
          )
      | inr past ↦ elim (cases_lt k i) [
        | inl under ↦
            let here : k + 1 ≡ i = omega arith in
            let there : get_or (insert xs i y) (k + 1) 0 ≡ y = ap (λ (n : ℕ). get_or (insert xs i y) n 0) here ∙ get_or-insert_at xs i y 0 p.within in
            omega (arith, get_or-insert_below xs i y 0 k under p.within, there, p.below k under)
        | inr over ↦ elim (cases_lt i k) [
          | inl beyond ↦
              let back : k ≡ k - 1 + 1 = omega arith in
              let first : get_or (insert xs i y) k 0 ≡ get_or xs (k - 1) 0 = ap (λ (n : ℕ). get_or (insert xs i y) n 0) back
              ∙ get_or-insert_above xs i y 0 (k - 1) (omega arith) p.within in
              let rises : get_or xs (k - 1) 0 < get_or xs k 0 = subst (λ (n : ℕ). get_or xs (k - 1) 0 < get_or xs n 0) (sym back) (up (k - 1) (omega arith)) in
              omega (arith, first, get_or-insert_above xs i y 0 k over p.within, rises)
          | inr same ↦
              let here : k ≡ i = omega arith in
              let first : get_or (insert xs i y) k 0 ≡ y = ap (λ (n : ℕ). get_or (insert xs i y) n 0) here ∙ get_or-insert_at xs i y 0 p.within in
              omega (arith, first, get_or-insert_above xs i y 0 k over p.within, p.above k over (omega arith))
        ]
      ]
    ]

up_remove : (xs : List ℕ) (i : ℕ) → IsStrictlyIncreasing xs → i < length xs → IsStrictlyIncreasing (remove xs i)
up_remove xs i up l = λ k lt.
    let short = length-remove xs i l in
    elim (cases_lt (k + 1) i) [
      | inl both ↦ omega (arith, get_or-remove_below xs i 0 k (omega arith) l, get_or-remove_below xs i 0 (k + 1) both l, up k (omega arith))
      | inr past ↦ elim (cases_lt k i) [
        | inl under ↦
            omega (arith, get_or-remove_below xs i 0 k under l, get_or-remove_above xs i 0 (k + 1) past l, up k (omega arith), up (k + 1) (omega arith))
        | inr over ↦ omega (arith, get_or-remove_above xs i 0 k over l, get_or-remove_above xs i 0 (k + 1) past l, up (k + 1) (omega arith))
      ]
    ]

numbers_insert : (ts : List TaskNo) (i : ℕ) (t : TaskNo) → numbers (insert ts i t) ≡ insert (numbers ts) i t.0
numbers_insert ts i t =
    let f : TaskNo → ℕ = λ t. t.0 in
    map-append f (take i ts) (t ∷ drop i ts) ∙ ap (λ (ns : List ℕ). ns ++ t.0 ∷ map f (drop i ts)) (sym (take-map f i ts))
    ∙ ap (λ (ns : List ℕ). take i (map f ts) ++ t.0 ∷ ns) (sym (drop-map f i ts))

numbers_remove : (ts : List TaskNo) (i : ℕ) → numbers (remove ts i) ≡ remove (numbers ts) i
numbers_remove ts i =
    let f : TaskNo → ℕ = λ t. t.0 in
    map-append f (take i ts) (drop (suc i) ts) ∙ ap (λ (ns : List ℕ). ns ++ map f (drop (suc i) ts)) (sym (take-map f i ts))
    ∙ ap (λ (ns : List ℕ). take i (map f ts) ++ ns) (sym (drop-map f (suc i) ts))

pub number_at : (ts : List TaskNo) (i : ℕ) (d : TaskNo) → get_or (numbers ts) i d.0 ≡ (get_or ts i d).0
number_at ts i d = at.get_or-map (λ (t : TaskNo). t.0) ts i d

-- a search among tasks is one among their numbers
by_number : (ts : List TaskNo) (x : ℕ) (r : Result ℕ ℕ) → IsBinarySearchResult (λ (t : TaskNo). nat_cmp t.0 x) ts r
    → IsBinarySearchResult (λ n. nat_cmp n x) (numbers ts) r
by_number ts x (Ok i) h = λ d. let t : TaskNo = record { 0 = d } in ap (λ n. nat_cmp n x) (number_at ts i t) ∙ h t
by_number ts x (Err i) h = λ up.
    let long = length-map ts (λ (t : TaskNo). t.0) in
    let parted = h (λ a b d le lt. rw (sym (number_at ts a d), sym (number_at ts b d)) (up a b d.0 le (omega arith))) in (
      λ k d low lt. let t : TaskNo = record { 0 = d } in ap (λ n. nat_cmp n x) (number_at ts k t) ∙ parted.0 k t low lt,
      λ k d low lt. let t : TaskNo = record { 0 = d } in ap (λ n. nat_cmp n x) (number_at ts k t) ∙ parted.1 k t low (omega arith),
    )

not_falling : (ns : List ℕ) → IsStrictlyIncreasing ns → (i j : ℕ) → i ≤ j → j < length ns → get_or ns i 0 ≤ get_or ns j 0
not_falling ns up i j le l =
    elim (cases_lt i j) [
      | inl lt ↦ omega (arith, AllPairs-from_increasing ns up i j 0 lt l)
      | inr ge ↦ let same : i ≡ j = omega arith in omega (arith, ap (λ (n : ℕ). get_or ns n 0) same)
    ]

module _ (ts : List TaskNo) (x : ℕ) (up : IsStrictlyIncreasing (numbers ts)) where
  -- where a search finds a number
  found_at : (i : ℕ) → IsBinarySearchResult (λ (t : TaskNo). nat_cmp t.0 x) ts (Ok i) → (i < length (numbers ts)) × (x ≡ get_or (numbers ts) i 0)
  found_at i h = let s = searched (numbers ts) x (Ok i) (by_number ts x (Ok i) h) (not_falling (numbers ts) up) in (s.0, sym s.1)

  -- where a search says that a number belongs
  place_at : (i : ℕ) → IsBinarySearchResult (λ (t : TaskNo). nat_cmp t.0 x) ts (Err i) → IsPlace (numbers ts) x i
  place_at i h = let s = searched (numbers ts) x (Err i) (by_number ts x (Err i) h) (not_falling (numbers ts) up) in
      record { within = s.0; below = s.1; above = s.2 }

  found_is_among : (i : ℕ) → IsBinarySearchResult (λ (t : TaskNo). nat_cmp t.0 x) ts (Ok i) → among (numbers ts) x ≡ true
  found_is_among i h =
      let f = found_at i h in
      true_among (numbers ts) x (i, f.0, get_or_default (numbers ts) i x 0 f.0 ∙ sym f.1)

  placed_is_new : (i : ℕ) → IsBinarySearchResult (λ (t : TaskNo). nat_cmp t.0 x) ts (Err i) → among (numbers ts) x ≡ false
  placed_is_new i h =
      let p = place_at i h in
      none_among (numbers ts) x (λ c. elim (cases_lt c.0 i) [
        | inl b ↦ omega (arith, p.below c.0 b, get_or_default (numbers ts) c.0 0 x c.1, c.2)
        | inr a ↦ omega (arith, p.above c.0 a c.1, get_or_default (numbers ts) c.0 0 x c.1, c.2)
      ])

  -- a search finds a number where it is there
  pub answer_is : (r : Result ℕ ℕ) → IsBinarySearchResult (λ (t : TaskNo). nat_cmp t.0 x) ts r → is_ok r ≡ among (numbers ts) x
  answer_is (Ok i) h = sym (found_is_among i h)
  answer_is (Err i) h = sym (placed_is_new i h)

-- a search through a slice is one through the list that it shows
pub shown : (x : ℕ) (now ts : List TaskNo) (r : Result ℕ ℕ) → now ≡ ts → IsBinarySearchResult (λ (t : TaskNo). nat_cmp t.0 x) now r
    → IsBinarySearchResult (λ (t : TaskNo). nat_cmp t.0 x) ts r
shown x now ts r e h = subst (λ (ts : List TaskNo). IsBinarySearchResult (λ (t : TaskNo). nat_cmp t.0 x) ts r) e h

pub inserted_up : (ts after : List TaskNo) (i : ℕ) (t : TaskNo) → IsStrictlyIncreasing (numbers ts)
    → IsBinarySearchResult (λ (s : TaskNo). nat_cmp s.0 t.0) ts (Err i) → after ≡ insert ts i t → IsStrictlyIncreasing (numbers after)
inserted_up ts after i t up h e =
    subst IsStrictlyIncreasing (sym (ap numbers e ∙ numbers_insert ts i t)) (up_insert (numbers ts) i t.0 up (place_at ts t.0 up i h))

pub inserted_among : (ts after : List TaskNo) (i : ℕ) (t : TaskNo) (k : ℕ) → after ≡ insert ts i t
    → among (numbers after) k ≡ (among (numbers ts) k || eqb k t.0)
inserted_among ts after i t k e =
    ap (λ (ns : List ℕ). among ns k) (ap numbers e ∙ numbers_insert ts i t) ∙ among_insert (numbers ts) i t.0 k

pub removed_up : (ts after : List TaskNo) (i x : ℕ) → IsStrictlyIncreasing (numbers ts) → IsBinarySearchResult (λ (s : TaskNo). nat_cmp s.0 x) ts (Ok i)
    → after ≡ remove ts i → IsStrictlyIncreasing (numbers after)
removed_up ts after i x up h e =
    subst IsStrictlyIncreasing (sym (ap numbers e ∙ numbers_remove ts i)) (up_remove (numbers ts) i up (found_at ts x up i h).0)

pub removed_among : (ts after : List TaskNo) (i x k : ℕ) → IsStrictlyIncreasing (numbers ts) → IsBinarySearchResult (λ (s : TaskNo). nat_cmp s.0 x) ts (Ok i)
    → after ≡ remove ts i → among (numbers after) k ≡ (among (numbers ts) k && not (eqb k x))
removed_among ts after i x k up h e =
    let f = found_at ts x up i h in
    ap (λ (ns : List ℕ). among ns k) (ap numbers e ∙ numbers_remove ts i) ∙ among_remove (numbers ts) i x k up f.0 f.1

-- a number that is there joins, and one that isn't leaves
pub there_already : (ts : List TaskNo) (i x k : ℕ) → IsStrictlyIncreasing (numbers ts) → IsBinarySearchResult (λ (s : TaskNo). nat_cmp s.0 x) ts (Ok i)
    → among (numbers ts) k ≡ (among (numbers ts) k || eqb k x)
there_already ts i x k up h = joined_again (numbers ts) x k (found_is_among ts x up i h)

pub never_there : (ts : List TaskNo) (i x k : ℕ) → IsStrictlyIncreasing (numbers ts) → IsBinarySearchResult (λ (s : TaskNo). nat_cmp s.0 x) ts (Err i)
    → among (numbers ts) k ≡ (among (numbers ts) k && not (eqb k x))
never_there ts i x k up h = left_before (numbers ts) x k (placed_is_new ts x up i h)
