-- What stands before a slash of a path is a path, and before the last slash it is the parent.
use Rattle.std.proofs.Common.{◌≡◌, ℕ, ◌+◌, ◌<◌, ◌≤◌, Bool, true, false, not, cond, ◌&&◌, zero, suc, List, [], ◌∷◌, ◌++◌, length, length-append, get_or, take}
use Rattle.std.proofs.Common.{drop, refl, sym, ap, ◌∙◌, subst, arith, add-one, nat_lt, ◌==◌}
use Rattle.std.specs.Prelude.{◌||◌, Some, None, IsTrue, slice_index}
use Rattle.std.specs.Option.{option_map_or, option_map}
use Rattle.std.specs.List.{list_all, list_any, onto_first, position}
use Rattle.std.proofs.lemmas.Bool.{and_parts, and_from, false≢true}
use Rattle.std.proofs.lemmas.List.{take-append-drop, length-take-le, get_or-append-add}
use Rattle.std.proofs.lemmas.List.Splits.{length-slice_split}
use Rattle.std.proofs.Math.Seq.{drop-cons, take-append-add}
use Rattle.std.proofs.Math.Seq.{take-length}
use borrow.Author.Tests.{ltb-true, eqb-true}
use Rattle.pie_base.proofs.Segments.{before_first_at, before_first_none, slash_found}
use Rattle.pie_base.specs.Path.{is_slash, is_segment, segments, is_path, parent_of, rest_below, first_segment, EndsParent, EndsEntry}

-- a list with its element at i taken out of the middle
pub cut_at : (xs : List ℕ) (i : ℕ) → i < length xs → xs ≡ take i xs ++ (slice_index xs i ∷ drop (i + 1) xs)
cut_at xs i h = sym (take-append-drop i xs) ∙ ap (λ r. take i xs ++ r) (drop-cons xs i 0 h ∙ ap (λ k. get_or xs i 0 ∷ drop k xs) (sym (add-one i)))

onto_first_append : (x : ℕ) (parts others : List (List ℕ)) → 0 < length parts → onto_first x (parts ++ others) ≡ onto_first x parts ++ others
onto_first_append x [] others h = absurd (omega arith)
onto_first_append x (part ∷ parts) others h = refl

some_part : (xs : List ℕ) → 0 < length (segments xs)
some_part xs = omega (arith, length-slice_split is_slash xs)

-- the segments before a slash stand before those after it
pub segments_append : (xs ys : List ℕ) → segments (xs ++ 47 ∷ ys) ≡ segments xs ++ segments ys
segments_append [] ys = refl
segments_append (x ∷ xs) ys =
    elim (is_slash x) as (λ b. cond b ([] ∷ segments (xs ++ 47 ∷ ys)) (onto_first x (segments (xs ++ 47 ∷ ys)))
    ≡ cond b ([] ∷ segments xs) (onto_first x (segments xs)) ++ segments ys) [
      | true ↦ ap (λ s. [] ∷ s) (segments_append xs ys)
      | false ↦ ap (onto_first x) (segments_append xs ys) ∙ onto_first_append x (segments xs) (segments ys) (some_part xs)
    ]

front_passes : (test : List ℕ → Bool) (xs ys : List (List ℕ)) → list_all test (xs ++ ys) ≡ true → list_all test xs ≡ true
front_passes test [] ys h = refl
front_passes test (x ∷ xs) ys h =
    let parts : (test x ≡ true) × (list_all test (xs ++ ys) ≡ true) = and_parts (test x) (list_all test (xs ++ ys)) h in
    and_from (test x) (list_all test xs) parts.0 (front_passes test xs ys parts.1)

some_not_zero : (n : ℕ) → not (suc n == 0) ≡ true
some_not_zero n = grind arith

not_empty : (xs : List ℕ) → list_all is_segment (segments xs) ≡ true → not (length xs == 0) ≡ true
not_empty [] h = absurd (false≢true h)
not_empty (x ∷ xs) h = some_not_zero (length xs)

no_longer : (m n : ℕ) → m ≤ n → not (nat_lt 255 n) ≡ true → not (nat_lt 255 m) ≡ true
no_longer m n le h =
    elim (nat_lt 255 m) as (λ b. nat_lt 255 m ≡ b → not b ≡ true) [
      | true ↦ λ e. let longer : 255 < n = omega (arith, ltb-true 255 m e) in absurd (false≢true (ap not (sym (below 255 n longer)) ∙ h))
      | false ↦ λ _. refl
    ] refl
  where
    below : (a b : ℕ) → a < b → nat_lt a b ≡ true
    below a b l = grind arith

-- what stands before a slash of a path is a path
pub prefix_is_path : (path : List ℕ) (end : ℕ) → IsTrue (is_path path) → end < length path → slice_index path end ≡ 47 → IsTrue (is_path (take end path))
prefix_is_path path end is inside slash =
    let outer = and_parts (not (length path == 0) && not (nat_lt 255 (length path))) (list_all is_segment (segments path)) is in
    let inner = and_parts (not (length path == 0)) (not (nat_lt 255 (length path))) outer.0 in
    let whole : path ≡ take end path ++ (47 ∷ drop (end + 1) path) = cut_at path end inside ∙ ap (λ b. take end path ++ (b ∷ drop (end + 1) path)) slash in
    let split : segments path ≡ segments (take end path) ++ segments (drop (end + 1) path) = ap segments whole
    ∙ segments_append (take end path) (drop (end + 1) path) in
    let good : list_all is_segment (segments (take end path)) ≡ true =
    front_passes is_segment (segments (take end path)) (segments (drop (end + 1) path)) (ap (list_all is_segment) (sym split) ∙ outer.1) in
    let short : length (take end path) ≤ length path = omega (arith, length-take-le end path (omega arith)) in
    and_from (not (length (take end path) == 0) && not (nat_lt 255 (length (take end path)))) (list_all is_segment (segments (take end path)))
    (and_from (not (length (take end path) == 0)) (not (nat_lt 255 (length (take end path)))) (not_empty (take end path) good)
    (no_longer (length (take end path)) (length path) short inner.1))
    good

-- no slash stands behind this place
pub no_parent : (path : List ℕ) → list_any is_slash path ≡ false → parent_of path ≡ None
no_parent [] h = refl
no_parent (b ∷ path) h =
    elim (is_slash b) as (λ s. is_slash b ≡ s → option_map_or (λ front. Some (b ∷ front)) (parent_of path) (cond s (Some []) None) ≡ None) [
      | true ↦ λ e. absurd (false≢true (sym h ∙ ap (λ s. s || list_any is_slash path) e))
      | false ↦ λ e. ap (λ p. option_map_or (λ front. Some (b ∷ front)) p None) (no_parent path (sym (ap (λ s. s || list_any is_slash path) e) ∙ h))
    ] refl

pub parent_at : (path : List ℕ) (end : ℕ) → end < length path → slice_index path end ≡ 47 → list_any is_slash (drop (end + 1) path) ≡ false
    → parent_of path ≡ Some (take end path)
parent_at [] end inside slash none = absurd (omega arith)
parent_at (b ∷ path) zero inside slash none =
    ap (λ p. option_map_or (λ front. Some (b ∷ front)) p (cond (is_slash b) (Some []) None)) (no_parent path none)
    ∙ ap (λ c. cond (is_slash c) (Some []) None) slash
parent_at (b ∷ path) (suc n) inside slash none =
    let e : suc n + 1 ≡ suc (n + 1) = omega arith in
    ap (λ p. option_map_or (λ front. Some (b ∷ front)) p (cond (is_slash b) (Some []) None))
    (parent_at path n (omega arith) slash (subst (λ k. list_any is_slash (drop k (b ∷ path)) ≡ false) e none))

pub ends_parent : (path : List ℕ) (end : ℕ) → end < length path → slice_index path end ≡ 47 → list_any is_slash (drop (end + 1) path) ≡ false
    → EndsParent path end
ends_parent path end inside slash none = record { inside = inside; slash = slash; parent = parent_at path end inside slash none }

-- one more element without a slash
pub none_more : (path : List ℕ) (end : ℕ) → end < length path → (slice_index path end ≡ 47 → ⊥) → list_any is_slash (drop (end + 1) path) ≡ false
    → list_any is_slash (drop end path) ≡ false
none_more path end inside other none =
    ap (list_any is_slash) (drop-cons path end 0 inside)
    ∙ ap (λ k. is_slash (slice_index path end) || list_any is_slash (drop k path)) (sym (add-one end))
    ∙ ap (λ b. b || list_any is_slash (drop (end + 1) path)) (not_equal (slice_index path end) 47 other)
    ∙ none
  where
    not_equal : (a b : ℕ) → (a ≡ b → ⊥) → (a == b) ≡ false
    not_equal a b h = grind arith

-- a path below a directory is the directory, a slash and the rest
pub below_is : (dir path rest : List ℕ) → rest_below dir path ≡ Some rest → path ≡ dir ++ (47 ∷ rest)
below_is [] [] rest h = cc
below_is [] (b ∷ path) rest h =
    elim (b == 47) as (λ t. (b == 47) ≡ t → cond t (Some path) None ≡ Some rest → b ∷ path ≡ 47 ∷ rest) [
      | true ↦ λ e h. let same : b ≡ 47 = eqb-true b 47 e in cc
      | false ↦ λ e h. cc
    ] refl h
below_is (d ∷ dir) [] rest h = cc
below_is (d ∷ dir) (b ∷ path) rest h =
    elim (d == b) as (λ t. (d == b) ≡ t → cond t (rest_below dir path) None ≡ Some rest → b ∷ path ≡ d ∷ (dir ++ (47 ∷ rest))) [
      | true ↦ λ e h. let same : d ≡ b = eqb-true d b e in let more : path ≡ dir ++ (47 ∷ rest) = below_is dir path rest h in cc
      | false ↦ λ e h. cc
    ] refl h

-- what the place of the first slash behind the directory says of the entry
pub entry_ends : (dir path rest : List ℕ) (end : ℕ) → rest_below dir path ≡ Some rest → position is_slash rest ≡ Some end
    → EndsEntry dir path (length dir + 1 + end)
entry_ends dir path rest end below at =
    let whole : path ≡ dir ++ (47 ∷ rest) = below_is dir path rest below in
    let found : (end < length rest) × (slice_index rest end ≡ 47) = slash_found rest end at in
    let e : length dir + 1 + end ≡ length dir + suc end = omega arith in
    let len : length path ≡ length dir + suc (length rest) = ap length whole ∙ length-append dir (47 ∷ rest) in
    record {
      inside = omega (arith, found.0);
      slash = λ _. ap (λ p. slice_index p (length dir + 1 + end)) whole ∙ ap (slice_index (dir ++ (47 ∷ rest))) e
          ∙ get_or-append-add dir (47 ∷ rest) (suc end) 0 ∙ found.1;
      entry = ap (option_map (λ r. dir ++ (47 ∷ first_segment r))) below
          ∙ ap (λ r. Some (dir ++ (47 ∷ r))) (sym (before_first_at rest end at))
          ∙ ap Some (sym (take-append-add dir (47 ∷ rest) (suc end)) ∙ ap (λ k. take k (dir ++ (47 ∷ rest))) (sym e)
          ∙ ap (take (length dir + 1 + end)) (sym whole));
    }

pub entry_all : (dir path rest : List ℕ) → rest_below dir path ≡ Some rest → position is_slash rest ≡ None → EndsEntry dir path (length path)
entry_all dir path rest below none = record {
  inside = omega arith;
  slash = λ less. absurd (omega arith);
  entry = ap (option_map (λ r. dir ++ (47 ∷ first_segment r))) below
      ∙ ap (λ r. Some (dir ++ (47 ∷ r))) (sym (before_first_none rest none))
      ∙ ap Some (sym (below_is dir path rest below) ∙ sym (take-length path));
}
