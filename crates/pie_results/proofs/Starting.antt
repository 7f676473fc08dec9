-- The numbers of roots, one root after another.
use Rattle.std.proofs.Common.{◌≡◌, ℕ, zero, suc, ◌+◌, ◌<◌, ◌≤◌, List, [], ◌∷◌, ◌++◌, length, get_or, take, map, Some, sym, ap, subst, ◌∙◌, refl, arith, inl, inr}
use Rattle.std.specs.Prelude.{Contains, slice_get}
use Rattle.std.proofs.lemmas.List.{get_or-map, get_or_default, length-map, take_all, take_more, map-append}
use Rattle.std.proofs.lemmas.List.Elements.{All-contains, Contains-append_cases, Contains-append_left, Contains-append_right, Contains-get_or}
use Rattle.std.proofs.lemmas.Option.{slice_get_within}
use Rattle.pie_value.specs.declared.task.Task.{Task}
use Rattle.pie_graph.specs.declared.edges.TaskNo.{TaskNo}
use Rattle.pie_graph.specs.Numbers.{numbers, AllBelow, Exactly}
use Rattle.pie_graph.specs.Rows.{Row, row_at, NeedsBelow}
use Rattle.pie_graph.proofs.RowLemmas.{needs_below_at}
use Rattle.pie_reach.specs.inner.Reaches.{itself, step, Reaches, ReachedFrom}
use Rattle.pie_results.specs.inner.Live.{AreStarts}

-- what stands in a list of one
pub the_one : {X : Type 0} (x y : X) → Contains (x ∷ []) y → x ≡ y
the_one {X} x y c = by c.0 c.1 c.2
  where
    by : (i : ℕ) → i < 1 → get_or (x ∷ []) i y ≡ y → x ≡ y
    by zero l e = e
    by (suc i) l e = absurd (omega (arith, l))

pub has_map : {X Y : Type 0} (f : X → Y) (xs : List X) (x : X) → Contains xs x → Contains (map f xs) (f x)
has_map f xs x c = (c.0, let long = length-map xs f in omega (arith, long, c.1), get_or-map f xs c.0 x (f x) c.1 ∙ ap f c.2)

pub map_has : {X Y : Type 0} (f : X → Y) (xs : List X) (y : Y) → Contains (map f xs) y → (x : X) × Contains xs x × (y ≡ f x)
map_has f [] y c = absurd (omega (arith, c.1))
map_has f (x ∷ xs) y c =
    let inside : c.0 < length (x ∷ xs) = let long = length-map (x ∷ xs) f in omega (arith, long, c.1) in
    (get_or (x ∷ xs) c.0 x, Contains-get_or (x ∷ xs) c.0 x inside, sym c.2 ∙ get_or-map f (x ∷ xs) c.0 x y inside)

pub starts_none : (names : List Task) → AreStarts names [] []
starts_none names = record {
  only = λ n c. absurd (omega (arith, c.1));
  each = λ t c m. absurd (omega (arith, c.1));
}

kept_only : (names seen : List Task) (t : Task) (nos : List ℕ) → AreStarts names seen nos → (n : ℕ) → Contains nos n
    → (u : Task) × Contains (seen ++ t ∷ []) u × (slice_get names n ≡ Some u)
kept_only names seen t nos are n c = let h = are.only n c in (h.0, Contains-append_left seen (t ∷ []) h.0 h.1, h.2)

pub starts_with : (names seen : List Task) (t : Task) (nos : List TaskNo) (new : List TaskNo) (number : TaskNo) → slice_get names number.0 ≡ Some t
    → new ≡ nos ++ number ∷ [] → AreStarts names seen (numbers nos) → AreStarts names (seen ++ t ∷ []) (numbers new)
starts_with names seen t nos new number e w are =
    let grown : numbers new ≡ numbers nos ++ number.0 ∷ [] = ap numbers w ∙ map-append (λ (x : TaskNo). x.0) nos (number ∷ []) in
    subst (AreStarts names (seen ++ t ∷ [])) (sym grown) (record {
      only = λ n c. elim (Contains-append_cases (numbers nos) (number.0 ∷ []) n c) [
        | inl old ↦ kept_only names seen t (numbers nos) are n old
        | inr last ↦
            (t, Contains-append_right seen (t ∷ []) t (0, omega arith, refl), ap (slice_get names) (sym (the_one number.0 n last)) ∙ e)
      ];
      each = λ u c m. elim (Contains-append_cases seen (t ∷ []) u c) [
        | inl old ↦ let h = are.each u old m in (h.0, h.1, Contains-append_left (numbers nos) (number.0 ∷ []) h.0 h.2)
        | inr last ↦
            (number.0, e ∙ ap Some (the_one t u last), Contains-append_right (numbers nos) (number.0 ∷ []) number.0 (0, omega arith, refl))
      ];
    })

pub starts_without : (names seen : List Task) (t : Task) (nos : List ℕ) → (Contains names t → ⊥) → AreStarts names seen nos
    → AreStarts names (seen ++ t ∷ []) nos
starts_without names seen t nos none are = record {
  only = kept_only names seen t nos are;
  each = λ u c m. elim (Contains-append_cases seen (t ∷ []) u c) [
    | inl old ↦ are.each u old m
    | inr last ↦ absurd (none (subst (Contains names) (sym (the_one t u last)) m))
  ];
}

-- a list up to one place more
pub seen_more : {X : Type 0} (P : List X → Type 0) (xs : List X) (i : ℕ) (x : X) → i < length xs → x ≡ get_or xs i x → P (take i xs ++ x ∷ [])
    → P (take (i + 1) xs)
seen_more P xs i x l e p =
    subst P (sym (take_more xs i x l)) (subst (λ y. P (take i xs ++ y ∷ [])) e p)

pub seen_all : {X : Type 0} (P : List X → Type 0) (xs : List X) (i : ℕ) → length xs ≤ i → P (take i xs) → P xs
seen_all P xs i l p = subst P (take_all i xs l) p

pub starts_below : (names roots : List Task) (nos : List ℕ) → AreStarts names roots nos → AllBelow (length names) nos
starts_below names roots nos are k d lt =
    let h = are.only (get_or nos k d) (k, lt, same) in slice_get_within names (get_or nos k d) h.0 h.2
  where
    same : get_or nos k (get_or nos k d) ≡ get_or nos k d
    same = get_or_default nos k (get_or nos k d) d lt

reach_below : (rows : List Row) (root n : ℕ) → NeedsBelow rows → root < length rows → Reaches rows root n → n < length rows
reach_below rows root n below l (itself {a}) = l
reach_below rows root n below l (step {a} {b} {c} calls rest) =
    reach_below rows b n below (All-contains (λ (k : ℕ). k < length rows) (row_at rows root).needs b (needs_below_at rows root below) calls) rest

-- what roots reach has a number
pub live_below : (names roots : List Task) (rows : List Row) (starts live : List ℕ) → length names ≡ length rows → NeedsBelow rows
    → AreStarts names roots starts → Exactly (ReachedFrom rows starts) live → AllBelow (length names) live
live_below names roots rows starts live size below are exactly k d lt =
    let n = get_or live k d in
    let here : Contains live n = (k, lt, get_or_default live k n d lt) in
    let from = exactly.only n here in
    let first = are.only from.0 from.1 in
    let inside : from.0 < length names = slice_get_within names from.0 first.0 first.2 in
    let low = reach_below rows from.0 n below (omega (arith, inside, size)) from.2 in
    omega (arith, low, size)

-- a place in a list of numbers
pub number_at : (nos : List TaskNo) (i : ℕ) (t : TaskNo) → i < length nos → t ≡ get_or nos i t → (i < length (numbers nos)) × (t.0 ≡ get_or (numbers nos) i t.0)
number_at nos i t l e =
    let size = length-map nos (λ (x : TaskNo). x.0) in
    (omega (arith, l, size), ap (λ (x : TaskNo). x.0) e ∙ sym (get_or-map (λ (x : TaskNo). x.0) nos i t t.0 l))

pub number_in : (nos : List TaskNo) (i : ℕ) (t : TaskNo) → i < length nos → t ≡ get_or nos i t → Contains (numbers nos) t.0
number_in nos i t l e = let h = number_at nos i t l e in (i, h.0, sym h.1)

-- the number at a place, as it is copied
abbrev pub item : List TaskNo → ℕ → TaskNo
item nos i = get_or nos i (record { 0 = 0 })

pub item_is : (nos : List TaskNo) (i : ℕ) → i < length nos → item nos i ≡ get_or nos i (item nos i)
item_is nos i l = get_or_default nos i (record { 0 = 0 }) (item nos i) l
