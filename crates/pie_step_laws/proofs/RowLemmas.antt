-- The kept records in the order of heights and tasks are the rows of the store.
use Rattle.std.proofs.Common.{ℕ, suc, ◌≤◌, ◌<◌, ◌≡◌, Bool, true, false, cond, ltb, eqb, Option, Some, List, [], ◌∷◌, map, length, ◌⊎◌, inl, inr, sym, ◌∙◌, ap}
use Rattle.std.proofs.Common.{subst, refl, arith, ltb-true, ltb-false, eqb-true, eq-eqb}
use Rattle.std.specs.Prelude.{All, slice_index_or}
use Rattle.std.specs.List.{AllPairs}
use Rattle.std.specs.Ordering.{nat_cmp, is_lt, ordering_reverse}
use Rattle.std.specs.Cmp.Lexicographic.{slice_cmp}
use Rattle.std.specs.declared.cmp.Ordering.{Ordering}
use Rattle.std.specs.declared.cmp.Ordering.TheVariants.{Less, Equal, Greater}
use Rattle.std.proofs.lemmas.Cmp.{tied_itself, nat_list_cmp_total}
use Rattle.std.proofs.lemmas.Map.Lookups.{exact_bytes}
use Rattle.std.proofs.lemmas.List.Elements.{All-head, All-tail}
use Rattle.pie_model.specs.Paths.{among}
use Rattle.pie_model.specs.Tasks.{Task}
use Rattle.pie_model.specs.Evaluation.{World, Project, evaluation}
use Rattle.pie_model.specs.Records.{Record, record_of, needs_of}
use Rattle.pie_model.specs.inner.Consistent.{IsRecorded}
use Rattle.pie_model.specs.Built.{height, row_before, put_row, in_row_order, store_rows}
use Rattle.pie_model.proofs.Basics.{clash, among_here, among_there, among_split}
use Rattle.pie_model.proofs.LooksLemmas.{some_same}
use Rattle.pie_model.proofs.Ways.{task_of-evaluation}
use Rattle.pie_step_laws.specs.Table.{IsTable, Rests}
use Rattle.pie_step_laws.specs.Roots.{Between}
use Rattle.pie_step_laws.specs.Rows.{over, AreHeights, ComesBefore, AreRows}
use Rattle.pie_step_laws.proofs.Heights.{height_is}
use Rattle.pie_step_laws.proofs.Ordered.{put, sorted, sorted_has, has_sorted, Ascending, one_list, sorted_ascending}
use Rattle.pie_step_laws.proofs.RootLemmas.{all_entered}

-- ---- the order of tasks

-- the test of the order of rows, of two heights and two tasks
abbrev tested : ℕ → ℕ → Task → Task → Bool
tested m n s t = cond (ltb m n) true (cond (eqb m n) (is_lt (slice_cmp nat_cmp s t)) false)

less_is : (o : Ordering) → is_lt o ≡ true → o ≡ Less
less_is Less e = refl
less_is Equal e = clash false e refl
less_is Greater e = clash false e refl

equal_less : {A : Type 0} (o : Ordering) → o ≡ Equal → o ≡ Less → A
equal_less o e k = absurd (never (sym e ∙ k))
  where
    never : Equal ≡ Less → ⊥
    never q = cc

-- of two distinct tasks the one that does not come before comes after
turned : (s t : Task) (o : Ordering) → slice_cmp nat_cmp s t ≡ o → is_lt o ≡ false → (s ≡ t → ⊥) → slice_cmp nat_cmp t s ≡ Less
turned s t Less e k d = clash true refl k
turned s t Equal e k d = absurd (d (exact_bytes s t e))
turned s t Greater e k d = nat_list_cmp_total.antisymm t s ∙ ap ordering_reverse e

-- two tasks of which none comes before the other are one
pub not_before : (s t : Task) → is_lt (slice_cmp nat_cmp s t) ≡ false → is_lt (slice_cmp nat_cmp t s) ≡ false → s ≡ t
not_before s t h k = go (slice_cmp nat_cmp s t) refl h
  where
    go : (o : Ordering) → slice_cmp nat_cmp s t ≡ o → is_lt o ≡ false → s ≡ t
    go Less e q = clash true refl q
    go Equal e q = exact_bytes s t e
    go Greater e q = clash (is_lt (slice_cmp nat_cmp t s)) (ap is_lt (nat_list_cmp_total.antisymm t s ∙ ap ordering_reverse e)) k

module _ (h : Task → ℕ) where
  before_irreflexive : (x : Task) → ComesBefore h x x → ⊥
  before_irreflexive x (inl k) = never (h x) k
    where
      never : (a : ℕ) → a < a → ⊥
      never a q = omega arith
  before_irreflexive x (inr k) = equal_less (slice_cmp nat_cmp x x) (tied_itself nat_list_cmp_total x) k.1

  before_trans : (x y z : Task) → ComesBefore h x y → ComesBefore h y z → ComesBefore h x z
  before_trans x y z (inl k) (inl l) = inl (through (h x) (h y) (h z) k l)
    where
      through : (a b c : ℕ) → a < b → b < c → a < c
      through a b c p q = omega arith
  before_trans x y z (inl k) (inr l) = inl (subst (λ n. h x < n) l.0 k)
  before_trans x y z (inr k) (inl l) = inl (subst (λ n. n < h z) (sym k.0) l)
  before_trans x y z (inr k) (inr l) = inr (k.0 ∙ l.0, nat_list_cmp_total.trans x y z k.1 l.1)

  is_before : Task → Task → Bool
  is_before s t = tested (h s) (h t) s t

  before_yes : (s t : Task) → tested (h s) (h t) s t ≡ true → ComesBefore h s t
  before_yes s t e = go (ltb (h s) (h t)) refl e
    where
      tie : (c : Bool) → eqb (h s) (h t) ≡ c → cond c (is_lt (slice_cmp nat_cmp s t)) false ≡ true → ComesBefore h s t
      tie true k q = inr (eqb-true (h s) (h t) k, less_is (slice_cmp nat_cmp s t) q)
      tie false k q = clash false q refl

      go : (c : Bool) → ltb (h s) (h t) ≡ c → cond c true (cond (eqb (h s) (h t)) (is_lt (slice_cmp nat_cmp s t)) false) ≡ true → ComesBefore h s t
      go true k q = inl (ltb-true (h s) (h t) k)
      go false k q = tie (eqb (h s) (h t)) refl q

  before_other : (s t : Task) → tested (h s) (h t) s t ≡ false → (s ≡ t → ⊥) → ComesBefore h t s
  before_other s t e d = go (ltb (h s) (h t)) refl e
    where
      lower : (a b : ℕ) → b ≤ a → eqb a b ≡ false → b < a
      lower a b p q = above (apart a b q)
        where
          apart : (a b : ℕ) → eqb a b ≡ false → a ≡ b → ⊥
          apart a b q e = clash (eqb a b) (eq-eqb a b e) q

          above : (a ≡ b → ⊥) → b < a
          above f = grind (arith, f, p)

      tie : (c : Bool) → eqb (h s) (h t) ≡ c → h t ≤ h s → cond c (is_lt (slice_cmp nat_cmp s t)) false ≡ false → ComesBefore h t s
      tie true k l q = inr (sym (eqb-true (h s) (h t) k), turned s t (slice_cmp nat_cmp s t) refl q d)
      tie false k l q = inl (lower (h s) (h t) l k)

      go : (c : Bool) → ltb (h s) (h t) ≡ c → cond c true (cond (eqb (h s) (h t)) (is_lt (slice_cmp nat_cmp s t)) false) ≡ false → ComesBefore h t s
      go true k q = clash true refl q
      go false k q = tie (eqb (h s) (h t)) refl (ltb-false (h s) (h t) k) q

  -- rows in order have their tasks in order
  all_among : (Q : Task → Type 0) (rows : List Record) → All (λ (r : Record). Q r.task) rows → (y : Task)
      → among y (map (λ (r : Record). r.task) rows) ≡ true → Q y
  all_among Q [] a y i = clash false i refl
  all_among Q (r ∷ rs) a y i = go (among_split y r.task (map (λ (s : Record). s.task) rs) i) (all_among Q rs (All-tail (λ (s : Record). Q s.task) r rs a) y)
    where
      go : (y ≡ r.task) ⊎ (among y (map (λ (s : Record). s.task) rs) ≡ true) → (among y (map (λ (s : Record). s.task) rs) ≡ true → Q y) → Q y
      go (inl e) f = subst Q (sym e) (All-head (λ (s : Record). Q s.task) r rs a)
      go (inr k) f = f k

  rows_ascending : (rows : List Record) → AllPairs (λ (r s : Record). ComesBefore h r.task s.task) rows
      → Ascending (ComesBefore h) (map (λ (r : Record). r.task) rows)
  rows_ascending [] a = tt
  rows_ascending (r ∷ rs) a = (
    all_among (ComesBefore h r.task) rs (λ k d lt. a 0 (suc k) d (omega arith) (omega arith)),
    rows_ascending rs (λ i j d lt inside. a (suc i) (suc j) d (omega arith) (omega arith)),
  )

-- ---- the rows of the store

module _ (w : World) (P : Project) (R : Task → Option Record) (names : List Task) (h : Task → ℕ) (T : IsTable w P R names) (heights : AreHeights R h) where
  row_tested : (s t : Task) → IsRecorded R s → IsRecorded R t → row_before (evaluation w P s) (evaluation w P t) ≡ tested (h s) (h t) s t
  row_tested s t k l =
      λ i. tested (sym (height_is w P h R names T heights s k) i) (sym (height_is w P h R names T heights t l) i)
      (task_of-evaluation w P s i) (task_of-evaluation w P t i)

  put_same : (x : Task) (ys : List Task) → IsRecorded R x → ((y : Task) → among y ys ≡ true → IsRecorded R y)
      → put_row (evaluation w P x) (map (evaluation w P) ys) ≡ map (evaluation w P) (put (is_before h) x ys)
  unfolding is_before
  put_same x [] k f = refl
  put_same x (m ∷ ms) k f =
      ap (λ b. cond b (evaluation w P m ∷ put_row (evaluation w P x) (map (evaluation w P) ms))
      (evaluation w P x ∷ evaluation w P m ∷ map (evaluation w P) ms)) (row_tested m x (f m (among_here m ms)) k)
      ∙ go (tested (h m) (h x) m x) (put_same x ms k (λ y i. f y (among_there y m ms i)))
    where
      go : (b : Bool) → put_row (evaluation w P x) (map (evaluation w P) ms) ≡ map (evaluation w P) (put (is_before h) x ms)
          → cond b (evaluation w P m ∷ put_row (evaluation w P x) (map (evaluation w P) ms)) (evaluation w P x ∷ evaluation w P m ∷ map (evaluation w P) ms)
          ≡ map (evaluation w P) (cond b (m ∷ put (is_before h) x ms) (x ∷ m ∷ ms))
      go true e = ap (λ z. evaluation w P m ∷ z) e
      go false e = refl

  order_same : (ts : List Task) → ((t : Task) → among t ts ≡ true → IsRecorded R t)
      → in_row_order (map (evaluation w P) ts) ≡ map (evaluation w P) (sorted (is_before h) ts)
  order_same [] f = refl
  order_same (t ∷ ts) f =
      ap (put_row (evaluation w P t)) (order_same ts (λ x i. f x (among_there x t ts i)))
      ∙ put_same t (sorted (is_before h) ts) (f t (among_here t ts))
      (λ y i. f y (among_there y t ts (has_sorted (is_before h) y ts i)))

  -- each row is the record of its task's evaluation
  rows_are : (rows : List Record) → All (λ (r : Record). R r.task ≡ Some r) rows
      → rows ≡ map (record_of w) (map (evaluation w P) (map (λ (r : Record). r.task) rows))
  rows_are [] a = refl
  rows_are (r ∷ rs) a =
      ap (λ z. z ∷ rs) (T.right r.task r (All-head (λ (s : Record). R s.task ≡ Some s) r rs a))
      ∙ ap (λ z. record_of w (evaluation w P r.task) ∷ z) (rows_are rs (All-tail (λ (s : Record). R s.task ≡ Some s) r rs a))

  rows_counted : (rows : List Record) → All (λ (r : Record). R r.task ≡ Some r) rows → (t : Task)
      → among t (map (λ (r : Record). r.task) rows) ≡ true → among t names ≡ true
  rows_counted [] a t i = clash false i refl
  rows_counted (r ∷ rs) a t i =
      go (among_split t r.task (map (λ (s : Record). s.task) rs) i) (rows_counted rs (All-tail (λ (s : Record). R s.task ≡ Some s) r rs a) t)
    where
      go : (t ≡ r.task) ⊎ (among t (map (λ (s : Record). s.task) rs) ≡ true)
          → (among t (map (λ (s : Record). s.task) rs) ≡ true → among t names ≡ true) → among t names ≡ true
      go (inl e) f = subst (λ z. among z names ≡ true) (sym e) (T.counted r.task r (All-head (λ (s : Record). R s.task ≡ Some s) r rs a))
      go (inr k) f = f k

  tasks_are : (rows : List Record) → AreRows R names h rows → map (λ (r : Record). r.task) rows ≡ sorted (is_before h) names
  unfolding is_before
  tasks_are rows A =
      one_list (ComesBefore h) (before_irreflexive h) (before_trans h) (map (λ (r : Record). r.task) rows) (sorted (is_before h) names)
      (rows_ascending h rows A.ascending)
      (sorted_ascending (ComesBefore h) (before_irreflexive h) (before_trans h) (is_before h) (before_yes h) (before_other h) names T.distinct)
      (λ t i. sorted_has (is_before h) t names (rows_counted rows A.kept t i))
      (λ t i. A.whole t (has_sorted (is_before h) t names i))

pub rows_stored : (w : World) (P : Project) (roots : List Task) (R : Task → Option Record) (names : List Task) (h : Task → ℕ) (rows : List Record)
    → Between w P roots R names → AreHeights R h → AreRows R names h rows → rows ≡ store_rows w P roots
rows_stored w P roots R names h rows B H A =
    rows_are w P R names h B.rests.table H rows A.kept
    ∙ ap (λ z. map (record_of w) (map (evaluation w P) z)) (tasks_are w P R names h B.rests.table H rows A)
    ∙ ap (map (record_of w)) (sym (order_same w P R names h B.rests.table H names B.rests.all))
    ∙ ap (λ z. map (record_of w) (in_row_order (map (evaluation w P) z))) (sym (all_entered w P roots R names B))

pub height_live : (w : World) (P : Project) (R : Task → Option Record) (names : List Task) (h : Task → ℕ) (t : Task) → Rests w P R names → AreHeights R h
    → among t names ≡ true → h t ≡ height (evaluation w P t)
height_live w P R names h t Q H i = height_is w P h R names Q.table H t (Q.all t i)

pub heights_of_rows : (w : World) (P : Project) (R : Task → Option Record) (names : List Task) (h : Task → ℕ) (rows : List Record) → Rests w P R names
    → AreRows R names h rows → All (λ (r : Record). h r.task ≡ over h (needs_of r.observations) 0) rows → AreHeights R h
heights_of_rows w P R names h rows Q A H t r e =
    all_among h (λ y. (s : Record) → R y ≡ Some s → h y ≡ over h (needs_of s.observations) 0) rows (λ k d lt. at k d lt) t
    (A.whole t (Q.table.counted t r e)) r e
  where
    at : (k : ℕ) (d : Record) → k < length rows → (s : Record) → R (slice_index_or rows k d).task ≡ Some s
        → h (slice_index_or rows k d).task ≡ over h (needs_of s.observations) 0
    at k d lt s q =
        subst (λ z. h (slice_index_or rows k d).task ≡ over h (needs_of z.observations) 0)
        (some_same (slice_index_or rows k d) s (sym (A.kept k d lt) ∙ q)) (H k d lt)
