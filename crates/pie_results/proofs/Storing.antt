-- The records of live tasks that have ended can stand in a store.
use Rattle.std.proofs.Common.{◌≡◌, ℕ, zero, suc, ◌+◌, ◌-◌, ◌<◌, ◌≤◌, max, List, [], ◌∷◌, length, get_or, map, Option, Some, sym, ap, subst, refl, ◌∙◌, arith, inl, inr}
use Rattle.std.specs.Prelude.{All, Contains, slice_get, slice_index}
use Rattle.std.specs.List.{AllPairs}
use Rattle.std.specs.List.Sorted.{IsStrictlyIncreasing}
use Rattle.std.proofs.lemmas.Bool.{cases_lt}
use Rattle.std.proofs.lemmas.List.Elements.{Contains-get_or}
use Rattle.std.proofs.lemmas.List.Kept.{AllPairs-from_increasing}
use Rattle.std.proofs.lemmas.Option.{slice_get_within, get_or_from_slice_get}
use Rattle.pie_value.specs.declared.task.Task.{Task}
use Rattle.pie_value.specs.Canonical.{enc_task, IsCanonicalTask}
use Rattle.pie_graph.specs.Numbers.{AllBelow}
use Rattle.pie_graph.specs.Rows.{Row, row_at, Calls}
use Rattle.pie_reach.specs.inner.Reaches.{itself, step, Reaches, height_over}
use Rattle.pie_record.specs.declared.task_record.TaskRecord.{TaskRecord}
use Rattle.pie_record.specs.inner.Names.{AreDistinct}
use Rattle.pie_store.specs.Canonical.{needs, over, tasks_in}
use Rattle.pie_tables.specs.declared.tables.Tables.{Tables}
use Rattle.pie_tables.specs.Tabled.{IsTables}
use Rattle.pie_view.specs.Content.{Staged}
use Rattle.pie_checks.specs.declared.built.Built.{Built}
use Rattle.pie_results.specs.inner.Live.{AreLive}
use Rattle.pie_results.specs.inner.Made.{Collects}
use Rattle.pie_results.specs.inner.Ordered.{HasHeights, IsOfLive}
use Rattle.pie_results.specs.inner.Stored.{CanBeStored, HaveEnded, IsEnded}
use Rattle.pie_results.proofs.Heights.{in_order, height_in, height_at}
use Rattle.pie_results.proofs.Ordering.{record_there, some_same}
use Rattle.pie_results.proofs.Starting.{has_map, map_has}

-- ---- heights

over_max : (height : Task → ℕ) (ts : List Task) (n : ℕ) → over height ts n ≡ max n (height_over (map height ts))
over_max height [] n = omega arith
over_max height (t ∷ ts) n = let rest = over_max height ts (max n (height t + 1)) in omega (arith, rest)

cons_head : {X : Type 0} (x y : X) (xs ys : List X) → x ∷ xs ≡ y ∷ ys → x ≡ y
cons_head x y xs ys e = cc

cons_tail : {X : Type 0} (x y : X) (xs ys : List X) → x ∷ xs ≡ y ∷ ys → xs ≡ ys
cons_tail x y xs ys e = cc

heights_same : (names : List Task) (heights : List ℕ) (height : Task → ℕ) → HasHeights names heights height → (ks : List ℕ) (ts : List Task)
    → map (slice_get names) ks ≡ map Some ts → map (slice_index heights) ks ≡ map height ts
heights_same names heights height has [] [] e = refl
heights_same names heights height has [] (t ∷ ts) e = absurd (cc)
heights_same names heights height has (k ∷ ks) [] e = absurd (cc)
heights_same names heights height has (k ∷ ks) (t ∷ ts) e =
    let named : slice_get names k ≡ Some t = cons_head (slice_get names k) (Some t) (map (slice_get names) ks) (map Some ts) e in
    let here : slice_index heights k ≡ height t = sym (has k t named) in
    ap (λ (h : ℕ). h ∷ map (slice_index heights) ks) here
    ∙ ap (λ (hs : List ℕ). height t ∷ hs)
    (heights_same names heights height has ks ts (cons_tail (slice_get names k) (Some t) (map (slice_get names) ks) (map Some ts) e))

-- ---- live tasks

reach_more : (rows : List Row) (root n k : ℕ) → Reaches rows root n → Calls rows n k → Reaches rows root k
reach_more rows root n k (itself {a}) calls = step calls itself
reach_more rows root n k (step {a} {b} {c} goes rest) calls = step goes (reach_more rows b n k rest calls)

live_goes : (names roots : List Task) (rows : List Row) (live : List ℕ) (n k : ℕ) → AreLive names roots rows live → Contains live n → Calls rows n k
    → Contains live k
live_goes names roots rows live n k are c calls =
    let from = are.exactly.only n c in are.exactly.each k (from.0, from.1, reach_more rows from.0 n k from.2 calls)

root_live : (names roots : List Task) (rows : List Row) (live : List ℕ) (t : Task) → AreLive names roots rows live → Contains roots t → Contains names t
    → (n : ℕ) × (slice_get names n ≡ Some t) × Contains live n
root_live names roots rows live t are c m =
    let at = are.are.each t c m in (at.0, at.1, are.exactly.each at.0 (at.0, at.2, itself))

-- ---- few numbers

rises : (xs : List ℕ) → AllPairs (λ x y. x < y) xs → (i : ℕ) → i < length xs → i ≤ get_or xs i 0
rises xs asc zero l = omega arith
rises xs asc (suc i) l =
    let before = rises xs asc i (omega (arith, l)) in
    let up = asc i (suc i) 0 (omega arith) l in
    omega (arith, before, up)

few_below : (xs : List ℕ) (m : ℕ) → IsStrictlyIncreasing xs → AllBelow m xs → length xs ≤ m
few_below xs m asc below = elim (cases_lt 0 (length xs)) [
  | inl some ↦
      let last = length xs - 1 in
      let inside : last < length xs = omega (arith, some) in
      let high = rises xs (AllPairs-from_increasing xs asc) last inside in
      let low = below last 0 inside in
      omega (arith, some, high, low)
  | inr none ↦ omega (arith, none)
]

-- ---- all of it

module _ (t : Tables) (rows : List Row) (staged : Staged) (roots : List Task) (live : List ℕ) (b : Built) (is : IsTables t) (distinct : AreDistinct t.names)
    (told : All (λ (u : Task). IsCanonicalTask u (enc_task u)) t.names) (size : length t.names ≡ length rows) (below : AllBelow (length t.names) live)
    (are : AreLive t.names roots rows live) (made : Collects t rows staged roots live b) (ended : HaveEnded t.names t.records rows roots) where
  abbrev height : Task → ℕ
  height = height_in t.names made.heights

  has_heights : HasHeights t.names made.heights height
  has_heights n u named = height_at t.names made.heights n u (made.high.as_many ∙ sym size) told distinct named

  -- what is known of a record
  ended_at : (r : TaskRecord) (o : IsOfLive t.records live r) → map (slice_get t.names) (row_at rows o.number).needs ≡ map Some (needs r)
  ended_at r o =
      let e : IsEnded t.names t.records rows o.number = ended.ended live are o.number o.is_live in
      subst (λ (x : TaskRecord). map (slice_get t.names) (row_at rows o.number).needs ≡ map Some (needs x)) (some_same e.rec r (sym e.kept ∙ o.found)) e.needs

  named_at : (r : TaskRecord) (o : IsOfLive t.records live r) → slice_get t.names o.number ≡ Some r.task
  named_at r o = (record_there t o.number r is o.found).named

  high_at : (r : TaskRecord) → IsOfLive t.records live r → height r.task ≡ over height (needs r) 0
  high_at r o =
      let n = o.number in
      let named = named_at r o in
      let inside : n < length rows = let low = slice_get_within t.names n r.task named in omega (arith, low, size) in
      has_heights n r.task named
      ∙ made.high.each n inside
      ∙ ap height_over (heights_same t.names made.heights height has_heights (row_at rows n).needs (needs r) (ended_at r o))
      ∙ (let all = over_max height (needs r) 0 in let zero_max : height_over (map height (needs r)) ≡ over height (needs r) 0 = omega (arith, all) in zero_max)

  -- a live task has its record among them
  row_of_live : (n : ℕ) (u : Task) → Contains live n → slice_get t.names n ≡ Some u → Contains (tasks_in b.rows.items) u
  row_of_live n u c named =
      let e : IsEnded t.names t.records rows n = ended.ended live are n c in
      let same : e.rec.task ≡ u = some_same e.rec.task u (sym (record_there t n e.rec is e.kept).named ∙ named) in
      subst (Contains (tasks_in b.rows.items)) same (has_map (λ (x : TaskRecord). x.task) b.rows.items e.rec (made.kept.each n e.rec c e.kept e.done))

  closed_at : (r : TaskRecord) → IsOfLive t.records live r → All (λ (u : Task). Contains (tasks_in b.rows.items) u) (needs r)
  closed_at r o k d lt =
      let u = get_or (needs r) k d in
      let among : Contains (map Some (needs r)) (Some u) = has_map Some (needs r) u (Contains-get_or (needs r) k d lt) in
      let found = map_has (slice_get t.names) (row_at rows o.number).needs (Some u)
      (subst (λ (os : List (Option Task)). Contains os (Some u)) (sym (ended_at r o)) among) in
      row_of_live found.0 u (live_goes t.names roots rows live o.number found.0 are o.is_live found.1) (sym found.2)

  each_row : (P : TaskRecord → Type 0) → ((r : TaskRecord) → IsOfLive t.records live r → P r) → All P b.rows.items
  each_row P h k d lt = h (get_or b.rows.items k d) (made.kept.only k d lt)

  pub can_be_stored : CanBeStored t.names roots b
  can_be_stored = record {
    order = in_order height b.rows.items (made.kept.ascending height has_heights) (each_row (λ r. height r.task ≡ over height (needs r) 0) high_at)
        (each_row (λ r. All (λ (u : Task). Contains (tasks_in b.rows.items) u) (needs r)) closed_at);
    few = let short = few_below live (length t.names) are.exactly.ascending below in omega (arith, short, made.kept.few, is.few);
    named = each_row (λ r. Contains t.names r.task)
        (λ r o. (o.number, slice_get_within t.names o.number r.task (named_at r o), get_or_from_slice_get t.names o.number r.task r.task (named_at r o)));
    closed = λ k d lt.
        let u = get_or roots k d in
        let at = root_live t.names roots rows live u are (Contains-get_or roots k d lt) (ended.named k d lt) in
        row_of_live at.0 u at.2 at.1;
  }
