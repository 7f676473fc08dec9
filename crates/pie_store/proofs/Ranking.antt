-- Records with their heights: look-ups, and one more.
use Rattle.std.proofs.Common.{◌≡◌, ◌≢◌, ℕ, zero, suc, ◌-◌, ◌<◌, ◌≤◌, ◌^◌, Bool, true, false, cond, List, [], ◌∷◌, ◌++◌, length, get_or, map}
use Rattle.std.proofs.Common.{refl, sym, ap, subst, ◌∙◌, arith}
use Rattle.std.specs.Prelude.{All, Contains, Option, Some, None, slice_get}
use Rattle.std.specs.List.{zip}
use Rattle.std.proofs.lemmas.Slice.Eq.{bytes_eq-Decides}
use Rattle.std.proofs.lemmas.Slice.Zip.{length-zip, get_or-zip}
use Rattle.std.proofs.lemmas.List.{get_or-map, get_or_default, length-map, map-append, length_push}
use Rattle.std.proofs.lemmas.List.Quantifiers.{all_pairs_push}
use Rattle.std.proofs.lemmas.List.Elements.{All-push, All-head, All-tail}
use Rattle.std.proofs.lemmas.Option.{slice_get-get_or, slice_get_within, get_or_from_slice_get}
use Rattle.pie_value.specs.declared.task.Task.{Task}
use Rattle.pie_value.specs.Canonical.{enc_task}
use Rattle.pie_record.specs.declared.task_record.TaskRecord.{TaskRecord}
use Rattle.pie_record.proofs.Naming.{bytes_tell}
use Rattle.pie_store.specs.Ranks.{Ranked, same_task, rank_in, IsStored, AreRanked}
use Rattle.pie_store.specs.inner.Reading.{rows_of}

abbrev pub task_of : TaskRecord → Task
task_of r = r.task

-- ---- lists side by side

pub zip_long : (rows : List TaskRecord) (heights : List ℕ) → length heights ≡ length rows → length (zip rows heights) ≡ length rows
zip_long rows heights e = omega (arith, e, length-zip rows heights)

pub zip_more : (rows : List TaskRecord) (heights : List ℕ) (r : TaskRecord) (h : ℕ) → length heights ≡ length rows
    → zip (rows ++ r ∷ []) (heights ++ h ∷ []) ≡ zip rows heights ++ (r, h) ∷ []
zip_more [] [] r h e = refl
zip_more [] (k ∷ heights) r h e = absurd (omega (arith, e))
zip_more (s ∷ rows) [] r h e = absurd (omega (arith, e))
zip_more (s ∷ rows) (k ∷ heights) r h e = ap (λ (l : Ranked). (s, k) ∷ l) (zip_more rows heights r h (omega (arith, e)))

pub zip_firsts : (rows : List TaskRecord) (heights : List ℕ) → length heights ≡ length rows → rows_of (zip rows heights) ≡ rows
zip_firsts [] heights e = refl
zip_firsts (s ∷ rows) [] e = absurd (omega (arith, e))
zip_firsts (s ∷ rows) (k ∷ heights) e = ap (λ (l : List TaskRecord). s ∷ l) (zip_firsts rows heights (omega (arith, e)))

-- ---- the height of a task

pub same_refl : (t : Task) → same_task t t ≡ true
same_refl t = (bytes_eq-Decides (enc_task t) (enc_task t)).1 refl

pub same_is : (t u : Task) → IsStored t → IsStored u → same_task t u ≡ true → t ≡ u
same_is t u c d e = bytes_tell t u c d ((bytes_eq-Decides (enc_task t) (enc_task u)).0 e)

unequal : (b : Bool) → (b ≡ true → ⊥) → b ≡ false
unequal true h = absurd (h refl)
unequal false h = refl

found : (rows : List TaskRecord) (heights : List ℕ) (t : Task) (i : ℕ) (d : TaskRecord) → length heights ≡ length rows → IsStored t
    → All IsStored (map task_of rows) → i < length rows → (get_or rows i d).task ≡ t
    → ((k : ℕ) → k < i → (get_or rows k d).task ≢ t) → rank_in (zip rows heights) t ≡ Some (get_or heights i 0)
found [] heights t i d e s a lt is first = absurd (omega (arith, lt))
found (r ∷ rows) [] t i d e s a lt is first = absurd (omega (arith, e))
found (r ∷ rows) (h ∷ heights) t zero d e s a lt is first =
    let b : same_task r.task t ≡ true = subst (λ (u : Task). same_task r.task u ≡ true) is (same_refl r.task) in
    ap (λ (c : Bool). cond c (Some h) (rank_in (zip rows heights) t)) b
found (r ∷ rows) (h ∷ heights) t (suc i) d e s a lt is first =
    let b : same_task r.task t ≡ false = unequal (same_task r.task t) (λ y. first 0 (omega arith) (same_is r.task t (All-head IsStored _ _ a) s y)) in
    ap (λ (c : Bool). cond c (Some h) (rank_in (zip rows heights) t)) b
    ∙ found rows heights t i d (omega (arith, e)) s (All-tail IsStored r.task (map task_of rows) a) (omega (arith, lt)) is
    (λ k below. first (suc k) (omega (arith, below)))

not_found : (rows : List TaskRecord) (heights : List ℕ) (t : Task) → IsStored t → All IsStored (map task_of rows)
    → ¬ (Contains (map task_of rows) t) → rank_in (zip rows heights) t ≡ None
not_found [] heights t s a n = refl
not_found (r ∷ rows) [] t s a n = refl
not_found (r ∷ rows) (h ∷ heights) t s a n =
    let b : same_task r.task t ≡ false = unequal (same_task r.task t) (λ y. n (0, omega arith, same_is r.task t (All-head IsStored _ _ a) s y)) in
    ap (λ (c : Bool). cond c (Some h) (rank_in (zip rows heights) t)) b
    ∙ not_found rows heights t s (All-tail IsStored r.task (map task_of rows) a) (λ m. n (suc m.0, omega (arith, m.1), m.2))

chosen : (b : Bool) (h : ℕ) (o : Option ℕ) → cond b (Some h) o ≡ None → (b ≡ false) × (o ≡ None)
chosen true h o e = absurd (cc)
chosen false h o e = (refl, e)

absent : (rows : List TaskRecord) (heights : List ℕ) (t : Task) → length heights ≡ length rows → rank_in (zip rows heights) t ≡ None
    → ¬ (Contains (map task_of rows) t)
absent [] heights t e n c = absurd (omega (arith, c.1))
absent (r ∷ rows) [] t e n c = absurd (omega (arith, e))
absent (r ∷ rows) (h ∷ heights) t e n (zero, lt, is) =
    let b = chosen (same_task r.task t) h (rank_in (zip rows heights) t) n in
    let y : same_task r.task t ≡ true = subst (λ (u : Task). same_task r.task u ≡ true) is (same_refl r.task) in absurd (cc)
absent (r ∷ rows) (h ∷ heights) t e n (suc k, lt, is) =
    let b = chosen (same_task r.task t) h (rank_in (zip rows heights) t) n in
    absent rows heights t (omega (arith, e)) b.1 (k, omega (arith, lt), is)

-- ---- of what the program keeps

rows_long : (tasks : List Task) (heights : List ℕ) (rows : List TaskRecord) → AreRanked tasks heights rows → length tasks ≡ length rows
rows_long tasks heights rows a = ap length a.names ∙ length-map rows task_of

pub rank_some : (tasks : List Task) (heights : List ℕ) (rows : List TaskRecord) (t : Task) (i : ℕ) → AreRanked tasks heights rows → IsStored t
    → slice_get tasks i ≡ Some t → rank_in (zip rows heights) t ≡ Some (get_or heights i 0)
rank_some tasks heights [] t i a s e =
    let lt = slice_get_within tasks i t e in
    let long = rows_long tasks heights [] a in absurd (omega (arith, lt))
rank_some tasks heights (r ∷ rows) t i a s e =
    let all = r ∷ rows in
    let lt = slice_get_within tasks i t e in
    let long = rows_long tasks heights all a in
    let at : (k : ℕ) → k < length tasks → get_or tasks k t ≡ (get_or all k r).task =
    λ k h. ap (λ (l : List Task). get_or l k t) a.names ∙ get_or-map task_of all k r t (omega arith) in
    found all heights t i r a.same s (subst (All IsStored) a.names a.stored) (omega arith) (sym (at i lt) ∙ get_or_from_slice_get tasks i t t e)
    (λ k below same. a.distinct k i t below lt (at k (omega arith) ∙ same ∙ sym (get_or_from_slice_get tasks i t t e)))

pub rank_none : (tasks : List Task) (heights : List ℕ) (rows : List TaskRecord) (t : Task) → AreRanked tasks heights rows → IsStored t
    → ¬ (Contains tasks t) → rank_in (zip rows heights) t ≡ None
rank_none tasks heights rows t a s n =
    not_found rows heights t s (subst (All IsStored) a.names a.stored) (λ c. n (subst (λ (l : List Task). Contains l t) (sym a.names) c))

pub rank_absent : (tasks : List Task) (heights : List ℕ) (rows : List TaskRecord) (t : Task) → AreRanked tasks heights rows
    → rank_in (zip rows heights) t ≡ None → ¬ (Contains tasks t)
rank_absent tasks heights rows t a e c = absent rows heights t a.same e (subst (λ (l : List Task). Contains l t) a.names c)

pub rank_low : (tasks : List Task) (heights : List ℕ) (rows : List TaskRecord) (i : ℕ) → AreRanked tasks heights rows → i < length heights
    → get_or heights i 0 < length (zip rows heights)
rank_low tasks heights rows i a lt = omega (arith, a.low i 0 lt, zip_long rows heights a.same, a.same)

pub ranked_more : (tasks : List Task) (heights : List ℕ) (rows : List TaskRecord) (r : TaskRecord) (h : ℕ) → AreRanked tasks heights rows
    → IsStored r.task → ¬ (Contains tasks r.task) → h ≤ length rows → length rows < 2 ^ 32
    → AreRanked (tasks ++ r.task ∷ []) (heights ++ h ∷ []) (rows ++ r ∷ [])
ranked_more tasks heights rows r h a s n le few = record {
  names = ap (λ (l : List Task). l ++ r.task ∷ []) a.names ∙ sym (map-append task_of rows (r ∷ []));
  same = omega (arith, a.same, length_push heights h, length_push rows r);
  low = All-push (λ k. k < length (heights ++ h ∷ [])) heights h
      (λ i d lt. omega (arith, a.low i d lt, length_push heights h)) (omega (arith, a.same, length_push heights h));
  stored = All-push IsStored tasks r.task a.stored s;
  distinct = all_pairs_push (λ t u. t ≢ u) tasks r.task a.distinct (λ i d lt same. n (i, lt, get_or_default tasks i r.task d lt ∙ same));
  few = omega (arith, length_push rows r);
}

pub last_some : (tasks : List Task) (heights : List ℕ) (rows : List TaskRecord) (r : TaskRecord) → AreRanked tasks heights rows
    → slice_get rows (length rows - 1) ≡ Some r
    → slice_get (zip rows heights) (length (zip rows heights) - 1) ≡ Some (r, get_or heights (length rows - 1) 0)
last_some tasks heights rows r a e =
    let long = zip_long rows heights a.same in
    let lt = slice_get_within rows (length rows - 1) r e in
    let same = a.same in
    ap (λ (n : ℕ). slice_get (zip rows heights) (n - 1)) long
    ∙ slice_get-get_or (zip rows heights) (length rows - 1) (r, 0) (omega (arith, lt, long))
    ∙ ap Some (get_or-zip rows heights (length rows - 1) (r, 0) lt (omega arith))
    ∙ ap (λ (x : TaskRecord). Some (x, get_or heights (length rows - 1) 0)) (get_or_from_slice_get rows (length rows - 1) r r e)

pub last_none : (tasks : List Task) (heights : List ℕ) (rows : List TaskRecord) → AreRanked tasks heights rows
    → slice_get rows (length rows - 1) ≡ None → slice_get (zip rows heights) (length (zip rows heights) - 1) ≡ None
last_none tasks heights [] a e = refl
last_none tasks heights (r ∷ rows) a e =
    let f = slice_get-get_or (r ∷ rows) (length (r ∷ rows) - 1) r (omega arith) in absurd (cc)

-- a number of a task is a place among the heights
pub place_low : (tasks : List Task) (heights : List ℕ) (rows : List TaskRecord) (t : Task) (i : ℕ) → AreRanked tasks heights rows
    → slice_get tasks i ≡ Some t → i < length heights
place_low tasks heights rows t i a e = omega (arith, slice_get_within tasks i t e, rows_long tasks heights rows a, a.same)

pub last_low : (tasks : List Task) (heights : List ℕ) (rows : List TaskRecord) (r : TaskRecord) → AreRanked tasks heights rows
    → slice_get rows (length rows - 1) ≡ Some r → length rows - 1 < length heights
last_low tasks heights rows r a e = omega (arith, slice_get_within rows (length rows - 1) r e, a.same)

pub names_few : (tasks : List Task) (heights : List ℕ) (rows : List TaskRecord) → AreRanked tasks heights rows
    → length (zip rows heights) < 2 ^ 32 → length tasks < 2 ^ 32
names_few tasks heights rows a lt = omega (arith, lt, rows_long tasks heights rows a, zip_long rows heights a.same)

pub height_small : (tasks : List Task) (heights : List ℕ) (rows : List TaskRecord) (i : ℕ) → AreRanked tasks heights rows → i < length heights
    → get_or heights i 0 < 2 ^ 32
height_small tasks heights rows i a lt = omega (arith, a.low i 0 lt, a.same, a.few)
