-- Records that ascend by height and task stand in the order of a store.
use Rattle.std.proofs.Common.{◌≡◌, ◌≢◌, ℕ, zero, suc, ◌+◌, ◌<◌, ◌≤◌, max, Bool, true, false, cond, List, [], ◌∷◌, length, take, map, get_or, Some}
use Rattle.std.proofs.Common.{sym, ap, subst, refl, ◌∙◌, arith, inl, inr}
use Rattle.std.specs.Prelude.{All, Contains, slice_get}
use Rattle.std.specs.List.{AllPairs}
use Rattle.std.specs.Str.{bytes_eq}
use Rattle.std.specs.declared.cmp.Ordering.TheVariants.{Less, Equal}
use Rattle.std.proofs.lemmas.Bool.{cases_lt}
use Rattle.std.proofs.lemmas.Cmp.{nat_list_cmp_total, tied_itself}
use Rattle.std.proofs.lemmas.List.{get_or-map, length-map, get_or-take, length-take}
use Rattle.std.proofs.lemmas.List.Elements.{All-cons, All-head, All-tail}
use Rattle.std.proofs.lemmas.Option.{slice_get_within, get_or_from_slice_get}
use Rattle.std.proofs.lemmas.Slice.Eq.{bytes_eq-Decides}
use Rattle.pie_value.specs.declared.task.Task.{Task}
use Rattle.pie_value.specs.Canonical.{enc_task, IsCanonicalTask}
use Rattle.pie_value.specs.Order.{byte_order}
use Rattle.pie_record.specs.declared.task_record.TaskRecord.{TaskRecord}
use Rattle.pie_record.specs.inner.Names.{AreDistinct}
use Rattle.pie_record.proofs.Naming.{bytes_tell}
use Rattle.pie_store.specs.Canonical.{tasks_in, needs, over, RowBefore, AreInOrder}

-- ---- the order of a store, from strictly ascending rows

abbrev task_of : TaskRecord → Task
task_of r = r.task

least_over : (height : Task → ℕ) (ts : List Task) (n : ℕ) → n ≤ over height ts n
least_over height [] n = omega arith
least_over height (t ∷ ts) n = let rest = least_over height ts (max n (height t + 1)) in omega (arith, rest)

-- each of some tasks is lower than what stands over them
over_above : (height : Task → ℕ) (ts : List Task) (n : ℕ) → All (λ (t : Task). height t < over height ts n) ts
over_above height [] n = λ k d lt. absurd (omega (arith, lt))
over_above height (t ∷ ts) n =
    let rest = least_over height ts (max n (height t + 1)) in
    All-cons (λ (u : Task). height u < over height (t ∷ ts) n) t ts (omega (arith, rest)) (over_above height ts (max n (height t + 1)))

no_tie : (bs : List ℕ) → byte_order bs bs ≡ Less → ⊥
no_tie bs e = let tie : byte_order bs bs ≡ Equal = tied_itself nat_list_cmp_total bs in absurd (cc)

before_differs : (height : Task → ℕ) (r s : TaskRecord) → RowBefore height r s → r.task ≢ s.task
before_differs height r s (inl lt) e = let same : height r.task ≡ height s.task = ap height e in omega (arith, lt, same)
before_differs height r s (inr h) e = no_tie (enc_task s.task) (subst (λ (t : Task). byte_order (enc_task t) (enc_task s.task) ≡ Less) e h.1)

before_up : (height : Task → ℕ) (r s : TaskRecord) → RowBefore height r s → height r.task ≤ height s.task
before_up height r s (inl lt) = omega (arith, lt)
before_up height r s (inr h) = omega (arith, h.0)

-- a lower record stands before one that is higher
lower_earlier : (height : Task → ℕ) (rows : List TaskRecord) (i j : ℕ) (d : TaskRecord) → AllPairs (RowBefore height) rows → i < length rows
    → height (get_or rows j d).task < height (get_or rows i d).task → j < length rows → j < i
lower_earlier height rows i j d asc within low inside = elim (cases_lt i j) [
  | inl lt ↦ let up = before_up height (get_or rows i d) (get_or rows j d) (asc i j d lt inside) in absurd (omega (arith, up, low))
  | inr ge ↦ elim (cases_lt j i) [
    | inl lt ↦ lt
    | inr le ↦
        let same : j ≡ i = omega (arith, ge, le) in
        let eq : height (get_or rows j d).task ≡ height (get_or rows i d).task = ap (λ (k : ℕ). height (get_or rows k d).task) same in
        absurd (omega (arith, low, eq))
  ]
]

taken : (rows : List TaskRecord) (i j : ℕ) (d : TaskRecord) (t : Task) → j < i → i < length rows → (get_or rows j d).task ≡ t
    → Contains (map task_of (take i rows)) t
taken rows i j d t lt within is =
    let size : length (take i rows) ≡ i = omega (arith, length-take i rows, within) in
    let all : length (map task_of (take i rows)) ≡ i = length-map (take i rows) task_of ∙ size in
    (j, omega (arith, all, lt), get_or-map task_of (take i rows) j d t (omega (arith, size, lt)) ∙ ap task_of (get_or-take i rows j d lt) ∙ is)

pub in_order : (height : Task → ℕ) (rows : List TaskRecord) → AllPairs (RowBefore height) rows
    → All (λ (r : TaskRecord). height r.task ≡ over height (needs r) 0) rows
    → All (λ (r : TaskRecord). All (λ (t : Task). Contains (tasks_in rows) t) (needs r)) rows → AreInOrder rows
in_order height rows asc heights closed = record {
  height = height;
  heights = heights;
  once = λ i j d lt inside. before_differs height (get_or rows i d) (get_or rows j d) (asc i j d lt inside);
  earlier = λ i d within k e lt.
      let r : TaskRecord = get_or rows i d in
      let t : Task = get_or (needs r) k e in
      let at = closed i d within k e lt in
      let long : length (tasks_in rows) ≡ length rows = length-map rows task_of in
      let inside : at.0 < length rows = omega (arith, at.1, long) in
      let is : (get_or rows at.0 d).task ≡ t = sym (get_or-map task_of rows at.0 d t inside) ∙ at.2 in
      let high : height r.task ≡ over height (needs r) 0 = heights i d within in
      let above : height t < over height (needs r) 0 = over_above height (needs r) 0 k e lt in
      let same : height (get_or rows at.0 d).task ≡ height t = ap height is in
      taken rows i at.0 d t (lower_earlier height rows i at.0 d asc within (omega (arith, high, above, same)) inside) within is;
  ascending = asc;
}

-- ---- the height of a task, by its bytes

-- the height that stands beside a task, which is found by its canonical bytes
abbrev pub height_in : List Task → List ℕ → Task → ℕ
height_in [] hs t = 0
height_in (u ∷ us) [] t = 0
height_in (u ∷ us) (h ∷ hs) t = cond (bytes_eq (enc_task u) (enc_task t)) h (height_in us hs t)

unequal : (b : Bool) → (b ≡ true → ⊥) → b ≡ false
unequal true h = absurd (h refl)
unequal false h = refl

same_bytes : (u t : Task) → IsCanonicalTask u (enc_task u) → IsCanonicalTask t (enc_task t) → bytes_eq (enc_task u) (enc_task t) ≡ true → u ≡ t
same_bytes u t c d e = bytes_tell u t c d ((bytes_eq-Decides (enc_task u) (enc_task t)).0 e)

height_found : (us : List Task) (hs : List ℕ) (i : ℕ) (t : Task) → length hs ≡ length us → All (λ (u : Task). IsCanonicalTask u (enc_task u)) us
    → IsCanonicalTask t (enc_task t) → i < length us → get_or us i t ≡ t → ((k : ℕ) → k < i → get_or us k t ≢ t) → height_in us hs t ≡ get_or hs i 0
height_found [] hs i t e all c lt is first = absurd (omega (arith, lt))
height_found (u ∷ us) [] i t e all c lt is first = absurd (omega (arith, e))
height_found (u ∷ us) (h ∷ hs) zero t e all c lt is first =
    let same : bytes_eq (enc_task u) (enc_task t) ≡ true = (bytes_eq-Decides (enc_task u) (enc_task t)).1 (ap enc_task is) in
    ap (λ (b : Bool). cond b h (height_in us hs t)) same
height_found (u ∷ us) (h ∷ hs) (suc i) t e all c lt is first =
    let other : bytes_eq (enc_task u) (enc_task t) ≡ false =
    unequal (bytes_eq (enc_task u) (enc_task t))
    (λ y. first 0 (omega arith) (same_bytes u t (All-head (λ (v : Task). IsCanonicalTask v (enc_task v)) u us all) c y)) in
    ap (λ (b : Bool). cond b h (height_in us hs t)) other
    ∙ height_found us hs i t (omega (arith, e)) (All-tail (λ (v : Task). IsCanonicalTask v (enc_task v)) u us all) c (omega (arith, lt)) is
    (λ k below. first (suc k) (omega (arith, below)))

pub height_at : (us : List Task) (hs : List ℕ) (i : ℕ) (t : Task) → length hs ≡ length us → All (λ (u : Task). IsCanonicalTask u (enc_task u)) us
    → AreDistinct us → slice_get us i ≡ Some t → height_in us hs t ≡ get_or hs i 0
height_at us hs i t e all distinct named =
    let lt : i < length us = slice_get_within us i t named in
    let is : get_or us i t ≡ t = get_or_from_slice_get us i t t named in
    height_found us hs i t e all (subst (λ (u : Task). IsCanonicalTask u (enc_task u)) is (all i t lt)) lt is
    (λ k below same. distinct k i t below lt (same ∙ sym is))
