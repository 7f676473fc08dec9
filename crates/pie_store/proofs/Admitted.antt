-- Records that were admitted one after another: each after those before it.
use Rattle.std.proofs.Common.{◌≡◌, ◌≢◌, ℕ, zero, suc, ◌+◌, ◌<◌, Bool, true, false, ◌&&◌, cond, List, [], ◌∷◌, ◌++◌, length, get_or, take, drop}
use Rattle.std.proofs.Common.{refl, sym, ap, subst, ◌∙◌, arith, inl, inr}
use Rattle.std.specs.Prelude.{All, Contains, Option, Some, None, is_some, max}
use Rattle.std.specs.List.{AllPairs, flat_map}
use Rattle.std.proofs.lemmas.Bool.{cases_lt}
use Rattle.std.proofs.lemmas.List.{take-append-drop, take-append-le, drop_more, take-map, get_or-map, get_or-take, get_or_append_left, get_or_push, length_push}
use Rattle.std.proofs.lemmas.List.{length-take, length-map}
use Rattle.std.proofs.Math.Seq.{take-append_seam}
use Rattle.std.proofs.lemmas.List.Elements.{All-nil, All-cons, All-head, All-tail}
use Rattle.pie_value.specs.declared.task.Task.{Task}
use Rattle.pie_value.specs.Canonical.{enc_task}
use Rattle.pie_value.specs.Order.{byte_order}
use Rattle.pie_record.specs.declared.dep.Dep.{Dep}
use Rattle.pie_record.specs.declared.dep.DepOn.{DepOn}
use Rattle.pie_record.specs.declared.dep.DepOn.TheVariants.{File, Called}
use Rattle.pie_record.specs.declared.task_record.TaskRecord.{TaskRecord}
use Rattle.pie_record.proofs.Steps.{both_true, both_on}
use Rattle.pie_store.specs.Canonical.{tasks_in, required_on, over, AreInOrder}
use Rattle.pie_store.specs.Ranks.{Ranked, same_task, rank_in, on_some, above_one, above, is_before, follows, comes_last, height_after, IsStored, IsStoredOn}
use Rattle.pie_store.specs.inner.Reading.{rows_of}
use Rattle.pie_store.proofs.Ranking.{same_refl, same_is}
use Rattle.pie_store.proofs.Pairs.{pairs_push, last_is, Ahead, ahead_is, ahead_trans}

-- ---- what it says that a record was admitted

pub record Admits (known : List ℕ → Bool) (rows : Ranked) (r : TaskRecord) (h : ℕ) : Type 0 where
  pub fresh : rank_in rows r.task ≡ None
  pub height : above rows r.deps 0 ≡ Some h
  pub last : comes_last rows r.task h ≡ true
  pub func : known r.task.func ≡ true

pub admitted : (known : List ℕ → Bool) (rows : Ranked) (r : TaskRecord) (h : ℕ) → height_after known rows r ≡ Some h → Admits known rows r h
admitted known rows r h e = ranked (rank_in rows r.task) (above rows r.deps 0) refl refl e
  where
    passed : (k : ℕ) (b : Bool) → rank_in rows r.task ≡ None → above rows r.deps 0 ≡ Some k → (comes_last rows r.task k && known r.task.func) ≡ b
        → cond b (Some k) None ≡ Some h → Admits known rows r h
    passed k false f a p q = absurd (cc)
    passed k true f a p q =
        let same : k ≡ h = cc in
        let both = both_true (comes_last rows r.task k) (known r.task.func) p in
        subst (Admits known rows r) same (record { fresh = f; height = a; last = both.0; func = both.1 })

    ranked : (o a : Option ℕ) → rank_in rows r.task ≡ o → above rows r.deps 0 ≡ a
        → cond (is_some o) None (on_some a (λ k. cond (comes_last rows r.task k && known r.task.func) (Some k) None)) ≡ Some h → Admits known rows r h
    ranked (Some x) a f g q = absurd (cc)
    ranked None None f g q = absurd (cc)
    ranked None (Some k) f g q = passed k (comes_last rows r.task k && known r.task.func) f g refl q

pub admits_on : (known : List ℕ → Bool) (rows : Ranked) (r : TaskRecord) (h : ℕ) → Admits known rows r h → height_after known rows r ≡ Some h
admits_on known rows r h a =
    rw (a.fresh, a.height, both_on (comes_last rows r.task h) (known r.task.func) a.last a.func) refl

-- ---- the order of records with their heights

abbrev pub Before : TaskRecord × ℕ → TaskRecord × ℕ → Type 0
Before r s = Ahead r.1 s.1 (byte_order (enc_task r.0.task) (enc_task s.0.task))

-- ---- admitted one after another

abbrev pub AreAdmitted : (List ℕ → Bool) → Ranked → Type 0
AreAdmitted known rows =
    (i : ℕ) (d : TaskRecord × ℕ) → i < length rows → Admits known (take i rows) (get_or rows i d).0 (get_or rows i d).1

admitted_push : (known : List ℕ → Bool) (rows : Ranked) (r : TaskRecord × ℕ) → AreAdmitted known rows → Admits known rows r.0 r.1
    → AreAdmitted known (rows ++ r ∷ [])
admitted_push known rows r h a i d lt = elim (cases_lt i (length rows)) [
  | inl below ↦ rw (take-append-le i rows (r ∷ []) (omega arith), get_or_append_left rows (r ∷ []) d i below) (h i d below)
  | inr above ↦
      let e : length rows ≡ i = omega (arith, length_push rows r) in
      subst (λ (k : ℕ). Admits known (take k (rows ++ r ∷ [])) (get_or (rows ++ r ∷ []) k d).0 (get_or (rows ++ r ∷ []) k d).1) e
      (rw (take-append_seam rows (r ∷ []), get_or_push rows r d (length rows) refl) a)
]

last_before : (rows : Ranked) (t : Task) (h k : ℕ) (d : TaskRecord × ℕ) → comes_last rows t h ≡ true → suc k ≡ length rows
    → is_before (get_or rows k d).0.task (get_or rows k d).1 t h ≡ true
last_before rows t h k d e long = sym (ap (λ (o : Option (TaskRecord × ℕ)). follows o t h) (last_is rows k d long)) ∙ e

-- what holds of the records that were read
pub record AreKept (known : List ℕ → Bool) (rows : Ranked) : Type 0 where
  pub admitted : AreAdmitted known rows
  pub ascending : AllPairs Before rows

pub kept_none : (known : List ℕ → Bool) → AreKept known []
kept_none known = record { admitted = λ i d lt. absurd (omega (arith, lt)); ascending = λ i j d lt within. absurd (omega (arith, within)) }

pub kept_push : (known : List ℕ → Bool) (rows : Ranked) (r : TaskRecord × ℕ) → AreKept known rows → height_after known rows r.0 ≡ Some r.1
    → AreKept known (rows ++ r ∷ [])
kept_push known rows r k e =
    let a = admitted known rows r.0 r.1 e in
    record {
      admitted = admitted_push known rows r k.admitted a;
      ascending = pairs_push Before rows r (ahead_trans (λ (x : TaskRecord × ℕ). x.1) (λ (x : TaskRecord × ℕ). enc_task x.0.task)) k.ascending
          (λ i d long.
          let x = get_or rows i d in
          ahead_is x.1 r.1 (byte_order (enc_task x.0.task) (enc_task r.0.task)) (last_before rows r.0.task r.1 i d a.last long));
    }

-- ---- the height of a task among records

abbrev rank_or : Option ℕ → ℕ
rank_or None = 0
rank_or (Some h) = h

abbrev pub height_in : Ranked → Task → ℕ
height_in rows t = rank_or (rank_in rows t)

rank_front : (rows more : Ranked) (t : Task) (h : ℕ) → rank_in rows t ≡ Some h → rank_in (rows ++ more) t ≡ Some h
rank_front [] more t h e = absurd (cc)
rank_front (r ∷ rows) more t h e = by (same_task r.0.task t) (λ g. rank_front rows more t h g) e
  where
    by : (b : Bool) → (rank_in rows t ≡ Some h → rank_in (rows ++ more) t ≡ Some h) → cond b (Some r.1) (rank_in rows t) ≡ Some h
        → cond b (Some r.1) (rank_in (rows ++ more) t) ≡ Some h
    by true again g = g
    by false again g = again g

rank_behind : (rows more : Ranked) (t : Task) → rank_in rows t ≡ None → rank_in (rows ++ more) t ≡ rank_in more t
rank_behind [] more t e = refl
rank_behind (r ∷ rows) more t e = by (same_task r.0.task t) (λ g. rank_behind rows more t g) e
  where
    by : (b : Bool) → (rank_in rows t ≡ None → rank_in (rows ++ more) t ≡ rank_in more t) → cond b (Some r.1) (rank_in rows t) ≡ None
        → cond b (Some r.1) (rank_in (rows ++ more) t) ≡ rank_in more t
    by true again g = absurd (cc)
    by false again g = again g

split_at : (rows : Ranked) (i : ℕ) (d : TaskRecord × ℕ) → i < length rows → rows ≡ take i rows ++ (get_or rows i d ∷ drop (i + 1) rows)
split_at rows i d lt = sym (take-append-drop i rows) ∙ ap (λ (t : Ranked). take i rows ++ t) (drop_more rows i d lt)

pub rank_own : (known : List ℕ → Bool) (rows : Ranked) (i : ℕ) (d : TaskRecord × ℕ) → AreAdmitted known rows → i < length rows
    → rank_in rows (get_or rows i d).0.task ≡ Some (get_or rows i d).1
rank_own known rows i d h lt =
    let r = get_or rows i d in
    ap (λ (s : Ranked). rank_in s r.0.task) (split_at rows i d lt)
    ∙ rank_behind (take i rows) (r ∷ drop (i + 1) rows) r.0.task (h i d lt).fresh
    ∙ ap (λ (b : Bool). cond b (Some r.1) (rank_in (drop (i + 1) rows) r.0.task)) (same_refl r.0.task)

rank_early : (rows : Ranked) (i : ℕ) (t : Task) (h : ℕ) → rank_in (take i rows) t ≡ Some h → height_in rows t ≡ h
rank_early rows i t h e =
    ap (λ (s : Ranked). height_in s t) (sym (take-append-drop i rows)) ∙ ap rank_or (rank_front (take i rows) (drop i rows) t h e)

-- the height above what is required
over_is : (rows : Ranked) (i : ℕ) (deps : List Dep) (n h : ℕ) → above (take i rows) deps n ≡ Some h
    → over (height_in rows) (flat_map (λ (d : Dep). required_on d.what) deps) n ≡ h
over_is rows i [] n h e = cc
over_is rows i (d ∷ deps) n h e = by d.what (λ m g. over_is rows i deps m h g) e
  where
    Goes : Type 0
    Goes = (m : ℕ) → above (take i rows) deps m ≡ Some h → over (height_in rows) (flat_map (λ (x : Dep). required_on x.what) deps) m ≡ h

    called : (t : Task) (o : Option ℕ) → Goes → rank_in (take i rows) t ≡ o
        → on_some (on_some o (λ k. Some (max n (k + 1)))) (above (take i rows) deps) ≡ Some h
        → over (height_in rows) (t ∷ flat_map (λ (x : Dep). required_on x.what) deps) n ≡ h
    called t None again f g = absurd (cc)
    called t (Some k) again f g =
        ap (λ (m : ℕ). over (height_in rows) (flat_map (λ (x : Dep). required_on x.what) deps) (max n (m + 1))) (rank_early rows i t k f)
        ∙ again (max n (k + 1)) g

    by : (w : DepOn) → Goes → on_some (above_one (take i rows) w n) (above (take i rows) deps) ≡ Some h
        → over (height_in rows) (required_on w ++ flat_map (λ (x : Dep). required_on x.what) deps) n ≡ h
    by (File p) again g = again n g
    by (Called t) again g = called t (rank_in (take i rows) t) again refl g

-- ---- a task with a height has a record

pub rank_contains : (rows : Ranked) (t : Task) (h : ℕ) → All IsStored (tasks_in (rows_of rows)) → IsStored t → rank_in rows t ≡ Some h
    → Contains (tasks_in (rows_of rows)) t
rank_contains [] t h a s e = absurd (cc)
rank_contains (r ∷ rows) t h a s e =
    by (same_task r.0.task t) (λ g. rank_contains rows t h (All-tail IsStored r.0.task (tasks_in (rows_of rows)) a) s g) refl e
  where
    by : (b : Bool) → (rank_in rows t ≡ Some h → Contains (tasks_in (rows_of rows)) t) → same_task r.0.task t ≡ b
        → cond b (Some r.1) (rank_in rows t) ≡ Some h → Contains (r.0.task ∷ tasks_in (rows_of rows)) t
    by true again y g = (0, omega arith, same_is r.0.task t (All-head IsStored r.0.task (tasks_in (rows_of rows)) a) s y)
    by false again y g = let m = again g in (suc m.0, omega (arith, m.1), m.2)

-- the tasks that are required have records
needed_found : (rows : Ranked) (deps : List Dep) (n h : ℕ) → All IsStored (tasks_in (rows_of rows)) → All (λ (d : Dep). IsStoredOn d.what) deps
    → above rows deps n ≡ Some h
    → All (λ (t : Task). Contains (tasks_in (rows_of rows)) t) (flat_map (λ (d : Dep). required_on d.what) deps)
needed_found rows [] n h a s e = All-nil _
needed_found rows (d ∷ deps) n h a s e =
    by d.what (λ m g. needed_found rows deps m h a (All-tail (λ (x : Dep). IsStoredOn x.what) d deps s) g)
    (All-head (λ (x : Dep). IsStoredOn x.what) d deps s) e
  where
    Has : Task → Type 0
    Has t = Contains (tasks_in (rows_of rows)) t

    Goes : Type 0
    Goes = (m : ℕ) → above rows deps m ≡ Some h → All Has (flat_map (λ (x : Dep). required_on x.what) deps)

    called : (t : Task) (o : Option ℕ) → Goes → IsStored t → rank_in rows t ≡ o
        → on_some (on_some o (λ k. Some (max n (k + 1)))) (above rows deps) ≡ Some h
        → All Has (t ∷ flat_map (λ (x : Dep). required_on x.what) deps)
    called t None again st f g = absurd (cc)
    called t (Some k) again st f g =
        All-cons Has t (flat_map (λ (x : Dep). required_on x.what) deps) (rank_contains rows t k a st f) (again (max n (k + 1)) g)

    by : (w : DepOn) → Goes → IsStoredOn w → on_some (above_one rows w n) (above rows deps) ≡ Some h
        → All Has (required_on w ++ flat_map (λ (x : Dep). required_on x.what) deps)
    by (File p) again st g = again n g
    by (Called t) again st g = called t (rank_in rows t) again st refl g

-- a task without a height has no record
none_apart : (rows : Ranked) (t : Task) (k : ℕ) (d : TaskRecord × ℕ) → rank_in rows t ≡ None → k < length rows → (get_or rows k d).0.task ≢ t
none_apart [] t k d e lt same = absurd (omega (arith, lt))
none_apart (r ∷ rows) t zero d e lt same =
    let y : same_task r.0.task t ≡ true = subst (λ (u : Task). same_task r.0.task u ≡ true) same (same_refl r.0.task) in
    by (same_task r.0.task t) y e
  where
    by : (b : Bool) → b ≡ true → cond b (Some r.1) (rank_in rows t) ≡ None → ⊥
    by true y g = absurd (cc)
    by false y g = absurd (cc)
none_apart (r ∷ rows) t (suc k) d e lt same = none_apart rows t k d (by (same_task r.0.task t) e) (omega (arith, lt)) same
  where
    by : (b : Bool) → cond b (Some r.1) (rank_in rows t) ≡ None → rank_in rows t ≡ None
    by true g = absurd (cc)
    by false g = g

-- ---- the whole

row_at : (rows : Ranked) (i : ℕ) (e : TaskRecord) → i < length rows → get_or (rows_of rows) i e ≡ (get_or rows i (e, 0)).0
row_at rows i e lt = get_or-map (λ (r : TaskRecord × ℕ). r.0) rows i (e, 0) e lt

pub kept_in_order : (known : List ℕ → Bool) (rows : Ranked) → AreKept known rows → All IsStored (tasks_in (rows_of rows))
    → All (λ (r : TaskRecord). All (λ (d : Dep). IsStoredOn d.what) r.deps) (rows_of rows) → AreInOrder (rows_of rows)
kept_in_order known rows k stored deps = record {
  height = height_in rows;
  heights = λ i e lt.
      let within : i < length rows = omega (arith, lt, length-map rows (λ (r : TaskRecord × ℕ). r.0)) in
      let r = get_or rows i (e, 0) in
      rw (row_at rows i e within)
      (ap rank_or (rank_own known rows i (e, 0) k.admitted within)
      ∙ sym (over_is rows i r.0.deps 0 r.1 (k.admitted i (e, 0) within).height));
  once = λ i j e lt in_list.
      let within : j < length rows = omega (arith, in_list, length-map rows (λ (r : TaskRecord × ℕ). r.0)) in
      let d : TaskRecord × ℕ = (e, 0) in
      let f = (k.admitted j d within).fresh in
      let short : i < length (take j rows) = omega (arith, lt, within, length-take j rows) in
      rw (row_at rows i e (omega (arith, lt, within)), row_at rows j e within)
      (subst (λ (r : TaskRecord × ℕ). r.0.task ≢ (get_or rows j d).0.task) (get_or-take j rows i d lt)
      (none_apart (take j rows) (get_or rows j d).0.task i d f short));
  earlier = λ i e lt.
      let within : i < length rows = omega (arith, lt, length-map rows (λ (r : TaskRecord × ℕ). r.0)) in
      let d : TaskRecord × ℕ = (e, 0) in
      let a = k.admitted i d within in
      let front : All IsStored (tasks_in (rows_of (take i rows))) = front_stored i in
      let own : All (λ (x : Dep). IsStoredOn x.what) (get_or rows i d).0.deps =
      subst (λ (r : TaskRecord). All (λ (x : Dep). IsStoredOn x.what) r.deps) (row_at rows i e within) (deps i e lt) in
      rw (row_at rows i e within, take-map (λ (r : TaskRecord × ℕ). r.0) i rows)
      (needed_found (take i rows) (get_or rows i d).0.deps 0 (get_or rows i d).1 front own a.height);
  ascending = λ i j e lt in_list.
      let within : j < length rows = omega (arith, in_list, length-map rows (λ (r : TaskRecord × ℕ). r.0)) in
      let below : i < length rows = omega (arith, lt, within) in
      rw (row_at rows i e below, row_at rows j e within, rank_own known rows i (e, 0) k.admitted below, rank_own known rows j (e, 0) k.admitted within)
      (k.ascending i j (e, 0) lt within);
}
  where
    front_stored : (i : ℕ) → All IsStored (tasks_in (rows_of (take i rows)))
    front_stored i j t lt =
        let e : tasks_in (rows_of (take i rows)) ≡ take i (tasks_in (rows_of rows)) =
        ap tasks_in (sym (take-map (λ (r : TaskRecord × ℕ). r.0) i rows)) ∙ sym (take-map (λ (r : TaskRecord). r.task) i (rows_of rows)) in
        let few : j < length (take i (tasks_in (rows_of rows))) = subst (λ (l : List Task). j < length l) e lt in
        rw (e, get_or-take i (tasks_in (rows_of rows)) j t (omega (arith, few, length-take i (tasks_in (rows_of rows)))))
        (stored j t (omega (arith, few, length-take i (tasks_in (rows_of rows)))))
