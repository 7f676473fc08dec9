-- The fault of roots and records is one that the bytes have.
use Rattle.std.proofs.Common.{◌≡◌, ℕ, zero, suc, ◌+◌, ◌-◌, ◌^◌, ◌<◌, ◌≤◌, Bool, true, false, cond, List, [], ◌∷◌, ◌++◌, length}
use Rattle.std.proofs.Common.{Result, Ok, Err, refl, sym, ap, subst, ◌∙◌, append_assoc, arith, inl, inr}
use Rattle.std.specs.Prelude.{All, Contains, Option, Some, None, is_some, ◌⊎◌}
use Rattle.std.specs.List.{flat_map}
use Rattle.std.proofs.lemmas.List.{length-append, length-map, map-append}
use Rattle.std.proofs.lemmas.List.Elements.{All-nil, All-cons, All-head, All-tail}
use Rattle.pie_value.specs.declared.task.Task.{Task}
use Rattle.pie_value.specs.Canonical.{be32, enc_task}
use Rattle.pie_value.proofs.Taking.{IsBytes}
use Rattle.pie_record.specs.declared.task_record.TaskRecord.{TaskRecord}
use Rattle.pie_record.specs.Canonical.{listed, enc_record}
use Rattle.pie_store.specs.declared.image.StoreImage.{StoreImage}
use Rattle.pie_store.specs.declared.store_fault.StoreFault.{StoreFault}
use Rattle.pie_store.specs.declared.store_fault.StoreFault.TheVariants.{Row, Order, Rest as More}
use Rattle.pie_store.specs.Canonical.{tasks_in}
use Rattle.pie_store.specs.Ranks.{Ranked, same_task, rank_in, IsStored}
use Rattle.pie_store.specs.inner.Reading.{Parsed, list_at, next_root, next_row, first_missing, closed, tasks_of, rows_of, then_image, image_of, tail_of}
use Rattle.pie_store.specs.Faults.{Head, Roots, Rows, roots_at, rows_at, FaultInside}
use Rattle.pie_store.specs.Faults.{root_unread, row_unread, row_misplaced, root_missing, left_over}
use Rattle.pie_store.proofs.Turns.{same_value}
use Rattle.pie_store.proofs.Ranking.{same_refl}
use Rattle.pie_store.proofs.Admitted.{AreKept, kept_none}
use Rattle.pie_store.proofs.StoreParts.{list_taken, list_kept, roots_taker, rows_taker, root_bytes, IsRoot, row_bytes, IsRankedRow}
use Rattle.pie_store.proofs.StoreParts.{rows_push, rows_stored, roots_found}
use Rattle.pie_store.proofs.StoreTexts.{firsts_listed, firsts_all}
use Rattle.pie_store.proofs.ReadAgain.{root_list_read}
use Rattle.pie_store.proofs.Stopping.{Named}
use Rattle.pie_store.proofs.Stops.{KnownIs, roots_fault, rows_fault, good_rows}

-- ---- steps

pub then_image_err : {A : Type 0} (p : Parsed A) (k : A → List ℕ → Result StoreImage StoreFault) (e : StoreFault) → then_image p k ≡ Err e
    → (p ≡ Err e) ⊎ ((a : A) × (mid : List ℕ) × (p ≡ Ok (a, mid)) × (k a mid ≡ Err e))
then_image_err (Ok q) k e f = inr (q.0, q.1, refl, f)
then_image_err (Err d) k e f = inl (cc)

pub closed_err : (o : Option ℕ) (rest : List ℕ) (s : StoreImage) (e : StoreFault) → closed o rest s ≡ Err e
    → ((at : ℕ) × (o ≡ Some at) × (e ≡ Order at)) ⊎ ((o ≡ None) × (e ≡ More) × (0 < length rest))
closed_err (Some at) rest s e f = inl (at, refl, cc)
closed_err None [] s e f = absurd (cc)
closed_err None (b ∷ rest) s e f = inr (refl, cc, omega arith)

-- ---- a root without a record

-- a task without a height has no record
pub absent_from : (rows : Ranked) (t : Task) → rank_in rows t ≡ None → ¬ (Contains (tasks_in (rows_of rows)) t)
absent_from [] t e c = absurd (omega (arith, c.1))
absent_from (r ∷ rows) t e (zero, lt, is) =
    by (same_task r.0.task t) (subst (λ (u : Task). same_task r.0.task u ≡ true) is (same_refl r.0.task)) e
  where
    by : (b : Bool) → b ≡ true → cond b (Some r.1) (rank_in rows t) ≡ None → ⊥
    by true y g = absurd (cc)
    by false y g = absurd (cc)
absent_from (r ∷ rows) t e (suc k, lt, is) = absent_from rows t (by (same_task r.0.task t) e) (k, omega (arith, lt), is)
  where
    by : (b : Bool) → cond b (Some r.1) (rank_in rows t) ≡ None → rank_in rows t ≡ None
    by true g = absurd (cc)
    by false g = g

pub record FirstMissing (rows : Ranked) (roots : List (Task × ℕ)) (at : ℕ) : Type 0 where
  pub before : List (Task × ℕ)
  pub root : Task × ℕ
  pub after : List (Task × ℕ)
  pub parts : roots ≡ before ++ root ∷ after
  pub found : first_missing rows before ≡ None
  pub missing : rank_in rows root.0 ≡ None
  pub place : root.1 ≡ at

pub missing_split : (rows : Ranked) (roots : List (Task × ℕ)) (at : ℕ) → first_missing rows roots ≡ Some at → FirstMissing rows roots at
missing_split rows [] at e = absurd (cc)
missing_split rows (r ∷ roots) at e = by (rank_in rows r.0) refl e (λ f. missing_split rows roots at f)
  where
    by : (o : Option ℕ) → rank_in rows r.0 ≡ o → cond (is_some o) (first_missing rows roots) (Some r.1) ≡ Some at
        → (first_missing rows roots ≡ Some at → FirstMissing rows roots at) → FirstMissing rows (r ∷ roots) at
    by None f g more = record { before = []; root = r; after = roots; parts = refl; found = refl; missing = f; place = cc }
    by (Some h) f g more =
        let m = more g in
        record {
          before = r ∷ m.before;
          root = m.root;
          after = m.after;
          parts = ap (λ (l : List (Task × ℕ)). r ∷ l) m.parts;
          found = ap (λ (o : Option ℕ). cond (is_some o) (first_missing rows m.before) (Some r.1)) f ∙ m.found;
          missing = m.missing;
          place = m.place;
        }

pub flat_append : {A : Type 0} (f : A → List ℕ) (xs ys : List A) → flat_map f (xs ++ ys) ≡ flat_map f xs ++ flat_map f ys
flat_append f [] ys = refl
flat_append {A} f (x ∷ xs) ys = ap (λ (l : List ℕ). f x ++ l) (flat_append f xs ys) ∙ sym (append_assoc (f x) (flat_map f xs) (flat_map f ys))

pub length_be32 : (n : ℕ) → length (be32 n) ≡ 4
unfolding be32
length_be32 n = refl

-- the offset of a root
pub root_place : (end : ℕ) (bs : List ℕ) (roots : List (Task × ℕ)) (mid : List ℕ) (before : List (Task × ℕ)) (r : Task × ℕ) (after : List (Task × ℕ))
    → length bs ≤ end → All IsStored (tasks_of roots) → length (tasks_of roots) < 2 ^ 32 → bs ≡ listed enc_task (tasks_of roots) ++ mid
    → list_at end (next_root end) bs ≡ Ok (roots, mid) → roots ≡ before ++ r ∷ after
    → r.1 ≡ (end - length bs) + (4 + length (flat_map enc_task (tasks_of before)))
root_place end bs roots mid before r after le stored few parts read split =
    let q = root_list_read end (tasks_of roots) mid stored few in
    let same : roots ≡ q.roots =
    same_value roots q.roots mid mid (sym read ∙ ap (λ (l : List ℕ). list_at end (next_root end) l) parts ∙ q.read) in
    let at : r.1 ≡ end - length (flat_map enc_task (tasks_of (r ∷ after)) ++ mid) = q.placed_at before r after (sym same ∙ split) in
    let tasks : tasks_of roots ≡ tasks_of before ++ tasks_of (r ∷ after) =
    ap (λ (l : List (Task × ℕ)). tasks_of l) split ∙ map-append (λ (x : Task × ℕ). x.0) before (r ∷ after) in
    let flat : flat_map enc_task (tasks_of roots) ≡ flat_map enc_task (tasks_of before) ++ flat_map enc_task (tasks_of (r ∷ after)) =
    ap (flat_map enc_task) tasks ∙ flat_append enc_task (tasks_of before) (tasks_of (r ∷ after)) in
    omega (
      arith,
      at,
      le,
      ap length parts,
      length-append (listed enc_task (tasks_of roots)) mid,
      length-append (be32 (length (tasks_of roots))) (flat_map enc_task (tasks_of roots)),
      length_be32 (length (tasks_of roots)),
      ap length flat,
      length-append (flat_map enc_task (tasks_of before)) (flat_map enc_task (tasks_of (r ∷ after))),
      length-append (flat_map enc_task (tasks_of (r ∷ after))) mid,
    )

pub all_roots : (roots : List (Task × ℕ)) → All IsStored (tasks_of roots) → All IsRoot roots
all_roots [] h = All-nil IsRoot
all_roots (r ∷ roots) h =
    All-cons IsRoot r roots (All-head IsStored r.0 (tasks_of roots) h) (all_roots roots (All-tail IsStored r.0 (tasks_of roots) h))

pub front_all : {A : Type 0} (P : A → Type 0) (xs ys : List A) → All P (xs ++ ys) → All P xs
front_all P [] ys h = All-nil P
front_all P (x ∷ xs) ys h = All-cons P x xs (All-head P x (xs ++ ys) h) (front_all P xs ys (All-tail P x (xs ++ ys) h))

-- ---- roots and records

pub tail_fault : (version : ℕ) (inside : List ℕ) (h : Head version inside) (known : List ℕ → Bool) (end : ℕ) (v : ℕ) (pipeline : Option (List ℕ))
    (funcs : List (List ℕ × List ℕ)) (e : StoreFault) → KnownIs known h.pipeline h.funcs → IsBytes h.rest → length h.rest ≤ end
    → end - length h.rest ≡ roots_at h → Named e → tail_of end known v pipeline funcs h.rest ≡ Err e → FaultInside version inside e
tail_fault version inside h known end v pipeline funcs e w fits le at n f = elim (then_image_err (list_at end (next_root end) h.rest) (λ roots after.
    then_image (list_at end (next_row known end) after) (λ rows rest. closed (first_missing rows roots) rest (image_of v pipeline funcs roots rows))) e f) [
      | inl g ↦
          let q = roots_fault end h.rest e fits le n g in
          subst (FaultInside version inside) (sym (q.1 ∙ ap (λ (m : ℕ). Row (m + q.0)) at)) (root_unread h q.0 q.2)
      | inr g ↦ with_roots g.0 g.1 g.2 g.3
    ]
  where
    with_rows : (roots : List (Task × ℕ)) (mid : List ℕ) (r : Roots h.rest) (rows : Ranked) (rest : List ℕ)
        → list_at end (next_root end) h.rest ≡ Ok (roots, mid)
        → r.roots ≡ tasks_of roots → r.rest ≡ mid → (w : Rows h.pipeline h.funcs r.rest) → w.rows ≡ rows_of rows → w.rest ≡ rest
        → closed (first_missing rows roots) rest (image_of v pipeline funcs roots rows) ≡ Err e → FaultInside version inside e
    with_rows roots mid r rows rest read is left w same over g = elim (closed_err (first_missing rows roots) rest (image_of v pipeline funcs roots rows) e g) [
      | inl m ↦
          let s = missing_split rows roots m.0 m.1 in
          let stored : All IsStored (tasks_in (rows_of rows)) =
          subst (λ (l : List TaskRecord). All IsStored (tasks_in l)) same (rows_stored w.rows w.good.0) in
          let named : All IsRoot roots = all_roots roots (subst (All IsStored) is r.stored) in
          let parts : r.roots ≡ tasks_of s.before ++ s.root.0 ∷ tasks_of s.after =
          is ∙ ap (λ (l : List (Task × ℕ)). tasks_of l) s.parts ∙ map-append (λ (x : Task × ℕ). x.0) s.before (s.root ∷ s.after) in
          let fronts : All IsRoot s.before = front_all IsRoot s.before (s.root ∷ s.after) (subst (All IsRoot) s.parts named) in
          let found : All (λ (t : Task). Contains (tasks_in w.rows) t) (tasks_of s.before) =
          firsts_all {B = ℕ} (λ (t : Task). Contains (tasks_in w.rows) t) s.before
          (subst (λ (l : List TaskRecord). All (λ (x : Task × ℕ). Contains (tasks_in l) x.0) s.before) (sym same)
          (roots_found rows s.before stored fronts s.found)) in
          let absent : ¬ (Contains (tasks_in w.rows) s.root.0) =
          subst (λ (l : List TaskRecord). ¬ (Contains (tasks_in l) s.root.0)) (sym same) (absent_from rows s.root.0 s.missing) in
          let bytes : h.rest ≡ listed enc_task (tasks_of roots) ++ mid =
          r.parts ∙ ap (λ (l : List Task). listed enc_task l ++ r.rest) is ∙ ap (λ (l : List ℕ). listed enc_task (tasks_of roots) ++ l) left in
          let place = root_place end h.rest roots mid s.before s.root s.after le (subst (All IsStored) is r.stored)
          (subst (λ (l : List Task). length l < 2 ^ 32) is r.few) bytes read s.parts in
          let offset : m.0 ≡ roots_at h + (4 + length (flat_map enc_task (tasks_of s.before))) =
          sym s.place ∙ place ∙ ap (λ (k : ℕ). k + (4 + length (flat_map enc_task (tasks_of s.before)))) at in
          subst (FaultInside version inside) (sym (m.2 ∙ ap (λ (k : ℕ). Order k) offset))
          (root_missing h r w (tasks_of s.before) s.root.0 (tasks_of s.after) parts found absent)
      | inr m ↦
          let stored : All IsStored (tasks_in (rows_of rows)) =
          subst (λ (l : List TaskRecord). All IsStored (tasks_in l)) same (rows_stored w.rows w.good.0) in
          let named : All IsRoot roots = all_roots roots (subst (All IsStored) is r.stored) in
          let found : All (λ (t : Task). Contains (tasks_in (rows_of rows)) t) (tasks_of roots) =
          firsts_all {B = ℕ} (λ (t : Task). Contains (tasks_in (rows_of rows)) t) roots (roots_found rows roots stored named m.0) in
          subst (FaultInside version inside) (sym m.1)
          (left_over h r w (subst (All (λ (t : Task). Contains (tasks_in w.rows) t)) (sym is)
          (subst (λ (l : List TaskRecord). All (λ (t : Task). Contains (tasks_in l) t) (tasks_of roots)) (sym same) found))
          (subst (λ (l : List ℕ). 0 < length l) (sym over) m.2))
    ]

    with_roots : (roots : List (Task × ℕ)) (mid : List ℕ) → list_at end (next_root end) h.rest ≡ Ok (roots, mid)
        → then_image (list_at end (next_row known end) mid) (λ rows rest. closed (first_missing rows roots) rest (image_of v pipeline funcs roots rows)) ≡ Err e
        → FaultInside version inside e
    with_roots roots mid read g =
        let p = list_taken end (next_root end) root_bytes IsRoot (roots_taker end) h.rest roots mid fits read in
        let r : Roots h.rest = record {
          roots = tasks_of roots;
          rest = mid;
          few = omega (arith, p.few, length-map roots (λ (x : Task × ℕ). x.0));
          stored = firsts_all {B = ℕ} IsStored roots p.fit;
          parts = p.takes.parts ∙ ap (λ (t : List ℕ). t ++ mid) (firsts_listed {B = ℕ} enc_task roots);
        } in
        let shorter : length h.rest ≡ length (listed enc_task (tasks_of roots)) + length mid =
        ap length r.parts ∙ length-append (listed enc_task (tasks_of roots)) mid in
        let behind : end - length mid ≡ rows_at h r = omega (arith, at, le, shorter) in
        let less : length mid ≤ end = omega (arith, le, shorter) in
        elim (then_image_err (list_at end (next_row known end) mid)
        (λ rows rest. closed (first_missing rows roots) rest (image_of v pipeline funcs roots rows)) e g) [
          | inl x ↦ elim (rows_fault known h.pipeline h.funcs end mid e w p.takes.rest_fits less n x) [
            | inl y ↦ subst (FaultInside version inside) (sym (y.1 ∙ ap (λ (m : ℕ). Row (m + y.0)) behind)) (row_unread h r y.0 y.2)
            | inr y ↦ subst (FaultInside version inside) (sym (y.1 ∙ ap (λ (m : ℕ). Order (m + y.0)) behind)) (row_misplaced h r y.0 y.2)
          ]
          | inr x ↦
              let q = list_taken end (next_row known end) row_bytes IsRankedRow (rows_taker known end) mid x.0 x.1 p.takes.rest_fits x.2 in
              let k = list_kept end (next_row known end) (AreKept known) (rows_push known end) mid x.0 x.1 (kept_none known) x.2 in
              let rs : Rows h.pipeline h.funcs mid = record {
                rows = rows_of x.0;
                rest = x.1;
                few = omega (arith, q.few, length-map x.0 (λ (z : TaskRecord × ℕ). z.0));
                good = good_rows known h.pipeline h.funcs x.0 w q.fit k;
                parts = q.takes.parts ∙ ap (λ (t : List ℕ). t ++ x.1) (firsts_listed {B = ℕ} enc_record x.0);
              } in
              with_rows roots mid r x.0 x.1 read refl refl rs refl refl x.3
        ]
