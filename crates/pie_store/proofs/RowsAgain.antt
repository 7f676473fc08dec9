-- The text of roots and records is read again.
use Rattle.std.proofs.Common.{◌≡◌, ℕ, zero, suc, ◌-◌, ◌^◌, ◌<◌, Bool, true, cond, List, [], ◌∷◌, ◌++◌, length, get_or, take}
use Rattle.std.proofs.Common.{Ok, refl, sym, ap, subst, ◌∙◌, append-nil, arith}
use Rattle.std.specs.Prelude.{All, Contains, Option, Some, None, is_some}
use Rattle.std.proofs.lemmas.List.{take-map, get_or-map, get_or-take, length-map, length-take, get_or_default}
use Rattle.std.proofs.lemmas.List.Elements.{All-head, All-tail}
use Rattle.pie_value.specs.declared.task.Task.{Task}
use Rattle.pie_value.specs.Canonical.{enc_task}
use Rattle.pie_value.specs.Order.{byte_order}
use Rattle.pie_record.specs.declared.task_record.TaskRecord.{TaskRecord}
use Rattle.pie_record.specs.Canonical.{listed, enc_record}
use Rattle.pie_record.proofs.RecordCodec.{record_codec}
use Rattle.pie_store.specs.declared.image.StoreImage.{StoreImage}
use Rattle.pie_store.specs.Canonical.{tasks_in, AreInOrder}
use Rattle.pie_store.specs.Ranks.{Ranked, is_before, follows, comes_last, height_after, IsStored}
use Rattle.pie_store.specs.Texts.{IsRow, IsStore}
use Rattle.pie_store.specs.inner.Reading.{Parsed, then_on, list_at, ranked_as, next_row}
use Rattle.pie_store.specs.inner.Reading.{first_missing, closed, tasks_of, rows_of, then_image, image_of, tail_of}
use Rattle.pie_store.proofs.Pairs.{last_is, ahead_on}
use Rattle.pie_store.proofs.Admitted.{Admits, AreAdmitted, admits_on}
use Rattle.pie_store.proofs.StoreParts.{row_bytes, row_stored, rows_stored}
use Rattle.pie_store.proofs.StoreTexts.{firsts_listed}
use Rattle.pie_store.proofs.ReadAgain.{part_again, AreRead, list_again, root_list_read, ranked, rows_ranked, rank_found, rank_missing, above_again}

-- ---- records

pub task_at_place : (rows : List TaskRecord) (k : ℕ) (d : TaskRecord) → k < length rows → get_or (tasks_in rows) k d.task ≡ (get_or rows k d).task
task_at_place rows k d lt = get_or-map (λ (r : TaskRecord). r.task) rows k d d.task lt

pub front_stored : (rows : List TaskRecord) (i : ℕ) → All IsRow rows → All IsStored (tasks_in (take i rows))
front_stored rows i h = rows_stored (take i rows) (λ k d lt.
    let below : k < i = omega (arith, lt, length-take i rows) in
    rw (get_or-take i rows k d below) (h k d (omega (arith, lt, length-take i rows))))

pub record_admitted : (known : List ℕ → Bool) (rows : List TaskRecord) (i : ℕ) (e : TaskRecord) (o : AreInOrder rows) → All IsRow rows
    → known (get_or rows i e).task.func ≡ true → i < length rows
    → Admits known (ranked o.height (take i rows)) (get_or rows i e) (o.height (get_or rows i e).task)
record_admitted known rows i e o fit func lt = record {
  fresh = rank_missing o.height (take i rows) r.task (front_stored rows i fit) (row_stored r (fit i e lt)) (λ c.
      let short : c.0 < i = omega (arith, c.1, length-map (take i rows) (λ (x : TaskRecord). x.task), length-take i rows) in
      let in_front : c.0 < length (take i rows) = omega (arith, c.1, length-map (take i rows) (λ (x : TaskRecord). x.task)) in
      o.once c.0 i r short lt
      (sym (ap (λ (x : TaskRecord). x.task) (get_or-take i rows c.0 r short)) ∙ sym (task_at_place (take i rows) c.0 r in_front) ∙ c.2
      ∙ ap (λ (x : TaskRecord). x.task) (same_place i e r lt)));
  height = above_again o.height (take i rows) r.deps 0 (front_stored rows i fit) (o.earlier i e lt) ∙ ap (λ (n : ℕ). Some n) (sym (o.heights i e lt));
  last = by i lt;
  func = func;
}
  where
    r : TaskRecord
    r = get_or rows i e

    same_place : (k : ℕ) (d f : TaskRecord) → k < length rows → get_or rows k d ≡ get_or rows k f
    same_place k d f h = get_or_default rows k d f h

    by : (k : ℕ) → k < length rows → comes_last (ranked o.height (take k rows)) (get_or rows k e).task (o.height (get_or rows k e).task) ≡ true
    by zero h = refl
    by (suc k) h =
        let front = take (suc k) rows in
        let x = get_or rows (suc k) e in
        let y = get_or rows k e in
        let long : suc k ≡ length (ranked o.height front) =
        omega (arith, h, length-take (suc k) rows, length-map {B = TaskRecord × ℕ} front (λ (z : TaskRecord). (z, o.height z.task))) in
        let at : get_or (ranked o.height front) k (e, 0) ≡ (y, o.height y.task) =
        get_or-map (λ (z : TaskRecord). (z, o.height z.task)) front k e (e, 0) (omega (arith, h, length-take (suc k) rows))
        ∙ ap (λ (z : TaskRecord). (z, o.height z.task)) (get_or-take (suc k) rows k e (omega arith)) in
        ap (λ (f : Option (TaskRecord × ℕ)). follows f x.task (o.height x.task)) (last_is (ranked o.height front) k (e, 0) long)
        ∙ ap (λ (z : TaskRecord × ℕ). is_before z.0.task z.1 x.task (o.height x.task)) at
        ∙ ahead_on (o.height y.task) (o.height x.task) (byte_order (enc_task y.task) (enc_task x.task)) (o.ascending k (suc k) e (omega arith) h)

-- records in order are admitted one after another, with the heights of the order
pub order_admitted : (known : List ℕ → Bool) (rows : List TaskRecord) (o : AreInOrder rows) → All IsRow rows
    → All (λ (r : TaskRecord). known r.task.func ≡ true) rows → AreAdmitted known (ranked o.height rows)
order_admitted known rows o fit func i d lt =
    let within : i < length rows = omega (arith, lt, length-map {B = TaskRecord × ℕ} rows (λ (r : TaskRecord). (r, o.height r.task))) in
    let r = get_or rows i d.0 in
    let at : get_or (ranked o.height rows) i d ≡ (r, o.height r.task) = get_or-map (λ (x : TaskRecord). (x, o.height x.task)) rows i d.0 d within in
    let front : take i (ranked o.height rows) ≡ ranked o.height (take i rows) = take-map (λ (x : TaskRecord). (x, o.height x.task)) i rows in
    subst (λ (x : TaskRecord × ℕ). Admits known (take i (ranked o.height rows)) x.0 x.1) (sym at)
    (subst (λ (l : Ranked). Admits known l r (o.height r.task)) (sym front) (record_admitted known rows i d.0 o fit (func i d.0 within) within))

pub rows_read : (known : List ℕ → Bool) (end : ℕ) (rows : List TaskRecord) (o : AreInOrder rows) → All IsRow rows
    → All (λ (r : TaskRecord). known r.task.func ≡ true) rows → AreRead (next_row known end) row_bytes (ranked o.height rows)
unfolding next_row
rows_read known end rows o fit func i d tail lt =
    let within : i < length rows = omega (arith, lt, length-map {B = TaskRecord × ℕ} rows (λ (r : TaskRecord). (r, o.height r.task))) in
    let x = get_or (ranked o.height rows) i d in
    let bs = enc_record x.0 ++ tail in
    let front = take i (ranked o.height rows) in
    let same : x.0 ≡ get_or rows i d.0 =
    ap (λ (y : TaskRecord × ℕ). y.0) (get_or-map (λ (y : TaskRecord). (y, o.height y.task)) rows i d.0 d within) in
    let w : IsRow x.0 = subst IsRow (sym same) (fit i d.0 within) in
    let passed : height_after known front x.0 ≡ Some x.1 = admits_on known front x.0 x.1 (order_admitted known rows o fit func i d lt) in
    ap (λ (p : Parsed TaskRecord). then_on p (λ y left. ranked_as (end - length bs) (height_after known front y) y left))
    (part_again record_codec end x.0 tail (w.storable, w.parts))
    ∙ ap (λ (f : Option ℕ). ranked_as (end - length bs) f x.0 tail) passed

-- ---- the tail

pub none_missing : (height : Task → ℕ) (rows : List TaskRecord) (roots : List (Task × ℕ)) → All IsStored (tasks_in rows)
    → All IsStored (tasks_of roots) → All (λ (t : Task). Contains (tasks_in rows) t) (tasks_of roots) → first_missing (ranked height rows) roots ≡ None
none_missing height rows [] a s h = refl
none_missing height rows (r ∷ roots) a s h =
    let found = rank_found height rows r.0 a (All-head IsStored r.0 (tasks_of roots) s)
    (All-head (λ (t : Task). Contains (tasks_in rows) t) r.0 (tasks_of roots) h) in
    ap (λ (o : Option ℕ). cond (is_some o) (first_missing (ranked height rows) roots) (Some r.1)) found
    ∙ none_missing height rows roots a (All-tail IsStored r.0 (tasks_of roots) s) (All-tail (λ (t : Task). Contains (tasks_in rows) t) r.0 (tasks_of roots) h)

pub image_is : (s : StoreImage) (version : ℕ) (pipeline : Option (List ℕ)) (funcs : List (List ℕ × List ℕ)) (roots : List (Task × ℕ)) (rows : Ranked)
    → version ≡ s.version → pipeline ≡ s.pipeline → funcs ≡ s.funcs → tasks_of roots ≡ s.roots → rows_of rows ≡ s.rows
    → image_of version pipeline funcs roots rows ≡ s
image_is s version pipeline funcs roots rows v p f t r =
    λ i. record { version = v i; pipeline = p i; funcs = f i; roots = t i; rows = r i }

pub tail_again : (end : ℕ) (known : List ℕ → Bool) (s : StoreImage) (version : ℕ) (pipeline : Option (List ℕ)) (funcs : List (List ℕ × List ℕ)) → IsStore s
    → version ≡ s.version → pipeline ≡ s.pipeline → funcs ≡ s.funcs → All (λ (r : TaskRecord). known r.task.func ≡ true) s.rows
    → tail_of end known version pipeline funcs (listed enc_task s.roots ++ listed enc_record s.rows) ≡ Ok s
tail_again end known s version pipeline funcs h v p f func =
    let rows = ranked h.order.height s.rows in
    let q = root_list_read end s.roots (listed enc_record s.rows) h.roots h.few_roots in
    let firsts : rows_of rows ≡ s.rows = rows_ranked h.order.height s.rows in
    let stored : All IsStored (tasks_in s.rows) = rows_stored s.rows h.rows in
    let bytes : listed row_bytes rows ++ [] ≡ listed enc_record s.rows =
    append-nil (listed row_bytes rows) ∙ firsts_listed {B = ℕ} enc_record rows ∙ ap (λ (l : List TaskRecord). listed enc_record l) firsts in
    let few : length rows < 2 ^ 32 = omega (arith, h.few_rows, length-map {B = TaskRecord × ℕ} s.rows (λ (r : TaskRecord). (r, h.order.height r.task))) in
    let read : list_at end (next_row known end) (listed enc_record s.rows) ≡ Ok (rows, []) =
    ap (λ (bs : List ℕ). list_at end (next_row known end) bs) (sym bytes)
    ∙ list_again end (next_row known end) row_bytes rows [] (rows_read known end s.rows h.order h.rows func) few in
    let all : first_missing rows q.roots ≡ None =
    none_missing h.order.height s.rows q.roots stored (subst (All IsStored) (sym q.tasks_are) h.roots)
    (subst (All (λ (t : Task). Contains (tasks_in s.rows) t)) (sym q.tasks_are) h.closed) in
    ap (λ (x : Parsed (List (Task × ℕ))). then_image x (λ roots after.
    then_image (list_at end (next_row known end) after) (λ ws rest. closed (first_missing ws roots) rest (image_of version pipeline funcs roots ws)))) q.read
    ∙ ap (λ (x : Parsed Ranked). then_image x (λ ws rest. closed (first_missing ws q.roots) rest (image_of version pipeline funcs q.roots ws))) read
    ∙ ap (λ (o : Option ℕ). closed o [] (image_of version pipeline funcs q.roots rows)) all
    ∙ ap (λ (x : StoreImage). Ok x) (image_is s version pipeline funcs q.roots rows v p f q.tasks_are firsts)
