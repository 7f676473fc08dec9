-- Records that are kept under the numbers of their tasks.
use Rattle.std.proofs.Common.{◌≡◌, ℕ, ◌≤◌, List, length, Option, Some, None, refl, sym, ap, subst, ◌∙◌, arith, inl}
use Rattle.std.specs.Prelude.{All, IfSome, slice_get}
use Rattle.std.specs.Option.{option_map}
use Rattle.std.proofs.lemmas.List.{length-map}
use Rattle.std.proofs.lemmas.Option.{get_or_from_slice_get, slice_get-map, slice_get_within}
use Rattle.pie_value.specs.declared.task.Task.{Task}
use Rattle.pie_record.specs.Canonical.{IsStorable}
use Rattle.pie_record.specs.declared.records.Records.{Records}
use Rattle.pie_record.specs.declared.task_record.TaskRecord.{TaskRecord}
use Rattle.pie_record.specs.inner.Records.{record_of}
use Rattle.pie_store.specs.Canonical.{tasks_in}
use Rattle.pie_tables.specs.Tabled.{IsRecordAt}

-- the record at a place is that of the task with this number
pub record_at : (rows : List TaskRecord) (names : List Task) (records : Records) → names ≡ tasks_in rows → All IsStorable rows
    → ((n : ℕ) → record_of records n ≡ slice_get rows n) → (n : ℕ) → IfSome (record_of records n) (IsRecordAt names n)
record_at rows names records same storable all n =
    subst (λ (o : Option TaskRecord). IfSome o (IsRecordAt names n)) (sym (all n)) (by (slice_get rows n) refl)
  where
    by : (o : Option TaskRecord) → slice_get rows n ≡ o → IfSome o (IsRecordAt names n)
    by None e = tt
    by (Some r) e = record {
      named = ap (λ (ts : List Task). slice_get ts n) same ∙ slice_get-map (λ (x : TaskRecord). x.task) rows n ∙ ap (option_map (λ (x : TaskRecord). x.task)) e;
      kept = inl (subst IsStorable (get_or_from_slice_get rows n r r e) (storable n r (slice_get_within rows n r e)));
    }

pub few_tasks : (rows : List TaskRecord) (names : List Task) → names ≡ tasks_in rows → length rows ≤ 50000 → length names ≤ 50000
few_tasks rows names same few =
    let size : length names ≡ length (tasks_in rows) = ap length same in
    let all : length (tasks_in rows) ≡ length rows = length-map rows (λ (r : TaskRecord). r.task) in
    omega (arith, size, all, few)
