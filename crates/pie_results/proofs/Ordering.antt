-- The records of numbers in order are those of live tasks, in order.
use Rattle.std.proofs.Common.{◌≡◌, ℕ, zero, suc, ◌<◌, true, List, [], ◌∷◌, ◌++◌, length, get_or, Some, sym, ap, subst, refl, ◌∙◌, arith, inl, inr}
use Rattle.std.specs.Prelude.{All, Contains, Option, IfSome}
use Rattle.std.specs.List.{AllByRecursion, AllPairs, AllZip}
use Rattle.std.specs.List.Sorted.{IsStrictlySortedBy}
use Rattle.std.specs.Option.{option_to_list}
use Rattle.std.specs.declared.cmp.Ordering.{Ordering}
use Rattle.std.specs.declared.cmp.Ordering.TheVariants.{Less, Equal, Greater}
use Rattle.std.specs.Ordering.{nat_cmp, ordering_then, MatchOrdering}
use Rattle.std.specs.Cmp.{ranks}
use Rattle.std.specs.Cmp.Lexicographic.{slice_cmp}
use Rattle.std.proofs.lemmas.List.Elements.{All-nil, All-cons}
use Rattle.std.proofs.lemmas.List.Kept.{AllPairs-cons}
use Rattle.pie_value.specs.declared.task.Task.{Task}
use Rattle.pie_value.specs.Canonical.{enc_task}
use Rattle.pie_value.specs.Order.{byte_order}
use Rattle.pie_record.specs.Canonical.{IsStorable}
use Rattle.pie_record.specs.declared.records.Records.{Records}
use Rattle.pie_record.specs.declared.task_record.Outcome.{Outcome}
use Rattle.pie_record.specs.declared.task_record.Outcome.TheVariants as ends
use Rattle.pie_record.specs.declared.task_record.TaskRecord.{TaskRecord}
use Rattle.pie_record.specs.inner.Records.{record_of}
use Rattle.pie_store.specs.Canonical.{RowBefore}
use Rattle.pie_tables.specs.declared.tables.Tables.{Tables}
use Rattle.pie_tables.specs.Tabled.{HasFailed, IsKept, IsRecordAt, IsTables}
use Rattle.pie_results.specs.inner.Failures.{is_done}
use Rattle.pie_results.specs.inner.Ordered.{bytes_in, number_cmp, IsDoneAt, IsAmong, AreOrdered, recorded, IsOfLive, AreRecords}

-- ---- records of tables

pub record_there : (t : Tables) (n : ℕ) (r : TaskRecord) → IsTables t → record_of t.records n ≡ Some r → IsRecordAt t.names n r
record_there t n r is e = subst (λ (o : Option TaskRecord). IfSome o (IsRecordAt t.names n)) e (is.records n)

failed_not : (o : Outcome) → is_done o ≡ true → HasFailed o → ⊥
failed_not (ends.Done v) e h = h
failed_not (ends.Failed fault) e h = absurd (cc)
failed_not (ends.Cycled tasks) e h = absurd (cc)

pub done_storable : (r : TaskRecord) → IsKept r → is_done r.outcome ≡ true → IsStorable r
done_storable r (inl storable) e = storable
done_storable r (inr failed) e = absurd (failed_not r.outcome e failed)

pub some_same : {X : Type 0} (x y : X) → Some x ≡ Some y → x ≡ y
some_same x y e = cc

-- ---- numbers and their records

module _ (records : Records) (live : List ℕ) where
  numbered_zip : (nos : List ℕ) → AllByRecursion (λ (n : ℕ). (r : TaskRecord) × IsDoneAt records live n r) nos
      → AllZip (IsDoneAt records live) nos (recorded records nos)
  numbered_zip [] all = tt
  numbered_zip (n ∷ nos) all =
      subst (λ o. AllZip (IsDoneAt records live) (n ∷ nos) (option_to_list o ++ recorded records nos)) (sym all.0.1.found) (all.0.1, numbered_zip nos all.1)

  rows_all : (P : TaskRecord → Type 0) → ((n : ℕ) (r : TaskRecord) → IsDoneAt records live n r → P r) → (nos : List ℕ) (rows : List TaskRecord)
      → AllZip (IsDoneAt records live) nos rows → All P rows
  rows_all P h [] [] z = All-nil P
  rows_all P h [] (r ∷ rows) z = elim z [ ]
  rows_all P h (n ∷ nos) [] z = elim z [ ]
  rows_all P h (n ∷ nos) (r ∷ rows) z = All-cons P r rows (h n r z.0) (rows_all P h nos rows z.1)

  zip_length : (nos : List ℕ) (rows : List TaskRecord) → AllZip (IsDoneAt records live) nos rows → length rows ≡ length nos
  zip_length [] [] z = refl
  zip_length [] (r ∷ rows) z = elim z [ ]
  zip_length (n ∷ nos) [] z = elim z [ ]
  zip_length (n ∷ nos) (r ∷ rows) z = let rest = zip_length nos rows z.1 in omega (arith, rest)

  -- a number has its record among these
  number_row : (nos : List ℕ) (rows : List TaskRecord) (n : ℕ) (r : TaskRecord) (i : ℕ) → record_of records n ≡ Some r
      → AllZip (IsDoneAt records live) nos rows → i < length nos → get_or nos i n ≡ n → Contains rows r
  number_row [] rows n r i found z l e = absurd (omega (arith, l))
  number_row (m ∷ nos) [] n r i found z l e = elim z [ ]
  number_row (m ∷ nos) (s ∷ rows) n r zero found z l e =
      (0, omega arith, some_same s r (sym z.0.found ∙ ap (record_of records) e ∙ found))
  number_row (m ∷ nos) (s ∷ rows) n r (suc i) found z l e =
      let k = number_row nos rows n r i found z.1 (omega (arith, l)) e in (suc k.0, omega (arith, k.1), k.2)

-- ---- the order

before : (height : Task → ℕ) (n m : ℕ) (a b : List ℕ) (r s : TaskRecord) → height r.task ≡ n → height s.task ≡ m → a ≡ enc_task r.task → b ≡ enc_task s.task
    → ordering_then (nat_cmp n m) (slice_cmp nat_cmp a b) ≡ Less → RowBefore height r s
before height n m a b r s hr hs ar bs e = by (nat_cmp n m) (ranks n m) e
  where
    by : (o : Ordering) → MatchOrdering o (n < m) (n ≡ m) (m < n) → ordering_then o (slice_cmp nat_cmp a b) ≡ Less → RowBefore height r s
    by Less lt h = inl (omega (arith, lt, hr, hs))
    by Equal eq h =
        inr (hr ∙ eq ∙ sym hs, subst (λ (x : List ℕ). byte_order x (enc_task s.task) ≡ Less) ar (subst (λ (y : List ℕ). byte_order a y ≡ Less) bs h))
    by Greater gt h = absurd (cc)

module _ (records : Records) (heights live : List ℕ) (height : Task → ℕ) where
  -- the height of each record is that of its number
  abbrev AreHigh : Type 0
  AreHigh = (n : ℕ) (r : TaskRecord) → IsDoneAt records live n r → height r.task ≡ get_or heights n 0

  all_after : AreHigh → (n : ℕ) (r : TaskRecord) (nos : List ℕ) (rows : List TaskRecord) → IsDoneAt records live n r
      → AllZip (IsDoneAt records live) nos rows → AllByRecursion (λ (m : ℕ). number_cmp records heights n m ≡ Less) nos → All (RowBefore height r) rows
  all_after h n r [] [] is z less = All-nil (RowBefore height r)
  all_after h n r [] (s ∷ rows) is z less = elim z [ ]
  all_after h n r (m ∷ nos) [] is z less = elim z [ ]
  all_after h n r (m ∷ nos) (s ∷ rows) is z less =
      All-cons (RowBefore height r) s rows
      (before height (get_or heights n 0) (get_or heights m 0) (bytes_in (record_of records n)) (bytes_in (record_of records m)) r s (h n r is) (h m s z.0)
      (ap bytes_in is.found) (ap bytes_in z.0.found) less.0)
      (all_after h n r nos rows is z.1 less.1)

  rows_ascend : AreHigh → (nos : List ℕ) (rows : List TaskRecord) → AllZip (IsDoneAt records live) nos rows
      → IsStrictlySortedBy (number_cmp records heights) nos → AllPairs (RowBefore height) rows
  unfolding IsStrictlySortedBy
  rows_ascend h [] [] z asc = λ i j d lt within. absurd (omega (arith, within))
  rows_ascend h [] (r ∷ rows) z asc = elim z [ ]
  rows_ascend h (n ∷ nos) [] z asc = elim z [ ]
  rows_ascend h (n ∷ nos) (r ∷ rows) z asc =
      AllPairs-cons (RowBefore height) r rows (all_after h n r nos rows z.0 z.1 asc.0) (rows_ascend h nos rows z.1 asc.1)

-- ---- all of it

pub rows_storable : (t : Tables) (heights live nos : List ℕ) (rows : List TaskRecord) → IsTables t → AreOrdered t.records heights live live nos
    → rows ≡ recorded t.records nos → All IsStorable rows
rows_storable t heights live nos rows is a e =
    rows_all t.records live IsStorable (λ n r at. done_storable r (record_there t n r is at.found).kept at.done) nos rows
    (subst (λ (rs : List TaskRecord). AllZip (IsDoneAt t.records live) nos rs) (sym e) (numbered_zip t.records live nos a.only))

pub rows_are : (t : Tables) (heights live nos : List ℕ) (rows : List TaskRecord) → IsTables t → AreOrdered t.records heights live live nos
    → rows ≡ recorded t.records nos → AreRecords t.names t.records heights live rows
rows_are t heights live nos rows is a e = record {
  few = let size = zip_length t.records live nos rows zip in omega (arith, size, a.few);
  only = rows_all t.records live (IsOfLive t.records live)
      (λ n r at. record { number = n; is_live = at.is_live; found = at.found; done = at.done }) nos rows zip;
  each = λ n r is_live found done.
      let k : Contains nos n = subst (λ (o : Option TaskRecord). IfSome o (IsAmong nos n)) found (a.each n is_live) done in
      number_row t.records live nos rows n r k.0 found zip k.1 k.2;
  ascending = λ height has. rows_ascend t.records heights live height
      (λ n r at. has n r.task (record_there t n r is at.found).named) nos rows zip a.ascending;
}
  where
    zip : AllZip (IsDoneAt t.records live) nos rows
    zip = subst (λ (rs : List TaskRecord). AllZip (IsDoneAt t.records live) nos rs) (sym e) (numbered_zip t.records live nos a.only)
