-- The rows of a build are all its records.
use Rattle.std.proofs.Common.{◌≡◌, ℕ, List, length, Some, sym, ap, subst, ◌∙◌}
use Rattle.std.specs.Prelude.{All, Contains, IfSome, Option}
use Rattle.std.specs.List.{AllZip}
use Rattle.std.proofs.lemmas.List.Elements.{All-contains}
use Rattle.pie_value.specs.Canonical.{enc_task, IsCanonicalTask}
use Rattle.pie_record.specs.declared.task_record.TaskRecord.{TaskRecord}
use Rattle.pie_record.specs.inner.Names.{AreDistinct}
use Rattle.pie_record.specs.inner.Records.{record_of}
use Rattle.pie_store.specs.Canonical.{tasks_in}
use Rattle.pie_check_laws.proofs.Members.{from_map}
use Rattle.pie_builder_laws.specs.Names.{AreTasks}
use Rattle.pie_builder_laws.specs.Builds.{AreRows}
use Rattle.pie_builder_laws.proofs.Naming.{one_place}
use Rattle.pie_fresh.specs.declared.ledger.Ledger.{Ledger}
use Rattle.pie_fresh.specs.inner.Ledgers.{IsLedger}
use Rattle.pie_fresh.specs.inner.Ordered.{Place, IsPlace, ArePlaces, recorded, AreOrdered}
use Rattle.pie_fresh.proofs.Ordering.{placed_zip, rows_all, recorded_at, ordered_rows}

some_same : (r s : TaskRecord) → Some r ≡ Some s → r ≡ s
some_same r s e = cc

-- a record is a row where the row of its task is a record: no other number has the task
row_here : (l : Ledger) (rows : List TaskRecord) (n : ℕ) (r : TaskRecord) → IsLedger l → AreTasks l.names
    → All (λ (s : TaskRecord). (m : ℕ) × (record_of l.records m ≡ Some s)) rows → record_of l.records n ≡ Some r → Contains (tasks_in rows) r.task
    → Contains rows r
row_here l rows n r is tasks numbered found has =
    let row = from_map (λ (s : TaskRecord). s.task) rows r.task has in
    let number = All-contains (λ (s : TaskRecord). (m : ℕ) × (record_of l.records m ≡ Some s)) rows row.0 numbered row.1 in
    let place : number.0 ≡ n
    = one_place l.names tasks number.0 n r.task ((recorded_at l number.0 row.0 is number.1).named ∙ ap Some row.2) (recorded_at l n r is found).named in
    subst (Contains rows) (some_same row.0 r (sym number.1 ∙ ap (record_of l.records) place ∙ found)) row.1

pub whole_rows : {Z : Type 0} (l : Ledger) (es : List (Place Z)) (rows : List TaskRecord) → IsLedger l → AreDistinct l.names
    → All (λ t. IsCanonicalTask t (enc_task t)) l.names → ArePlaces l (length l.heights.items) es → rows ≡ recorded l.records es
    → AreRows l.names l.records rows
whole_rows {Z} l es rows is distinct canonical a e = record {
  order = ordered.order;
  named = λ n r found. (recorded_at l n r is found).named;
  only = numbered;
  each = λ n r found. row_here l rows n r is (record { distinct = distinct; canonical = canonical }) numbered found
      (subst (λ (p : Option TaskRecord). IfSome p (λ s. Contains (tasks_in rows) s.task)) found (ordered.each n));
}
  where
    ordered : AreOrdered l rows
    ordered = ordered_rows l es rows is distinct canonical a e

    numbered : All (λ (r : TaskRecord). (n : ℕ) × (record_of l.records n ≡ Some r)) rows
    numbered =
        rows_all l (λ r. (n : ℕ) × (record_of l.records n ≡ Some r)) (λ p r at. (p.1, at.done)) es rows
        (subst (λ (rs : List TaskRecord). AllZip (IsPlace l) es rs) (sym e) (placed_zip l es a.only))
