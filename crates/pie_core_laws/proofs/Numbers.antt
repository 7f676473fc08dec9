-- What stands under the names of tasks, and the ranks of their records.
use Rattle.std.proofs.Common.{◌≡◌, ◌⊎◌, inl, inr, ℕ, ◌<◌, Bool, true, false, Some, List, map, sym, ap, subst, ◌∙◌, arith}
use Rattle.std.specs.Prelude.{slice_get, slice_index, Contains}
use Rattle.pie_value.specs.declared.task.Task.{Task}
use Rattle.pie_value.specs.Canonical.{enc_task}
use Rattle.pie_record.specs.declared.records.Records.{Records}
use Rattle.pie_record.specs.declared.task_record.TaskRecord.{TaskRecord}
use Rattle.pie_record.specs.inner.Records.{record_of as kept_of}
use Rattle.pie_model.specs.Paths.{among}
use Rattle.pie_model.specs.Records.{Record, needs_of}
use Rattle.pie_model.proofs.Basics.{cases, clash}
use Rattle.pie_builder_laws.specs.Names.{AreTasks, under_name, called_in}
use Rattle.pie_builder_laws.specs.Tables.{recorded}
use Rattle.pie_builder_laws.proofs.Naming.{distinct_names, among_from, under_number, under_absent, placed}
use Rattle.pie_builder_laws.proofs.Tabled.{needs_called, record_has_number}
use Rattle.pie_earlier_laws.specs.Telling.{GoLower}
use Rattle.pie_core_laws.specs.Exact.{rank_by}

-- what stands under a task's number stands under its name
pub by_number : {A : Type 0} (none : A) (at : ℕ → A) (names : List Task) (n : ℕ) (t : Task) → AreTasks names → slice_get names n ≡ Some t
    → under_name none at 0 names (enc_task t) ≡ at n
by_number none at names n t a e = under_number none at 0 names n t (distinct_names names a) e ∙ ap at (omega arith)

-- a task of which something is true has a number
pub record IsNumbered (names : List Task) (at : ℕ → Bool) (x : List ℕ) : Type 0 where
  pub number : ℕ
  pub task : Task
  pub named : slice_get names number ≡ Some task
  pub bytes : x ≡ enc_task task
  pub holds : at number ≡ true

pub true_by : (at : ℕ → Bool) (names : List Task) (x : List ℕ) → AreTasks names → under_name false at 0 names x ≡ true → IsNumbered names at x
true_by at names x a h = by (cases (among x (map enc_task names)))
  where
    by : (among x (map enc_task names) ≡ true) ⊎ (among x (map enc_task names) ≡ false) → IsNumbered names at x
    by (inl i) =
        let m = among_from names x i in
        record {
          number = m.number;
          task = m.task;
          named = m.named;
          bytes = m.bytes;
          holds = sym (by_number false at names m.number m.task a m.named) ∙ ap (under_name false at 0 names) (sym m.bytes) ∙ h;
        }
    by (inr i) = clash (under_name false at 0 names x) h (under_absent false at 0 names x i)

-- a required task stands before
pub record IsBefore (names : List Task) (places : List ℕ) (n : ℕ) (v : Task) : Type 0 where
  pub number : ℕ
  pub named : slice_get names number ≡ Some v
  pub lower : slice_index places number < slice_index places n

pub go_lower : (names : List Task) (records : Records) (places : List ℕ) → AreTasks names
    → ((n : ℕ) (rec : TaskRecord) (v : Task) → kept_of records n ≡ Some rec → Contains (called_in rec.deps) v → IsBefore names places n v)
    → GoLower (recorded names records) (rank_by names places)
go_lower names records places a before x r y now need =
    let m = record_has_number names records x r now in
    let u = among_from (called_in m.rec.deps) y
    (subst (λ xs. among y xs ≡ true) (ap (λ (q : Record). needs_of q.observations) m.same ∙ needs_called m.rec.deps) need) in
    let b = before m.number m.rec u.task m.kept (placed (called_in m.rec.deps) u.number u.task u.named) in
    let low : rank_by names places y ≡ slice_index places b.number =
    ap (rank_by names places) u.bytes ∙ by_number 0 (slice_index places) names b.number u.task a b.named in
    let high : rank_by names places x ≡ slice_index places m.number =
    ap (rank_by names places) m.bytes ∙ by_number 0 (slice_index places) names m.number m.task a m.named in
    less (rank_by names places y) (rank_by names places x) (slice_index places b.number) (slice_index places m.number) low high b.lower
  where
    less : (p q i j : ℕ) → p ≡ i → q ≡ j → i < j → p < q
    less p q i j e f l = subst (λ z. z < q) (sym e) (subst (λ z. i < z) (sym f) l)
