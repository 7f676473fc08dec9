-- Whether a root has an output.
use Rattle.std.proofs.Common.{◌≡◌, ◌⊎◌, ℕ, ◌<◌, true, false, List, Option, None, Some, get_or, refl, sym, ap, ◌∙◌, inl, inr}
use Rattle.std.specs.Option.{option_map, option_map_or}
use Rattle.std.specs.Prelude.{slice_get}
use Rattle.std.proofs.lemmas.Bool.{cases_order}
use Rattle.std.proofs.lemmas.Option.{slice_get_within, get_or_from_slice_get}
use Rattle.pie_value.specs.declared.task.Task.{Task}
use Rattle.pie_record.specs.declared.task_record.Outcome.{Outcome}
use Rattle.pie_record.specs.declared.task_record.TaskRecord.{TaskRecord}
use Rattle.pie_record.specs.inner.Names.{AreDistinct}
use Rattle.pie_record.specs.inner.Records.{record_of as kept_of}
use Rattle.pie_results.specs.inner.Failures.{is_done}
use Rattle.pie_topdown.specs.declared.ledger.Ledger.{Ledger}
use Rattle.pie_topdown.specs.inner.Ledgers.{HasOutput}
use Rattle.pie_topdown.specs.inner.Roots.{IsSettledRoot}

abbrev outcome_at : Option TaskRecord → Option Outcome
outcome_at o = option_map (λ (r : TaskRecord). r.outcome) o

pub output_settles : (l : Ledger) (t : Task) (n : ℕ) (o : Option Outcome) → slice_get l.tables.names n ≡ Some t
    → o ≡ option_map (λ (r : TaskRecord). r.outcome) (kept_of l.tables.records n) → true ≡ option_map_or is_done o false → IsSettledRoot l t
output_settles l t n o named is done = record { number = n; named = named; output = by (kept_of l.tables.records n) refl (done ∙ ap (λ x. option_map_or is_done x false) is) }
  where
    by : (k : Option TaskRecord) → kept_of l.tables.records n ≡ k → true ≡ option_map_or is_done (outcome_at (kept_of l.tables.records n)) false
        → HasOutput l.tables.records n
    by None e h = absurd (let apart : true ≡ false = h ∙ ap (λ x. option_map_or is_done (outcome_at x) false) e in cc)
    by (Some rec) e h = record { rec = rec; kept = e; done = sym (h ∙ ap (λ x. option_map_or is_done (outcome_at x) false) e) }

-- a task has one number
one_number : (names : List Task) → AreDistinct names → (i j : ℕ) (t : Task) → slice_get names i ≡ Some t → slice_get names j ≡ Some t → i ≡ j
one_number names apart i j t e f = by (cases_order i j)
  where
    same : get_or names i t ≡ get_or names j t
    same = get_or_from_slice_get names i t t e ∙ sym (get_or_from_slice_get names j t t f)

    by : (i ≡ j) ⊎ ((i < j) ⊎ (j < i)) → i ≡ j
    by (inl h) = h
    by (inr (inl l)) = absurd (apart i j t l (slice_get_within names j t f) same)
    by (inr (inr l)) = absurd (apart j i t l (slice_get_within names i t e) (sym same))

pub never_settled : (l : Ledger) (t : Task) (n : ℕ) (o : Option Outcome) → AreDistinct l.tables.names → slice_get l.tables.names n ≡ Some t
    → o ≡ option_map (λ (r : TaskRecord). r.outcome) (kept_of l.tables.records n) → false ≡ option_map_or is_done o false → IsSettledRoot l t → ⊥
never_settled l t n o distinct named is none root =
    let one : n ≡ root.number = one_number l.tables.names distinct n root.number t named root.named in
    let kept : kept_of l.tables.records n ≡ Some root.output.rec = ap (kept_of l.tables.records) one ∙ root.output.kept in
    let apart : false ≡ true =
    none ∙ ap (λ x. option_map_or is_done x false) is ∙ ap (λ x. option_map_or is_done (outcome_at x) false) kept ∙ root.output.done in
    absurd (cc)
