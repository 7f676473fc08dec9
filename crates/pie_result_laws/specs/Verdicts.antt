-- The verdict of a build by what changed, once its roots are settled.
use Rattle.std.specs.Prelude.{◌≡◌, ℕ, true, List, [], ◌∷◌, map, Option, Some, slice_get, Contains}
use Rattle.pie_value.specs.declared.task.Task.{Task}
use Rattle.pie_value.specs.declared.verdict.Refusal.{Refusal}
use Rattle.pie_value.specs.Canonical.{enc_task}
use Rattle.pie_record.specs.declared.records.Records.{Records}
use Rattle.pie_record.specs.declared.task_record.TaskRecord.{TaskRecord}
use Rattle.pie_record.specs.inner.Records.{record_of as kept_of}
use Rattle.pie_tables.specs.declared.tables.Tables.{Tables}
use Rattle.pie_view.specs.Content.{Staged}
use Rattle.pie_checks.specs.Records.{Wrote, Missed}
use Rattle.pie_checks.specs.Refusals.{FindsFirst}
use Rattle.pie_checks.specs.declared.built.Built.{Built}
use Rattle.pie_results.specs.inner.Failures.{FailsFirst}
use Rattle.pie_results.specs.inner.Live.{AreLive}
use Rattle.pie_results.specs.inner.Made.{Makes}
use Rattle.pie_walk.specs.Marks.{IsSettled}
use Rattle.pie_walk.specs.States.{WalkState}
use Rattle.pie_walk.specs.Standing.{Stands}
use Rattle.pie_model.specs.Trees.{is_done as ends_well}
use Rattle.pie_model.specs.Verdict.{verdict}
use Rattle.pie_check_laws.specs.Verdicts.{verdict_by}
use Rattle.pie_model_pipeline.specs.Rows.{record_of, refusal_of, verdict_of}
use Rattle.pie_model_pipeline.specs.World.{world}
use Rattle.pie_core_laws.specs.Update.{Update, present}
use Rattle.pie_core_laws.specs.Exact.{IsExact}
use Rattle.pie_core_laws.specs.Keeping.{Separates}
use Rattle.pie_core_laws.specs.Ends.{IsDoneRoot}

-- a root has a number and is settled
pub record IsSettledRoot (names : List Task) (records : Records) (s : WalkState) (root : Task) : Type 0 where
  pub number : ℕ
  pub named : slice_get names number ≡ Some root
  pub settled : IsSettled s.marks number
  pub rec : TaskRecord
  pub kept : kept_of records number ≡ Some rec

-- roots are settled one after another, until one ends without a value
abbrev pub RootsSettle : List Task → Records → WalkState → List Task → Type 0
RootsSettle names records s [] = Unit {0}
RootsSettle names records s (r ∷ rs) =
    (m : IsSettledRoot names records s r) × (ends_well (record_of m.rec).outcome ≡ true → RootsSettle names records s rs)

-- the first of the roots that failed gives the verdict
abbrev pub FailedRootsDecide : Type 0
FailedRootsDecide =
    (u : Update) (names : List Task) (records : Records) (s : WalkState) (roots : List Task) (refusal : Refusal) → IsExact u names records s → Stands s
    → Separates u → RootsSettle names records s roots → FailsFirst names records roots (Some refusal)
    → refusal_of refusal ≡ verdict world (present u) (map enc_task roots)

-- where none did, the last checks of what they reach do
abbrev pub LastChecksDecide : Type 0
LastChecksDecide =
    (u : Update) (names : List Task) (records : Records) (s : WalkState) (roots : List Task) (live : List ℕ) (answer : Option Refusal)
    → IsExact u names records s → Stands s → Separates u → ((r : Task) → Contains roots r → IsDoneRoot names records s r)
    → AreLive names roots s.rows live → FindsFirst (Wrote names records live) (Missed names records live) answer
    → verdict_by answer ≡ verdict world (present u) (map enc_task roots)

-- so what is made of the tables has the verdict of the model
abbrev pub ResultsHaveTheVerdict : Type 0
ResultsHaveTheVerdict =
    (u : Update) (t : Tables) (s : WalkState) (staged : Staged) (roots : List Task) (b : Built) → IsExact u t.names t.records s → Stands s → Separates u
    → RootsSettle t.names t.records s roots → Makes t s.rows staged roots b → verdict_of b.verdict ≡ verdict world (present u) (map enc_task roots)
