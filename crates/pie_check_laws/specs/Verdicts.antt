-- What the last checks of a build answer is the verdict of the model, where each task's record is that of its evaluation.
use Rattle.std.specs.Prelude.{◌≡◌, ◌↔◌, ℕ, ◌<◌, ◌≤◌, true, List, length, map, Option, Some, None, slice_get}
use Rattle.std.specs.List.{All, Contains, flat_map}
use Rattle.pie_value.specs.declared.task.Task.{Task}
use Rattle.pie_value.specs.declared.verdict.Refusal.{Refusal}
use Rattle.pie_value.specs.Canonical.{enc_task, IsCanonicalTask}
use Rattle.pie_record.specs.declared.records.Records.{Records}
use Rattle.pie_record.specs.declared.task_record.TaskRecord.{TaskRecord}
use Rattle.pie_record.specs.inner.Records.{record_of}
use Rattle.pie_checks.specs.Records.{Wrote, Missed}
use Rattle.pie_checks.specs.Refusals.{Paths, FindsFirst}
use Rattle.pie_model_pipeline.specs.Rows.{record_of as record_in_model, refusal_of}
use Rattle.pie_model.specs.declared.words.Verdict.{Verdict as ModelVerdict}
use Rattle.pie_model.specs.declared.words.Verdict.TheVariants.{Accepted}
use Rattle.pie_model.specs.Trees.{Node, outcome_of, is_done}
use Rattle.pie_model.specs.Evaluation.{World, Project, evaluation}
use Rattle.pie_model.specs.Records.{record_of as record_of_evaluation}
use Rattle.pie_model.specs.Forest.{entered_tasks}
use Rattle.pie_model.specs.Verdict.{written_by, missed_by, final_checks, verdict}

-- the evaluation of a task of the language
abbrev pub evaluation_of : World → Project → Task → Node
evaluation_of w P t = evaluation w P (enc_task t)

-- there is a record, it is that of the task's evaluation, and that ended with a value
abbrev pub HasRecord : World → Project → Task → Option TaskRecord → Type 0
HasRecord w P t kept =
    (rec : TaskRecord) × (kept ≡ Some rec) × (record_in_model rec ≡ record_of_evaluation w (evaluation_of w P t))
    × (is_done (outcome_of (evaluation_of w P t)) ≡ true)

-- each of these tasks has the record of its evaluation under its number, and canonical bytes
pub record AreRecorded (w : World) (P : Project) (names : List Task) (records : Records) : Type 0 where
  pub each : (n : ℕ) (t : Task) → slice_get names n ≡ Some t → HasRecord w P t (record_of records n)
  pub canonical : All (λ t. IsCanonicalTask t (enc_task t)) names

-- the entries are the paths of tasks of the language, each task by its canonical bytes
abbrev pub AreTheSame : Paths → List (List ℕ × List ℕ) → Type 0
AreTheSame R entries = (p u : List ℕ) → Contains entries (p, u) ↔ ((t : Task) × (enc_task t ≡ u) × R p t)

-- what the records say was written is what the evaluations wrote
abbrev pub RecordsTellWrites : Type 0
RecordsTellWrites =
    (w : World) (P : Project) (names : List Task) (records : Records) (live : List ℕ) → AreRecorded w P names records
    → ((n : ℕ) → n < length names → Contains live n)
    → AreTheSame (Wrote names records live) (flat_map written_by (map (evaluation w P) (map enc_task names)))

-- what the records say was found absent is what the evaluations found absent
abbrev pub RecordsTellMisses : Type 0
RecordsTellMisses =
    (w : World) (P : Project) (names : List Task) (records : Records) (live : List ℕ) → AreRecorded w P names records
    → ((n : ℕ) → n < length names → Contains live n)
    → AreTheSame (Missed names records live) (flat_map missed_by (map (evaluation w P) (map enc_task names)))

-- the verdict of the model for an answer of the last checks
abbrev pub verdict_by : Option Refusal → ModelVerdict
verdict_by None = Accepted
verdict_by (Some refusal) = refusal_of refusal

-- what is found first among all named tasks is the verdict of the model on their evaluations
abbrev pub LastChecksAreTheModels : Type 0
LastChecksAreTheModels =
    (w : World) (P : Project) (names : List Task) (records : Records) (live : List ℕ) (answer : Option Refusal) → AreRecorded w P names records
    → ((n : ℕ) → n < length names → Contains live n) → FindsFirst (Wrote names records live) (Missed names records live) answer
    → verdict_by answer ≡ final_checks (map (evaluation w P) (map enc_task names))

-- where the named tasks are those that the roots enter, in their order, and not too many, it is the verdict of the model on the project
abbrev pub LastChecksAreTheVerdict : Type 0
LastChecksAreTheVerdict =
    (w : World) (P : Project) (roots : List (List ℕ)) (names : List Task) (records : Records) (live : List ℕ) (answer : Option Refusal)
    → map enc_task names ≡ entered_tasks w P roots → length names ≤ w.most_tasks → AreRecorded w P names records
    → ((n : ℕ) → n < length names → Contains live n) → FindsFirst (Wrote names records live) (Missed names records live) answer
    → verdict_by answer ≡ verdict w P roots
