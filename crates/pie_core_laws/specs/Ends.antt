-- The end: the roots are settled.
use Rattle.std.specs.Prelude.{◌≡◌, ℕ, List, map, Some, slice_get, Contains}
use Rattle.pie_value.specs.declared.task.Task.{Task}
use Rattle.pie_value.specs.Canonical.{enc_task}
use Rattle.pie_record.specs.declared.records.Records.{Records}
use Rattle.pie_record.specs.declared.task_record.TaskRecord.{TaskRecord}
use Rattle.pie_record.specs.inner.Records.{record_of as kept_of}
use Rattle.pie_walk.specs.Marks.{IsSettled}
use Rattle.pie_walk.specs.States.{WalkState}
use Rattle.pie_walk.specs.Standing.{Stands}
use Rattle.pie_model.specs.Trees.{entered}
use Rattle.pie_model.specs.Evaluation.{evaluation}
use Rattle.pie_model.specs.Forest.{entered_tasks}
use Rattle.pie_step_laws.specs.UnderWay.{HasEnded}
use Rattle.pie_step_laws.specs.Roots.{Between}
use Rattle.pie_settle_laws.specs.Ends.{recorded_among}
use Rattle.pie_model_pipeline.specs.Rows.{record_of}
use Rattle.pie_model_pipeline.specs.World.{world}
use Rattle.pie_builder_laws.specs.Tables.{recorded}
use Rattle.pie_core_laws.specs.Update.{Update, present}
use Rattle.pie_core_laws.specs.Exact.{IsExact}
use Rattle.pie_core_laws.specs.Keeping.{Separates}
use Rattle.pie_core_laws.specs.Seeing.{HasOutput}

-- a root has a number, is settled and ended with a value
pub record IsDoneRoot (names : List Task) (records : Records) (s : WalkState) (root : Task) : Type 0 where
  pub number : ℕ
  pub named : slice_get names number ≡ Some root
  pub output : HasOutput records s number

-- the tasks that these roots enter, with the present records of these alone
abbrev pub entered_by : Update → List Task → List (List ℕ)
entered_by u roots = entered_tasks world (present u) (map enc_task roots)

-- where such roots are done, the present records of the tasks that they enter are those of a clean build in which they are done,
-- so all laws on roots, rows, files and checks apply
abbrev pub SettledRootsAreDone : Type 0
SettledRootsAreDone =
    (u : Update) (names : List Task) (records : Records) (s : WalkState) (roots : List Task) → IsExact u names records s → Stands s → Separates u
    → ((r : Task) → Contains roots r → IsDoneRoot names records s r)
    → Between world (present u) (map enc_task roots) (recorded_among (entered_by u roots) (recorded names records)) (entered_by u roots)

-- and a settled root after them ends the build as its record says
abbrev pub SettledRootsEnd : Type 0
SettledRootsEnd =
    (u : Update) (names : List Task) (records : Records) (s : WalkState) (roots : List Task) (n : ℕ) (root : Task) (rec : TaskRecord)
    → IsExact u names records s → Stands s → Separates u → ((r : Task) → Contains roots r → IsDoneRoot names records s r)
    → slice_get names n ≡ Some root → IsSettled s.marks n → kept_of records n ≡ Some rec
    → HasEnded world (present u) (enc_task root) (entered_by u roots) (entered (evaluation world (present u) (enc_task root)) (entered_by u roots))
    (record_of rec).outcome
