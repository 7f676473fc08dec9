-- Why a task that was taken runs.
use Rattle.std.specs.Prelude.{◌≡◌, ℕ, true, List, Option, Some}
use Rattle.pie_record.specs.declared.task_record.TaskRecord.{TaskRecord}
use Rattle.pie_record.specs.Canonical.{IsTrueRecord}
use Rattle.pie_tables.specs.declared.tables.Tables.{Tables}
use Rattle.pie_named.specs.declared.named.Named.{Named}
use Rattle.pie_compare.specs.inner.Standing.{RecordStands}
use Rattle.pie_walk.specs.Marks.{mark_of}
use Rattle.pie_walk.specs.States.{WalkState}
use Rattle.pie_walk.specs.Standing.{Stands}
use Rattle.pie_model.specs.Reasons.{RunReason}
use Rattle.pie_model_pipeline.specs.Rows.{record_of}
use Rattle.pie_model_pipeline.specs.World.{world}
use Rattle.pie_compare_laws.specs.Settled.{RestsOn}
use Rattle.pie_compare_laws.specs.Agreeing.{OutputsAreCanonical}
use Rattle.pie_core_laws.specs.Update.{Update, IsUpdate, IsInformed, present}
use Rattle.pie_core_laws.specs.Exact.{runs, is_done, IsExact}
use Rattle.pie_core_laws.specs.Keeping.{Separates}

-- a task that was taken rests on settled tasks, and values are those of the program
pub record MayBeCompared (u : Update) (t : Tables) (s : WalkState) (number : ℕ) (rec : TaskRecord) : Type 0 where
  pub ran : runs (mark_of s.marks number) ≡ true
  pub rests : RestsOn t.names t.records s.rows (is_done s) number rec
  pub parts : IsTrueRecord rec
  pub outputs : OutputsAreCanonical t.records (is_done s)

-- where its record doesn't stand, the task has a reason to run
abbrev pub FallenRecordsGiveReasons : Type 0
FallenRecordsGiveReasons =
    (u : Update) (t : Tables) (s : WalkState) (n : Named) (number : ℕ) (rec : TaskRecord) (kept digest : Option (List ℕ)) → IsUpdate u → IsInformed u n
    → IsExact u t.names t.records s → Stands s → Separates u → MayBeCompared u t s number rec → (RecordStands t s.rows n number → ⊥)
    → RunReason world (present u) u.directory (Some (record_of rec)) kept digest
