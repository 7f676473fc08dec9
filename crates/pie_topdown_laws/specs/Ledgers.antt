-- The tasks that a build without a list has entered, by their numbers, with the records and rows of those that are done.
use Rattle.std.specs.Prelude.{◌≡◌, ◌+◌, ◌<◌, ℕ, false, not, is_some, List, [], ◌∷◌, ◌++◌, map, length, Option, None, Some, slice_get, slice_set}
use Rattle.pie_value.specs.declared.task.Task.{Task}
use Rattle.pie_value.specs.Canonical.{enc_task}
use Rattle.pie_graph.specs.Rows.{Row, row_at, no_edges}
use Rattle.pie_order.specs.Places.{PlacesAgree}
use Rattle.pie_record.specs.declared.records.Records.{Records}
use Rattle.pie_record.specs.declared.task_record.TaskRecord.{TaskRecord}
use Rattle.pie_record.specs.inner.Records.{record_of as kept_of, Puts}
use Rattle.pie_walk.specs.declared.marks.Mark.{Mark}
use Rattle.pie_walk.specs.declared.marks.Mark.TheVariants.{New, Settled}
use Rattle.pie_walk.specs.States.{WalkState}
use Rattle.pie_walk.specs.Standing.{Stands}
use Rattle.pie_model.specs.Paths.{among}
use Rattle.pie_model.specs.Trees.{trace_of}
use Rattle.pie_model.specs.Evaluation.{evaluation}
use Rattle.pie_model.specs.Separate.{AllMet}
use Rattle.pie_model.specs.inner.Consistent.{IsRecorded}
use Rattle.pie_step_laws.specs.Table.{IsTable}
use Rattle.pie_model_pipeline.specs.Rows.{record_of}
use Rattle.pie_model_pipeline.specs.World.{world}
use Rattle.pie_builder_laws.specs.Names.{AreTasks}
use Rattle.pie_builder_laws.specs.Tables.{recorded}
use Rattle.pie_builder_laws.specs.Views.{RowIs}
use Rattle.pie_core_laws.specs.Update.{Update, MetIn, earlier, present}
use Rattle.pie_core_laws.specs.Exact.{IsExact}
use Rattle.pie_topdown_laws.specs.Tables.{EndsIn}
use Rattle.pie_topdown_laws.specs.Checks.{Setting}

-- what an update is as the setting of a build
abbrev pub setting : Update → Setting
setting u = record {
  world = world;
  old = earlier u;
  now = present u;
  old_roots = u.old_roots;
  roots = u.roots;
  besides = u.besides;
}

-- distinct tasks with a row for each; each record is of its task, has its row, is right, and what its evaluation met is met
pub record IsRightLedger (u : Update) (names : List Task) (records : Records) (rows : List Row) (places : List ℕ) : Type 0 where
  pub tasks : AreTasks names
  pub as_many : length rows ≡ length names
  -- what a task requires ended before it
  pub agrees : PlacesAgree rows places
  pub named : (n : ℕ) (rec : TaskRecord) → kept_of records n ≡ Some rec → slice_get names n ≡ Some rec.task
  pub each_row : (n : ℕ) (rec : TaskRecord) → kept_of records n ≡ Some rec → RowIs names (row_at rows n) (Some rec)
  pub table : IsTable world (present u) (recorded names records) (map enc_task names)
  pub met : (x : List ℕ) → IsRecorded (recorded names records) x → AllMet world (MetIn u) (trace_of (evaluation world (present u) x))

-- ---- as a build by what changed

-- something for each of these tasks, by its number
abbrev pub by_each : {A : Type 0} → (ℕ → A) → ℕ → List Task → List A
by_each at n [] = []
by_each at n (t ∷ ts) = at n ∷ by_each at (n + 1) ts

-- a task with a record is settled
abbrev pub mark_by : Option TaskRecord → Mark
mark_by None = New
mark_by (Some rec) = Settled

-- a walk in which the tasks with records are settled, the others are scheduled, and nobody stands on the stack
abbrev pub walk_of : List Task → Records → List Row → List ℕ → WalkState
walk_of names records rows places = record {
  rows = rows;
  places = places;
  marks = by_each (λ n. mark_by (kept_of records n)) 0 names;
  scheduled = by_each (λ n. not (is_some (kept_of records n))) 0 names;
  looks_out = by_each (λ n. false) 0 names;
  swept = by_each (λ n. false) 0 names;
  stack = [];
}

-- a build in such a walk is exact
pub record IsAsExact (u : Update) (names : List Task) (records : Records) (rows : List Row) (places : List ℕ) : Type 0 where
  pub exact : IsExact u names records (walk_of names records rows places)
  pub stands : Stands (walk_of names records rows places)

-- where a ledger is right it is so: all laws on exact builds apply to it, on what settled tasks provide, on results, and on the directory that is left
abbrev pub RightLedgersAreExact : Type 0
RightLedgersAreExact =
    (u : Update) (names : List Task) (records : Records) (rows : List Row) (places : List ℕ) → IsRightLedger u names records rows places
    → IsAsExact u names records rows places

-- ---- how a ledger changes

-- without tasks it is right
abbrev pub LedgersBegin : Type 0
LedgersBegin = (u : Update) (records : Records) → AreTasks [] → ((n : ℕ) → kept_of records n ≡ None) → IsRightLedger u [] records [] []

-- a new task has no record and a row without edges
abbrev pub LedgersGrow : Type 0
LedgersGrow =
    (u : Update) (names : List Task) (records : Records) (rows : List Row) (places : List ℕ) (t : Task) (place : ℕ) → IsRightLedger u names records rows places
    → AreTasks (names ++ t ∷ []) → among (enc_task t) (map enc_task names) ≡ false → length names < 50000 → kept_of records (length names) ≡ None
    → PlacesAgree (rows ++ no_edges ∷ []) (places ++ place ∷ []) → IsRightLedger u (names ++ t ∷ []) records (rows ++ no_edges ∷ []) (places ++ place ∷ [])

-- and no record changes
abbrev pub NewTasksKeepRecords : Type 0
NewTasksKeepRecords =
    (names : List Task) (records : Records) (t : Task) → kept_of records (length names) ≡ None → recorded (names ++ t ∷ []) records ≡ recorded names records

-- a task ends with a right record, and gets its row and its place
pub record EndsAt (u : Update) (names : List Task) (old new : Records) (n : ℕ) (row : Row) (rec : TaskRecord) : Type 0 where
  pub named : slice_get names n ≡ Some rec.task
  pub puts : Puts old new n rec
  pub ends : EndsIn world (present u) (recorded names old) (recorded names new) (map enc_task names) (enc_task rec.task) (record_of rec)
  pub met : AllMet world (MetIn u) (trace_of (evaluation world (present u) (enc_task rec.task)))
  pub row_is : RowIs names row (Some rec)

abbrev pub LedgersGain : Type 0
LedgersGain =
    (u : Update) (names : List Task) (old new : Records) (rows : List Row) (places places_after : List ℕ) (n : ℕ) (row : Row) (rec : TaskRecord)
    → IsRightLedger u names old rows places → EndsAt u names old new n row rec → PlacesAgree (slice_set rows n row) places_after
    → IsRightLedger u names new (slice_set rows n row) places_after
