-- What the tasks that were taken have noted.
use Rattle.std.specs.Prelude.{◌≡◌, ◌⊎◌, ℕ, List, map, drop, take, Some, slice_get}
use Rattle.std.specs.List.{All, Contains}
use Rattle.pie_value.specs.declared.task.Task.{Task}
use Rattle.pie_digest.specs.Digests.{function_names}
use Rattle.pie_graph.specs.Rows.{row_at}
use Rattle.pie_record.specs.declared.records.Records.{Records}
use Rattle.pie_record.specs.declared.task_record.TaskRecord.{TaskRecord}
use Rattle.pie_store.specs.Canonical.{names_of, needs}
use Rattle.pie_tables.specs.Tabled.{HasFailed}
use Rattle.pie_walk.specs.declared.marks.Mark.{Mark}
use Rattle.pie_walk.specs.States.{WalkState}
use Rattle.pie_old.specs.inner.Rows.{tasks_at}
use Rattle.pie_running.specs.inner.Noted.{Noted, tasks_on}
use Rattle.pie_frames.specs.declared.parked.Parked.{Parked}
use Rattle.pie_bottomup.specs.declared.plan.Plan.{Plan}
use Rattle.pie_bottomup.specs.inner.Recorded.{HasEnded, HasValue, AreRecorded, AreKnown, IsMet}

-- a task is of a function of the pipeline, or of one that has a digest
abbrev pub IsKnown : Plan → Task → Type 0
IsKnown p t = Contains (function_names p.typed.now) t.func ⊎ Contains (names_of p.digests.now) t.func

-- a task that runs is of a function of the pipeline, and what it required is settled and done
pub record IsNoted (p : Plan) (names : List Task) (records : Records) (marks : List Mark) (n : Noted) : Type 0 where
  pub task : slice_get names n.number ≡ Some n.task
  pub known : IsKnown p n.task
  pub needs : tasks_at names n.needs ≡ map Some (tasks_on n.deps)
  pub ended : All (HasEnded records marks) n.needs

-- a task that waits, and what it waits for
pub record IsCaller (p : Plan) (names : List Task) (records : Records) (marks : List Mark) (c : Parked) : Type 0 where
  pub noted : IsNoted p names records marks c.caller.waiting.notes
  pub required : slice_get names c.callee.0 ≡ Some c.caller.required

-- the roots that were begun were met
abbrev pub AreMet : List Task → List Mark → List Task → ℕ → Type 0
AreMet names marks roots at = All (IsMet names marks) (take at roots)

-- the tables, the walk, the tasks that wait and the roots that were begun agree
pub record Agree (p : Plan) (names : List Task) (records : Records) (w : WalkState) (parked : List Parked) (at : ℕ) : Type 0 where
  pub recorded : AreRecorded names records w
  pub callers : All (IsCaller p names records w.marks) parked
  pub met : AreMet names w.marks p.roots.items at
  pub known : AreKnown (IsKnown p) names records w

-- the record of a task that ends without failing: what stands in its row from a place on is what the record requires, and is done; its output is a
-- value of the program
pub record EndsWell (p : Plan) (names : List Task) (records : Records) (w : WalkState) (n from : ℕ) (r : TaskRecord) : Type 0 where
  pub needs : tasks_at names (drop from (row_at w.rows n).needs) ≡ map Some (needs r)
  pub ended : All (HasEnded records w.marks) (drop from (row_at w.rows n).needs)
  pub known : IsKnown p r.task
  pub output : HasValue r

-- a task may end with a record
abbrev pub EndsSo : Plan → List Task → Records → WalkState → ℕ → ℕ → TaskRecord → Type 0
EndsSo p names records w n from r = HasFailed r.outcome ⊎ EndsWell p names records w n from r
