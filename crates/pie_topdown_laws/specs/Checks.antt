-- A task of which a record is checked is a task that runs: it goes on above those that wait, as far as the record was passed.
use Rattle.std.specs.Prelude.{ℕ, suc, ◌-◌, ◌≡◌, true, Option, List, length}
use Rattle.pie_model.specs.Tasks.{Task}
use Rattle.pie_model.specs.Trees.{trace_of, is_done}
use Rattle.pie_model.specs.Evaluation.{World, Project, evaluation}
use Rattle.pie_model.specs.Records.{Observation, Record, record_of}
use Rattle.pie_model.specs.Changes.{IsMet}
use Rattle.pie_model.specs.Separate.{AllMet, NeverWritesWhatItSaw}
use Rattle.pie_model.specs.inner.RecordLaws.{Passes}
use Rattle.pie_model.specs.inner.Stack.{Frame, tasks_of}
use Rattle.pie_step_laws.specs.Frames.{set_aside}
use Rattle.pie_settle_laws.specs.Going.{IsGoing, AreBusy}
use Rattle.pie_topdown_laws.specs.Beside.{IsAsking, IsBeside}
use Rattle.pie_topdown_laws.specs.Tables.{unrecorded}

-- what a build without a list goes by: the project of the build that left the store, the one now, their roots, and what is met besides
pub record Setting : Type 0 where
  pub world : World
  pub old : Project
  pub now : Project
  pub old_roots : List Task
  pub roots : List Task
  pub besides : List (List ℕ)

-- the byte strings that are met
abbrev pub MetIn : Setting → List ℕ → Type 0
MetIn x = IsMet x.world x.old x.now x.old_roots x.roots x.besides

-- a record is the one that some earlier project gave a task, which ended with a value and means the same now; what it met then is met
pub record IsOldRecord (x : Setting) (before : Project) (t : Task) (r : Record) : Type 0 where
  pub was : r ≡ record_of x.world (evaluation x.world before t)
  pub done : is_done r.outcome ≡ true
  pub meaning : before.next t ≡ x.now.next t
  pub polite : NeverWritesWhatItSaw (before.next t)
  pub met : AllMet x.world (MetIn x) (trace_of (evaluation x.world before t))

-- a task goes on above those that wait, the last of which is a root; whoever has no record is busy
abbrev pub GoesOn : Setting → (Task → Option Record) → Task → List Frame → Frame → Type 0
GoesOn x R root fs f = IsGoing x.world x.now R (Passes (unrecorded R)) root fs f

-- these tasks were entered, and have no record
abbrev pub AreUnderWay : (Task → Option Record) → List Task → List Task → Type 0
AreUnderWay R names ts = AreBusy (Passes (unrecorded R)) names ts

-- so many tasks may stand one below the other under one that waits for these
abbrev pub room_above : World → List Frame → ℕ
room_above w fs = w.most_tasks - suc (length (tasks_of fs))

-- these observations of a record were passed, and these come next: its task goes on, has observed the former, and asks next what the latter begin with
pub record IsChecked (x : Setting) (before : Project) (R : Task → Option Record) (root : Task) (fs : List Frame) (t : Task) (r : Record)
    (passed rest : List Observation) : Type 0 where
  pub frame : Frame
  pub task : frame.task ≡ t
  pub seen : frame.seen ≡ passed
  pub goes : GoesOn x R root fs frame
  pub beside : IsBeside x.world before x.now (MetIn x) (room_above x.world fs) (tasks_of fs) r frame rest
  pub asks : IsAsking x.now frame rest r.outcome

-- a check that waits for the task that its record requires next is this frame
pub record WaitsAsCheck (x : Setting) (before : Project) (R : Task → Option Record) (root : Task) (fs : List Frame) (t : Task) (r : Record)
    (passed rest : List Observation) (g : Frame) : Type 0 where
  pub check : IsChecked x before R root fs t r passed rest
  pub is : g ≡ set_aside check.frame check.asks.left
