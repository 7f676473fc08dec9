-- A root under way: one task runs, and the tasks that led to it wait, the newest first.
use Rattle.std.specs.Prelude.{ℕ, suc, ◌-◌, ◌≤◌, ◌≡◌, ◌⊎◌, true, Option, None, List, ◌∷◌, length}
use Rattle.pie_model.specs.Paths.{among}
use Rattle.pie_model.specs.Tasks.{Task}
use Rattle.pie_model.specs.Trees.{outcome_of, entered}
use Rattle.pie_model.specs.declared.words.Outcome.{Outcome}
use Rattle.pie_model.specs.Evaluation.{World, Project, evaluation}
use Rattle.pie_model.specs.Records.{Record}
use Rattle.pie_model.specs.inner.Consistent.{IsRecorded}
use Rattle.pie_model.specs.Running.{IsRunning, IsDistinct}
use Rattle.pie_model.specs.inner.Stack.{Frame, tasks_of, entered_by, IsWaiting}
use Rattle.pie_step_laws.specs.Table.{IsTable}
use Rattle.pie_step_laws.specs.Frames.{HaveTheirKids}

-- the root is under way, after the tasks `base` that were entered before it: `f` runs above the waiting frames `fs`
pub record UnderWay (w : World) (P : Project) (root : Task) (base : List Task) (R : Task → Option Record) (names : List Task) (fs : List Frame) (f : Frame)
    : Type 0 where
  pub table : IsTable w P R names
  pub waits : IsWaiting w P root fs f.task
  -- so many tasks may still stand one below the other under the running one
  pub room : ℕ
  pub is_room : w.most_tasks - length (tasks_of fs) ≡ suc room
  -- the running task is at the front of its evaluation
  pub runs : IsRunning w P room (tasks_of fs) f.task f.left f.progress f.seen
  pub kids : HaveTheirKids w P R (f ∷ fs)
  -- the entered tasks are those that the frames entered
  pub order : names ≡ entered_by base (f ∷ fs)
  -- no task of the stack is recorded, none stands on it twice, and each was entered
  pub unrecorded : (t : Task) → among t (tasks_of (f ∷ fs)) ≡ true → R t ≡ None
  pub once : IsDistinct (tasks_of (f ∷ fs))
  pub stacked : (t : Task) → among t (tasks_of (f ∷ fs)) ≡ true → among t names ≡ true
  -- each entered task is recorded or stands on the stack
  pub covered : (t : Task) → among t names ≡ true → IsRecorded R t ⊎ (among t (tasks_of (f ∷ fs)) ≡ true)

-- the root ends so, and after the tasks `base` that were entered before it these are the entered ones
pub record HasEnded (w : World) (P : Project) (root : Task) (base names : List Task) (e : Outcome) : Type 0 where
  pub outcome : outcome_of (evaluation w P root) ≡ e
  pub enters : entered (evaluation w P root) base ≡ names
  pub few : length names ≤ w.most_tasks
