-- Running tasks, the newest first: each waits for the one before it.
use Rattle.std.specs.Prelude.{ℕ, suc, ◌-◌, ◌≡◌, ◌++◌, List, [], ◌∷◌, length}
use Rattle.pie_model.specs.Tasks.{Task, How, Require}
use Rattle.pie_model.specs.Trees.{enter}
use Rattle.pie_model.specs.Evaluation.{World, Project, Progress}
use Rattle.pie_model.specs.Records.{Observation}
use Rattle.pie_model.specs.Running.{IsRunning, entered_all}

-- a running task: how far it has come, with which observations, and how many events it may still make
pub record Frame : Type 0 where
  pub task : Task
  pub progress : Progress
  pub seen : List Observation
  pub left : ℕ

-- the tasks of the frames
abbrev pub tasks_of : List Frame → List Task
tasks_of [] = []
tasks_of (f ∷ fs) = f.task ∷ tasks_of fs

-- the tasks entered by the frames, the oldest first, after these
abbrev pub entered_by : List Task → List Frame → List Task
entered_by base [] = base
entered_by base (f ∷ fs) = entered_all f.progress.kids (enter f.task (entered_by base fs))

-- the frames wait for a task: each for the task of the one before it, and the oldest is the root's
pub data IsWaiting (w : World) (P : Project) (root : Task) : List Frame → Task → Type 0 where
  nobody : IsWaiting w P root [] root
  waits : {f : Frame} {fs : List Frame} {u : Task} (h : How) (room : ℕ) → w.most_tasks - length (tasks_of fs) ≡ suc room
      → IsRunning w P room (tasks_of fs) f.task (suc f.left) f.progress f.seen → P.next f.task f.progress.answers ≡ Require h u
      → IsWaiting w P root fs f.task → IsWaiting w P root (f ∷ fs) u

-- one list is a prefix of another
pub record Begins (front whole : List Task) : Type 0 where
  pub rest : List Task
  pub is : whole ≡ front ++ rest
