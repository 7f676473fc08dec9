-- The tasks that run and wait in a build by what changed are frames of the model that go on.
-- In pie_bottomup the one that runs is the task in hand (`hand`), and those that wait are the callers of the parked ones (`frames.parked`), the oldest
-- first. Here they stand the newest first: in the reverse of that order, as `numbers_up` of pie_frames has their numbers.
use Rattle.std.specs.Prelude.{ℕ, List, [], ◌∷◌, take}
use Rattle.pie_value.specs.declared.task.Task.{Task}
use Rattle.pie_value.specs.Canonical.{enc_task}
use Rattle.pie_code.specs.declared.code.Code.{Code}
use Rattle.pie_vm.specs.Machines.{Standing}
use Rattle.pie_model.specs.Running.{IsDistinct}
use Rattle.pie_model.specs.inner.Stack.{Frame, tasks_of}
use Rattle.pie_step_laws.specs.Frames.{begun}
use Rattle.pie_settle_laws.specs.Going.{before_wait}
use Rattle.pie_model_pipeline.specs.World.{world}
use Rattle.pie_running.specs.declared.frame.Caller.{Caller}
use Rattle.pie_running.specs.inner.Noted.{Noted}
use Rattle.pie_core_laws.specs.Running.{GoesIn, AreRunning, IsBaseOf}
use Rattle.pie_task_laws.specs.Sites.{Site, Build}
use Rattle.pie_task_laws.specs.Frames.{IsFrame, AreCallers}

-- ---- frames of the model

-- a frame goes on above these: so many of them, directly below it, are of new tasks, each of which waits for the one above it,
-- down to an old live task or a present root
pub record GoesAbove (x : Site) (b : Build) (below : List Frame) (f : Frame) : Type 0 where
  pub base : List ℕ
  pub is_base : IsBaseOf x.update base
  pub depth : ℕ
  pub goes : GoesIn x.update b.names b.records b.walk base (take depth below) f

-- each of these, as it was before the require for which it waits, goes on above those below it
abbrev pub AllGo : Site → Build → List Frame → Type 0
AllGo x b [] = Unit {0}
AllGo x b (g ∷ gs) = GoesAbove x b gs (before_wait g) × AllGo x b gs

-- each is of a task that was taken, and no task stands twice among them
pub record AreTaken (b : Build) (fs : List Frame) : Type 0 where
  pub running : AreRunning b.names b.walk (tasks_of fs)
  pub once : IsDistinct (tasks_of fs)

-- ---- what they are to a builder

-- these tasks wait, the newest first
pub record Wait (x : Site) (b : Build) (cs : List Caller) : Type 0 where
  pub frames : List Frame
  pub mean : AreCallers x b frames cs
  pub go : AllGo x b frames
  pub taken : AreTaken b frames

-- a task runs above those that wait
pub record Runs (x : Site) (b : Build) (cs : List Caller) (code : Code) (m : Standing) (n : Noted) : Type 0 where
  pub below : List Frame
  pub frame : Frame
  pub mean : AreCallers x b below cs
  pub means : IsFrame x b code m n n.left frame
  pub go : AllGo x b below
  pub goes : GoesAbove x b below frame
  pub taken : AreTaken b (frame ∷ below)

-- a task may begin above those that wait
pub record MayBegin (x : Site) (b : Build) (cs : List Caller) (t : Task) : Type 0 where
  pub wait : Wait x b cs
  pub goes : GoesAbove x b wait.frames (begun world (enc_task t))
