-- Tasks that begin: old live ones and present roots that were taken, and new ones that are required.
use Rattle.std.specs.Prelude.{◌≡◌, ℕ, ◌<◌, true, false, List, [], ◌∷◌, ◌++◌, length, None, Some, slice_get}
use Rattle.pie_base.specs.declared.fault.FaultKind.TheVariants.{Unknown}
use Rattle.pie_value.specs.declared.task.Task.{Task}
use Rattle.pie_value.specs.declared.event.Event.TheVariants as events
use Rattle.pie_value.specs.declared.event.How.{How}
use Rattle.pie_value.specs.Limits.{is_small_task}
use Rattle.pie_value.specs.Canonical.{enc_task, IsCanonicalTask}
use Rattle.pie_types.specs.Whole.{number_from}
use Rattle.pie_view.specs.Content.{content}
use Rattle.pie_walk.specs.Marks.{mark_of}
use Rattle.pie_running.specs.declared.frame.RunningTask.{RunningTask}
use Rattle.pie_running.specs.declared.frame.Waiting.{Waiting}
use Rattle.pie_running.specs.declared.frame.Caller.{Caller}
use Rattle.pie_running.specs.inner.Noted.{begun}
use Rattle.pie_running.specs.inner.Coded.{HasFunction}
use Rattle.pie_running.specs.inner.Frames.{IsStarted}
use Rattle.pie_core_laws.specs.Exact.{runs}
use Rattle.pie_core_laws.specs.Running.{IsBaseOf}
use Rattle.pie_task_laws.specs.Sites.{Site, Build, IsExactAt}
use Rattle.pie_task_laws.specs.Going.{Wait, Runs, MayBegin}
use Rattle.pie_task_laws.specs.Steps.{IsUp, AllStep}
use Rattle.pie_task_laws.specs.Coming.{IsAsking, EndsRight, failed_by}

-- a task that waits for one that it requires
abbrev pub calling : Waiting → Task → How → Caller
calling w t how = record { waiting = w; required = t; how = how }

-- an old live task and a present root may begin
abbrev pub BasesMayBegin : Type 0
BasesMayBegin = (x : Site) (b : Build) (cs : List Caller) (t : Task) → IsBaseOf x.update (enc_task t) → Wait x b cs → MayBegin x b cs t

-- a task that requires one with a number waits
abbrev pub RequirersWait : Type 0
RequirersWait =
    (x : Site) (b : Build) (cs : List Caller) (w : Waiting) (t : Task) (how : How) (k : ℕ) → IsExactAt x b → 0 < w.notes.left
    → IsAsking x b cs w (events.Require t how) → is_small_task t ≡ true → slice_get b.names k ≡ Some t → Wait x b (calling w t how ∷ cs)

-- and one that requires a new task waits, once that has a number: the new task may begin above it
abbrev pub NewTasksMayBegin : Type 0
NewTasksMayBegin =
    (x : Site) (old new : Build) (cs : List Caller) (w : Waiting) (t : Task) (how : How) → IsExactAt x old → length old.names < 50000
    → 0 < w.notes.left → IsAsking x old cs w (events.Require t how) → is_small_task t ≡ true → AllStep x old new → new.names ≡ old.names ++ t ∷ []
    → MayBegin x new (calling w t how ∷ cs) t

-- a step takes a task that may begin, for which nothing is staged
pub record Takes (x : Site) (old new : Build) (t : Task) (k : ℕ) : Type 0 where
  pub steps : AllStep x old new
  pub named : slice_get new.names k ≡ Some t
  pub was : runs (mark_of old.walk.marks k) ≡ false
  pub up : IsUp new k
  pub empty : (p : List ℕ) → content new.stage k p ≡ None

-- then it runs, by the code of its function
abbrev pub TakenTasksRun : Type 0
TakenTasksRun =
    (x : Site) (old new : Build) (cs : List Caller) (t : Task) (k : ℕ) (f : RunningTask) → IsExactAt x old → Takes x old new t k → MayBegin x old cs t
    → HasFunction x.update.functions x.codes t f.code.now → IsStarted f.code.now t k f → Runs x new cs f.code.now f.machine f.notes

-- and one without a function fails, with a right record
abbrev pub LostTasksEnd : Type 0
LostTasksEnd =
    (x : Site) (b : Build) (cs : List Caller) (t : Task) (k left : ℕ) → MayBegin x b cs t → IsCanonicalTask t (enc_task t)
    → number_from 0 x.update.functions t ≡ None → ((p : List ℕ) → content b.stage k p ≡ None)
    → EndsRight x b (begun t k left) (failed_by (begun t k left) Unknown)
