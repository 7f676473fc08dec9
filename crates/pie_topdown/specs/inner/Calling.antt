-- A task that is required in a build without a list, as the model of building knows it: it is entered, answers, or closes a cycle.
use Rattle.std.specs.Prelude.{◌≡◌, ◌==◌, ℕ, ◌<◌, true, cond, List, [], ◌∷◌, ◌++◌, length, map, None, Some, slice_get}
use Rattle.std.specs.List.{Contains}
use Rattle.pie_value.specs.declared.task.Task.{Task}
use Rattle.pie_value.specs.declared.value.Value.{Value}
use Rattle.pie_value.specs.declared.event.Event.TheVariants as events
use Rattle.pie_value.specs.declared.verdict.Refusal.TheVariants.{Cycle}
use Rattle.pie_value.specs.Limits.{is_small_task}
use Rattle.pie_value.specs.Canonical.{enc_task, IsCanonicalTask}
use Rattle.pie_code.specs.declared.code.Code.{Code}
use Rattle.pie_graph.specs.Numbers.{IsMarked}
use Rattle.pie_record.specs.declared.task_record.Outcome.TheVariants.{Done}
use Rattle.pie_record.specs.declared.task_record.TaskRecord.{TaskRecord}
use Rattle.pie_record.specs.inner.Records.{record_of as kept_of}
use Rattle.pie_running.specs.declared.frame.Caller.{Caller}
use Rattle.pie_running.specs.declared.frame.RunningTask.{RunningTask}
use Rattle.pie_running.specs.inner.Coded.{IsCodeFor}
use Rattle.pie_running.specs.inner.Frames.{IsStarted}
use Rattle.pie_model.specs.inner.Stack.{Frame as ModelFrame, tasks_of}
use Rattle.pie_settle_laws.specs.Going.{before_wait}
use Rattle.pie_core_laws.specs.Update.{Update}
use Rattle.pie_task_laws.specs.Frames.{IsCaller}
use Rattle.pie_topdown_laws.specs.Running.{IsTop}
use Rattle.pie_topdown.specs.declared.builder.Builder.{Builder}
use Rattle.pie_topdown.specs.declared.hand.Check.{Check}
use Rattle.pie_topdown.specs.declared.hand.Frame.{Frame}
use Rattle.pie_topdown.specs.declared.hand.Frame.TheVariants as frames
use Rattle.pie_topdown.specs.declared.hand.Turn.{Turn}
use Rattle.pie_topdown.specs.inner.Asking.{ActsSo}
use Rattle.pie_topdown.specs.inner.Due.{IsDueAt}
use Rattle.pie_topdown.specs.inner.Places.{NeedsNext}
use Rattle.pie_topdown.specs.inner.Right.{site_of, build_of, entries_up, CanGoOn, EndedRight, EntersRight, ChecksRight, IsPlanNow, IsRightSite, AreWaiting, AreTheBusy, TurnIsRight}
use Rattle.pie_topdown.specs.inner.Turns.{FailsBy}
use Rattle.pie_topdown_laws.specs.Whole.{waits}

-- ---- a task that waited, or asks

-- a task that was put aside as some frame, and requires another, is on top above these
pub record CallsRight (u : Update) (b : Builder) (root : List ℕ) (fs : List ModelFrame) (c : Caller) : Type 0 where
  pub aside : ModelFrame
  pub caller : IsCaller (site_of u b) (build_of b) aside c
  pub top : IsTop (site_of u b) (build_of b) root fs (before_wait aside)
  pub ran : IsMarked b.ledger.tables.ran.items c.waiting.notes.number
  pub busy : AreTheBusy b (enc_task c.waiting.notes.task ∷ tasks_of fs)

-- it goes on, or the clean build is refused as this one
abbrev pub CallsSo : Builder → Caller → Builder → Turn → Type 0
CallsSo old c new t =
    (u : Update) (done : List (List ℕ)) (root : List ℕ) (fs : List ModelFrame) → IsPlanNow u old.plan → IsRightSite u done root old → AreWaiting u old root fs
    → CallsRight u old root fs c → TurnIsRight u done root new t

-- so it is where the one for which it waited has ended with a value
abbrev pub AnswersSo : Builder → Caller → Builder → Turn → Type 0
AnswersSo old c new t =
    (u : Update) (done : List (List ℕ)) (root : List ℕ) (fs : List ModelFrame) → IsPlanNow u old.plan → IsRightSite u done root old → AreWaiting u old root fs
    → CallsRight u old root fs c → CanGoOn old (waits c) → TurnIsRight u done root new t

-- and where that one, with this number, gave this output
abbrev pub GivesSo : Builder → Caller → ℕ → Value → Builder → Turn → Type 0
GivesSo old c callee v new t = (rec : TaskRecord) → kept_of old.ledger.tables.records callee ≡ Some rec → rec.outcome ≡ Done v → CallsSo old c new t

-- ---- a new task is required

-- a task within the limits
abbrev pub DescendsSo : Builder → Caller → Builder → Turn → Type 0
DescendsSo old c new t = is_small_task c.required ≡ true → ActsSo old c.waiting (events.Require c.required c.how) new t

-- of which the canonical bytes are known
abbrev pub NeedsSo : Builder → Caller → Builder → Turn → Type 0
NeedsSo old c new t = IsCanonicalTask c.required (enc_task c.required) → DescendsSo old c new t

-- and which is of no function
abbrev pub LosesSo : Builder → Caller → Builder → Turn → Type 0
LosesSo old c new t =
    length old.ledger.tables.names < 50000 → ¬ (Contains old.ledger.tables.names c.required)
    → IsCodeFor old.plan.typed.now old.plan.code.now c.required None → NeedsSo old c new t

-- ---- cycles

-- the number of a task that waits, and the task
abbrev pub number_in : Frame → ℕ
number_in (frames.Checks c) = c.value.no.0
number_in (frames.Waits c) = c.waiting.notes.number

abbrev pub task_in : Frame → Task
task_in (frames.Checks c) = c.value.rec.task
task_in (frames.Waits c) = c.waiting.notes.task

-- the tasks that wait from the one with a number on, the newest last
abbrev pub tasks_from : ℕ → List Frame → List Task
tasks_from n [] = []
tasks_from n (e ∷ es) = cond (number_in e == n) (map task_in (e ∷ es)) (tasks_from n es)

-- a task comes to those of a cycle where it has the number of the first, or stands above that
abbrev pub joins : ℕ → List Task → ℕ → Task → List Task
joins n [] k t = cond (k == n) (t ∷ []) []
joins n (x ∷ xs) k t = (x ∷ xs) ++ t ∷ []

abbrev pub joins_by : ℕ → List Task → Frame → List Task
joins_by n ts e = joins n ts (number_in e) (task_in e)

-- with the one on top they are a cycle, which is why the build fails
abbrev pub ClosesBy : Builder → ℕ → Task → Builder → Turn → Type 0
ClosesBy old from top new t = FailsBy old (Cycle (tasks_from from old.stack.items ++ top ∷ [])) new t

-- ---- what waits goes on

-- a task has ended: what waited for it goes on, or nothing waits any more
abbrev pub ResumesSo : Builder → Builder → Turn → Type 0
ResumesSo old new t =
    (u : Update) (done : List (List ℕ)) (root : List ℕ) (fs : List ModelFrame) → IsPlanNow u old.plan → IsRightSite u done root old → AreWaiting u old root fs
    → EndedRight u old root fs (entries_up old.stack.items) → TurnIsRight u done root new t

-- ---- a task begins to run

-- an entered task has begun to run with this code, and was added to the runs
pub record HasBegun (old : Builder) (n : ℕ) (code : Code) (before after : List Task) (f : RunningTask) : Type 0 where
  pub task : Task
  pub named : slice_get old.ledger.tables.names n ≡ Some task
  pub started : IsStarted code task n f
  pub added : after ≡ before ++ task ∷ []

-- an entered task that may begin, and has a reason to, runs
abbrev pub StartsSo : Builder → ℕ → Code → Builder → Turn → Type 0
StartsSo old n code new t =
    (u : Update) (done : List (List ℕ)) (root : List ℕ) (fs : List ModelFrame) → IsRightSite u done root old → AreWaiting u old root fs
    → EntersRight u old root fs n code → IsDueAt u old n → TurnIsRight u done root new t

-- ---- a check requires a task

-- a check whose next observation is of a task that wasn't entered waits for it
abbrev pub ChecksSo : Builder → Check → Task → Builder → Turn → Type 0
ChecksSo old c task new t =
    (u : Update) (done : List (List ℕ)) (root : List ℕ) (fs : List ModelFrame) → IsPlanNow u old.plan → IsRightSite u done root old → AreWaiting u old root fs
    → ChecksRight u old root fs c → NeedsNext c task → TurnIsRight u done root new t
