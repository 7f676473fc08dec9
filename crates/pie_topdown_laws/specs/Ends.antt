-- How a root ends in a build without a list, and what the verdict is then.
use Rattle.std.specs.Prelude.{ℕ, suc, ◌<◌, ◌≤◌, ◌≡◌, true, false, Option, Some, List, [], ◌∷◌, ◌++◌, length}
use Rattle.pie_model.specs.Paths.{among}
use Rattle.pie_model.specs.Tasks.{Task, Value}
use Rattle.pie_model.specs.declared.words.How.{How}
use Rattle.pie_model.specs.declared.words.FaultKind.{FaultKind}
use Rattle.pie_model.specs.declared.words.Event.TheVariants.{Done, Fail, Require}
use Rattle.pie_model.specs.declared.words.Outcome.{Outcome}
use Rattle.pie_model.specs.declared.words.Outcome.TheVariants.{Failed, Cycled}
use Rattle.pie_model.specs.Trees.{outcome_of, is_done, HasTask, entered}
use Rattle.pie_model.specs.Evaluation.{World, Project, evaluation_under, evaluation, round}
use Rattle.pie_model.specs.Records.{Record, Observation}
use Rattle.pie_model.specs.inner.Steps.{ChangesAt}
use Rattle.pie_model.specs.inner.Stack.{Frame, tasks_of}
use Rattle.pie_model.specs.Forest.{entered_tasks}
use Rattle.pie_model.specs.Verdict.{verdict}
use Rattle.pie_model.specs.declared.words.Verdict.TheVariants.{Many, Fault, Cycle}
use Rattle.pie_step_laws.specs.Table.{IsTable}
use Rattle.pie_step_laws.specs.Frames.{record_left, begun}
use Rattle.pie_step_laws.specs.Roots.{Between}
use Rattle.pie_settle_laws.specs.Ends.{recorded_among}
use Rattle.pie_settle_laws.specs.Going.{Ends}
use Rattle.pie_topdown_laws.specs.Tables.{EndsIn}
use Rattle.pie_topdown_laws.specs.Checks.{Setting, GoesOn, AreUnderWay}
use Rattle.pie_topdown_laws.specs.Stacks.{IsStack}

-- ---- running tasks

-- a running task that ends with a value is recorded with what it observed and wrote
abbrev pub RunningTasksEnd : Type 0
RunningTasksEnd =
    (x : Setting) (R S : Task → Option Record) (names : List Task) (root : Task) (fs : List Frame) (f : Frame) (n : ℕ) (v : Value)
    → AreUnderWay R names (tasks_of (f ∷ fs)) → GoesOn x R root fs f → f.left ≡ suc n → x.now.next f.task f.progress.answers ≡ Done v
    → ChangesAt R S f.task (record_left x.world f v) → EndsIn x.world x.now R S names f.task (record_left x.world f v)

-- when another one ends, whoever waits goes on as before
abbrev pub WaitingTasksStay : Type 0
WaitingTasksStay =
    (x : Setting) (R S : Task → Option Record) (names : List Task) (root : Task) (fs : List Frame) (f : Frame) (u : Task) (new : Record)
    → IsTable x.world x.now R names → EndsIn x.world x.now R S names u new → GoesOn x R root fs f → GoesOn x S root fs f

-- and a task that runs may begin again
abbrev pub RunningTasksBeginAgain : Type 0
RunningTasksBeginAgain =
    (x : Setting) (R : Task → Option Record) (root : Task) (fs : List Frame) (f : Frame) → GoesOn x R root fs f
    → GoesOn x R root fs (begun x.world f.task)

-- ---- the root ends as one of the tasks above it

-- a running task that ends by itself with no value
abbrev pub FailuresSink : Type 0
FailuresSink =
    (x : Setting) (R : Task → Option Record) (root : Task) (fs : List Frame) (f : Frame) (last : List Observation) (e : Outcome) → GoesOn x R root fs f
    → Ends x.world x.now f last e → is_done e ≡ false → outcome_of (evaluation x.world x.now root) ≡ e

-- one that requires a task which is evaluated so there
abbrev pub RequiredFailuresSink : Type 0
RequiredFailuresSink =
    (x : Setting) (R : Task → Option Record) (root : Task) (fs : List Frame) (f : Frame) (n : ℕ) (h : How) (u : Task) (e : Outcome)
    → GoesOn x R root fs f → f.left ≡ suc n → x.now.next f.task f.progress.answers ≡ Require h u
    → outcome_of (evaluation_under x.world x.now (tasks_of (f ∷ fs)) u) ≡ e → is_done e ≡ false → outcome_of (evaluation x.world x.now root) ≡ e

-- as a new one that fails at once, if there is room for it
abbrev pub NewTasksFail : Type 0
NewTasksFail =
    (w : World) (P : Project) (above : List Task) (u : Task) (k : FaultKind) → among u above ≡ false → length above < w.most_tasks → 0 < w.most_events
    → P.next u [] ≡ Fail k → outcome_of (evaluation_under w P above u) ≡ Failed u k

-- and one that requires itself or a task that waits: the root ends in that cycle
abbrev pub CyclesSink : Type 0
CyclesSink =
    (x : Setting) (R : Task → Option Record) (root : Task) (fs : List Frame) (f : Frame) (n : ℕ) (h : How) (u : Task) → GoesOn x R root fs f
    → f.left ≡ suc n → x.now.next f.task f.progress.answers ≡ Require h u → among u (tasks_of (f ∷ fs)) ≡ true
    → outcome_of (evaluation x.world x.now root) ≡ Cycled (round u (tasks_of (f ∷ fs)) [])

-- ---- what the roots enter

-- each of these tasks is recorded
abbrev pub AreRecorded : (Task → Option Record) → List Task → Type 0
AreRecorded R ts = (t : Task) → among t ts ≡ true → (r : Record) × (R t ≡ Some r)

-- all that a root enters after others is among these tasks
abbrev pub AllEntered : Setting → List Task → Task → List Task → Type 0
AllEntered x done root names =
    (t : Task) → among t (entered (evaluation x.world x.now root) (entered_tasks x.world x.now done)) ≡ true → among t names ≡ true

-- a root that ends as its running task, with no value, enters no task that wasn't entered
abbrev pub FailedRootsEnter : Type 0
FailedRootsEnter =
    (x : Setting) (R : Task → Option Record) (names done : List Task) (root : Task) (fs : List Frame) (f : Frame) (last : List Observation) (e : Outcome)
    → IsTable x.world x.now R names → AreRecorded R done → IsStack x R names root fs f → Ends x.world x.now f last e → is_done e ≡ false
    → AllEntered x done root names

-- and so does one in which a running task closes a cycle
abbrev pub CycledRootsEnter : Type 0
CycledRootsEnter =
    (x : Setting) (R : Task → Option Record) (names done : List Task) (root : Task) (fs : List Frame) (f : Frame) (n : ℕ) (h : How) (u : Task)
    → IsTable x.world x.now R names → AreRecorded R done → IsStack x R names root fs f → f.left ≡ suc n
    → x.now.next f.task f.progress.answers ≡ Require h u → among u (tasks_of (f ∷ fs)) ≡ true → AllEntered x done root names

-- one in which a running task requires a new one that fails at once enters that one besides
abbrev pub LostRootsEnter : Type 0
LostRootsEnter =
    (x : Setting) (R : Task → Option Record) (names done : List Task) (root : Task) (fs : List Frame) (f : Frame) (n : ℕ) (h : How) (u : Task)
    (k : FaultKind) → IsTable x.world x.now R names → AreRecorded R done → IsStack x R names root fs f → f.left ≡ suc n
    → x.now.next f.task f.progress.answers ≡ Require h u → among u names ≡ false → length names < x.world.most_tasks → 0 < x.world.most_events
    → x.now.next u [] ≡ Fail k → AllEntered x done root (names ++ u ∷ [])

-- ---- the verdict

-- the first root that ends with no value, where not too many tasks are entered
abbrev pub FailedRootsDecide : Type 0
FailedRootsDecide =
    (x : Setting) (R : Task → Option Record) (names all done rest : List Task) (root t : Task) (k : FaultKind) → IsTable x.world x.now R names
    → AreRecorded R done → AllEntered x done root all → length all ≤ x.world.most_tasks
    → outcome_of (evaluation x.world x.now root) ≡ Failed t k → verdict x.world x.now (done ++ root ∷ rest) ≡ Fault t k

abbrev pub CycledRootsDecide : Type 0
CycledRootsDecide =
    (x : Setting) (R : Task → Option Record) (names all done rest : List Task) (root : Task) (ts : List Task) → IsTable x.world x.now R names
    → AreRecorded R done → AllEntered x done root all → length all ≤ x.world.most_tasks
    → outcome_of (evaluation x.world x.now root) ≡ Cycled ts → verdict x.world x.now (done ++ root ∷ rest) ≡ Cycle ts

-- a task stands in the evaluation of one of these
pub record StandsUnder (x : Setting) (ts : List Task) (t : Task) : Type 0 where
  pub from : Task
  pub listed : among from ts ≡ true
  pub stands : HasTask t (evaluation x.world x.now from)

-- as these themselves do
abbrev pub RootsStand : Type 0
RootsStand = (x : Setting) (ts : List Task) (t : Task) → among t ts ≡ true → StandsUnder x ts t

-- and still where there are more
abbrev pub MoreRootsStand : Type 0
MoreRootsStand = (x : Setting) (ts more : List Task) (t : Task) → StandsUnder x ts t → StandsUnder x (ts ++ more) t

-- as many tasks as may be were entered, and one more comes, each in the evaluation of a root up to this one
abbrev pub TooManyTasksDecide : Type 0
TooManyTasksDecide =
    (x : Setting) (R : Task → Option Record) (names done rest : List Task) (root u : Task) → IsTable x.world x.now R names → AreRecorded R done
    → length names ≡ x.world.most_tasks → ((t : Task) → among t names ≡ true → StandsUnder x (done ++ root ∷ []) t) → among u names ≡ false
    → StandsUnder x (done ++ root ∷ []) u → verdict x.world x.now (done ++ root ∷ rest) ≡ Many

-- once all roots are recorded, the records of the tasks that they enter are those of a clean build in which they are done
abbrev pub RecordedRootsAreDone : Type 0
RecordedRootsAreDone =
    (x : Setting) (R : Task → Option Record) (names roots : List Task) → IsTable x.world x.now R names → AreRecorded R roots
    → Between x.world x.now roots (recorded_among (entered_tasks x.world x.now roots) R) (entered_tasks x.world x.now roots)
