-- A task that runs in a build without a list, as the model of building knows it: it asks, is told, requires, is answered, and ends.
use Rattle.std.specs.Prelude.{◌≡◌, ℕ, true, List, ◌∷◌, All, None, Some, Option, slice_get}
use Rattle.pie_base.specs.Path.{is_out}
use Rattle.pie_value.specs.declared.task.Task.{Task}
use Rattle.pie_value.specs.declared.value.Value.{Value}
use Rattle.pie_value.specs.declared.event.Event.{Event}
use Rattle.pie_value.specs.Values.{tree_of}
use Rattle.pie_value.specs.Limits.{is_small}
use Rattle.pie_value.specs.Canonical.{enc_task}
use Rattle.pie_files.specs.Directory.{Directory}
use Rattle.pie_graph.specs.Numbers.{IsMarked}
use Rattle.pie_graph.specs.Rows.{Writes}
use Rattle.pie_record.specs.declared.task_record.TaskRecord.{TaskRecord}
use Rattle.pie_record.specs.inner.Records.{record_of as kept_of}
use Rattle.pie_view.specs.Content.{content}
use Rattle.pie_running.specs.declared.frame.RunningTask.{RunningTask}
use Rattle.pie_running.specs.declared.frame.Waiting.{Waiting}
use Rattle.pie_running.specs.declared.frame.Told.{Told}
use Rattle.pie_running.specs.declared.frame.Told.TheVariants as tolds
use Rattle.pie_running.specs.inner.Noted.{Noted}
use Rattle.pie_running.specs.inner.Steps.{IsEffect}
use Rattle.pie_model.specs.inner.Stack.{Frame as ModelFrame, tasks_of}
use Rattle.pie_builder_laws.specs.Names.{called_in}
use Rattle.pie_builder_laws.specs.Views.{AreNumbersOf}
use Rattle.pie_core_laws.specs.Update.{Update}
use Rattle.pie_topdown_laws.specs.Running.{IsTop, AsksAbove, EndsAbove, GoesOrFails}
use Rattle.pie_topdown.specs.declared.builder.Builder.{Builder}
use Rattle.pie_topdown.specs.declared.hand.Turn.{Turn}
use Rattle.pie_topdown.specs.inner.Ledgers.{HasOutput}
use Rattle.pie_topdown.specs.inner.Right.{site_of, build_of, IsPlanNow, IsRightSite, AreWaiting, AreTheBusy, RunsRight, TurnIsRight}
use Rattle.pie_topdown.specs.inner.Sights.{IsStaged, SeenIsStaged}

-- ---- files of tasks that kept their records

-- a task with a record wrote a file that isn't staged
pub record MayStage (b : Builder) (writer : ℕ) (path : List ℕ) : Type 0 where
  pub rec : TaskRecord
  pub kept : kept_of b.ledger.tables.records writer ≡ Some rec
  pub wrote : Writes b.ledger.rows writer path
  pub out : is_out path ≡ true
  pub unstaged : content b.stage writer path ≡ None

-- it is staged beside the contents of the others, and the site is right still
pub record HasStaged (u : Update) (done : List (List ℕ)) (root : List ℕ) (old : Builder) (writer : ℕ) (path : List ℕ) (new : Builder) : Type 0 where
  pub site : IsRightSite u done root new
  pub beside : (k : ℕ) → (k ≡ writer → ⊥) → (p : List ℕ) → content new.stage k p ≡ content old.stage k p
  pub staged : IsStaged new.stage writer path

-- so it is over files that hold the directory of an update
abbrev pub StagesFile : Option Directory → Builder → ℕ → List ℕ → Builder → Type 0
StagesFile held old writer path new =
    (u : Update) (done : List (List ℕ)) (root : List ℕ) → held ≡ Some u.directory → IsPlanNow u old.plan → IsRightSite u done root old
    → MayStage old writer path → HasStaged u done root old writer path new

-- what a task sees that is about to look is staged, and what tasks without records staged stays
pub record HasFetched (u : Update) (done : List (List ℕ)) (root : List ℕ) (old : Builder) (n : Noted) (path : List ℕ) (new : Builder) : Type 0 where
  pub site : IsRightSite u done root new
  pub beside : (k : ℕ) → kept_of old.ledger.tables.records k ≡ None → (p : List ℕ) → content new.stage k p ≡ content old.stage k p
  pub seen : is_out path ≡ true → SeenIsStaged old.ledger.rows new.stage n.number n.needs path

-- so it is where the task has required tasks with outputs
abbrev pub FetchesSo : Option Directory → Builder → Noted → List ℕ → Builder → Type 0
FetchesSo held old n path new =
    (u : Update) (done : List (List ℕ)) (root : List ℕ) → held ≡ Some u.directory → IsPlanNow u old.plan → IsRightSite u done root old
    → All (HasOutput old.ledger.tables.records) n.needs → HasFetched u done root old n path new

-- ---- a task that asks

-- a task that runs asks this above these
pub record AsksRight (u : Update) (b : Builder) (root : List ℕ) (fs : List ModelFrame) (w : Waiting) (e : Event) : Type 0 where
  pub asks : AsksAbove (site_of u b) (build_of b) root fs w e
  pub effect : IsEffect e
  pub ran : IsMarked b.ledger.tables.ran.items w.notes.number
  pub busy : AreTheBusy b (enc_task w.notes.task ∷ tasks_of fs)

-- it goes on as in the model, or waits, or the clean build is refused as this one
abbrev pub ActsSo : Builder → Waiting → Event → Builder → Turn → Type 0
ActsSo old w e new t =
    (u : Update) (done : List (List ℕ)) (root : List ℕ) (fs : List ModelFrame) → IsPlanNow u old.plan → IsRightSite u done root old → AreWaiting u old root fs
    → AsksRight u old root fs w e → TurnIsRight u done root new t

-- so it is over files that hold the directory of an update
abbrev pub AsksSo : Option Directory → Builder → Waiting → Event → Builder → Turn → Type 0
AsksSo held old w e new t =
    (u : Update) (done : List (List ℕ)) (root : List ℕ) (fs : List ModelFrame) → held ≡ Some u.directory → IsPlanNow u old.plan → IsRightSite u done root old
    → AreWaiting u old root fs → AsksRight u old root fs w e → TurnIsRight u done root new t

-- and of a look at a path, if what is seen there is staged
abbrev pub LooksSo : Option Directory → Builder → Waiting → Event → List ℕ → Builder → Turn → Type 0
LooksSo held old w e path new t = (is_out path ≡ true → SeenIsStaged old.ledger.rows old.stage w.notes.number w.notes.needs path) → AsksSo held old w e new t

-- one event of a task that runs
abbrev pub RunsSo : Option Directory → Builder → RunningTask → Builder → Turn → Type 0
RunsSo held old f new t =
    (u : Update) (done : List (List ℕ)) (root : List ℕ) (fs : List ModelFrame) → held ≡ Some u.directory → IsPlanNow u old.plan → IsRightSite u done root old
    → AreWaiting u old root fs → RunsRight u old root fs f → TurnIsRight u done root new t

-- ---- it is told

-- if it goes on, it has this number
abbrev pub IsOf : ℕ → Told → Type 0
IsOf n (tolds.Goes f) = f.notes.number ≡ n
IsOf n (tolds.Fails m k) = Unit {0}

-- a task that runs above these was told something: it goes on, or fails
pub record IsToldRight (u : Update) (b : Builder) (root : List ℕ) (fs : List ModelFrame) (n : ℕ) (t : Told) : Type 0 where
  pub task : Task
  pub named : slice_get b.ledger.tables.names n ≡ Some task
  pub goes : GoesOrFails (site_of u b) (build_of b) root fs task t
  pub same : IsOf n t
  pub ran : IsMarked b.ledger.tables.ran.items n
  pub busy : AreTheBusy b (enc_task task ∷ tasks_of fs)

abbrev pub ToldSo : Builder → ℕ → Told → Builder → Turn → Type 0
ToldSo old n told new t =
    (u : Update) (done : List (List ℕ)) (root : List ℕ) (fs : List ModelFrame) → IsRightSite u done root old → AreWaiting u old root fs
    → IsToldRight u old root fs n told → TurnIsRight u done root new t

-- ---- it ends

-- a task that ran above these gives this output: if that is within the limits, it is done, and else it fails
pub record EndsRightly (u : Update) (b : Builder) (root : List ℕ) (fs : List ModelFrame) (n : Noted) (v : Value) : Type 0 where
  pub frame : ModelFrame
  pub task : frame.task ≡ enc_task n.task
  pub top : IsTop (site_of u b) (build_of b) root fs frame
  pub numbers : AreNumbersOf b.ledger.tables.names n.needs (called_in n.deps)
  pub ends : EndsAbove (site_of u b) (build_of b) root fs n v (is_small (tree_of v))
  pub ran : IsMarked b.ledger.tables.ran.items n.number
  pub busy : AreTheBusy b (enc_task n.task ∷ tasks_of fs)

abbrev pub EndsSo : Builder → Noted → Value → Builder → Turn → Type 0
EndsSo old n v new t =
    (u : Update) (done : List (List ℕ)) (root : List ℕ) (fs : List ModelFrame) → IsRightSite u done root old → AreWaiting u old root fs
    → EndsRightly u old root fs n v → TurnIsRight u done root new t
