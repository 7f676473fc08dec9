-- The tasks of a build that run and wait, as the model of building knows them.
use Rattle.std.specs.Prelude.{◌≡◌, ◌≢◌, ◌⊎◌, ℕ, true, false, ◌<◌, List, [], ◌∷◌, ◌++◌, length, map, reverse, Option, None, Some, slice_get}
use Rattle.pie_value.specs.declared.task.Task.{Task}
use Rattle.pie_value.specs.declared.event.Event.{Event}
use Rattle.pie_value.specs.declared.event.Event.TheVariants as events
use Rattle.pie_value.specs.Canonical.{enc_task}
use Rattle.pie_base.specs.Path.{is_out}
use Rattle.pie_graph.specs.declared.edges.TaskNo.{TaskNo}
use Rattle.pie_graph.specs.Numbers.{IsMarked}
use Rattle.pie_graph.specs.Rows.{row_at}
use Rattle.pie_record.specs.declared.records.Records.{Records}
use Rattle.pie_record.specs.inner.Records.{record_of as kept_of}
use Rattle.pie_record.specs.declared.task_record.Outcome.{Outcome}
use Rattle.pie_record.specs.declared.task_record.TaskRecord.{TaskRecord}
use Rattle.pie_walk.specs.declared.marks.Mark.TheVariants.{New}
use Rattle.pie_walk.specs.Marks.{mark_of}
use Rattle.pie_walk.specs.States.{WalkState, with_one_more}
use Rattle.pie_code.specs.declared.code.Code.{Code}
use Rattle.pie_running.specs.declared.frame.Caller.{Caller}
use Rattle.pie_running.specs.declared.frame.RunningTask.{RunningTask}
use Rattle.pie_running.specs.declared.frame.Waiting.{Waiting}
use Rattle.pie_running.specs.inner.Coded.{HasFunction}
use Rattle.pie_running.specs.inner.Noted.{Noted, observed}
use Rattle.pie_running.specs.inner.Steps.{IsEffect}
use Rattle.pie_builder_laws.specs.Names.{AreTasks}
use Rattle.pie_builder_laws.specs.Views.{RowIs}
use Rattle.pie_frames.specs.declared.parked.Parked.{Parked}
use Rattle.pie_core_laws.specs.Update.{Update}
use Rattle.pie_core_laws.specs.Exact.{runs}
use Rattle.pie_task_laws.specs.Sites.{Site, Build}
use Rattle.pie_task_laws.specs.Coming.{IsAsking, EndsRight}
use Rattle.pie_task_laws.specs.Telling.{GoesAs}
use Rattle.pie_running.specs.declared.frame.Told.{Told}
use Rattle.pie_files.specs.Directory.{Directory}
use Rattle.pie_core_laws.specs.Keeping.{Separates}
use Rattle.pie_task_laws.specs.Whole.{IsNew, NoneIsNew, AreAtRest, IsAtWork, TakesOne, EndsOne, ended}
use Rattle.pie_bottomup.specs.declared.plan.Plan.{Plan}
use Rattle.pie_bottomup.specs.declared.state.Core.{Core}
use Rattle.pie_bottomup.specs.declared.state.First.TheVariants.{Tests, TooMany, Done}
use Rattle.pie_bottomup.specs.declared.state.InHand.{InHand}
use Rattle.pie_bottomup.specs.declared.state.Turn.{Turn}
use Rattle.pie_bottomup.specs.declared.state.Turn.TheVariants.{Went, Settled, StartAfresh}
use Rattle.pie_bottomup.specs.inner.Causes.{AreManyOld, HasRunNone, IsCauseOf}
use Rattle.pie_bottomup.specs.inner.Exact.{IsPlanNow, IsTakenExact, IsLoadedCore, IsExactCore, BeginsAsOld, EndedRight, IsWaitingFor, OwnsTold, IsSiteNow, lost_task}
use Rattle.pie_bottomup.specs.inner.Finished.{end_row}
use Rattle.pie_bottomup.specs.inner.Sights.{SeenIsStaged}
use Rattle.pie_bottomup.specs.inner.States.{IsOwn}

-- what a build goes by, and its tasks, in the words of the laws
abbrev pub site_of : Update → Core → Site
site_of u c = record { update = u; codes = c.plan.code.now }

abbrev pub build_of : Core → Build
build_of c = record { names = c.tables.names; records = c.tables.records; walk = c.frames.walk; stage = c.stage }

-- the tasks that wait, the newest first
abbrev pub callers_up : List Parked → List Caller
callers_up ps = reverse (map (λ (p : Parked). p.caller) ps)

-- a task was met, and requires nothing
pub record IsBare (s : WalkState) (n : ℕ) : Type 0 where
  pub met : mark_of s.marks n ≢ New
  pub alone : (row_at s.rows n).needs ≡ []

-- no task is in hand: those that wait go on waiting, and each new one was met and may begin
pub record IsResting (u : Update) (c : Core) : Type 0 where
  pub rest : AreAtRest (site_of u c) (build_of c) (callers_up c.frames.parked.items)
  pub bare : (n : ℕ) → IsNew (build_of c) n → IsBare c.frames.walk n
  pub marked : (n : ℕ) → runs (mark_of c.frames.walk.marks n) ≡ true → IsMarked c.tables.ran.items n

-- a task is in hand, and runs
pub record IsWorking (u : Update) (c : Core) (f : RunningTask) : Type 0 where
  pub work : IsAtWork (site_of u c) (build_of c) (callers_up c.frames.parked.items) f
  pub marked : (n : ℕ) → runs (mark_of c.frames.walk.marks n) ≡ true → IsMarked c.tables.ran.items n

-- a task was taken by a move of the walk from here
pub record IsTakenFrom (u : Update) (c : Core) (before : WalkState) (n : ℕ) : Type 0 where
  pub taken : IsTakenExact u c n
  pub task : Task
  pub takes : TakesOne (site_of u c) (record (build_of c) { walk = before }) c.frames.walk n task
  pub rest : AreAtRest (site_of u c) (record (build_of c) { walk = before }) (callers_up c.frames.parked.items)
  pub bare : kept_of c.tables.records n ≡ None → (row_at c.frames.walk.rows n).needs ≡ []
  pub marked : (k : ℕ) → runs (mark_of c.frames.walk.marks k) ≡ true → k ≢ n → IsMarked c.tables.ran.items k

-- no task is in hand, and a new one, which alone may be, is about to be met
pub record MayMeet (u : Update) (c : Core) (cs : List Caller) (k : ℕ) : Type 0 where
  pub rest : AreAtRest (site_of u c) (build_of c) cs
  pub alone : (n : ℕ) → IsNew (build_of c) n → (n ≡ k) × ((row_at c.frames.walk.rows n).needs ≡ [])
  pub marked : (n : ℕ) → runs (mark_of c.frames.walk.marks n) ≡ true → IsMarked c.tables.ran.items n

-- where a task ends, the others wait on; no task is new
pub record EndsAlone (u : Update) (c : Core) (k : ℕ) : Type 0 where
  pub others : (changed : Records) (after : WalkState) → EndsOne (site_of u c) (build_of c) changed after k
      → AreAtRest (site_of u c) (ended (build_of c) changed after) (callers_up c.frames.parked.items)
  pub none : NoneIsNew (build_of c)
  pub marked : (n : ℕ) → runs (mark_of c.frames.walk.marks n) ≡ true → n ≢ k → IsMarked c.tables.ran.items n

-- ---- a build with its tasks

abbrev pub Goes : Update → Core → Option InHand → Type 0
Goes u c None = IsResting u c
Goes u c (Some h) = IsWorking u c h.task

-- it is exact, and its tasks go on
pub record IsWhole (u : Update) (c : Core) : Type 0 where
  pub exact : IsExactCore u c
  pub going : Goes u c c.hand

-- a step leaves it so, or starts afresh for a cause that is so
abbrev pub TurnIsWhole : Update → Core → Turn → Type 0
TurnIsWhole u c Went = IsWhole u c
TurnIsWhole u c Settled = IsWhole u c
TurnIsWhole u c (StartAfresh cause) = IsCauseOf u c cause

-- a plan is that of an update, with its roots; what is met is separate
pub record IsBuildNow (u : Update) (p : Plan) : Type 0 where
  pub plan : IsPlanNow u p
  pub roots : u.roots ≡ map enc_task p.roots.items
  pub apart : Separates u

-- a build goes on whole where no task is in hand
abbrev pub WalksWhole : Core → Core → Turn → Type 0
WalksWhole old new t =
    (u : Update) → IsBuildNow u old.plan → IsExactCore u old → IsResting u old → TurnIsWhole u new t

-- where a root is next, and no task is new
abbrev pub RootsWhole : Core → Core → Turn → Type 0
RootsWhole old new t =
    (u : Update) → IsBuildNow u old.plan → IsExactCore u old → IsResting u old → NoneIsNew (build_of old) → TurnIsWhole u new t

-- where a task with this number is met
abbrev pub MeetsWhole : Core → ℕ → Core → Turn → Type 0
MeetsWhole old k new t =
    (u : Update) → IsBuildNow u old.plan → IsExactCore u old → MayMeet u old (callers_up old.frames.parked.items) k → TurnIsWhole u new t

-- where one was taken
abbrev pub TakesWhole : Core → ℕ → Core → Turn → Type 0
TakesWhole old n new t = (u : Update) (before : WalkState) → IsBuildNow u old.plan → IsTakenFrom u old before n → TurnIsWhole u new t

-- where it begins to run, with the code of its function
abbrev pub StartsWhole : Core → ℕ → Code → Core → Turn → Type 0
StartsWhole old n code new t =
    ((task : Task) → slice_get old.tables.names n ≡ Some task → HasFunction old.plan.typed.now old.plan.code.now task code) → TakesWhole old n new t

-- where one ends with a record of which the row is known
abbrev pub EndsWhole : Core → ℕ → ℕ → TaskRecord → Core → Turn → Type 0
EndsWhole old n from rec new t =
    RowIs old.tables.names (end_row old.frames.walk n from rec) (Some rec) → (u : Update) → IsBuildNow u old.plan → IsExactCore u old
    → BeginsAsOld old.tables old.frames.walk.rows n from → EndedRight u old n rec → EndsAlone u old n → TurnIsWhole u new t

-- one task more has come
pub record HasGrown (old : Core) (t : Task) (new : Core) : Type 0 where
  pub names : new.tables.names ≡ old.tables.names ++ t ∷ []
  pub records : new.tables.records ≡ old.tables.records
  pub walk : new.frames.walk ≡ with_one_more old.frames.walk
  pub stage : new.stage ≡ old.stage
  pub parked : new.frames.parked ≡ old.frames.parked
  pub ran : new.tables.ran.items ≡ old.tables.ran.items ++ false ∷ []
  pub tasks : AreTasks new.tables.names
  pub few : length old.frames.walk.rows < 50000

-- the newest that waits can go on, and none is new
pub record IsAnsweredFrom (u : Update) (c : Core) (p : Parked) : Type 0 where
  pub rest : AreAtRest (site_of u c) (build_of c) (p.caller ∷ callers_up c.frames.parked.items)
  pub none : NoneIsNew (build_of c)
  pub marked : (n : ℕ) → runs (mark_of c.frames.walk.marks n) ≡ true → IsMarked c.tables.ran.items n

-- it runs on or ends
abbrev pub AnswersWhole : Core → ℕ → Parked → Core → Turn → Type 0
AnswersWhole old n p new t =
    (u : Update) → IsBuildNow u old.plan → IsExactCore u old → BeginsAsOld old.tables old.frames.walk.rows n p.from → IsAnsweredFrom u old p → TurnIsWhole u new t

-- a task that has these notes may end so: with the record of its evaluation, and it ran
pub record MayEndAs (u : Update) (c : Core) (k : ℕ) (n : Noted) (o : Outcome) : Type 0 where
  pub number : n.number ≡ k
  pub named : slice_get c.tables.names k ≡ Some n.task
  pub right : EndsRight (site_of u c) (build_of c) n o
  pub ran : IsMarked c.tables.ran.items k
  pub alone : EndsAlone u c k

-- it ends as the one did for which it waited
abbrev pub CallersWhole : Core → TaskNo → ℕ → Caller → Outcome → Core → Turn → Type 0
CallersWhole old task from w outcome new t =
    (u : Update) → IsBuildNow u old.plan → IsExactCore u old → BeginsAsOld old.tables old.frames.walk.rows task.0 from → IsWaitingFor old task from w
    → MayEndAs u old task.0 (observed (lost_task w.how w.required) w.waiting.notes) outcome → TurnIsWhole u new t

-- a task ends with these notes, and so
abbrev pub NotesWhole : Core → TaskNo → ℕ → Noted → Outcome → Core → Turn → Type 0
NotesWhole old task from n o new t =
    (u : Update) → IsBuildNow u old.plan → IsExactCore u old → BeginsAsOld old.tables old.frames.walk.rows task.0 from → IsOwn old task from n
    → MayEndAs u old task.0 n o → TurnIsWhole u new t

-- the task in hand waits for one that is met
abbrev pub ParksWhole : Core → ℕ → ℕ → Caller → ℕ → Core → Turn → Type 0
ParksWhole old n from w callee new t =
    (u : Update) → IsBuildNow u old.plan → IsExactCore u old → BeginsAsOld old.tables old.frames.walk.rows n from
    → MayMeet u old (w ∷ callers_up old.frames.parked.items) callee → TurnIsWhole u new t

-- the task in hand asks this as in the model, and none is new
pub record IsAskingNow (u : Update) (c : Core) (w : Waiting) (e : Event) : Type 0 where
  pub asking : IsAsking (site_of u c) (build_of c) (callers_up c.frames.parked.items) w e
  pub effect : IsEffect e
  pub none : NoneIsNew (build_of c)
  pub marked : (n : ℕ) → runs (mark_of c.frames.walk.marks n) ≡ true → IsMarked c.tables.ran.items n

-- it requires a task, and waits or fails
abbrev pub RequiresWhole : Core → TaskNo → ℕ → Caller → Core → Turn → Type 0
RequiresWhole old task from w new t =
    (u : Update) → IsBuildNow u old.plan → IsExactCore u old → BeginsAsOld old.tables old.frames.walk.rows task.0 from
    → IsAskingNow u old w.waiting (events.Require w.required w.how) → TurnIsWhole u new t

-- a task that was told something goes on as in the model, or ends right; it ran, and where it ends, the others wait on
pub record GoesOn (u : Update) (c : Core) (k : ℕ) (t : Told) : Type 0 where
  pub goes : GoesAs (site_of u c) (build_of c) (callers_up c.frames.parked.items) t
  pub ran : IsMarked c.tables.ran.items k
  pub alone : EndsAlone u c k

abbrev pub ToldWhole : Core → TaskNo → ℕ → Told → Core → Turn → Type 0
ToldWhole old task from told new t =
    (u : Update) → IsBuildNow u old.plan → IsExactCore u old → BeginsAsOld old.tables old.frames.walk.rows task.0 from → OwnsTold old task from told
    → GoesOn u old task.0 told → TurnIsWhole u new t

-- the task in hand asks something, and nothing else is needed than the files that it is about
abbrev pub AsksWhole : Option Directory → Core → TaskNo → ℕ → Waiting → Event → Core → Turn → Type 0
AsksWhole held old task from w e new t =
    (u : Update) → IsBuildNow u old.plan → IsSiteNow u held → IsExactCore u old → BeginsAsOld old.tables old.frames.walk.rows task.0 from
    → IsAskingNow u old w e → TurnIsWhole u new t

-- so it is of a look at a path, if what is seen there is staged
abbrev pub LooksWhole : Option Directory → Core → TaskNo → ℕ → Waiting → Event → List ℕ → Core → Turn → Type 0
LooksWhole held old task from w e path new t =
    (is_out path ≡ true → SeenIsStaged old.frames.walk.rows old.stage task.0 from path) → AsksWhole held old task from w e new t

-- what comes of the task in hand
abbrev pub GoesWhole : Option Directory → Core → InHand → Core → Turn → Type 0
GoesWhole held old h new t =
    (u : Update) → IsBuildNow u old.plan → IsSiteNow u held → IsExactCore u old → BeginsAsOld old.tables old.frames.walk.rows h.no.0 h.from
    → IsWorking u old h.task → TurnIsWhole u new t

-- what holds of a build between two steps: before the first one these are loaded, unless it has too many old tasks and starts afresh
abbrev pub StandsWhole : Update → Core → Type 0
StandsWhole u c =
    ((c.first ≡ Done → ⊥) × (c.first ≡ Tests → IsLoadedCore u c) × ((task : Task) → c.first ≡ TooMany task → AreManyOld u task × HasRunNone c.tables))
    ⊎ IsWhole u c

-- a build is whole once its old tasks were held against what is there, if the files tell that
abbrev pub TestsWhole : Option Directory → Core → Core → Type 0
TestsWhole held old new = (u : Update) → IsBuildNow u old.plan → held ≡ Some u.directory → IsLoadedCore u old → IsWhole u new

-- a step over these files leaves a build whole
abbrev pub StepsWhole : Option Directory → Core → Core → Turn → Type 0
StepsWhole held old new t = (u : Update) → IsBuildNow u old.plan → IsSiteNow u held → StandsWhole u old → TurnIsWhole u new t
