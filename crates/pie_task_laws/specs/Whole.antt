-- All tasks of a build that run, wait or are still to begin, from step to step.
use Rattle.std.specs.Prelude.{◌≡◌, ℕ, ◌<◌, true, false, List, [], ◌∷◌, ◌++◌, length, None, Some, slice_get}
use Rattle.pie_value.specs.declared.task.Task.{Task}
use Rattle.pie_value.specs.declared.value.Value.{Value}
use Rattle.pie_value.specs.declared.event.Event.TheVariants as events
use Rattle.pie_value.specs.declared.event.How.{How}
use Rattle.pie_value.specs.Limits.{is_small_task}
use Rattle.pie_value.specs.Canonical.{enc_task}
use Rattle.pie_graph.specs.Rows.{Row}
use Rattle.pie_record.specs.declared.records.Records.{Records}
use Rattle.pie_record.specs.declared.task_record.TaskRecord.{TaskRecord}
use Rattle.pie_record.specs.inner.Records.{record_of as kept_of, Puts}
use Rattle.pie_view.specs.Content.{content}
use Rattle.pie_walk.specs.Marks.{mark_of}
use Rattle.pie_walk.specs.States.{WalkState, with_one_more, settled}
use Rattle.pie_builder_laws.specs.Requiring.{of_task, requiring_answer}
use Rattle.pie_running.specs.declared.frame.RunningTask.{RunningTask}
use Rattle.pie_running.specs.declared.frame.Waiting.{Waiting}
use Rattle.pie_running.specs.declared.frame.Caller.{Caller}
use Rattle.pie_running.specs.inner.Noted.{required}
use Rattle.pie_running.specs.inner.Coded.{HasFunction}
use Rattle.pie_running.specs.inner.Frames.{IsStarted}
use Rattle.pie_running.specs.inner.Told.{IsTold}
use Rattle.pie_core_laws.specs.Exact.{runs}
use Rattle.pie_core_laws.specs.Finishing.{Finishes, StaysExact}
use Rattle.pie_core_laws.specs.Moving.{Moves}
use Rattle.pie_core_laws.specs.Running.{IsBaseOf}
use Rattle.pie_task_laws.specs.Sites.{Site, Build, IsExactAt}
use Rattle.pie_task_laws.specs.Going.{Wait, Runs, MayBegin}
use Rattle.pie_task_laws.specs.Coming.{IsAsking}
use Rattle.pie_task_laws.specs.Beginning.{calling}
use Rattle.pie_task_laws.specs.Answering.{HasSettled, HasGiven}

-- a task with this number has no record and wasn't taken
pub record IsNew (b : Build) (n : ℕ) : Type 0 where
  pub task : Task
  pub named : slice_get b.names n ≡ Some task
  pub unrecorded : kept_of b.records n ≡ None
  pub idle : runs (mark_of b.walk.marks n) ≡ false

-- none is, or only this one
abbrev pub NoneIsNew : Build → Type 0
NoneIsNew b = (n : ℕ) → IsNew b n → ⊥

abbrev pub OnlyIsNew : Build → ℕ → Type 0
OnlyIsNew b k = (n : ℕ) → IsNew b n → n ≡ k

-- no task is in hand, and each new one may begin
pub record AreAtRest (x : Site) (b : Build) (cs : List Caller) : Type 0 where
  pub wait : Wait x b cs
  pub new : (n : ℕ) (i : IsNew b n) → MayBegin x b cs i.task

-- a task is in hand, and none is new
pub record IsAtWork (x : Site) (b : Build) (cs : List Caller) (f : RunningTask) : Type 0 where
  pub runs : Runs x b cs f.code.now f.machine f.notes
  pub none : NoneIsNew b

-- a build after its walk moved, and after a new task came
abbrev pub moved : Build → WalkState → Build
moved b after = record b { walk = after }

abbrev pub with_new : Build → Task → Build
with_new b t = record b { names = b.names ++ t ∷ []; walk = with_one_more b.walk }

-- a move of the walk
pub record Moved (x : Site) (b : Build) (after : WalkState) : Type 0 where
  pub exact : IsExactAt x b
  pub stays : StaysExact x.update b.names b.records b.walk b.names b.records after
  pub moves : Moves b.walk after

-- a new task
pub record Comes (x : Site) (b : Build) (t : Task) : Type 0 where
  pub exact : IsExactAt x b
  pub stays : StaysExact x.update b.names b.records b.walk (b.names ++ t ∷ []) b.records (with_one_more b.walk)

-- a move that takes a task, of which nothing is staged: its record, if it has one, is an old one
pub record TakesOne (x : Site) (b : Build) (after : WalkState) (k : ℕ) (t : Task) : Type 0 where
  pub move : Moved x b after
  pub only : OnlyIsNew b k
  pub named : slice_get b.names k ≡ Some t
  pub was : runs (mark_of b.walk.marks k) ≡ false
  pub up : runs (mark_of after.marks k) ≡ true
  pub empty : (p : List ℕ) → content b.stage k p ≡ None
  pub old : (rec : TaskRecord) → kept_of b.records k ≡ Some rec → IsBaseOf x.update (enc_task t)

-- a task ends
pub record EndsOne (x : Site) (b : Build) (changed : Records) (after : WalkState) (k : ℕ) : Type 0 where
  pub row : Row
  pub rec : TaskRecord
  pub exact : IsExactAt x b
  pub stays : StaysExact x.update b.names b.records b.walk b.names changed after
  pub finishes : Finishes b.records b.walk after k row rec
  pub puts : Puts b.records changed k rec

abbrev pub ended : Build → Records → WalkState → Build
ended b changed after = record b { records = changed; walk = after }

-- ---- the laws

-- the walk moves, and a root comes
abbrev pub MovesRest : Type 0
MovesRest = (x : Site) (b : Build) (after : WalkState) (cs : List Caller) → Moved x b after → AreAtRest x b cs → AreAtRest x (moved b after) cs

abbrev pub RootsRest : Type 0
RootsRest =
    (x : Site) (b : Build) (t : Task) (cs : List Caller) → Comes x b t → NoneIsNew b → IsBaseOf x.update (enc_task t) → AreAtRest x b cs
    → AreAtRest x (with_new b t) cs

-- the task in hand waits for one that has a number, or for a new one
abbrev pub RequirersRest : Type 0
RequirersRest =
    (x : Site) (b : Build) (cs : List Caller) (w : Waiting) (t : Task) (how : How) (k : ℕ) → IsExactAt x b → NoneIsNew b → 0 < w.notes.left
    → IsAsking x b cs w (events.Require t how) → is_small_task t ≡ true → slice_get b.names k ≡ Some t → AreAtRest x b (calling w t how ∷ cs)

abbrev pub NewRequirersRest : Type 0
NewRequirersRest =
    (x : Site) (b : Build) (cs : List Caller) (w : Waiting) (t : Task) (how : How) → Comes x b t → NoneIsNew b → length b.names < 50000
    → 0 < w.notes.left → IsAsking x b cs w (events.Require t how) → is_small_task t ≡ true → AreAtRest x (with_new b t) (calling w t how ∷ cs)

-- a task that is taken runs, is kept, or ends at once
abbrev pub TakenTasksWork : Type 0
TakenTasksWork =
    (x : Site) (b : Build) (after : WalkState) (k : ℕ) (t : Task) (cs : List Caller) (f : RunningTask) → TakesOne x b after k t → AreAtRest x b cs
    → HasFunction x.update.functions x.codes t f.code.now → IsStarted f.code.now t k f → IsAtWork x (moved b after) cs f

abbrev pub KeptTasksRest : Type 0
KeptTasksRest =
    (x : Site) (b : Build) (after : WalkState) (k : ℕ) (t : Task) (rec : TaskRecord) (cs : List Caller) → TakesOne x b after k t → AreAtRest x b cs
    → kept_of b.records k ≡ Some rec → StaysExact x.update b.names b.records after b.names b.records (settled after k)
    → AreAtRest x (moved b (settled after k)) cs

abbrev pub LostTasksRest : Type 0
LostTasksRest =
    (x : Site) (b : Build) (after last : WalkState) (changed : Records) (k : ℕ) (t : Task) (cs : List Caller) → TakesOne x b after k t
    → AreAtRest x b cs → EndsOne x (moved b after) changed last k → AreAtRest x (ended b changed last) cs

-- the task in hand ends, or the newest that waits, for which nothing is new
abbrev pub EndedTasksRest : Type 0
EndedTasksRest =
    (x : Site) (b : Build) (cs : List Caller) (f : RunningTask) (changed : Records) (after : WalkState) → IsAtWork x b cs f
    → EndsOne x b changed after f.notes.number → AreAtRest x (ended b changed after) cs

abbrev pub EndedCallersRest : Type 0
EndedCallersRest =
    (x : Site) (b : Build) (c : Caller) (cs : List Caller) (changed : Records) (after : WalkState) → NoneIsNew b → Wait x b (c ∷ cs)
    → EndsOne x b changed after c.waiting.notes.number → AreAtRest x (ended b changed after) cs

-- or it is answered
abbrev pub AnsweredTasksWork : Type 0
AnsweredTasksWork =
    (x : Site) (b : Build) (c : Caller) (cs : List Caller) (k : ℕ) (rec : TaskRecord) (v : Value) (height : ℕ) (f : RunningTask) → NoneIsNew b
    → HasSettled x b c cs k rec → HasGiven rec v
    → IsTold c.waiting f (required (of_task c.how c.required v) k height c.waiting.notes) (requiring_answer c.how v) → IsAtWork x b cs f
