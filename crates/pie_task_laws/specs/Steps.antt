-- Steps of a build beside its running tasks: they go on as before.
use Rattle.std.specs.Prelude.{◌≡◌, ℕ, true, false, List, [], ◌∷◌, ◌++◌, Some, slice_get}
use Rattle.pie_value.specs.declared.task.Task.{Task}
use Rattle.pie_value.specs.declared.event.Event.{Event}
use Rattle.pie_code.specs.declared.code.Code.{Code}
use Rattle.pie_vm.specs.Machines.{Standing}
use Rattle.pie_view.specs.Content.{Staged, content}
use Rattle.pie_running.specs.declared.frame.Waiting.{Waiting}
use Rattle.pie_running.specs.declared.frame.Caller.{Caller}
use Rattle.pie_running.specs.inner.Noted.{Noted}
use Rattle.pie_core_laws.specs.Exact.{runs}
use Rattle.pie_core_laws.specs.Finishing.{Finishes, StaysExact}
use Rattle.pie_core_laws.specs.Moving.{Moves}
use Rattle.pie_graph.specs.Rows.{Row}
use Rattle.pie_record.specs.declared.records.Records.{Records}
use Rattle.pie_record.specs.declared.task_record.TaskRecord.{TaskRecord}
use Rattle.pie_walk.specs.Marks.{mark_of}
use Rattle.pie_walk.specs.States.{WalkState, with_one_more, settled}
use Rattle.pie_task_laws.specs.Sites.{Site, Build, IsExactAt}
use Rattle.pie_task_laws.specs.Going.{Wait, Runs, MayBegin}
use Rattle.pie_task_laws.specs.Coming.{IsAsking}

-- a task was taken, and isn't settled
abbrev pub IsUp : Build → ℕ → Type 0
IsUp b k = runs (mark_of b.walk.marks k) ≡ true

-- a build stays exact, and no task loses its number; of the tasks that run, these still do, with what they staged
pub record Steps (x : Site) (these : ℕ → Type 0) (old new : Build) : Type 0 where
  pub stays : StaysExact x.update old.names old.records old.walk new.names new.records new.walk
  pub grown : (rest : List Task) × (new.names ≡ old.names ++ rest)
  pub up : (k : ℕ) → IsUp old k → these k → IsUp new k
  pub staged : (k : ℕ) → IsUp old k → these k → (p : List ℕ) → content new.stage k p ≡ content old.stage k p

-- so it is for all tasks that run
abbrev pub AllStep : Site → Build → Build → Type 0
AllStep x old new = Steps x (λ k. Unit {0}) old new

-- or for all but this one, which may end
abbrev pub OthersStep : Site → ℕ → Build → Build → Type 0
OthersStep x which old new = Steps x (λ k. k ≡ which → ⊥) old new

-- the task in hand runs on, those that wait still wait, and one that may begin still may
abbrev pub RunningTasksStay : Type 0
RunningTasksStay =
    (x : Site) (old new : Build) (cs : List Caller) (code : Code) (m : Standing) (n : Noted) → IsExactAt x old → AllStep x old new
    → Runs x old cs code m n → Runs x new cs code m n

-- what it asks it still asks
abbrev pub AskingTasksStay : Type 0
AskingTasksStay =
    (x : Site) (old new : Build) (cs : List Caller) (w : Waiting) (v : Event) → IsExactAt x old → AllStep x old new → IsAsking x old cs w v
    → IsAsking x new cs w v

abbrev pub WaitingTasksStay : Type 0
WaitingTasksStay = (x : Site) (old new : Build) (cs : List Caller) → IsExactAt x old → AllStep x old new → Wait x old cs → Wait x new cs

abbrev pub BeginningsStay : Type 0
BeginningsStay =
    (x : Site) (old new : Build) (cs : List Caller) (t : Task) → IsExactAt x old → AllStep x old new → MayBegin x old cs t → MayBegin x new cs t

-- where the task in hand ends, those that wait still wait
abbrev pub CallersStay : Type 0
CallersStay =
    (x : Site) (old new : Build) (cs : List Caller) (code : Code) (m : Standing) (n : Noted) → IsExactAt x old → OthersStep x n.number old new
    → Runs x old cs code m n → Wait x new cs

-- where the newest that waits ends, the others still wait
abbrev pub OlderCallersStay : Type 0
OlderCallersStay =
    (x : Site) (old new : Build) (c : Caller) (cs : List Caller) → IsExactAt x old → OthersStep x c.waiting.notes.number old new → Wait x old (c ∷ cs)
    → Wait x new cs

-- contents that are staged for tasks which don't run are such a step
abbrev pub StagingsStep : Type 0
StagingsStep =
    (x : Site) (b : Build) (later : Staged) → IsExactAt x b
    → ((k : ℕ) → IsUp b k → (p : List ℕ) → content later k p ≡ content b.stage k p) → AllStep x b (record b { stage = later })

-- where a task was taken that had not run, and is settled at once, those that wait still wait
abbrev pub TakenTasksPass : Type 0
TakenTasksPass =
    (x : Site) (old taken new : Build) (cs : List Caller) (t : Task) (k : ℕ) → IsExactAt x old → IsExactAt x taken → AllStep x old taken
    → runs (mark_of old.walk.marks k) ≡ false → slice_get taken.names k ≡ Some t → OthersStep x k taken new → Wait x old cs → Wait x new cs

-- ---- kinds of steps

-- moves of the walk
abbrev pub MovesStep : Type 0
MovesStep =
    (x : Site) (b : Build) (after : WalkState) → StaysExact x.update b.names b.records b.walk b.names b.records after → Moves b.walk after
    → AllStep x b (record b { walk = after })

-- a new task
abbrev pub NewTasksStep : Type 0
NewTasksStep =
    (x : Site) (b : Build) (t : Task) → StaysExact x.update b.names b.records b.walk (b.names ++ t ∷ []) b.records (with_one_more b.walk)
    → AllStep x b (record b { names = b.names ++ t ∷ []; walk = with_one_more b.walk })

-- the end of a task, which may be kept
abbrev pub FinishesStep : Type 0
FinishesStep =
    (x : Site) (b : Build) (changed : Records) (after : WalkState) (k : ℕ) (row : Row) (rec : TaskRecord)
    → StaysExact x.update b.names b.records b.walk b.names changed after → Finishes b.records b.walk after k row rec
    → OthersStep x k b (record b { records = changed; walk = after })

abbrev pub KeptTasksStep : Type 0
KeptTasksStep =
    (x : Site) (b : Build) (k : ℕ) → StaysExact x.update b.names b.records b.walk b.names b.records (settled b.walk k)
    → OthersStep x k b (record b { walk = settled b.walk k })
