-- What holds of a build by what changed between two steps, and by what it falls.
use Rattle.std.specs.Prelude.{List, [], ◌∷◌, ◌++◌, ◌≡◌, ◌⊎◌, ℕ, ◌<◌, ◌≤◌, ◌+◌, ◌-◌, ◌*◌, Bool, true, false, take, length, All, Option, None, Some, IfSome}
use Rattle.std.specs.Prelude.{IsSome, slice_get, slice_index_or}
use Rattle.std.specs.List.{Contains}
use Rattle.pie_value.specs.declared.task.Task.{Task}
use Rattle.pie_value.specs.Canonical.{IsEncodableTask}
use Rattle.pie_code.specs.declared.code.Code.{Code}
use Rattle.pie_graph.specs.declared.edges.TaskNo.{TaskNo}
use Rattle.pie_graph.specs.Numbers.{IsMarked}
use Rattle.pie_graph.specs.Rows.{Row, row_at, Calls}
use Rattle.pie_parser.specs.FunctionTrees.{FunctionTree}
use Rattle.pie_record.specs.Canonical.{IsStorableOutcome, IsTrueOutcome}
use Rattle.pie_record.specs.declared.task_record.Outcome.{Outcome}
use Rattle.pie_record.specs.declared.records.Records.{Records}
use Rattle.pie_record.specs.declared.task_record.TaskRecord.{TaskRecord}
use Rattle.pie_record.specs.inner.Records.{record_of}
use Rattle.pie_store.specs.Canonical.{names_of}
use Rattle.pie_tables.specs.declared.tables.Tables.{Tables}
use Rattle.pie_tables.specs.Tabled.{IsTables, HasFailed, IsKept}
use Rattle.pie_old.specs.declared.old.Old.{Old}
use Rattle.pie_old.specs.inner.Rows.{IsRowOf}
use Rattle.pie_walk.specs.declared.marks.Mark.TheVariants.{New}
use Rattle.pie_walk.specs.Counts.{begins}
use Rattle.pie_walk.specs.Marks.{mark_of, IsIdle, IsSettled}
use Rattle.pie_walk.specs.declared.stack.Entry.{Entry}
use Rattle.pie_walk.specs.States.{NeedsAreEarlier, base_of}
use Rattle.pie_running.specs.declared.frame.Told.{Told}
use Rattle.pie_running.specs.declared.frame.Waiting.{Waiting}
use Rattle.pie_running.specs.declared.frame.Told.TheVariants.{Goes, Fails}
use Rattle.pie_running.specs.inner.Noted.{Noted, IsSound}
use Rattle.pie_running.specs.inner.Frames.{IsReady, IsWaiting}
use Rattle.pie_frames.specs.declared.parked.Parked.{Parked}
use Rattle.pie_frames.specs.inner.Standing.{Rests, Holds, HasFrom, IsParked, number_of}
use Rattle.pie_frames.specs.inner.Weights.{weight}
use Rattle.pie_results.specs.inner.Failures.{is_done, refusal_by}
use Rattle.pie_bottomup.specs.declared.plan.Plan.{Plan}
use Rattle.pie_bottomup.specs.declared.state.Core.{Core}
use Rattle.pie_bottomup.specs.declared.state.First.{First}
use Rattle.pie_bottomup.specs.declared.state.First.TheVariants.{Tests, TooMany, Done}
use Rattle.pie_bottomup.specs.declared.state.InHand.{InHand}
use Rattle.pie_bottomup.specs.declared.state.Turn.{Turn}
use Rattle.pie_bottomup.specs.declared.state.Turn.TheVariants.{Went, Settled, StartAfresh}
use Rattle.pie_bottomup.specs.inner.Recorded.{AreRecorded, HasOutput, OutputsAreValues}
use Rattle.pie_bottomup.specs.inner.Running.{IsKnown, IsNoted, IsCaller, Agree, EndsSo}

-- a plan of these functions, digests and roots
pub record IsPlanOf (fs : List FunctionTree) (funcs : List (List ℕ × List ℕ)) (ts : List Task) (p : Plan) : Type 0 where
  pub typed : p.typed.now ≡ fs
  pub digests : p.digests.now ≡ funcs
  pub roots : p.roots.items ≡ ts

-- ---- before the first step

-- each task whose function kept its digest is of one that has one
abbrev pub HaveDigests : Plan → List Task → Type 0
HaveDigests p names = (n : ℕ) (t : Task) → IsMarked p.same.items n → slice_get names n ≡ Some t → Contains (names_of p.digests.now) t.func

-- no task was met, none waits, and no root was begun
pub record IsAtStart (c : Core) : Type 0 where
  pub first : c.first ≡ Done → ⊥
  pub hand : c.hand ≡ None
  pub at : c.at ≡ 0
  pub parked : c.frames.parked.items ≡ []
  pub fresh : (n : ℕ) → mark_of c.frames.walk.marks n ≡ New
  pub recorded : AreRecorded c.tables.names c.tables.records c.frames.walk
  pub digests : HaveDigests c.plan c.tables.names

-- the old records aren't tested yet
pub record IsUntested (c : Core) : Type 0 where
  pub tables : IsTables c.tables
  pub sized : length c.tables.names ≡ length c.frames.walk.rows
  pub roots : All IsEncodableTask c.plan.roots.items
  pub rests : Rests c.frames
  pub start : IsAtStart c

-- ---- from then on

-- a root has this number
pub record IsRootAt (roots names : List Task) (n : ℕ) : Type 0 where
  pub root : Task
  pub listed : Contains roots root
  pub named : slice_get names n ≡ Some root

-- the walk began at a root, if it isn't over
abbrev pub IsBased : List Task → List Task → List Entry → Type 0
IsBased roots names stack = (n : ℕ) → base_of stack ≡ Some n → IsRootAt roots names n

-- the old records were tested, the tables and the rows of the walk are of the same tasks and agree, the roots have canonical bytes, and the walk began
-- at one of them
pub record IsSite (c : Core) : Type 0 where
  pub tables : IsTables c.tables
  pub sized : length c.tables.names ≡ length c.frames.walk.rows
  pub roots : All IsEncodableTask c.plan.roots.items
  pub tested : c.first ≡ Done
  pub agree : Agree c.plan c.tables.names c.tables.records c.frames.walk c.frames.parked.items c.at
  pub based : IsBased c.plan.roots.items c.tables.names c.frames.walk.stack

-- these are the notes of the task in hand
pub record IsOwn (c : Core) (no : TaskNo) (from : ℕ) (n : Noted) : Type 0 where
  pub number : n.number ≡ no.0
  pub row : HasFrom (row_at c.frames.walk.rows no.0) from n.needs
  pub noted : IsNoted c.plan c.tables.names c.tables.records c.frames.walk.marks n

-- a task was taken, and can go on
pub record IsInHand (c : Core) (h : InHand) : Type 0 where
  pub holds : Holds h.no c.frames
  pub ready : IsReady h.task
  pub own : IsOwn c h.no h.from h.task.notes

-- no task is in hand, or this one
abbrev pub RunsOrRests : Core → Option InHand → Type 0
RunsOrRests c None = Rests c.frames
RunsOrRests c (Some h) = IsInHand c h

-- a build whose first step is done
pub record IsGoing (c : Core) : Type 0 where
  pub site : IsSite c
  pub state : RunsOrRests c c.hand

-- what holds of a build between two steps
abbrev pub IsCore : Core → Type 0
IsCore c = IsUntested c ⊎ IsGoing c

-- a build in which no task is in hand
pub record IsAtRest (c : Core) : Type 0 where
  pub site : IsSite c
  pub rests : Rests c.frames

-- and the place for one is empty
pub record IsFree (c : Core) : Type 0 where
  pub rests : IsAtRest c
  pub free : c.hand ≡ None

-- a task has no number yet, and has canonical bytes
pub record IsNewTask (names : List Task) (t : Task) : Type 0 where
  pub encodable : IsEncodableTask t
  pub absent : Contains names t → ⊥

-- this root is the next one
pub record IsNextToBegin (c : Core) (root : Task) : Type 0 where
  pub at : c.at < length c.plan.roots.items
  pub next : (d : Task) → slice_index_or c.plan.roots.items c.at d ≡ root

-- the next root has this number
pub record IsNextRoot (c : Core) (n : ℕ) : Type 0 where
  pub root : Task
  pub next : (d : Task) → slice_index_or c.plan.roots.items c.at d ≡ root
  pub named : slice_get c.tables.names n ≡ Some root

-- a root that failed
pub record RootFailed (c : Core) : Type 0 where
  pub root : Task
  pub among : Contains c.plan.roots.items root
  pub begun : Contains (take c.at c.plan.roots.items) root
  pub number : ℕ
  pub named : slice_get c.tables.names number ≡ Some root
  pub failed : IsSome (refusal_by (record_of c.tables.records number))

-- a build whose roots are settled, or one that failed
pub record HasSettled (c : Core) : Type 0 where
  pub site : IsSite c
  pub rests : Rests c.frames
  pub empty : c.frames.walk.stack ≡ []
  pub over : (length c.plan.roots.items ≤ c.at) ⊎ RootFailed c

-- what a step leaves
abbrev pub TurnsTo : Core → Turn → Type 0
TurnsTo c Went = IsCore c
TurnsTo c Settled = HasSettled c
TurnsTo c (StartAfresh cause) = Unit {0}

-- what a step leaves after the first one
abbrev pub GoesTo : Core → Turn → Type 0
GoesTo c Went = IsGoing c
GoesTo c Settled = HasSettled c
GoesTo c (StartAfresh cause) = Unit {0}

-- ---- what is left to do

-- what the task in hand may still do
abbrev pub in_hand : Option InHand → ℕ
in_hand None = 0
in_hand (Some h) = 2 * h.task.notes.left + 1

abbrev pub untested : First → ℕ
untested Tests = 1
untested (TooMany task) = 1
untested Done = 0

-- what may still be done beside the task in hand
abbrev pub rest : Core → ℕ
rest c = weight c.frames + 2 * (length c.plan.roots.items - c.at) + untested c.first

abbrev pub mass : Core → ℕ
mass c = rest c + in_hand c.hand

-- a step that leaves more to do leaves less than this
abbrev pub Nearer : ℕ → Core → Turn → Type 0
Nearer bound c Went = mass c < bound
Nearer bound c Settled = Unit {0}
Nearer bound c (StartAfresh cause) = Unit {0}

-- how many tasks may yet be started
abbrev pub room : Core → ℕ
room c = begins c.frames.walk

-- each task keeps its number; one that has a record has one still, and one that ran has run
pub record KeepsTasks (old new : Tables) : Type 0 where
  pub names : (n : ℕ) (t : Task) → slice_get old.names n ≡ Some t → slice_get new.names n ≡ Some t
  pub recorded : (n : ℕ) → IsSome (record_of old.records n) → IsSome (record_of new.records n)
  pub ran : (n : ℕ) → IsMarked old.ran.items n → IsMarked new.ran.items n

-- no task has run that hadn't before
abbrev pub NoMoreRan : Tables → Tables → Type 0
NoMoreRan old new = (n : ℕ) → IsMarked new.ran.items n → IsMarked old.ran.items n

-- a build stays that of its plan, with its tasks, no more tasks may be started than before, and no more have run
pub record Keeps (old new : Core) : Type 0 where
  pub plan : new.plan ≡ old.plan
  pub room : room new ≤ room old
  pub tasks : KeepsTasks old.tables new.tables
  pub ran : NoMoreRan old.tables new.tables

-- each task that was started takes of that
pub record Spends (old new : Core) (runs_old runs_new : List Task) : Type 0 where
  pub plan : new.plan ≡ old.plan
  pub room : length runs_new + room new ≤ length runs_old + room old
  pub tasks : KeepsTasks old.tables new.tables

-- the same of a task that may be started
pub record SpendsOne (old new : Core) (runs_old runs_new : List Task) : Type 0 where
  pub plan : new.plan ≡ old.plan
  pub room : room new ≤ room old
  pub one : length runs_new ≤ length runs_old + 1
  pub tasks : KeepsTasks old.tables new.tables

-- ---- the task in hand

-- a task was taken: the build stands, the frames hold it, and no other is in hand
pub record IsTaken (c : Core) (no : TaskNo) : Type 0 where
  pub site : IsSite c
  pub free : c.hand ≡ None
  pub holds : Holds no c.frames

-- the row of a task that was taken is that of its record, if that has an output
abbrev pub IsAsRecorded : Core → ℕ → Type 0
IsAsRecorded c n =
    (r : TaskRecord) → record_of c.tables.records n ≡ Some r → is_done r.outcome ≡ true → IsRowOf c.tables.names r (row_at c.frames.walk.rows n)

-- a task was just taken by the walk, and its row is still that of its record
pub record IsJustTaken (c : Core) (no : TaskNo) : Type 0 where
  pub taken : IsTaken c no
  pub recorded : IsAsRecorded c no.0

-- the task with a number is a known one, and this is the code of its function: it takes as many arguments as the task has
pub record HasKnownCode (c : Core) (n : ℕ) (code : Code) : Type 0 where
  pub takes : IfSome (slice_get c.tables.names n) (λ (t : Task). length t.args ≡ code.params)
  pub known : IfSome (slice_get c.tables.names n) (IsKnown c.plan)

-- this task was in hand, and is treated: the build stands, and no other is in hand
pub record IsTreated (c : Core) (h : InHand) : Type 0 where
  pub site : IsSite c
  pub free : c.hand ≡ None
  pub hand : IsInHand c h

-- a task was taken, and waits for what it asked; these are its notes
pub record Awaits (c : Core) (no : TaskNo) (from : ℕ) (w : Waiting) : Type 0 where
  pub taken : IsTaken c no
  pub waits : IsWaiting w
  pub own : IsOwn c no from w.notes

-- what a task waited for is settled: it can be answered
pub record MayAnswer (c : Core) (no : TaskNo) (p : Parked) : Type 0 where
  pub parked : IsParked c.frames.walk.rows p
  pub number : number_of p ≡ no.0
  pub caller : IsCaller c.plan c.tables.names c.tables.records c.frames.walk.marks p
  pub settled : IsSettled c.frames.walk.marks p.callee.0

-- a task that was told something can go on
abbrev pub MayGo : Core → TaskNo → ℕ → Told → Type 0
MayGo c task from (Goes f) = IsReady f × IsOwn c task from f.notes
MayGo c task from (Fails n k) = Unit {0}

-- what a task that was told something may still do
abbrev pub told_mass : Told → ℕ
told_mass (Goes f) = 2 * f.notes.left + 2
told_mass (Fails n k) = 1

-- what a task noted that ends with an output
pub record IsFull (c : Core) (no : TaskNo) (from : ℕ) (n : Noted) (o : Outcome) : Type 0 where
  pub sound : IsSound n
  pub outcome : IsStorableOutcome o
  pub output : IsTrueOutcome o
  pub own : IsOwn c no from n

-- a task may end so: it failed, or what was noted and its output can be stored, which is a value of the program
abbrev pub MayEnd : Core → TaskNo → ℕ → Noted → Outcome → Type 0
MayEnd c task from n o = HasFailed o ⊎ IsFull c task from n o

-- a task may end with this record: it is the task's own, can be stored unless the task failed, and says what was required
pub record MayEndWith (c : Core) (n from : ℕ) (r : TaskRecord) : Type 0 where
  pub named : slice_get c.tables.names n ≡ Some r.task
  pub kept : IsKept r
  pub ends : EndsSo c.plan c.tables.names c.tables.records c.frames.walk n from r

-- the task in hand ends without an output that it had before: then all that require it and may be scheduled are
abbrev pub AreCalled : Core → ℕ → TaskRecord → Type 0
AreCalled c n r =
    is_done r.outcome ≡ false → HasOutput c.tables.records n → (k : ℕ) → Calls c.frames.walk.rows k n → IsIdle c.frames.walk.marks k
    → IsMarked c.frames.walk.scheduled k

-- the walk alone may have scheduled more, and where it had to, all that require a task and may be
pub record HasCalled (old new : Core) (n : ℕ) (has_to : Bool) : Type 0 where
  pub site : IsSite new
  pub walk : new.frames.walk ≡ record old.frames.walk { scheduled = new.frames.walk.scheduled }
  pub tables : new.tables ≡ old.tables
  pub hand : new.hand ≡ old.hand
  pub nearer : rest new ≤ rest old
  pub keeps : Keeps old new
  pub called : has_to ≡ true → (k : ℕ) → Calls old.frames.walk.rows k n → IsIdle old.frames.walk.marks k → IsMarked new.frames.walk.scheduled k
  pub kept : (k : ℕ) → IsMarked old.frames.walk.scheduled k → IsMarked new.frames.walk.scheduled k
  pub only : (k : ℕ) → IsMarked new.frames.walk.scheduled k
      → IsMarked old.frames.walk.scheduled k ⊎ (Calls old.frames.walk.rows k n × IsIdle old.frames.walk.marks k)

-- the walk alone may have scheduled more
pub record HasScheduled (old new : Core) : Type 0 where
  pub rests : IsAtRest new
  pub hand : new.hand ≡ old.hand
  pub nearer : rest new ≤ rest old
  pub keeps : Keeps old new

-- ---- the first step

-- the walk alone may have scheduled more, and what is named may be better known
pub record IsTested (old new : Core) : Type 0 where
  pub untested : IsUntested new
  pub rows : length new.frames.walk.rows ≡ length old.frames.walk.rows
  pub first : new.first ≡ old.first
  pub nearer : rest new ≤ rest old
  pub keeps : Keeps old new
  pub more : (n : ℕ) → IsMarked old.frames.walk.scheduled n → IsMarked new.frames.walk.scheduled n

-- a task whose function hasn't kept its digest is scheduled
abbrev pub IsDue : Core → ℕ → Type 0
IsDue c n = slice_index_or c.plan.same.items n false ≡ false → IsMarked c.frames.walk.scheduled n

-- a task has a record with an output, and its row is that of the record
pub record IsOldTask (names : List Task) (records : Records) (rows : List Row) (n : ℕ) : Type 0 where
  pub output : HasOutput records n
  pub row : IsRowOf names output.rec (row_at rows n)

-- what a walk over old tasks asks for
pub record MayBegin (o : Old) : Type 0 where
  pub tables : IsTables o.tables
  pub sized : length o.tables.names ≡ length o.rows
  pub looks : length o.looks_out.items ≡ length o.rows
  pub earlier : NeedsAreEarlier o.rows
  pub each : (n : ℕ) → n < length o.rows → IsOldTask o.tables.names o.tables.records o.rows n
  pub outputs : OutputsAreValues o.tables.records
  pub rested : (n : ℕ) → slice_index_or o.tables.ran.items n false ≡ false

-- no task was started, or one that has canonical bytes
abbrev pub StartsOne : List Task → List Task → Type 0
StartsOne old new = (new ≡ old) ⊎ ((task : Task) × (new ≡ old ++ task ∷ []) × IsEncodableTask task)
