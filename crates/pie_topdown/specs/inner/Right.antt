-- A build without a list, as the model of building knows it, between two steps.
use Rattle.std.specs.Prelude.{◌≡◌, ◌⊎◌, ℕ, ◌≤◌, true, false, List, [], ◌∷◌, ◌++◌, length, map, reverse, All, Option, Some, None, slice_get, slice_index_or}
use Rattle.std.specs.declared.alloc.Global.{Global}
use Rattle.std.proofs.Common.{Vec}
use Rattle.std.specs.BTreeMap.{get_by_text}
use Rattle.pie_base.specs.declared.fault.FaultKind.{FaultKind}
use Rattle.pie_base.specs.declared.fault.FaultKind.TheVariants.{Unknown}
use Rattle.pie_value.specs.declared.task.Task.{Task}
use Rattle.pie_value.specs.declared.value.Value.{Value}
use Rattle.pie_value.specs.declared.verdict.Refusal.{Refusal}
use Rattle.pie_value.specs.declared.verdict.Refusal.TheVariants.{Fault}
use Rattle.pie_value.specs.Canonical.{enc_task, IsCanonicalTask}
use Rattle.pie_code.specs.declared.code.Code.{Code}
use Rattle.pie_files.specs.Directory.{Directory}
use Rattle.pie_graph.specs.Numbers.{numbers, IsMarked}
use Rattle.pie_record.specs.Canonical.{IsTrueOutcome, IsTrueRecord}
use Rattle.pie_record.specs.declared.task_record.TaskRecord.{TaskRecord}
use Rattle.pie_record.specs.inner.Records.{record_of as kept_of}
use Rattle.pie_store.specs.inner.Offers.{Offered, offered}
use Rattle.pie_view.specs.Content.{content}
use Rattle.pie_named.specs.inner.Known.{IsTrueOf}
use Rattle.pie_running.specs.declared.frame.RunningTask.{RunningTask}
use Rattle.pie_running.specs.inner.Coded.{HasFunction}
use Rattle.pie_model.specs.Paths.{among}
use Rattle.pie_model.specs.Evaluation.{Project, evaluation}
use Rattle.pie_model.specs.Records.{Record}
use Rattle.pie_model.specs.Forest.{entered_tasks}
use Rattle.pie_model.specs.Trees.{HasTask, entered, is_done, outcome_of}
use Rattle.pie_model.specs.Verdict.{verdict}
use Rattle.pie_model.specs.declared.words.Verdict.TheVariants.{Many as TooMany}
use Rattle.pie_model.specs.inner.Stack.{Frame as ModelFrame, tasks_of}
use Rattle.pie_step_laws.specs.Frames.{begun}
use Rattle.pie_settle_laws.specs.Going.{before_wait}
use Rattle.pie_model_pipeline.specs.Rows.{record_of, refusal_of}
use Rattle.pie_model_pipeline.specs.World.{world, next}
use Rattle.pie_builder_laws.specs.Events.{AreCompiled}
use Rattle.pie_builder_laws.specs.Tables.{recorded}
use Rattle.pie_earlier_laws.specs.Left.{AreThere, IsEarlierBuild}
use Rattle.pie_core_laws.specs.Update.{Update, earlier, present}
use Rattle.pie_core_laws.specs.Comparing.{IsOld}
use Rattle.pie_core_laws.specs.Keeping.{Separates}
use Rattle.pie_core_laws.specs.Seeing.{written_now}
use Rattle.pie_left_laws.specs.Accepted.{OutIsMet}
use Rattle.pie_task_laws.specs.Sites.{Site, Build}
use Rattle.pie_task_laws.specs.Answering.{HasGiven}
use Rattle.pie_topdown_laws.specs.Ends.{AreRecorded, StandsUnder}
use Rattle.pie_topdown_laws.specs.Ledgers.{setting, walk_of, IsRightLedger}
use Rattle.pie_topdown_laws.specs.Checks.{IsOldRecord}
use Rattle.pie_topdown_laws.specs.CheckLaws.{TellsApart}
use Rattle.pie_topdown_laws.specs.Running.{IsTop, RunsAbove, FailsAbove}
use Rattle.pie_topdown_laws.specs.Whole.{Entry, checks, waits, AreEntries, IsCheckOf}
use Rattle.pie_topdown_result_laws.specs.Builds.{IsHonest, IsHonestTo}
use Rattle.pie_topdown.specs.declared.builder.Builder.{Builder}
use Rattle.pie_topdown.specs.declared.hand.Check.{Check}
use Rattle.pie_topdown.specs.declared.hand.Frame.{Frame}
use Rattle.pie_topdown.specs.declared.hand.Frame.TheVariants as frames
use Rattle.pie_topdown.specs.declared.hand.Hand.{Hand}
use Rattle.pie_topdown.specs.declared.hand.Hand.TheVariants as hands
use Rattle.pie_topdown.specs.declared.hand.Rest.{Rest}
use Rattle.pie_topdown.specs.declared.hand.Rest.TheVariants as rests
use Rattle.pie_topdown.specs.declared.hand.Turn.{Turn}
use Rattle.pie_topdown.specs.declared.hand.Turn.TheVariants.{Goes, Rests, Many, Fails}
use Rattle.pie_topdown.specs.declared.plan.Plan.{Plan}
use Rattle.pie_topdown.specs.inner.Due.{IsDueAt, IsDueBy}
use Rattle.pie_topdown.specs.inner.Effects.{EndsIfNew}
use Rattle.pie_topdown.specs.inner.Frames.{IsOwnRecord}
use Rattle.pie_topdown.specs.inner.Ledgers.{IsLedger}
use Rattle.pie_topdown.specs.inner.Places.{StandsNext}

-- ---- what never changes

-- a plan is that of an update: its functions are those of now with their code, its records are those of the earlier build, and a task whose function kept its
-- digest means what it meant; hashes and marks separate what is met
pub record IsPlanNow (u : Update) (p : Plan) : Type 0 where
  pub build : IsEarlierBuild world (earlier u) u.old_roots u.left
  pub functions : p.typed.now ≡ u.functions
  pub compiled : AreCompiled u.functions p.code.now
  pub apart : Separates u
  pub met : OutIsMet u
  pub old : (n : ℕ) (rec : TaskRecord) → kept_of p.earlier.records n ≡ Some rec → IsOld u rec
  pub parts : (n : ℕ) (rec : TaskRecord) → kept_of p.earlier.records n ≡ Some rec → IsTrueRecord rec
  pub meaning : (n : ℕ) (rec : TaskRecord) → kept_of p.earlier.records n ≡ Some rec → IsMarked p.same.items n
      → next u.old_functions (enc_task rec.task) ≡ next u.functions (enc_task rec.task)

-- ---- in the words of the laws

abbrev pub site_of : Update → Builder → Site
site_of u b = record { update = u; codes = b.plan.code.now }

abbrev pub build_of : Builder → Build
build_of b = record {
  names = b.ledger.tables.names;
  records = b.ledger.tables.records;
  walk = walk_of b.ledger.tables.names b.ledger.tables.records b.ledger.rows b.ledger.places.items;
  stage = b.stage;
}

-- the tasks that were entered, and the records of those that have ended
abbrev pub names_of : Builder → List (List ℕ)
names_of b = map enc_task b.ledger.tables.names

abbrev pub records_of : Builder → List ℕ → Option Record
records_of b = recorded b.ledger.tables.names b.ledger.tables.records

-- what waits, the newest first
abbrev pub entry_of : Frame → Entry
entry_of (frames.Checks c) = checks c.value.rec c.value.at (numbers c.value.required.items)
entry_of (frames.Waits c) = waits c

abbrev pub entries_up : List Frame → List Entry
entries_up es = reverse (map entry_of es)

-- ---- the tasks that have ended

-- what a task wrote that kept its own record is there, and what is staged of it is what its evaluation wrote first; of one that ran, or has an offered record,
-- all of that is staged, and it has a reason to run; and nothing is staged of tasks that weren't entered
pub record AreWritten (u : Update) (b : Builder) : Type 0 where
  pub there : (n : ℕ) (rec : TaskRecord) → slice_index_or b.ledger.tables.ran.items n false ≡ false → kept_of b.ledger.tables.records n ≡ Some rec
      → AreThere world u.directory rec.writes
  pub fetched : (n : ℕ) (rec : TaskRecord) (path bytes : List ℕ) → slice_index_or b.ledger.tables.ran.items n false ≡ false
      → kept_of b.ledger.tables.records n ≡ Some rec → content b.stage n path ≡ Some bytes → written_now u rec.task path ≡ Some bytes
  pub ran : (n : ℕ) (rec : TaskRecord) (path : List ℕ) → IsMarked b.ledger.tables.ran.items n → kept_of b.ledger.tables.records n ≡ Some rec
      → content b.stage n path ≡ written_now u rec.task path
  pub own : (n : ℕ) (rec : TaskRecord) → slice_index_or b.ledger.tables.ran.items n false ≡ false → kept_of b.ledger.tables.records n ≡ Some rec
      → IsOwnRecord b.plan rec
  pub due : (n : ℕ) → IsMarked b.ledger.tables.ran.items n → IsDueAt u b n
  pub beyond : (n : ℕ) (path : List ℕ) → length b.ledger.tables.names ≤ n → content b.stage n path ≡ None

-- the roots before this one are recorded, and no task failed: records are right, and their outputs are values of the program; what they wrote is known; and each
-- entered task stands in the evaluation of one of these roots
pub record IsRightSite (u : Update) (done : List (List ℕ)) (root : List ℕ) (b : Builder) : Type 0 where
  pub ledger : IsRightLedger u b.ledger.tables.names b.ledger.tables.records b.ledger.rows b.ledger.places.items
  pub written : AreWritten u b
  pub outputs : (n : ℕ) (rec : TaskRecord) → kept_of b.ledger.tables.records n ≡ Some rec → IsTrueOutcome rec.outcome
  pub known : IsTrueOf u.directory b.named
  pub calm : b.failure ≡ None
  pub listed : among root u.roots ≡ true
  pub recorded : AreRecorded (records_of b) done
  pub stand : (t : List ℕ) → among t (names_of b) ≡ true → StandsUnder (setting u) (done ++ root ∷ []) t

-- ---- the tasks that haven't

-- nothing is staged of a task, and it isn't marked
pub record IsUntouched (b : Builder) (n : ℕ) : Type 0 where
  pub rested : slice_index_or b.ledger.tables.ran.items n false ≡ false
  pub unstaged : (path : List ℕ) → content b.stage n path ≡ None

-- offers to a task that are still to be tried are honest
abbrev pub AreHonest : Update → Task → Rest → Type 0
AreHonest u t rests.Unasked = Unit {0}
AreHonest u t (rests.Asked offers) = All (λ o. IsHonestTo u t (offered o)) offers.items

-- what the store's own record wrote is there, and an offered one is honest
abbrev pub IsSourced : Update → TaskRecord → Option (Vec (Vec ℕ Global) Global) → Type 0
IsSourced u rec None = AreThere world u.directory rec.writes
IsSourced u rec (Some contents) = IsHonest u (rec, map (λ (v : Vec ℕ Global). v.items) contents.items)

-- a checked task may still run: it has code, and nothing was done for it
pub record MayStillRun (u : Update) (b : Builder) (c : Check) : Type 0 where
  pub untouched : IsUntouched b c.no.0
  pub function : HasFunction u.functions b.plan.code.now c.rec.task c.code.now
  pub parts : IsTrueRecord c.rec
  pub source : IsSourced u c.rec c.contents
  pub due : IsDueBy u b.plan c.rec c.contents
  pub rest : AreHonest u c.rec.task c.rest

-- a check that waits may, and a task that waits is marked
abbrev pub IsBesides : Update → Builder → Frame → Type 0
IsBesides u b (frames.Checks c) = MayStillRun u b c.value
IsBesides u b (frames.Waits c) = IsMarked b.ledger.tables.ran.items c.waiting.notes.number

-- what waits is these frames of the model
pub record AreWaiting (u : Update) (b : Builder) (root : List ℕ) (fs : List ModelFrame) : Type 0 where
  pub entries : AreEntries (site_of u b) (build_of b) root (entries_up b.stack.items) fs
  pub besides : All (IsBesides u b) b.stack.items

-- each entered task without a record is one of these
abbrev pub AreTheBusy : Builder → List (List ℕ) → Type 0
AreTheBusy b ts = (t : List ℕ) → among t (names_of b) ≡ true → records_of b t ≡ None → among t ts ≡ true

-- ---- what is in hand

-- an entered task is about to begin above these
pub record EntersRight (u : Update) (b : Builder) (root : List ℕ) (fs : List ModelFrame) (n : ℕ) (code : Code) : Type 0 where
  pub task : Task
  pub named : slice_get b.ledger.tables.names n ≡ Some task
  pub top : IsTop (site_of u b) (build_of b) root fs (begun world (enc_task task))
  pub untouched : IsUntouched b n
  pub function : HasFunction u.functions b.plan.code.now task code
  pub busy : AreTheBusy b (enc_task task ∷ tasks_of fs)

-- a record is checked above these
pub record ChecksRight (u : Update) (b : Builder) (root : List ℕ) (fs : List ModelFrame) (c : Check) : Type 0 where
  pub check : IsCheckOf (site_of u b) (build_of b) root fs c.rec c.at (numbers c.required.items)
  pub top : IsTop (site_of u b) (build_of b) root fs check.check.checked.frame
  pub may : MayStillRun u b c
  pub busy : AreTheBusy b (enc_task c.rec.task ∷ tasks_of fs)

-- a task runs above these
pub record RunsRight (u : Update) (b : Builder) (root : List ℕ) (fs : List ModelFrame) (f : RunningTask) : Type 0 where
  pub runs : RunsAbove (site_of u b) (build_of b) root fs f.code.now f.machine f.notes
  pub ran : IsMarked b.ledger.tables.ran.items f.notes.number
  pub busy : AreTheBusy b (enc_task f.notes.task ∷ tasks_of fs)

-- a task has ended with a value
pub record HasEndedAs (b : Builder) (t : Task) : Type 0 where
  pub number : ℕ
  pub named : slice_get b.ledger.tables.names number ≡ Some t
  pub rec : TaskRecord
  pub kept : kept_of b.ledger.tables.records number ≡ Some rec
  pub value : Value
  pub given : HasGiven rec value

-- the newest that waits can go on: one that runs waited for a task that has ended
abbrev pub CanGoOn : Builder → Entry → Type 0
CanGoOn b (checks rec at required) = Unit {0}
CanGoOn b (waits c) = HasEndedAs b c.required

-- a task has ended: the newest that waits is on top, or, where nothing waits, the root is recorded
abbrev pub EndedRight : Update → Builder → List ℕ → List ModelFrame → List Entry → Type 0
EndedRight u b root [] es = AreRecorded (records_of b) (root ∷ []) × AreTheBusy b []
EndedRight u b root (g ∷ gs) [] = ⊥
EndedRight u b root (g ∷ gs) (e ∷ es) = IsTop (site_of u b) (build_of b) root gs (before_wait g) × CanGoOn b e × AreTheBusy b (tasks_of (g ∷ gs))

abbrev pub IsHandRight : Update → Builder → List ℕ → List ModelFrame → Hand → Type 0
IsHandRight u b root fs (hands.Enters n code) = EntersRight u b root fs n.0 code.now
IsHandRight u b root fs (hands.Checks c) = ChecksRight u b root fs c.value
IsHandRight u b root fs (hands.Runs f) = RunsRight u b root fs f
IsHandRight u b root fs hands.Ended = EndedRight u b root fs (entries_up b.stack.items)

-- a build with what is in hand
pub record IsRight (u : Update) (done : List (List ℕ)) (root : List ℕ) (b : Builder) (h : Hand) : Type 0 where
  pub site : IsRightSite u done root b
  pub fs : List ModelFrame
  pub waiting : AreWaiting u b root fs
  pub hand : IsHandRight u b root fs h

-- ---- a root that fails

-- the clean build is refused so, whatever roots come after this one
abbrev pub IsRefused : Update → List (List ℕ) → List ℕ → Refusal → Type 0
IsRefused u done root why = (rest : List (List ℕ)) → verdict world (present u) (done ++ root ∷ rest) ≡ refusal_of why

-- a task is of no function of the pipeline
abbrev pub lost : Task → Refusal
lost t = Fault (record { task = t; kind = Unknown })

-- a build is refused since a task with these bytes is of no function
pub record IsLost (why : Refusal) (x : List ℕ) : Type 0 where
  pub task : Task
  pub is : why ≡ lost task
  pub canonical : IsCanonicalTask task (enc_task task)
  pub bytes : enc_task task ≡ x

-- each task that the clean build enters up to this root was entered, or is of no function, which is why the build is refused
abbrev pub HasEnteredAll : Update → List (List ℕ) → List ℕ → Builder → Refusal → Type 0
HasEnteredAll u done root b why =
    (x : List ℕ) → among x (entered (evaluation world (present u) root) (entered_tasks world (present u) done)) ≡ true
    → (among x (names_of b) ≡ true) ⊎ IsLost why x

-- the evaluation of a task that was on top above these doesn't end with a value, and each other entered task without a record waits or has run
pub record IsFalling (u : Update) (done : List (List ℕ)) (root : List ℕ) (b : Builder) : Type 0 where
  pub site : IsRightSite u done root b
  pub fs : List ModelFrame
  pub waiting : AreWaiting u b root fs
  pub top : ModelFrame
  pub goes : IsTop (site_of u b) (build_of b) root fs top
  pub undone : is_done (outcome_of (evaluation world (present u) top.task)) ≡ false
  pub marked : (n : ℕ) (t : Task) → slice_get b.ledger.tables.names n ≡ Some t → kept_of b.ledger.tables.records n ≡ None
      → (among (enc_task t) (tasks_of fs) ≡ true) ⊎ IsMarked b.ledger.tables.ran.items n

-- a task failed, and with it this root, and that is why the build does
pub record FailsRight (u : Update) (done : List (List ℕ)) (root : List ℕ) (b : Builder) : Type 0 where
  pub why : Refusal
  pub kept : b.failure ≡ Some why
  pub refused : IsRefused u done root why
  pub ends : is_done (outcome_of (evaluation world (present u) root)) ≡ false
  pub falls : IsFalling u done root (record b { failure = None })
  pub all : HasEnteredAll u done root b why

-- nothing waits any more: each entered task is recorded, the root among them
pub record IsAtRest (u : Update) (done : List (List ℕ)) (root : List ℕ) (b : Builder) : Type 0 where
  pub site : IsRightSite u done root b
  pub free : b.stack.items ≡ []
  pub settled : AreRecorded (records_of b) (root ∷ [])
  pub all : AreTheBusy b []

-- one task more was to be entered than may be, and no task failed: so it is in the clean build, whatever roots come after this one
pub record IsFull (u : Update) (done : List (List ℕ)) (root : List ℕ) (b : Builder) : Type 0 where
  pub calm : b.failure ≡ None
  pub refused : (rest : List (List ℕ)) → verdict world (present u) (done ++ root ∷ rest) ≡ TooMany
  pub written : AreWritten u b

-- what a step leaves of it
abbrev pub TurnIsRight : Update → List (List ℕ) → List ℕ → Builder → Turn → Type 0
TurnIsRight u done root b (Goes h) = IsRight u done root b h
TurnIsRight u done root b Rests = IsAtRest u done root b
TurnIsRight u done root b Many = IsFull u done root b
TurnIsRight u done root b Fails = FailsRight u done root b

-- what is offered to a task by the present digest of its function is honest
abbrev pub AreOffersHonest : Update → Plan → (Directory → Task → List ℕ → List Offered) → Type 0
AreOffersHonest u p told = (t : Task) (digest : List ℕ) → get_by_text p.digests t.func ≡ Some digest → All (IsHonestTo u t) (told u.directory t digest)

-- so it is over files that hold the directory of an update, where offers are honest
abbrev pub StepsRight : Option Directory → (Directory → Task → List ℕ → List Offered) → Builder → Hand → Builder → Turn → Type 0
StepsRight held told old h new t =
    (u : Update) (done : List (List ℕ)) (root : List ℕ) → held ≡ Some u.directory → IsPlanNow u old.plan → AreOffersHonest u old.plan told
    → IsRight u done root old h → TurnIsRight u done root new t

-- ---- single calls

-- a task was entered that stands in the evaluation of the root: the site is right still, what waits waits on, and nothing was done for the task
pub record HasEnteredRight (u : Update) (done : List (List ℕ)) (root : List ℕ) (old new : Builder) : Type 0 where
  pub site : IsRightSite u done root new
  pub waiting : (fs : List ModelFrame) → AreWaiting u old root fs → AreWaiting u new root fs
  pub untouched : IsUntouched new (length old.ledger.tables.names)

abbrev pub EntersSite : Builder → Task → Builder → Type 0
EntersSite old t new =
    (u : Update) (done : List (List ℕ)) (root : List ℕ) → IsRightSite u done root old → HasTask (enc_task t) (evaluation world (present u) root)
    → HasEnteredRight u done root old new

-- a record of some earlier project is checked of a task that was entered: its check is right
abbrev pub BeginsCheck : Builder → ℕ → Code → TaskRecord → Option (Vec (Vec ℕ Global) Global) → Rest → Check → Type 0
BeginsCheck b n code rec contents rest c =
    (u : Update) (done : List (List ℕ)) (root : List ℕ) (fs : List ModelFrame) (before : Project) → IsRightSite u done root b → EntersRight u b root fs n code
    → IsOldRecord (setting u) before (enc_task rec.task) (record_of rec) → TellsApart (setting u) before → IsTrueRecord rec → IsSourced u rec contents
    → IsDueBy u b.plan rec contents → AreHonest u rec.task rest → ChecksRight u b root fs c

-- a check whose next observation was found to stand, with what it requires then, goes on by it
abbrev pub PassesRight : Builder → Check → Turn → Type 0
PassesRight b c t =
    (u : Update) (done : List (List ℕ)) (root : List ℕ) (fs : List ModelFrame) (held : Option Directory) (old : Builder) (from : Check)
    → held ≡ Some u.directory → IsTrueOf u.directory old.named → IsRightSite u done root b → AreWaiting u b root fs → ChecksRight u b root fs from
    → c ≡ record from { required = c.required } → StandsNext held old b from c → TurnIsRight u done root b t

-- a task ended with this record, and nothing else changed
pub record HasKept (old : Builder) (n : ℕ) (rec : TaskRecord) (needs : List ℕ) (new : Builder) : Type 0 where
  pub ended : EndsIfNew old.ledger n rec needs new.ledger
  pub ledger : IsLedger new.ledger
  pub rest : new ≡ record old { ledger = new.ledger }

abbrev pub EndsKept : Builder → ℕ → TaskRecord → List ℕ → Builder → Turn → Type 0
EndsKept old n rec needs new t = HasKept old n rec needs new × (t ≡ Goes hands.Ended)

-- a record stands, the store's or an offered one: its task ends with it
abbrev pub KeepsRight : Builder → Check → Builder → Turn → Type 0
KeepsRight old c new t =
    (u : Update) (done : List (List ℕ)) (root : List ℕ) (fs : List ModelFrame) → IsRightSite u done root old → AreWaiting u old root fs
    → ChecksRight u old root fs c → TurnIsRight u done root new t

-- a task fails by itself: that is why the clean build is refused
abbrev pub FailsSo : Builder → ℕ → FaultKind → Builder → Turn → Type 0
FailsSo old n kind new t =
    (u : Update) (done : List (List ℕ)) (root : List ℕ) (fs : List ModelFrame) (task : Task) → IsRightSite u done root old → AreWaiting u old root fs
    → slice_get old.ledger.tables.names n ≡ Some task → FailsAbove (site_of u old) (build_of old) root fs task kind
    → IsMarked old.ledger.tables.ran.items n → AreTheBusy old (enc_task task ∷ tasks_of fs) → TurnIsRight u done root new t
