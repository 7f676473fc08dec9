-- What holds of a check, from its begin to its end.
use Rattle.std.specs.Prelude.{ℕ, suc, ◌<◌, ◌≡◌, true, false, Option, Some, List, [], ◌∷◌, ◌++◌, length, map}
use Rattle.pie_model.specs.Paths.{Path, among}
use Rattle.pie_model.specs.Tasks.{Task}
use Rattle.pie_model.specs.declared.words.How.{How}
use Rattle.pie_model.specs.declared.words.Outcome.TheVariants.{Cycled}
use Rattle.pie_model.specs.Trees.{outcome_of, trace_of, StandsIn}
use Rattle.pie_model.specs.Evaluation.{Project, evaluation_with, evaluation, round}
use Rattle.pie_model.specs.Records.{Required, Observation, observed, Record, Stamp, record_of, needs_of, task_asked}
use Rattle.pie_model.specs.StampNow.{Told, Teller, by_evaluation, by_records, stamp_now, StampsAgree}
use Rattle.pie_model.specs.Separate.{StampsSeparate, ListingsDiffer, AllMet}
use Rattle.pie_model.specs.Reasons.{Differs}
use Rattle.pie_model.specs.inner.Consistent.{IsRecorded}
use Rattle.pie_model.specs.inner.CoreLaws.{TellsRight}
use Rattle.pie_model.specs.inner.Steps.{ChangesAt}
use Rattle.pie_model.specs.Running.{IsRunning}
use Rattle.pie_model.specs.inner.Stack.{Frame, tasks_of}
use Rattle.pie_step_laws.specs.Table.{IsTable}
use Rattle.pie_step_laws.specs.Frames.{begun, set_aside}
use Rattle.pie_topdown_laws.specs.Beside.{IsAsking, IsBeside}
use Rattle.pie_topdown_laws.specs.Tables.{EndsIn}
use Rattle.pie_topdown_laws.specs.Checks.{Setting, MetIn, IsOldRecord, GoesOn, AreUnderWay, IsChecked, WaitsAsCheck}

-- no two byte strings that are met have one hash, and no source path has one mark and two contents, then and now
pub record TellsApart (x : Setting) (before : Project) : Type 0 where
  pub stamps : StampsSeparate x.world before x.now (MetIn x)
  pub listings : ListingsDiffer x.world

-- ---- the evaluation now begins as the one then

-- the evaluation of a task below some tasks has come to where its old record observed the first of these, and asks next what the others begin with
pub record HasCome (x : Setting) (before : Project) (room : ℕ) (above : List Task) (t : Task) (r : Record) (passed rest : List Observation) : Type 0 where
  pub frame : Frame
  pub task : frame.task ≡ t
  pub seen : frame.seen ≡ passed
  pub runs : IsRunning x.world x.now room above frame.task frame.left frame.progress frame.seen
  pub kids : frame.progress.kids ≡ map (evaluation x.world x.now) (needs_of frame.seen)
  pub beside : IsBeside x.world before x.now (MetIn x) room above r frame rest
  pub asks : IsAsking x.now frame rest r.outcome

-- where the first observations of an old record have the stamps that they would get now, the evaluation now begins with them,
-- if the tasks that they require are evaluated there as alone
abbrev pub EvaluationsBeginAlike : Type 0
EvaluationsBeginAlike =
    (x : Setting) (before : Project) (room : ℕ) (above : List Task) (t : Task) (r : Record) (passed rest : List Observation) → TellsApart x before
    → IsOldRecord x before t r → among t above ≡ false → AllMet x.world (MetIn x) (trace_of (evaluation_with (suc room) x.world x.now above t))
    → r.observations ≡ passed ++ rest → StampsAgree x.world x.now (by_evaluation x.world x.now) r.writes [] passed
    → ((u : Task) → among u (needs_of passed) ≡ true → evaluation_with room x.world x.now (t ∷ above) u ≡ evaluation x.world x.now u)
    → HasCome x before room above t r passed rest

-- ---- a check begins

-- where a task of a present root may begin, a record of it may be checked, from its first observation on
abbrev pub ChecksBegin : Type 0
ChecksBegin =
    (x : Setting) (before : Project) (R : Task → Option Record) (root : Task) (fs : List Frame) (t : Task) (r : Record) → among root x.roots ≡ true
    → GoesOn x R root fs (begun x.world t) → IsOldRecord x before t r → IsChecked x before R root fs t r [] r.observations

-- ---- a place is passed

-- the next observation of a checked record, in a build whose recorded tasks are right; the tasks that it requires are recorded
pub record MayPass (x : Setting) (before : Project) (R : Task → Option Record) (names : List Task) (root : Task) (fs : List Frame) (t : Task) (r : Record)
    (passed rest : List Observation) (o : Observation) : Type 0 where
  pub apart : TellsApart x before
  pub old : IsOldRecord x before t r
  pub table : IsTable x.world x.now R names
  pub under_way : AreUnderWay R names (t ∷ tasks_of fs)
  pub checked : IsChecked x before R root fs t r passed (o ∷ rest)
  pub recorded : (u : Task) → among u (task_asked o.query) ≡ true → IsRecorded R u

-- it has the stamp that it would get now, as a teller tells
abbrev pub HasStamp : Setting → Teller → Record → List Observation → Observation → Type 0
HasStamp x by r passed o = stamp_now x.world x.now by r.writes (needs_of passed) o.query ≡ Some o.stamp

-- then the check passes it
abbrev pub PlacesPass : Type 0
PlacesPass =
    (x : Setting) (before : Project) (R : Task → Option Record) (names : List Task) (root : Task) (fs : List Frame) (t : Task) (r : Record)
    (passed rest : List Observation) (o : Observation) → MayPass x before R names root fs t r passed rest o
    → HasStamp x (by_evaluation x.world x.now) r passed o → IsChecked x before R root fs t r (passed ++ o ∷ []) rest

-- and likewise as the records tell
abbrev pub PlacesPassByRecords : Type 0
PlacesPassByRecords =
    (x : Setting) (before : Project) (R : Task → Option Record) (told : List Task → Path → Told) (names : List Task) (root : Task) (fs : List Frame)
    (t : Task) (r : Record) (passed rest : List Observation) (o : Observation) → MayPass x before R names root fs t r passed rest o → TellsRight R told
    → HasStamp x (by_records R told) r passed o → IsChecked x before R root fs t r (passed ++ o ∷ []) rest

-- a stamp differs as the records tell only where it does by evaluation: the record doesn't stand
abbrev pub StampsByRecordsAreThoseNow : Type 0
StampsByRecordsAreThoseNow =
    (x : Setting) (before : Project) (R : Task → Option Record) (told : List Task → Path → Told) (names : List Task) (root : Task) (fs : List Frame)
    (t : Task) (r : Record) (passed rest : List Observation) (o : Observation) → MayPass x before R names root fs t r passed rest o → TellsRight R told
    → stamp_now x.world x.now (by_records R told) r.writes (needs_of passed) o.query
    ≡ stamp_now x.world x.now (by_evaluation x.world x.now) r.writes (needs_of passed) o.query

-- so an observation that hasn't the stamp that the records tell is a reason to run the task: the record differs by evaluation
abbrev pub DifferencesAreReasons : Type 0
DifferencesAreReasons =
    (x : Setting) (before : Project) (R : Task → Option Record) (told : List Task → Path → Told) (names : List Task) (root : Task) (fs : List Frame)
    (t : Task) (r : Record) (passed rest : List Observation) (o : Observation) → MayPass x before R names root fs t r passed rest o → TellsRight R told
    → (HasStamp x (by_records R told) r passed o → ⊥) → Differs x.world x.now (by_evaluation x.world x.now) r.writes [] r.observations

-- ---- a task is required

-- where a record requires next a task that wasn't entered, that task begins above the check, which waits for it
abbrev pub RequiredTasksBegin : Type 0
RequiredTasksBegin =
    (x : Setting) (before : Project) (R : Task → Option Record) (names : List Task) (root : Task) (fs : List Frame) (t : Task) (r : Record)
    (passed rest : List Observation) (h : How) (u : Task) (s : Stamp) → AreUnderWay R names (t ∷ tasks_of fs)
    → (c : IsChecked x before R root fs t r passed (observed (Required h u) s ∷ rest)) → among u names ≡ false → length names < x.world.most_tasks
    → GoesOn x R root (set_aside c.frame c.asks.left ∷ fs) (begun x.world u)

-- where it requires one that waits, or its own task, the root ends in that cycle
abbrev pub RequiredTasksClose : Type 0
RequiredTasksClose =
    (x : Setting) (before : Project) (R : Task → Option Record) (root : Task) (fs : List Frame) (t : Task) (r : Record) (passed rest : List Observation)
    (h : How) (u : Task) (s : Stamp) → IsChecked x before R root fs t r passed (observed (Required h u) s ∷ rest) → among u (t ∷ tasks_of fs) ≡ true
    → outcome_of (evaluation x.world x.now root) ≡ Cycled (round u (t ∷ tasks_of fs) [])

-- when another task ends, a check that waits goes on as the same frame
abbrev pub WaitingChecksStay : Type 0
WaitingChecksStay =
    (x : Setting) (before : Project) (R S : Task → Option Record) (names : List Task) (root : Task) (fs : List Frame) (t u : Task) (r new : Record)
    (passed rest : List Observation) (g : Frame) → IsTable x.world x.now R names → EndsIn x.world x.now R S names u new
    → WaitsAsCheck x before R root fs t r passed rest g → WaitsAsCheck x before S root fs t r passed rest g

-- ---- a check ends

-- a record of which all observations were passed is that of its task's evaluation now, which stands in the root's
pub record IsRightNow (x : Setting) (root t : Task) (r : Record) : Type 0 where
  pub is : r ≡ record_of x.world (evaluation x.world x.now t)
  pub stands : StandsIn (evaluation x.world x.now t) (evaluation x.world x.now root)

abbrev pub StandingRecordsAreRight : Type 0
StandingRecordsAreRight =
    (x : Setting) (before : Project) (R : Task → Option Record) (root : Task) (fs : List Frame) (t : Task) (r : Record) (passed : List Observation)
    → IsOldRecord x before t r → IsChecked x before R root fs t r passed [] → IsRightNow x root t r

-- so its task ends with it
abbrev pub StandingRecordsEnd : Type 0
StandingRecordsEnd =
    (x : Setting) (before : Project) (R S : Task → Option Record) (names : List Task) (root : Task) (fs : List Frame) (t : Task) (r : Record)
    (passed : List Observation) → IsOldRecord x before t r → AreUnderWay R names (t ∷ tasks_of fs) → IsChecked x before R root fs t r passed []
    → ChangesAt R S t r → EndsIn x.world x.now R S names t r

-- where one isn't passed, the task may run from its beginning, with all that was settled meanwhile, or another record of it may be checked
abbrev pub ChecksGiveWay : Type 0
ChecksGiveWay =
    (x : Setting) (before : Project) (R : Task → Option Record) (root : Task) (fs : List Frame) (t : Task) (r : Record) (passed rest : List Observation)
    → IsChecked x before R root fs t r passed rest → GoesOn x R root fs (begun x.world t)
