-- Which tasks a build without a list runs and reuses.
use Rattle.std.specs.Prelude.{◌≡◌, ◌≢◌, ◌⊎◌, ℕ, true, false, List, [], ◌∷◌, ◌++◌, map, All, take, Option, None, Some, slice_get}
use Rattle.std.specs.List.{AllPairs, Contains}
use Rattle.pie_value.specs.declared.task.Task.{Task}
use Rattle.pie_value.specs.declared.verdict.Refusal.{Refusal}
use Rattle.pie_value.specs.declared.verdict.Refusal.TheVariants.{Many}
use Rattle.pie_value.specs.declared.verdict.Verdict.{Verdict}
use Rattle.pie_value.specs.declared.verdict.Verdict.TheVariants.{Refused}
use Rattle.pie_value.specs.Canonical.{enc_task, IsCanonicalTask}
use Rattle.pie_parser.specs.FunctionTrees.{FunctionTree}
use Rattle.pie_files.specs.Directory.{Directory}
use Rattle.pie_graph.specs.Numbers.{numbers, IsMarked}
use Rattle.pie_old.specs.inner.Rows.{tasks_at}
use Rattle.pie_record.specs.declared.task_record.TaskRecord.{TaskRecord}
use Rattle.pie_store.specs.inner.Offers.{Offered}
use Rattle.pie_record.specs.inner.Records.{record_of as kept_of}
use Rattle.pie_model.specs.Forest.{entered_tasks}
use Rattle.pie_model.specs.Trees.{is_done, outcome_of}
use Rattle.pie_model.specs.Evaluation.{evaluation}
use Rattle.pie_topdown_laws.specs.Ends.{AreRecorded}
use Rattle.pie_topdown_laws.specs.Ledgers.{IsRightLedger}
use Rattle.pie_model.specs.Paths.{among}
use Rattle.pie_model_pipeline.specs.World.{world}
use Rattle.pie_core_laws.specs.Update.{Update, present}
use Rattle.pie_earlier_laws.specs.Functions.{digest_under}
use Rattle.pie_topdown_result_laws.specs.Builds.{AreHonest, IsFromStore, IsNowHere, IsStanding}
use Rattle.pie_topdown.specs.declared.builder.Builder.{Builder}
use Rattle.pie_topdown.specs.declared.hand.Hand.{Hand}
use Rattle.pie_topdown.specs.inner.Due.{HasReason}
use Rattle.pie_topdown.specs.inner.Right.{lost, records_of, AreWritten, HasEnteredAll, IsFalling, IsPlanNow, IsRight, IsRightSite}
use Rattle.pie_topdown.specs.inner.Rooted.{IsBuildOf, IsSettledSoFar}
use Rattle.pie_topdown.specs.inner.Trying.{offers_to, AreHonestTo, IsTriedSoFar, NoneStands, OneStands}

-- ---- what is marked

-- a task has run, or was reused, under its number
pub record HasRunAs (b : Builder) (t : Task) : Type 0 where
  pub number : ℕ
  pub named : slice_get b.ledger.tables.names number ≡ Some t
  pub marked : IsMarked b.ledger.tables.ran.items number

-- the task with a number is among these
pub record IsOneOf (b : Builder) (tasks : List Task) (n : ℕ) : Type 0 where
  pub task : Task
  pub named : slice_get b.ledger.tables.names n ≡ Some task
  pub listed : Contains tasks task

-- since the beginning some were started, none of whose offers stands, and some were reused, one of whose offers does, each once, none both, and no others are
-- marked
pub record HasRunSo (u : Update) (offers : Task → List Offered) (b : Builder) (before after : List Task) : Type 0 where
  pub gained : List Task
  pub is : after ≡ before ++ gained
  pub once : AllPairs (λ t v. t ≢ v) gained
  pub marked : All (HasRunAs b) gained
  pub reused : List Task
  pub reused_are : tasks_at b.ledger.tables.names (numbers b.reused.items) ≡ map Some reused
  pub reused_once : AllPairs (λ t v. t ≢ v) reused
  pub reused_marked : All (HasRunAs b) reused
  pub apart : (t : Task) → Contains gained t → Contains reused t → ⊥
  pub only : (n : ℕ) → IsMarked b.ledger.tables.ran.items n → IsOneOf b gained n ⊎ IsOneOf b reused n
  pub without : All (NoneStands u offers) gained
  pub standing : All (OneStands u offers) reused

-- so it is still while a build is right
abbrev pub RansOn : Option Directory → (Directory → Task → List ℕ → List Offered) → Builder → Hand → Builder → List Task → List Task → Type 0
RansOn held told old h new before after =
    (u : Update) (done : List (List ℕ)) (root : List ℕ) → IsBuildOf u held told old.plan → IsRight u done root old h
    → IsTriedSoFar u (offers_to old.plan told u.directory) old h → (first : List Task) → HasRunSo u (offers_to old.plan told u.directory) old first before
    → HasRunSo u (offers_to old.plan told u.directory) new first after

-- and with a root that has an output
abbrev pub SettlesRan : Option Directory → (Directory → Task → List ℕ → List Offered) → Builder → Task → Builder → List Task → List Task → Option Refusal
    → Type 0
SettlesRan held told old root new before after why =
    (u : Update) (done : List (List ℕ)) → IsBuildOf u held told old.plan → among (enc_task root) u.roots ≡ true → IsSettledSoFar u done old
    → (first : List Task) → HasRunSo u (offers_to old.plan told u.directory) old first before → why ≡ None
    → HasRunSo u (offers_to old.plan told u.directory) new first after

-- ---- a build that is refused

-- nothing waits any more, and each entered task without a record has run
pub record HasFallen (u : Update) (done : List (List ℕ)) (root : List ℕ) (b : Builder) : Type 0 where
  pub site : IsRightSite u done root b
  pub marked : (n : ℕ) (t : Task) → slice_get b.ledger.tables.names n ≡ Some t → kept_of b.ledger.tables.records n ≡ None → IsMarked b.ledger.tables.ran.items n

-- some of those that waited have gone, and the tasks of their checks were started
abbrev pub FallsOn : Builder → Builder → List Task → List Task → Type 0
FallsOn old new before after =
    (u : Update) (done : List (List ℕ)) (root : List ℕ) (offers : Task → List Offered) → IsPlanNow u old.plan → AreHonestTo u offers → IsFalling u done root old
    → (first : List Task) → HasRunSo u offers old first before → IsFalling u done root new × HasRunSo u offers new first after

-- so it is once the tasks of all checks that wait were started
abbrev pub FallsWhole : Builder → Builder → List Task → List Task → Type 0
FallsWhole old new before after =
    (u : Update) (done : List (List ℕ)) (root : List ℕ) (offers : Task → List Offered) → IsPlanNow u old.plan → AreHonestTo u offers → IsFalling u done root old
    → (first : List Task) → HasRunSo u offers old first before → HasFallen u done root new × HasRunSo u offers new first after

-- a root fails: each task is recorded or has run that the clean build enters up to it, but for one of no function which is why the build is refused
pub record HasFailed (u : Update) (done : List (List ℕ)) (root : List ℕ) (b : Builder) (why : Refusal) : Type 0 where
  pub ledger : IsRightLedger u b.ledger.tables.names b.ledger.tables.records b.ledger.rows b.ledger.places.items
  pub recorded : AreRecorded (records_of b) done
  pub ends : is_done (outcome_of (evaluation world (present u) root)) ≡ false
  pub marked : (n : ℕ) (t : Task) → slice_get b.ledger.tables.names n ≡ Some t → kept_of b.ledger.tables.records n ≡ None → IsMarked b.ledger.tables.ran.items n
  pub all : HasEnteredAll u done root b why

-- a build is refused at a root: what ran did for a reason, and it is for too many tasks, or the root fails
pub record HasRunRefused (u : Update) (offers : Task → List Offered) (done : List (List ℕ)) (root : List ℕ) (b : Builder) (first after : List Task) (why : Refusal)
    : Type 0 where
  pub ran : HasRunSo u offers b first after
  pub written : AreWritten u b
  pub failed : (why ≡ Many) ⊎ HasFailed u done root b why

-- so it is where a root isn't settled
abbrev pub StopsRan : Option Directory → (Directory → Task → List ℕ → List Offered) → Builder → Task → Builder → List Task → List Task → Option Refusal → Type 0
StopsRan held told old root new before after why =
    (u : Update) (done : List (List ℕ)) → IsBuildOf u held told old.plan → among (enc_task root) u.roots ≡ true → IsSettledSoFar u done old
    → (first : List Task) → HasRunSo u (offers_to old.plan told u.directory) old first before → (w : Refusal) → why ≡ Some w
    → HasRunRefused u (offers_to old.plan told u.directory) done (enc_task root) new first after w

-- at one of the roots
pub record HasStopped (u : Update) (offers : Task → List Offered) (b : Builder) (first after : List Task) (why : Refusal) : Type 0 where
  pub done : List (List ℕ)
  pub root : List ℕ
  pub rest : List (List ℕ)
  pub roots : done ++ root ∷ rest ≡ u.roots
  pub refused : HasRunRefused u offers done root b first after why

-- and where some root isn't
abbrev pub StopsAllRan : Option Directory → (Directory → Task → List ℕ → List Offered) → Builder → List Task → Builder → List Task → List Task
    → Option Refusal → Type 0
StopsAllRan held told old roots new before after why =
    (u : Update) → IsBuildOf u held told old.plan → map enc_task roots ≡ u.roots → IsSettledSoFar u [] old → (first : List Task)
    → HasRunSo u (offers_to old.plan told u.directory) old first before → (w : Refusal) → why ≡ Some w
    → HasStopped u (offers_to old.plan told u.directory) new first after w

-- and with some roots
abbrev pub HasSettledRan : Option Directory → (Directory → Task → List ℕ → List Offered) → Builder → List Task → Builder → List Task → List Task → Type 0
HasSettledRan held told old roots new before after =
    (u : Update) → IsBuildOf u held told old.plan → map enc_task roots ≡ u.roots → IsSettledSoFar u [] old → (first : List Task)
    → HasRunSo u (offers_to old.plan told u.directory) old first before → HasRunSo u (offers_to old.plan told u.directory) new first after

-- and with all, where each has an output
abbrev pub SettlesAllRan : Option Directory → (Directory → Task → List ℕ → List Offered) → Builder → List Task → Builder → List Task → List Task
    → Option Refusal → Type 0
SettlesAllRan held told old roots new before after why = why ≡ None → HasSettledRan held told old roots new before after

-- ---- the whole build

-- tasks with these numbers were added to a list, if all have a name
abbrev pub AddsNamed : Builder → List ℕ → List Task → List Task → Type 0
AddsNamed b ns old new = (ts : List Task) → tasks_at b.ledger.tables.names ns ≡ map Some ts → new ≡ old ++ ts

-- the task with this number was added
abbrev pub AddsOne : Builder → ℕ → List Task → List Task → Type 0
AddsOne b n old new = (t : Task) → slice_get b.ledger.tables.names n ≡ Some t → new ≡ old ++ t ∷ []

-- a clean build enters a task
pub record IsEntered (u : Update) (t : Task) : Type 0 where
  pub canonical : IsCanonicalTask t (enc_task t)
  pub entered : among (enc_task t) (entered_tasks world (present u) u.roots) ≡ true

-- an offer stands that a task may have: one of the first four that are told by the present digest of its function
pub record HasStanding (u : Update) (digests : List (List ℕ × List ℕ)) (told : Directory → Task → List ℕ → List Offered) (t : Task) : Type 0 where
  pub digest : List ℕ
  pub is : digest_under digests t.func ≡ Some digest
  pub offer : Offered
  pub listed : Contains (take 4 (told u.directory t digest)) offer
  pub stands : IsStanding u t offer

-- these tasks were started, without an offer that stands, and those reused, each with one, each once, none both, each for a reason; and unless there are too many, each that a clean build enters and that has
-- one is among them, or is of no function, which is why the build is refused
pub record RanFor (u : Update) (funcs digests : List (List ℕ × List ℕ)) (told : Directory → Task → List ℕ → List Offered) (before after old new : List Task)
    (v : Verdict) : Type 0 where
  pub ran : List Task
  pub ran_are : after ≡ before ++ ran
  pub reused : List Task
  pub reused_are : new ≡ old ++ reused
  pub once : AllPairs (λ t v. t ≢ v) ran
  pub reused_once : AllPairs (λ t v. t ≢ v) reused
  pub apart : (t : Task) → Contains ran t → Contains reused t → ⊥
  pub reasons : All (HasReason u funcs digests) ran
  pub reused_reasons : All (HasReason u funcs digests) reused
  pub without : All (λ t. HasStanding u digests told t → ⊥) ran
  pub standing : All (HasStanding u digests told) reused
  pub all : (v ≡ Refused Many → ⊥) → (t : Task) → IsEntered u t → HasReason u funcs digests t
      → Contains ran t ⊎ Contains reused t ⊎ (v ≡ Refused (lost t))

-- so it is with each update to what the files hold, from the store of its earlier build and where offers are honest
pub record RunsForReasons (held : Option Directory) (fs : List FunctionTree) (funcs digests : List (List ℕ × List ℕ)) (rows : List TaskRecord)
    (told : Directory → Task → List ℕ → List Offered) (roots before after old new : List Task) (v : Verdict) : Type 0 where
  pub each : (u : Update) → IsNowHere u held fs roots → IsFromStore u funcs digests rows → AreHonest u digests told
      → RanFor u funcs digests told before after old new v
