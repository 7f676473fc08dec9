-- Builds without a list of an update, from the store of the earlier build.
use Rattle.std.specs.Prelude.{◌≡◌, ◌≢◌, ℕ, true, List, map, All, Option, Some}
use Rattle.std.specs.List.{AllPairs}
use Rattle.pie_value.specs.declared.task.Task.{Task}
use Rattle.pie_value.specs.Canonical.{enc_task, IsCanonicalTask}
use Rattle.pie_parser.specs.FunctionTrees.{FunctionTree}
use Rattle.pie_files.specs.Directory.{Directory}
use Rattle.pie_record.specs.declared.task_record.TaskRecord.{TaskRecord}
use Rattle.pie_store.specs.inner.Offers.{Offered}
use Rattle.pie_checks.specs.declared.built.Built.{Built}
use Rattle.pie_model.specs.Trees.{outcome_of, trace_of, writes_of, is_done}
use Rattle.pie_model.specs.Evaluation.{Project, evaluation}
use Rattle.pie_model.specs.Records.{record_of as model_record}
use Rattle.pie_model.specs.Built.{store_rows}
use Rattle.pie_model.specs.Reasons.{SameCode}
use Rattle.pie_model.specs.Separate.{AllMet, NeverWritesWhatItSaw, StampsSeparate}
use Rattle.pie_model_pipeline.specs.Rows.{record_of}
use Rattle.pie_model_pipeline.specs.World.{world, next}
use Rattle.pie_earlier_laws.specs.Functions.{digest_under}
use Rattle.pie_earlier_laws.specs.Left.{IsEarlierBuild}
use Rattle.pie_core_laws.specs.Update.{Update, MetIn, earlier, present}
use Rattle.pie_core_laws.specs.Keeping.{Separates}
use Rattle.pie_left_laws.specs.Accepted.{OutIsMet}
use Rattle.pie_topdown_result_laws.specs.Results.{IsResultOf}

-- an update to these functions and roots in what the files hold, whose hashes and marks separate what it meets; nothing is said of what changed since
pub record IsNowHere (u : Update) (held : Option Directory) (fs : List FunctionTree) (roots : List Task) : Type 0 where
  pub build : IsEarlierBuild world (earlier u) u.old_roots u.left
  pub holds : held ≡ Some u.directory
  pub functions : fs ≡ u.functions
  pub roots_are : map enc_task roots ≡ u.roots
  pub separates : Separates u
  pub met : OutIsMet u

-- these records are those of the store of the earlier build, and a task whose function has one digest then and now means the same
pub record IsFromStore (u : Update) (funcs digests : List (List ℕ × List ℕ)) (rows : List TaskRecord) : Type 0 where
  pub rows_are : map record_of rows ≡ store_rows world (earlier u) u.old_roots
  pub meaning : (t : Task) → IsCanonicalTask t (enc_task t) → SameCode (digest_under funcs t.func) (digest_under digests t.func)
      → next u.old_functions (enc_task t) ≡ next u.functions (enc_task t)

-- a record that is offered is that of its task's evaluation in some project, which ended with a value and means the same now; what that met is met, its
-- sources are apart from those now, and these contents are what it wrote
pub record IsHonest (u : Update) (o : Offered) : Type 0 where
  pub before : Project
  pub was : record_of o.0 ≡ model_record world (evaluation world before (enc_task o.0.task))
  pub done : is_done (outcome_of (evaluation world before (enc_task o.0.task))) ≡ true
  pub meaning : before.next (enc_task o.0.task) ≡ next u.functions (enc_task o.0.task)
  pub polite : NeverWritesWhatItSaw (before.next (enc_task o.0.task))
  pub met : AllMet world (MetIn u) (trace_of (evaluation world before (enc_task o.0.task)))
  pub apart : StampsSeparate world before (present u) (MetIn u)
  pub wrote : map (λ (w : List ℕ × List ℕ). w.1) (writes_of (trace_of (evaluation world before (enc_task o.0.task)))) ≡ o.1

-- so is an offer to a task, if its record is of that task: others are passed over
abbrev pub IsHonestTo : Update → Task → Offered → Type 0
IsHonestTo u t o = o.0.task ≡ t → IsHonest u o

-- so are all that are offered to a task by the present digest of its function; where nothing is offered, nothing is asked
abbrev pub AreHonest : Update → List (List ℕ × List ℕ) → (Directory → Task → List ℕ → List Offered) → Type 0
AreHonest u digests told = (t : Task) (digest : List ℕ) → digest_under digests t.func ≡ Some digest → All (IsHonestTo u t) (told u.directory t digest)

-- no path is written twice
abbrev pub WritesOnce : List (List ℕ × List ℕ) → Type 0
WritesOnce writes = AllPairs (λ (v w : List ℕ × List ℕ). v.0 ≢ w.0) writes

-- an offer to a task stands: it is of that task, writes no path twice, and its record is that of the task's evaluation now
pub record IsStanding (u : Update) (t : Task) (o : Offered) : Type 0 where
  pub of : o.0.task ≡ t
  pub once : WritesOnce o.0.writes
  pub is : record_of o.0 ≡ model_record world (evaluation world (present u) (enc_task t))

-- what a build makes of each such update from these records, where offers are honest, is what a clean build makes
pub record MakesClean (held : Option Directory) (fs : List FunctionTree) (funcs digests : List (List ℕ × List ℕ)) (rows : List TaskRecord)
    (told : Directory → Task → List ℕ → List Offered) (roots : List Task) (b : Built) : Type 0 where
  pub each : (u : Update) → IsNowHere u held fs roots → IsFromStore u funcs digests rows → AreHonest u digests told → IsResultOf u b
