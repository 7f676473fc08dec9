-- Which tasks a build without a list runs, and why.
use Rattle.std.specs.Prelude.{◌≡◌, ◌≢◌, ◌⊎◌, ℕ, List, map, take, All, None, Some}
use Rattle.std.specs.List.{AllPairs, Contains}
use Rattle.std.specs.List.Sorted.{IsStrictlySortedBy}
use Rattle.pie_build.specs.Left.{IsProjectOf}
use Rattle.pie_entering_laws.specs.Entering.{Enters}
use Rattle.pie_files.specs.Directory.{Directory}
use Rattle.pie_incremental.specs.Earlier.{Earlier}
use Rattle.pie_incremental.specs.Ran.{HasReason, digest_in, kept_digests}
use Rattle.pie_incremental.specs.Starts.{IsReadable}
use Rattle.pie_model.specs.Evaluation.{evaluation}
use Rattle.pie_model.specs.Records.{record_of as model_record}
use Rattle.pie_model_pipeline.specs.Rows.{record_of}
use Rattle.pie_model_pipeline.specs.World.{world, project}
use Rattle.pie_parser.specs.FunctionTrees.{FunctionTree}
use Rattle.pie_record.specs.declared.task_record.TaskRecord.{TaskRecord}
use Rattle.pie_report.specs.declared.report.Report.{Report}
use Rattle.pie_store.specs.declared.image.StoreImage.{StoreImage}
use Rattle.pie_value.specs.Canonical.{enc_task, IsCanonicalTask}
use Rattle.pie_value.specs.Order.{byte_order}
use Rattle.pie_value.specs.declared.task.Task.{Task}
use Rattle.pie_base.specs.declared.fault.FaultKind.TheVariants.{Unknown}
use Rattle.pie_value.specs.declared.verdict.Refusal.TheVariants.{Fault, Many}
use Rattle.pie_value.specs.declared.verdict.Verdict.{Verdict}
use Rattle.pie_value.specs.declared.verdict.Verdict.TheVariants.{Refused}
use Rattle.pie_topdown_build.specs.Clean.{HasStoreOf}

-- a task is of no function of the pipeline, or its arguments aren't ones that this takes, which is why a build is refused
abbrev pub IsLost : Verdict → Task → Type 0
IsLost v t = v ≡ Refused (Fault (record { task = t; kind = Unknown }))

-- a build of a directory from the store of an earlier one, with this verdict, ran no task twice, each for a reason; and unless there are too many tasks, it ran
-- each that a clean build enters and that has one, but for one of no function, which is why it is refused
pub record RanFor (e : Earlier) (d : Directory) (ran : List Task) (v : Verdict) : Type 0 where
  pub funcs : List (List ℕ × List ℕ)
  pub roots : List Task
  pub found : IsProjectOf d funcs roots
  pub image : StoreImage
  pub text : List ℕ
  pub is : IsReadable d image text
  pub once : AllPairs (λ t u. t ≢ u) ran
  pub reasons : All (HasReason e d found.functions (kept_digests d funcs image) funcs) ran
  pub all : (v ≡ Refused Many → ⊥) → (t : Task) → IsCanonicalTask t (enc_task t) → Enters found.functions d roots (enc_task t)
      → HasReason e d found.functions (kept_digests d funcs image) funcs t → Contains ran t ⊎ IsLost v t

-- ---- with offers

-- an offer to a task stands: it is of that task, writes no path twice, and its record is that of the task's evaluation by these functions in a directory
pub record IsStanding (fs : List FunctionTree) (d : Directory) (t : Task) (o : TaskRecord × List (List ℕ)) : Type 0 where
  pub of : o.0.task ≡ t
  pub once : AllPairs (λ (v w : List ℕ × List ℕ). v.0 ≢ w.0) o.0.writes
  pub is : record_of o.0 ≡ model_record world (evaluation world (project fs d) (enc_task t))

-- one of the first four offers stands that are told to a task by the digest of its function
pub record HasStanding (d : Directory) (told : Task → List ℕ → List (TaskRecord × List (List ℕ))) (fs : List FunctionTree) (funcs : List (List ℕ × List ℕ))
    (t : Task) : Type 0 where
  pub digest : List ℕ
  pub listed : digest_in funcs t.func ≡ Some digest
  pub offer : TaskRecord × List (List ℕ)
  pub told_it : Contains (take 4 (told t digest)) offer
  pub stands : IsStanding fs d t offer

-- of the tasks that a clean build of these functions and roots enters and for which this holds, exactly those ran, each once, of whose offers none stands, and
-- exactly those were reused one of whose offers does, each once in the order of their bytes; but for one of no function, which is why a build is refused, and
-- where there are too many
pub record RunOrReused (fs : List FunctionTree) (d : Directory) (roots : List Task) (Reason Stands : Task → Type 0) (ran reused : List Task) (v : Verdict)
    : Type 0 where
  pub once : AllPairs (λ t u. t ≢ u) ran
  pub ascending : IsStrictlySortedBy byte_order (map enc_task reused)
  pub reasons : All Reason ran × All Reason reused
  pub without : All (λ t. Stands t → ⊥) ran
  pub standing : All Stands reused
  pub all : (v ≡ Refused Many → ⊥) → (t : Task) → IsCanonicalTask t (enc_task t) → Enters fs d roots (enc_task t) → Reason t
      → Contains ran t ⊎ Contains (map enc_task reused) (enc_task t) ⊎ IsLost v t

-- so it is with a build of a directory from the store of an earlier one, and the tasks that have a reason to run; it is said of functions and their digests
-- whether an offer of a task stands
pub record RanOffered (e : Earlier) (d : Directory) (Stands : List FunctionTree → List (List ℕ × List ℕ) → Task → Type 0) (ran reused : List Task) (v : Verdict)
    : Type 0 where
  pub funcs : List (List ℕ × List ℕ)
  pub roots : List Task
  pub found : IsProjectOf d funcs roots
  pub image : StoreImage
  pub text : List ℕ
  pub is : IsReadable d image text
  pub each : RunOrReused found.functions d roots (HasReason e d found.functions (kept_digests d funcs image) funcs) (Stands found.functions funcs) ran reused v

-- and with one that has nothing to build from, and all tasks
pub record RanAnew (d : Directory) (Stands : List FunctionTree → List (List ℕ × List ℕ) → Task → Type 0) (ran reused : List Task) (v : Verdict) : Type 0 where
  pub funcs : List (List ℕ × List ℕ)
  pub roots : List Task
  pub found : IsProjectOf d funcs roots
  pub each : RunOrReused found.functions d roots (λ t. Unit {0}) (Stands found.functions funcs) ran reused v

-- ---- without

-- so it is with the tasks of a report that tells no cause to start afresh, where the directory has the store of an earlier build
pub record RunsForReasons (d : Directory) (r : Report) : Type 0 where
  pub each : r.fresh ≡ None → (e : Earlier) → HasStoreOf e d → RanFor e d r.ran.items r.verdict
