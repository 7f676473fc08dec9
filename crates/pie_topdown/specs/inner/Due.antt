-- Why tasks run in a build without a list.
use Rattle.std.specs.Prelude.{◌≡◌, ℕ, false, List, Option, None, Some, Box, IsSome, slice_get, slice_index_or}
use Rattle.std.specs.declared.alloc.Global.{Global}
use Rattle.std.proofs.Common.{Vec}
use Rattle.pie_value.specs.declared.task.Task.{Task}
use Rattle.pie_value.specs.Canonical.{enc_task}
use Rattle.pie_record.specs.declared.task_record.TaskRecord.{TaskRecord}
use Rattle.pie_record.specs.inner.Records.{record_of as kept_of}
use Rattle.pie_old.specs.inner.Code.{is_same_code}
use Rattle.pie_model.specs.Reasons.{RunReason}
use Rattle.pie_model_pipeline.specs.World.{world}
use Rattle.pie_builder_laws.specs.Names.{AreTasks}
use Rattle.pie_earlier_laws.specs.Functions.{digest_under}
use Rattle.pie_core_laws.specs.Update.{Update, present, old_record}
use Rattle.pie_topdown.specs.declared.builder.Builder.{Builder}
use Rattle.pie_topdown.specs.declared.plan.Plan.{Plan}
use Rattle.pie_topdown.specs.inner.Frames.{IsOwnRecord}

-- a task has a reason to run: it is new, its code is another, or something that its record observed or wrote is
abbrev pub HasReason : Update → List (List ℕ × List ℕ) → List (List ℕ × List ℕ) → Task → Type 0
HasReason u funcs digests t =
    RunReason world (present u) u.directory (old_record u (enc_task t)) (digest_under funcs t.func) (digest_under digests t.func)

-- ---- what is known of old tasks

-- an old task has a number, and its record
pub record IsKnownAs (p : Plan) (bytes : List ℕ) : Type 0 where
  pub number : ℕ
  pub rec : TaskRecord
  pub kept : kept_of p.earlier.records number ≡ Some rec
  pub named : slice_get p.earlier.names number ≡ Some rec.task
  pub is : enc_task rec.task ≡ bytes

-- each task of the earlier build has a number, and of each it is known whether its function has one digest then and now
pub record KnowsCode (u : Update) (funcs digests : List (List ℕ × List ℕ)) (p : Plan) : Type 0 where
  pub tasks : AreTasks p.earlier.names
  pub each : (n : ℕ) (t : Task) → slice_get p.earlier.names n ≡ Some t → slice_index_or p.same.items n false ≡ is_same_code funcs digests t.func
  pub olds : (bytes : List ℕ) → IsSome (old_record u bytes) → IsKnownAs p bytes

-- ---- why tasks are due

-- a task has a reason to run by such digests
abbrev pub IsDue : Update → Plan → Task → Type 0
IsDue u p t = (funcs digests : List (List ℕ × List ℕ)) → KnowsCode u funcs digests p → HasReason u funcs digests t

-- the task with this number has one
pub record IsDueAt (u : Update) (b : Builder) (n : ℕ) : Type 0 where
  pub task : Task
  pub named : slice_get b.ledger.tables.names n ≡ Some task
  pub due : IsDue u b.plan task

-- a record is checked that is its task's own in the store, or of a task that has a reason to run
abbrev pub IsDueBy : Update → Plan → TaskRecord → Option (Vec (Vec ℕ Global) Global) → Type 0
IsDueBy u p rec None = IsOwnRecord p rec
IsDueBy u p rec (Some contents) = IsDue u p rec.task

-- ---- a task that was entered

-- a task has no own record in the store whose function stayed the same
abbrev pub HasNoOwn : Plan → Task → Type 0
HasNoOwn p t = (rec : TaskRecord) → IsOwnRecord p rec → rec.task ≡ t → ⊥

-- so it is with the task of a number, where none was found
abbrev pub LacksOwn : Builder → ℕ → Option (Box TaskRecord Global) → Type 0
LacksOwn b n None = (t : Task) → slice_get b.ledger.tables.names n ≡ Some t → HasNoOwn b.plan t
LacksOwn b n (Some rec) = Unit {0}
