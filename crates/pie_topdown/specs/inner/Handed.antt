-- What a build that stands is handed: the task that asks, is told or ends, and the record with which one may end.
use Rattle.std.specs.Prelude.{◌≡◌, ℕ, ◌<◌, ◌≤◌, true, List, length, map, All, Some, slice_get}
use Rattle.std.specs.List.{Contains}
use Rattle.pie_value.specs.declared.task.Task.{Task}
use Rattle.pie_value.specs.declared.value.Value.{Value}
use Rattle.pie_value.specs.Canonical.{IsEncodable, IsEncodableTask, HasTrueLeaves}
use Rattle.pie_value.specs.Limits.{is_small}
use Rattle.pie_value.specs.Values.{tree_of}
use Rattle.pie_code.specs.declared.code.Code.{Code}
use Rattle.pie_digest.specs.Digests.{function_names}
use Rattle.pie_old.specs.inner.Rows.{tasks_at}
use Rattle.pie_record.specs.Canonical.{IsStorable}
use Rattle.pie_record.specs.declared.task_record.TaskRecord.{TaskRecord}
use Rattle.pie_running.specs.declared.frame.Caller.{Caller}
use Rattle.pie_running.specs.declared.frame.Waiting.{Waiting}
use Rattle.pie_running.specs.inner.Frames.{IsWaiting}
use Rattle.pie_running.specs.inner.Noted.{Noted, IsSound}
use Rattle.pie_store.specs.Canonical.{needs as needs_by}
use Rattle.pie_topdown.specs.declared.builder.Builder.{Builder}
use Rattle.pie_topdown.specs.declared.checking.Place.{Place}
use Rattle.pie_topdown.specs.declared.hand.Check.{Check}
use Rattle.pie_topdown.specs.declared.ledger.Ledger.{Ledger}
use Rattle.pie_topdown.specs.inner.Entries.{MayBe}
use Rattle.pie_topdown.specs.inner.Frames.{IsCaller, IsCheck, IsNoted, IsSite, MayStart}
use Rattle.pie_topdown.specs.inner.Ledgers.{HasOutput}
use Rattle.pie_topdown.specs.inner.Places.{IsNew, IsPlace, MayGiveWay}

-- a build stands in which the task with this number was entered
pub record StandsWith (b : Builder) (n : ℕ) : Type 0 where
  pub site : IsSite b
  pub number : n < length b.ledger.tables.names

-- a task that runs under this number has asked something, and waits for the answer
pub record IsAsking (b : Builder) (n : ℕ) (w : Waiting) : Type 0 where
  pub site : IsSite b
  pub waits : IsWaiting w
  pub noted : IsNoted b.ledger w.notes
  pub number : n ≡ w.notes.number

-- a task that ran under this number is at its end, with what it noted
pub record IsEnding (b : Builder) (n : ℕ) (last : Noted) : Type 0 where
  pub site : IsSite b
  pub sound : IsSound last
  pub noted : IsNoted b.ledger last
  pub number : n ≡ last.number

-- a value of a program that has canonical bytes and is within the limits
pub record IsOutput (v : Value) : Type 0 where
  pub encodable : IsEncodable (tree_of v)
  pub leaves : HasTrueLeaves (tree_of v)
  pub small : is_small (tree_of v) ≡ true

-- a task of a build waits for one that it requires
pub record Awaits (b : Builder) (c : Caller) : Type 0 where
  pub site : IsSite b
  pub caller : IsCaller b.ledger c

-- the one for which it waits has ended under this number, with this output
pub record IsAnswered (b : Builder) (c : Caller) (callee : ℕ) (v : Value) : Type 0 where
  pub site : IsSite b
  pub caller : IsCaller b.ledger c
  pub named : slice_get b.ledger.tables.names callee ≡ Some c.required
  pub output : IsEncodable (tree_of v)
  pub ended : HasOutput b.ledger.tables.records callee

-- a task that wasn't entered may be, with this code
pub record IsEnterable (b : Builder) (t : Task) (code : Code) : Type 0 where
  pub absent : ¬ (Contains b.ledger.tables.names t)
  pub may : MayBe b t code

-- a task with canonical bytes that wasn't entered may be, by code that takes so many arguments
pub record MayGainTask (b : Builder) (t : Task) (params : ℕ) : Type 0 where
  pub site : IsSite b
  pub encodable : IsEncodableTask t
  pub absent : ¬ (Contains b.ledger.tables.names t)
  pub few : length b.ledger.tables.names < 50000
  pub takes : length t.args ≡ params
  pub known : Contains (function_names b.plan.typed.now) t.func

-- a task may end with this record: it can be stored, and the tasks that it requires have these numbers, in order, and outputs
pub record MayEndWith (l : Ledger) (n : ℕ) (rec : TaskRecord) (required : List ℕ) : Type 0 where
  pub named : slice_get l.tables.names n ≡ Some rec.task
  pub storable : IsStorable rec
  pub needs : tasks_at l.tables.names required ≡ map Some (needs_by rec)
  pub ended : All (HasOutput l.tables.records) required

-- the task with this number may start with code that takes so many arguments, and this record, which can be stored, is of it
pub record HasRecord (b : Builder) (n params : ℕ) (rec : TaskRecord) : Type 0 where
  pub site : IsSite b
  pub starts : MayStart b.ledger n params
  pub storable : IsStorable rec
  pub named : slice_get b.ledger.tables.names n ≡ Some rec.task

-- ---- what a check is handed

-- a record has an observation more, one of those that a task can make
pub record HasNext (c : Check) : Type 0 where
  pub inside : c.at < length c.rec.deps
  pub few : c.at ≤ 1000000

-- this was found at the next observation of a check
pub record HasFound (b : Builder) (c : Check) (p : Place) : Type 0 where
  pub site : IsSite b
  pub place : IsPlace b.ledger c p

-- a check is at a task that wasn't entered
pub record IsAtNew (b : Builder) (c : Check) (t : Task) : Type 0 where
  pub site : IsSite b
  pub check : IsCheck b.ledger c
  pub task : IsNew b.ledger t

-- another record may be checked in place of that of a check, or its task may run
pub record IsReplaceable (b : Builder) (c : Check) : Type 0 where
  pub site : IsSite b
  pub check : MayGiveWay b.ledger c
