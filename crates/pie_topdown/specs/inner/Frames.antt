-- What is in hand, and what waits for it.
use Rattle.std.specs.Prelude.{◌≡◌, ℕ, ◌<◌, true, false, List, length, map, take, All, Some, slice_get, slice_index_or, IfSome}
use Rattle.std.specs.List.{Contains}
use Rattle.pie_value.specs.declared.task.Task.{Task}
use Rattle.pie_value.specs.Canonical.{IsEncodableTask}
use Rattle.pie_digest.specs.Digests.{function_names}
use Rattle.pie_graph.specs.Numbers.{numbers}
use Rattle.pie_record.specs.Canonical.{IsStorable}
use Rattle.pie_record.specs.declared.task_record.TaskRecord.{TaskRecord}
use Rattle.pie_record.specs.inner.Records.{record_of}
use Rattle.pie_results.specs.inner.Failures.{is_done}
use Rattle.pie_tables.specs.Tabled.{IsTables}
use Rattle.pie_old.specs.inner.Rows.{needs_in, tasks_at}
use Rattle.pie_running.specs.declared.frame.Caller.{Caller}
use Rattle.pie_running.specs.declared.frame.RunningTask.{RunningTask}
use Rattle.pie_running.specs.inner.Noted.{Noted, tasks_on}
use Rattle.pie_running.specs.inner.Frames.{IsReady, IsWaiting}
use Rattle.pie_store.specs.inner.Offers.{IsOffer}
use Rattle.pie_topdown.specs.declared.ledger.Ledger.{Ledger}
use Rattle.pie_topdown.specs.declared.builder.Builder.{Builder}
use Rattle.pie_topdown.specs.declared.hand.Check.{Check}
use Rattle.pie_topdown.specs.declared.hand.Frame.{Frame}
use Rattle.pie_topdown.specs.declared.hand.Frame.TheVariants as frames
use Rattle.pie_topdown.specs.declared.hand.Hand.{Hand}
use Rattle.pie_topdown.specs.declared.hand.Hand.TheVariants as hands
use Rattle.pie_topdown.specs.declared.hand.Rest.{Rest}
use Rattle.pie_topdown.specs.declared.hand.Rest.TheVariants as rests
use Rattle.pie_topdown.specs.declared.plan.Plan.{Plan}
use Rattle.pie_topdown.specs.inner.Ledgers.{HasOutput, IsLedger}

-- what a task noted that runs: its required tasks have these numbers, in order, and outputs
pub record IsNoted (l : Ledger) (n : Noted) : Type 0 where
  pub task : slice_get l.tables.names n.number ≡ Some n.task
  pub needs : tasks_at l.tables.names n.needs ≡ map Some (tasks_on n.deps)
  pub ended : All (HasOutput l.tables.records) n.needs

-- a task that waits for one that it requires
pub record IsCaller (l : Ledger) (c : Caller) : Type 0 where
  pub waits : IsWaiting c.waiting
  pub required : IsEncodableTask c.required
  pub noted : IsNoted l c.waiting.notes

-- offers that have canonical bytes
abbrev pub AreOffers : Rest → Type 0
AreOffers rests.Unasked = Unit {0}
AreOffers (rests.Asked offers) = All IsOffer offers.items

-- a record of an entered task is checked: the tasks that its observations so far require have these numbers, in order, and outputs
pub record IsCheck (l : Ledger) (c : Check) : Type 0 where
  pub named : slice_get l.tables.names c.no.0 ≡ Some c.rec.task
  pub takes : length c.rec.task.args ≡ c.code.now.params
  pub storable : IsStorable c.rec
  pub needs : tasks_at l.tables.names (numbers c.required.items) ≡ map Some (needs_in (take c.at c.rec.deps))
  pub ended : All (HasOutput l.tables.records) (numbers c.required.items)
  pub rest : AreOffers c.rest

-- what waits for a required task
abbrev pub IsFrame : Ledger → Frame → Type 0
IsFrame l (frames.Checks c) = IsCheck l c.value
IsFrame l (frames.Waits c) = IsCaller l c

-- an entered task may start with this code, which takes so many arguments
pub record MayStart (l : Ledger) (n params : ℕ) : Type 0 where
  pub inside : n < length l.tables.names
  pub takes : IfSome (slice_get l.tables.names n) (λ (t : Task). length t.args ≡ params)

-- a task that runs
pub record IsRunning (l : Ledger) (f : RunningTask) : Type 0 where
  pub ready : IsReady f
  pub noted : IsNoted l f.notes

-- what a build does next
abbrev pub IsHand : Ledger → Hand → Type 0
IsHand l (hands.Enters n code) = MayStart l n.0 code.now.params
IsHand l (hands.Checks c) = IsCheck l c.value
IsHand l (hands.Runs f) = IsRunning l f
IsHand l hands.Ended = Unit {0}

-- each task is of a function of the pipeline
abbrev pub AreKnown : Plan → List Task → Type 0
AreKnown p names = All (λ (t : Task). Contains (function_names p.typed.now) t.func) names

-- a record is one of the build before, of a task whose function stayed the same, and has an output
pub record IsOwnRecord (p : Plan) (rec : TaskRecord) : Type 0 where
  pub number : ℕ
  pub kept : record_of p.earlier.records number ≡ Some rec
  pub same : slice_index_or p.same.items number false ≡ true
  pub done : is_done rec.outcome ≡ true

-- what holds of a build beside what it does next
pub record IsSite (b : Builder) : Type 0 where
  pub ledger : IsLedger b.ledger
  pub earlier : IsTables b.plan.earlier
  pub known : AreKnown b.plan b.ledger.tables.names
  pub stack : All (IsFrame b.ledger) b.stack.items
