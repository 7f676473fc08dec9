-- For which causes a build of an update starts afresh.
use Rattle.std.specs.Prelude.{◌≡◌, ◌⊎◌, ℕ, ◌-◌, List, All}
use Rattle.pie_bottomup.specs.inner.Causes.{AreThese, HasUnionEdge, IsReached, IsRing, count_old}
use Rattle.pie_core_laws.specs.Update.{Update}
use Rattle.pie_store.specs.declared.cause.Cause.{Cause}
use Rattle.pie_store.specs.declared.cause.Cause.TheVariants as causes
use Rattle.pie_value.specs.declared.task.Task.{Task}

-- tasks have union edges in a ring, and each is reached from a root
pub record HasRing (u : Update) (tasks : List Task) : Type 0 where
  pub ring : IsRing (HasUnionEdge u) tasks
  pub reached : All (IsReached u) tasks

-- more than 50,000 tasks are tried
pub record HasTooMany (u : Update) (old new : ℕ) (task : Task) : Type 0 where
  pub olds : List Task
  pub news : List Task
  pub these : AreThese u old new task olds news

-- a cause holds: tasks have union edges in a ring; or more than 50,000 are tried, and the counts are of 50,000 tasks: those in the store, and the others, that
-- came, or all of them old
abbrev pub IsCauseNow : Update → Cause → Type 0
IsCauseNow u causes.Interrupted = ⊥
IsCauseNow u causes.NoStore = ⊥
IsCauseNow u (causes.Damaged fault) = ⊥
IsCauseNow u causes.BadPending = ⊥
IsCauseNow u (causes.UnionCycle tasks) = HasRing u tasks
IsCauseNow u (causes.UnionMany old new task) =
    (((old ≡ count_old u) × (new ≡ 50000 - count_old u)) ⊎ ((old ≡ 50000) × (new ≡ 0))) × HasTooMany u old new task
