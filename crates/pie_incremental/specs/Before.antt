-- Which tasks a build by what changed runs before it starts afresh.
use Rattle.std.specs.Prelude.{◌≡◌, ◌≢◌, ◌⊎◌, ℕ, List, [], All, Contains}
use Rattle.std.specs.List.{AllPairs}
use Rattle.pie_build.specs.Left.{IsProjectOf}
use Rattle.pie_files.specs.Directory.{Directory}
use Rattle.pie_store.specs.declared.cause.Cause.{Cause}
use Rattle.pie_store.specs.declared.cause.Cause.TheVariants as causes
use Rattle.pie_value.specs.declared.task.Task.{Task}
use Rattle.pie_incremental.specs.declared.base.Base.{Base}
use Rattle.pie_incremental.specs.Causes.{HasTooMany, IsOldTask}
use Rattle.pie_incremental.specs.Earlier.{Earlier}
use Rattle.pie_incremental.specs.Ran.{HasReason, kept_digests}
use Rattle.pie_incremental.specs.Reached.{IsReached}
use Rattle.pie_incremental.specs.Starts.{IsBase}

-- by what an earlier build left, these tasks ran each once and for a reason, and each is reached from a root
pub record RanBefore (e : Earlier) (d : Directory) (before : List Task) : Type 0 where
  pub funcs : List (List ℕ × List ℕ)
  pub roots : List Task
  pub found : IsProjectOf d funcs roots
  pub base : Base
  pub is : IsBase d base
  pub once : AllPairs (λ t u. t ≢ u) before
  pub reasons : All (HasReason e d found.functions (kept_digests d funcs base.image) funcs) before
  pub reached : All (IsReached e d found.functions roots) before

-- one of the tasks of a ring ran
pub record RanOfRing (tasks before : List Task) : Type 0 where
  pub task : Task
  pub listed : Contains tasks task
  pub ran : Contains before task

-- of the tasks that are too many, those that the earlier build didn't have ran; of those that ran, it had each other one
pub record RanOfMany (e : Earlier) (d : Directory) (old new : ℕ) (task : Task) (before : List Task) : Type 0 where
  pub many : HasTooMany e d old new task
  pub ran : All (λ t. Contains before t) many.news
  pub only : All (λ t. IsOldTask e t ⊎ Contains many.news t) before

-- the tasks that ran before a build started afresh for a cause: so they did where the cause came while it ran, and none did where it came first
abbrev pub AreBefore : Earlier → Directory → Cause → List Task → Type 0
AreBefore e d causes.Interrupted before = before ≡ []
AreBefore e d causes.NoStore before = before ≡ []
AreBefore e d (causes.Damaged fault) before = before ≡ []
AreBefore e d causes.BadPending before = before ≡ []
AreBefore e d (causes.UnionCycle tasks) before = RanBefore e d before × RanOfRing tasks before
AreBefore e d (causes.UnionMany old new task) before = RanBefore e d before × RanOfMany e d old new task before
