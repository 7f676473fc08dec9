-- For which cause a build by what changed starts afresh.
use Rattle.std.specs.Prelude.{◌≡◌, ◌≢◌, ◌⊎◌, ℕ, ◌+◌, ◌-◌, true, List, [], ◌∷◌, ◌++◌, length, map, All, Contains, IsSome}
use Rattle.std.specs.List.{AllPairs}
use Rattle.pie_build.specs.Left.{IsProjectOf}
use Rattle.pie_files.specs.Directory.{Directory}
use Rattle.pie_model.specs.Paths.{among}
use Rattle.pie_model.specs.Changes.{IsTried as StandsInTried}
use Rattle.pie_model_pipeline.specs.World.{world, project}
use Rattle.pie_parser.specs.FunctionTrees.{FunctionTree}
use Rattle.pie_store.specs.declared.cause.Cause.{Cause}
use Rattle.pie_store.specs.declared.cause.Cause.TheVariants as causes
use Rattle.pie_value.specs.Canonical.{enc_task}
use Rattle.pie_value.specs.declared.task.Task.{Task}
use Rattle.pie_incremental.specs.Earlier.{Earlier}
use Rattle.pie_incremental.specs.Ran.{earlier_record, earlier_rows}
use Rattle.pie_incremental.specs.Reached.{HasUnionEdge, IsReached, Leads}
use Rattle.pie_incremental.specs.Starts.{IsCause}

-- a ring: each goes to the next, and the last to the first
abbrev pub IsRing : (Task → Task → Type 0) → List Task → Type 0
IsRing goes [] = ⊥
IsRing goes (t ∷ tasks) = Leads goes t tasks t

-- of these tasks, by the project of the directory, each requires the next, and the last the first; each is reached from a root
pub record HasRing (e : Earlier) (d : Directory) (tasks : List Task) : Type 0 where
  pub funcs : List (List ℕ × List ℕ)
  pub roots : List Task
  pub found : IsProjectOf d funcs roots
  pub ring : IsRing (HasUnionEdge e d found.functions) tasks
  pub reached : All (IsReached e d found.functions roots) tasks

-- the earlier build has a record of a task
abbrev pub IsOldTask : Earlier → Task → Type 0
IsOldTask e t = IsSome (earlier_record e t)

-- a task stands in the evaluation, by these functions in the directory, of a live task of the earlier build or of one of these roots
abbrev pub StandsNow : Earlier → Directory → List FunctionTree → List Task → Task → Type 0
StandsNow e d fs roots t =
    StandsInTried world (project e.found.functions e.built) (project fs d) (map enc_task e.roots) (map enc_task roots) (enc_task t)

-- a task is tried: it is an old one or a root, or tasks lead to it from one, of which each requires the next, then or now; and it stands in the evaluation now
-- of an old one or a root
pub record IsTried (e : Earlier) (d : Directory) (fs : List FunctionTree) (roots : List Task) (t : Task) : Type 0 where
  pub base : Task
  pub is_base : IsOldTask e base ⊎ (among (enc_task base) (map enc_task roots) ≡ true)
  pub leads : (base ≡ t) ⊎ ((between : List Task) × Leads (HasUnionEdge e d fs) base between t)
  pub stands : StandsNow e d fs roots t

-- beside a task these are 50,000 others, each once, so many old ones, and so many that aren't; all are tried
pub record AreThese (e : Earlier) (d : Directory) (fs : List FunctionTree) (roots : List Task) (old new : ℕ) (task : Task) (olds news : List Task)
    : Type 0 where
  pub left : length olds ≡ old
  pub came : length news ≡ new
  pub full : old + new ≡ 50000
  pub once : AllPairs (λ t u. t ≢ u) (olds ++ news)
  pub are_old : All (IsOldTask e) olds
  pub are_new : All (λ t. ¬ (IsOldTask e t)) news
  pub tried : All (IsTried e d fs roots) (olds ++ news)
  pub none : ¬ (Contains (olds ++ news) task)
  pub one : IsTried e d fs roots task

-- so it is by the project of the directory: more than 50,000 tasks are tried
pub record HasTooMany (e : Earlier) (d : Directory) (old new : ℕ) (task : Task) : Type 0 where
  pub funcs : List (List ℕ × List ℕ)
  pub roots : List Task
  pub found : IsProjectOf d funcs roots
  pub olds : List Task
  pub news : List Task
  pub these : AreThese e d found.functions roots old new task olds news

-- how many tasks the store of the earlier build has
abbrev pub count_earlier : Earlier → ℕ
count_earlier e = length (earlier_rows e)

-- how many tasks are told: those in the store of the earlier build, and the others of 50,000, or 50,000 and none
abbrev pub AreCounts : Earlier → ℕ → ℕ → Type 0
AreCounts e old new = ((old ≡ count_earlier e) × (new ≡ 50000 - count_earlier e)) ⊎ ((old ≡ 50000) × (new ≡ 0))

-- a cause holds: it is the first one that holds of the directory; old and new requires close this cycle; or more than 50,000 tasks are tried, so many of them
-- old and so many not
abbrev pub IsCauseFor : Earlier → Directory → Cause → Type 0
IsCauseFor e d causes.Interrupted = IsCause d causes.Interrupted
IsCauseFor e d causes.NoStore = IsCause d causes.NoStore
IsCauseFor e d (causes.Damaged fault) = IsCause d (causes.Damaged fault)
IsCauseFor e d causes.BadPending = IsCause d causes.BadPending
IsCauseFor e d (causes.UnionCycle tasks) = HasRing e d tasks
IsCauseFor e d (causes.UnionMany old new task) = AreCounts e old new × HasTooMany e d old new task
