-- For which causes a build by what changed starts afresh.
use Rattle.std.specs.Prelude.{◌≡◌, ◌≢◌, ◌⊎◌, ℕ, ◌+◌, ◌-◌, ◌≤◌, true, List, [], ◌∷◌, ◌++◌, drop, take, length, map, All, None, Some, IsSome, slice_get}
use Rattle.std.specs.List.{AllPairs, Contains}
use Rattle.pie_value.specs.declared.task.Task.{Task}
use Rattle.pie_value.specs.Canonical.{enc_task, IsCanonicalTask}
use Rattle.pie_graph.specs.Numbers.{IsMarked}
use Rattle.pie_tables.specs.declared.tables.Tables.{Tables}
use Rattle.pie_types.specs.Whole.{number_from}
use Rattle.pie_types.specs.inner.WholeRules.{IsTyped}
use Rattle.pie_store.specs.declared.cause.Cause.{Cause}
use Rattle.pie_store.specs.declared.cause.Cause.TheVariants as causes
use Rattle.pie_model.specs.Paths.{among}
use Rattle.pie_model.specs.Built.{store_rows}
use Rattle.pie_model.specs.Changes.{IsTried as IsTriedNow, IsUnionEdge}
use Rattle.pie_model_pipeline.specs.World.{world}
use Rattle.pie_builder_laws.specs.Views.{AreNumbersOf}
use Rattle.pie_entering_laws.specs.inner.Laws.{HasFunction, IsRoot}
use Rattle.pie_core_laws.specs.Update.{Update, earlier, present, old_record}
use Rattle.pie_bottomup.specs.declared.state.Core.{Core}
use Rattle.pie_bottomup.specs.declared.state.First.TheVariants.{TooMany}

-- ---- rings

-- one leads by these to another: each goes to the next
abbrev pub Leads : {A : Type 0} → (A → A → Type 0) → A → List A → A → Type 0
Leads goes x [] y = goes x y
Leads goes x (z ∷ zs) y = goes x z × Leads goes z zs y

-- a ring: each goes to the next, and the last to the first
abbrev pub IsRing : {A : Type 0} → (A → A → Type 0) → List A → Type 0
IsRing goes [] = ⊥
IsRing goes (x ∷ xs) = Leads goes x xs x

-- the same ring, from another place on
pub record IsTurned (ts turned : List Task) : Type 0 where
  pub at : ℕ
  pub is : turned ≡ drop at ts ++ take at ts

-- these are the tasks with these numbers in their order, from some place on
pub record AreTurned (names : List Task) (numbers : List ℕ) (turned : List Task) : Type 0 where
  pub tasks : List Task
  pub named : AreNumbersOf names numbers tasks
  pub turns : IsTurned tasks turned

-- ---- causes

-- the old record of a task requires another, or its evaluation now does
abbrev pub HasUnionEdge : Update → Task → Task → Type 0
HasUnionEdge u t v = IsUnionEdge world (present u) (old_record u) (enc_task t) (enc_task v)

-- a task is a root, or union edges lead to it from one
pub record IsReached (u : Update) (t : Task) : Type 0 where
  pub root : Task
  pub listed : among (enc_task root) u.roots ≡ true
  pub leads : (root ≡ t) ⊎ ((between : List Task) × Leads (HasUnionEdge u) root between t)

-- a task has run
pub record HasRunAs (t : Tables) (task : Task) : Type 0 where
  pub number : ℕ
  pub named : slice_get t.names number ≡ Some task
  pub ran : IsMarked t.ran.items number

-- one of these tasks has run
pub record HasRunOne (t : Tables) (tasks : List Task) : Type 0 where
  pub task : Task
  pub listed : Contains tasks task
  pub has : HasRunAs t task

-- tasks have union edges in a ring, each is reached from a root, and one of them has run
pub record ClosesRing (u : Update) (t : Tables) (tasks : List Task) : Type 0 where
  pub ring : IsRing (HasUnionEdge u) tasks
  pub reached : All (IsReached u) tasks
  pub ran : HasRunOne t tasks

-- ---- tasks that are tried

-- the earlier build left a record of a task
abbrev pub IsOldTask : Update → Task → Type 0
IsOldTask u t = IsSome (old_record u (enc_task t))

-- a task stands in the evaluation now of an old live task or of a root
abbrev pub StandsNow : Update → Task → Type 0
StandsNow u t = IsTriedNow world (earlier u) (present u) u.old_roots u.roots (enc_task t)

-- the pipeline is typed, and the roots are tasks of its functions
pub record IsTypedUpdate (u : Update) : Type 0 where
  pub roots : List Task
  pub are : map enc_task roots ≡ u.roots
  pub typed : IsTyped u.functions
  pub all : All (IsRoot u.functions) roots

-- a task is an old one, or of a function of a typed pipeline
abbrev pub IsKnownTask : Update → Task → Type 0
IsKnownTask u t = IsOldTask u t ⊎ (IsTypedUpdate u → IsCanonicalTask t (enc_task t) → HasFunction u.functions t)

-- a task is tried: it is an old one or a root, or union edges lead to it from one; it stands in the evaluation now of an old one or of a root, and is known
pub record IsTried (u : Update) (t : Task) : Type 0 where
  pub base : Task
  pub is_base : IsOldTask u base ⊎ (among (enc_task base) u.roots ≡ true)
  pub leads : (base ≡ t) ⊎ ((between : List Task) × Leads (HasUnionEdge u) base between t)
  pub stands : StandsNow u t
  pub known : IsKnownTask u t

-- the first of these tasks, so many, are the old ones, and each is tried
pub record AreTried (u : Update) (earlier : ℕ) (names : List Task) : Type 0 where
  pub inside : earlier ≤ length names
  pub old : All (IsOldTask u) (take earlier names)
  pub all : (bytes : List ℕ) → IsSome (old_record u bytes) → among bytes (map enc_task (take earlier names)) ≡ true
  pub tried : All (IsTried u) names

-- beside an old task there are 50,000 others, each once
pub record AreManyOld (u : Update) (task : Task) : Type 0 where
  pub tasks : List Task
  pub many : length tasks ≡ 50000
  pub once : AllPairs (λ v w. v ≢ w) tasks
  pub old : All (IsOldTask u) tasks
  pub none : Contains tasks task → ⊥
  pub one : IsOldTask u task

-- no task has run
abbrev pub HasRunNone : Tables → Type 0
HasRunNone t = (v : Task) → HasRunAs t v → ⊥

-- a task has run, or is of no function of the pipeline
abbrev pub HasRunIfKnown : Update → Tables → Task → Type 0
HasRunIfKnown u t task = HasRunAs t task ⊎ (number_from 0 u.functions task ≡ None)

-- beside a task these are 50,000 others, each once, so many old ones, and so many that came, which are of functions of a typed pipeline; all are tried
pub record AreThese (u : Update) (old new : ℕ) (task : Task) (olds news : List Task) : Type 0 where
  pub left : length olds ≡ old
  pub came : length news ≡ new
  pub full : old + new ≡ 50000
  pub once : AllPairs (λ v w. v ≢ w) (olds ++ news)
  pub are_old : All (IsOldTask u) olds
  pub are_new : All (λ v. IsOldTask u v → ⊥) news
  pub known : IsTypedUpdate u → All (HasFunction u.functions) news
  pub tried : All (IsTried u) (olds ++ news)
  pub none : Contains (olds ++ news) task → ⊥
  pub one : IsTried u task

-- there are such tasks, those that came have run, and no others that aren't old
pub record AreTooMany (u : Update) (t : Tables) (old new : ℕ) (task : Task) : Type 0 where
  pub olds : List Task
  pub news : List Task
  pub these : AreThese u old new task olds news
  pub ran : All (HasRunIfKnown u t) news
  pub only : (v : Task) → HasRunAs t v → IsOldTask u v ⊎ Contains news v

-- ---- which cause holds

-- how many tasks the earlier build left records of
abbrev pub count_old : Update → ℕ
count_old u = length (store_rows world (earlier u) u.old_roots)

-- a build has as many tasks as may be: so many old ones, and so many that came; this one has no number
pub record HasAllTasks (u : Update) (c : Core) (old new : ℕ) (t : Task) : Type 0 where
  pub many : length c.frames.walk.rows ≡ 50000
  pub left : old ≡ count_old u
  pub came : new ≡ 50000 - count_old u
  pub none : Contains c.tables.names t → ⊥

-- there were more old tasks than may be, and this one was past the limit
pub record HadTooMany (c : Core) (old new : ℕ) (t : Task) : Type 0 where
  pub first : c.first ≡ TooMany t
  pub all : old ≡ 50000
  pub none : new ≡ 0

-- a build starts afresh where tasks have union edges in a ring, each reached from a root, or where there are too many that are tried
abbrev pub IsCauseOf : Update → Core → Cause → Type 0
IsCauseOf u c causes.Interrupted = ⊥
IsCauseOf u c causes.NoStore = ⊥
IsCauseOf u c (causes.Damaged fault) = ⊥
IsCauseOf u c causes.BadPending = ⊥
IsCauseOf u c (causes.UnionCycle tasks) = ClosesRing u c.tables tasks
IsCauseOf u c (causes.UnionMany old new task) = (HasAllTasks u c old new task ⊎ HadTooMany c old new task) × AreTooMany u c.tables old new task
