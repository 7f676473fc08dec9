-- The stack of a build without a list: a task that runs or is checked, and those that wait, down to a root.
use Rattle.std.specs.Prelude.{ℕ, suc, ◌<◌, ◌≡◌, false, Option, List, [], ◌∷◌, ◌++◌, length}
use Rattle.pie_model.specs.Paths.{among}
use Rattle.pie_model.specs.Tasks.{Task}
use Rattle.pie_model.specs.declared.words.How.{How}
use Rattle.pie_model.specs.declared.words.Event.TheVariants.{Require}
use Rattle.pie_model.specs.Trees.{HasTask}
use Rattle.pie_model.specs.Evaluation.{evaluation}
use Rattle.pie_model.specs.Records.{Record}
use Rattle.pie_model.specs.inner.Stack.{Frame, tasks_of}
use Rattle.pie_step_laws.specs.Table.{IsTable}
use Rattle.pie_step_laws.specs.Frames.{begun, set_aside}
use Rattle.pie_settle_laws.specs.Going.{before_wait}
use Rattle.pie_topdown_laws.specs.Tables.{EndsIn}
use Rattle.pie_topdown_laws.specs.Checks.{Setting, GoesOn, AreUnderWay}

-- each frame goes on above those below it, as it was before the require for which it waits
abbrev pub AllGo : Setting → (Task → Option Record) → Task → List Frame → Type 0
AllGo x R root [] = Unit {0}
AllGo x R root (g ∷ gs) = GoesOn x R root gs (before_wait g) × AllGo x R root gs

-- a running task above those that wait, and all of them were entered and have no record
pub record IsStack (x : Setting) (R : Task → Option Record) (names : List Task) (root : Task) (fs : List Frame) (f : Frame) : Type 0 where
  pub goes : GoesOn x R root fs f
  pub below : AllGo x R root fs
  pub under_way : AreUnderWay R names (tasks_of (f ∷ fs))

-- ---- how it changes

-- a root that wasn't entered begins alone, if there is room for it
abbrev pub StacksBegin : Type 0
StacksBegin =
    (x : Setting) (R : Task → Option Record) (names : List Task) (root : Task) → IsTable x.world x.now R names → among root names ≡ false
    → length names < x.world.most_tasks → IsStack x R (names ++ root ∷ []) root [] (begun x.world root)

-- a task that wasn't entered begins above the one that requires it, which is put aside
abbrev pub StacksGrow : Type 0
StacksGrow =
    (x : Setting) (R : Task → Option Record) (names : List Task) (root : Task) (fs : List Frame) (f : Frame) (n : ℕ) (h : How) (u : Task)
    → IsTable x.world x.now R names → IsStack x R names root fs f → f.left ≡ suc n → x.now.next f.task f.progress.answers ≡ Require h u
    → among u names ≡ false → length names < x.world.most_tasks → IsStack x R (names ++ u ∷ []) root (set_aside f n ∷ fs) (begun x.world u)

-- the task on top goes on
abbrev pub StacksGoOn : Type 0
StacksGoOn =
    (x : Setting) (R : Task → Option Record) (names : List Task) (root : Task) (fs : List Frame) (f g : Frame) → IsStack x R names root fs f
    → g.task ≡ f.task → GoesOn x R root fs g → IsStack x R names root fs g

-- the task on top fails: the newest that waits is on top, as it was before its require
abbrev pub StacksFall : Type 0
StacksFall =
    (x : Setting) (R : Task → Option Record) (names : List Task) (root : Task) (fs : List Frame) (g f : Frame) → IsStack x R names root (g ∷ fs) f
    → IsStack x R names root fs (before_wait g)

-- the task on top ends with a value: so it is, with one record more
abbrev pub StacksGain : Type 0
StacksGain =
    (x : Setting) (R S : Task → Option Record) (names : List Task) (root : Task) (fs : List Frame) (g f : Frame) (r : Record)
    → IsTable x.world x.now R names → EndsIn x.world x.now R S names f.task r → IsStack x R names root (g ∷ fs) f
    → IsStack x S names root fs (before_wait g)

-- ---- what it is of

-- the task on top stands in the evaluation of the root, and so does one that it requires
abbrev pub StacksStand : Type 0
StacksStand =
    (x : Setting) (R : Task → Option Record) (names : List Task) (root : Task) (fs : List Frame) (f : Frame) → IsStack x R names root fs f
    → HasTask f.task (evaluation x.world x.now root)

abbrev pub RequiredTasksStand : Type 0
RequiredTasksStand =
    (x : Setting) (R : Task → Option Record) (names : List Task) (root : Task) (fs : List Frame) (f : Frame) (n : ℕ) (h : How) (u : Task)
    → IsStack x R names root fs f → f.left ≡ suc n → x.now.next f.task f.progress.answers ≡ Require h u → HasTask u (evaluation x.world x.now root)
