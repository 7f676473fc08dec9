-- What holds of the steps of a running task: each keeps it going, until it ends with the record of its evaluation.
use Rattle.std.specs.Prelude.{ℕ, suc, ◌<◌, ◌≡◌, Bool, false, Option, Some, List, [], ◌∷◌, length}
use Rattle.pie_model.specs.Paths.{Path, among}
use Rattle.pie_model.specs.Tasks.{Task, Value}
use Rattle.pie_model.specs.declared.words.Look.{Look}
use Rattle.pie_model.specs.declared.words.How.{How}
use Rattle.pie_model.specs.declared.words.Event.TheVariants.{LookAt, ListOf, Write, Require}
use Rattle.pie_model.specs.Trees.{outcome_of, is_done, HasTask}
use Rattle.pie_model.specs.declared.words.Seen.TheVariants.{Nothing, Holds}
use Rattle.pie_model.specs.declared.words.Outcome.{Outcome}
use Rattle.pie_model.specs.declared.words.Outcome.TheVariants.{Ended}
use Rattle.pie_model.specs.Seen.{visible_at}
use Rattle.pie_model.specs.Evaluation.{World, Project, listing, evaluation}
use Rattle.pie_model.specs.Records.{Record, Absent, Required, Observation, observed}
use Rattle.pie_model.specs.inner.RecordLaws.{Passes}
use Rattle.pie_model.specs.inner.Consistent.{IsSettled}
use Rattle.pie_model.specs.inner.Stack.{Frame, tasks_of}
use Rattle.pie_step_laws.specs.Frames.{begun, saw_nothing, saw_contents, has_listed, has_written, was_answered, set_aside}
use Rattle.pie_settle_laws.specs.Known.{IsKnown, AreCounted}
use Rattle.pie_settle_laws.specs.Going.{IsGoing, before_wait, AreBusy, Ends, HasLeft}

-- a scheduled task, or a root, begins alone
abbrev pub BasesBegin : Type 0
BasesBegin =
    (w : World) (P : Project) (R : Task → Option Record) (busy : Task → Bool) (t : Task) → 0 < w.most_tasks → IsGoing w P R (Passes busy) t [] (begun w t)

-- a task that is required and not counted yet begins below its requirer, if there is room for one more
abbrev pub NewTasksBegin : Type 0
NewTasksBegin =
    (w : World) (P : Project) (R : Task → Option Record) (busy : Task → Bool) (held : List Task) (base : Task) (fs : List Frame) (f : Frame) (n : ℕ)
    (h : How) (u : Task) → AreBusy (Passes busy) held (tasks_of (f ∷ fs)) → IsGoing w P R (Passes busy) base fs f → f.left ≡ suc n
    → P.next f.task f.progress.answers ≡ Require h u → among u held ≡ false → length held < w.most_tasks
    → IsGoing w P R (Passes busy) base (set_aside f n ∷ fs) (begun w u)

-- while that one runs, the requirer is as it was before, so it can be answered then
abbrev pub WaitingTasksKeepGoing : Type 0
WaitingTasksKeepGoing =
    (w : World) (P : Project) (R : Task → Option Record) (busy : Task → Bool) (base : Task) (fs : List Frame) (f : Frame) (n : ℕ)
    → IsGoing w P R (Passes busy) base fs f → f.left ≡ suc n → IsGoing w P R (Passes busy) base fs (before_wait (set_aside f n))

-- after a look that finds nothing
abbrev pub AbsentLooksKeepGoing : Type 0
AbsentLooksKeepGoing =
    (w : World) (P : Project) (R : Task → Option Record) (busy : Task → Bool) (base : Task) (fs : List Frame) (f : Frame) (n : ℕ) (l : Look) (p : Path)
    → IsGoing w P R (Passes busy) base fs f → f.left ≡ suc n → P.next f.task f.progress.answers ≡ LookAt l p
    → visible_at P.file f.progress.own f.progress.kids p ≡ Nothing → IsGoing w P R (Passes busy) base fs (saw_nothing f n l p)

-- after a look that finds contents
abbrev pub PresentLooksKeepGoing : Type 0
PresentLooksKeepGoing =
    (w : World) (P : Project) (R : Task → Option Record) (busy : Task → Bool) (base : Task) (fs : List Frame) (f : Frame) (n : ℕ) (l : Look) (p : Path)
    (b : List ℕ) (m : ℕ) → IsGoing w P R (Passes busy) base fs f → f.left ≡ suc n → P.next f.task f.progress.answers ≡ LookAt l p
    → visible_at P.file f.progress.own f.progress.kids p ≡ Holds b m → IsGoing w P R (Passes busy) base fs (saw_contents w f n l p b m)

-- after a listing
abbrev pub ListingsKeepGoing : Type 0
ListingsKeepGoing =
    (w : World) (P : Project) (R : Task → Option Record) (busy : Task → Bool) (base : Task) (fs : List Frame) (f : Frame) (n : ℕ) (d : Path)
    (es : List Path) → IsGoing w P R (Passes busy) base fs f → f.left ≡ suc n → P.next f.task f.progress.answers ≡ ListOf d
    → listing w P d ≡ Some es → IsGoing w P R (Passes busy) base fs (has_listed w f n d es)

-- after a write
abbrev pub WritesKeepGoing : Type 0
WritesKeepGoing =
    (w : World) (P : Project) (R : Task → Option Record) (busy : Task → Bool) (base : Task) (fs : List Frame) (f : Frame) (n : ℕ) (p : Path) (b : List ℕ)
    → IsGoing w P R (Passes busy) base fs f → f.left ≡ suc n → P.next f.task f.progress.answers ≡ Write p b
    → IsGoing w P R (Passes busy) base fs (has_written f n p b)

-- after a require of a settled task that ended with a value
abbrev pub AnswersKeepGoing : Type 0
AnswersKeepGoing =
    (w : World) (P : Project) (R : Task → Option Record) (busy : Task → Bool) (held : List Task) (base : Task) (fs : List Frame) (f : Frame) (n : ℕ)
    (h : How) (u : Task) (v : Value) → AreCounted w R held → AreBusy (Passes busy) held (tasks_of (f ∷ fs)) → IsGoing w P R (Passes busy) base fs f
    → f.left ≡ suc n → P.next f.task f.progress.answers ≡ Require h u → IsKnown w P R u → IsSettled R (Passes busy) u
    → outcome_of (evaluation w P u) ≡ Ended v → IsGoing w P R (Passes busy) base fs (was_answered w P f n h u v)

-- where all that was settled is, though records and busy tasks change
abbrev pub SettledKidsKeepGoing : Type 0
SettledKidsKeepGoing =
    (w : World) (P : Project) (R S : Task → Option Record) (busy busy_after : Task → Bool) (base : Task) (fs : List Frame) (f : Frame)
    → ((u : Task) → IsSettled R (Passes busy) u → IsSettled S (Passes busy_after) u) → IsGoing w P R (Passes busy) base fs f
    → IsGoing w P S (Passes busy_after) base fs f

-- a running task stands in the evaluation of its base
abbrev pub GoingTasksStand : Type 0
GoingTasksStand =
    (w : World) (P : Project) (R : Task → Option Record) (busy : Task → Bool) (base : Task) (fs : List Frame) (f : Frame)
    → IsGoing w P R (Passes busy) base fs f → HasTask f.task (evaluation w P base)

-- and so does a task that it requires
abbrev pub RequiredTasksStand : Type 0
RequiredTasksStand =
    (w : World) (P : Project) (R : Task → Option Record) (busy : Task → Bool) (base : Task) (fs : List Frame) (f : Frame) (n : ℕ) (h : How) (u : Task)
    → IsGoing w P R (Passes busy) base fs f → f.left ≡ suc n → P.next f.task f.progress.answers ≡ Require h u → HasTask u (evaluation w P base)

-- a running task that ends by itself leaves the record of its evaluation
abbrev pub GoingTasksEnd : Type 0
GoingTasksEnd =
    (w : World) (P : Project) (R : Task → Option Record) (busy : Task → Bool) (base : Task) (fs : List Frame) (f : Frame) (last : List Observation)
    (e : Outcome) → IsGoing w P R (Passes busy) base fs f → Ends w P f last e → HasLeft w P base f last e

-- and so does one that requires a settled task that ended with no value
abbrev pub GoingTasksStop : Type 0
GoingTasksStop =
    (w : World) (P : Project) (R : Task → Option Record) (busy : Task → Bool) (held : List Task) (base : Task) (fs : List Frame) (f : Frame) (n : ℕ)
    (h : How) (u : Task) (e : Outcome) → AreCounted w R held → AreBusy (Passes busy) held (tasks_of (f ∷ fs)) → IsGoing w P R (Passes busy) base fs f
    → f.left ≡ suc n → P.next f.task f.progress.answers ≡ Require h u → IsKnown w P R u → IsSettled R (Passes busy) u
    → outcome_of (evaluation w P u) ≡ e → is_done e ≡ false → HasLeft w P base f (observed (Required h u) Absent ∷ []) e
