-- A task that runs in a build by what changed: it stands at the front of its evaluation alone, and also below the new tasks that wait for it.
use Rattle.std.specs.Prelude.{ℕ, suc, ◌-◌, ◌≡◌, true, Option, None, List, [], ◌∷◌, ◌++◌, length, map}
use Rattle.pie_model.specs.Paths.{Path, among}
use Rattle.pie_model.specs.Tasks.{Task, Value}
use Rattle.pie_model.specs.declared.words.Look.{Look}
use Rattle.pie_model.specs.declared.words.FaultKind.{FaultKind}
use Rattle.pie_model.specs.declared.words.FaultKind.TheVariants.{Clash, Budget, Big}
use Rattle.pie_model.specs.declared.words.Event.TheVariants.{Done, Fail, LookAt, ListOf}
use Rattle.pie_model.specs.Trees.{trace_of, writes_of, is_plain, StandsIn}
use Rattle.pie_model.specs.declared.words.Seen.TheVariants.{Clashing}
use Rattle.pie_model.specs.declared.words.Outcome.{Outcome}
use Rattle.pie_model.specs.declared.words.Outcome.TheVariants.{Ended, Failed}
use Rattle.pie_model.specs.Seen.{visible_at}
use Rattle.pie_model.specs.Evaluation.{World, Project, listing, evaluation}
use Rattle.pie_model.specs.Records.{Record, Absent, Looked, Listed, Observation, observed, record_of, hashed, needs_of}
use Rattle.pie_model.specs.inner.Consistent.{IsSettled}
use Rattle.pie_model.specs.Running.{IsRunning, IsDistinct}
use Rattle.pie_model.specs.inner.Stack.{Frame, tasks_of, IsWaiting}
use Rattle.pie_step_laws.specs.Frames.{gone_on}

-- `f` runs above the new tasks `fs` that wait for it, the newest first, down to `base`, which was scheduled or is a root:
-- it is at the front of its evaluation below them and alone, and what it required so far is settled
pub record IsGoing (w : World) (P : Project) (R : Task → Option Record) (busy : Task → Type 0) (base : Task) (fs : List Frame) (f : Frame) : Type 0 where
  pub waits : IsWaiting w P base fs f.task
  -- so many tasks may still stand one below the other under it
  pub room : ℕ
  pub is_room : w.most_tasks - length (tasks_of fs) ≡ suc room
  pub runs : IsRunning w P room (tasks_of fs) f.task f.left f.progress f.seen
  -- and so many with nothing above it
  pub whole_room : ℕ
  pub is_whole_room : w.most_tasks ≡ suc whole_room
  pub alone : IsRunning w P whole_room [] f.task f.left f.progress f.seen
  -- it has the evaluations of what it required so far, and these are settled
  pub kids : f.progress.kids ≡ map (evaluation w P) (needs_of f.seen)
  pub settled : (u : Task) → among u (needs_of f.seen) ≡ true → IsSettled R busy u
  -- no task stands twice among these
  pub once : IsDistinct (tasks_of (f ∷ fs))

-- a waiting frame as it was before the require for which it waits
abbrev pub before_wait : Frame → Frame
before_wait g = gone_on g g.progress g.seen (suc g.left)

-- the tasks that run are busy and counted
pub record AreBusy (busy : Task → Type 0) (held : List Task) (ts : List Task) : Type 0 where
  pub each : (t : Task) → among t ts ≡ true → busy t
  pub counted : (t : Task) → among t ts ≡ true → among t held ≡ true

-- how a running task ends by itself: what it observed last, and its outcome
pub data Ends (w : World) (P : Project) (f : Frame) : List Observation → Outcome → Type 0 where
  with_value : (n : ℕ) (v : Value) → f.left ≡ suc n → P.next f.task f.progress.answers ≡ Done v → Ends w P f [] (Ended v)
  failing : (n : ℕ) (k : FaultKind) → f.left ≡ suc n → P.next f.task f.progress.answers ≡ Fail k → Ends w P f [] (Failed f.task k)
  clashing : (n : ℕ) (l : Look) (p : Path) → f.left ≡ suc n → P.next f.task f.progress.answers ≡ LookAt l p
      → visible_at P.file f.progress.own f.progress.kids p ≡ Clashing → Ends w P f (observed (Looked l p) Absent ∷ []) (Failed f.task Clash)
  listing_too_much : (n : ℕ) (d : Path) → f.left ≡ suc n → P.next f.task f.progress.answers ≡ ListOf d → listing w P d ≡ None
      → Ends w P f (observed (Listed d) Absent ∷ []) (Failed f.task Big)
  without_events : f.left ≡ 0 → Ends w P f [] (Failed f.task Budget)

-- a frame's task has ended so: this is the record of its evaluation, with what it wrote, and the evaluation stands in the base's
pub record HasLeft (w : World) (P : Project) (base : Task) (f : Frame) (last : List Observation) (e : Outcome) : Type 0 where
  pub is : record_of w (evaluation w P f.task) ≡ record { task = f.task; observations = f.seen ++ last; writes = hashed w f.progress.own; outcome = e }
  pub wrote : writes_of (trace_of (evaluation w P f.task)) ≡ f.progress.own
  pub stands : is_plain e ≡ true → StandsIn (evaluation w P f.task) (evaluation w P base)
