-- A task of which an old record is held against what is there now: its run in the earlier project and its run now go side by side.
use Rattle.std.specs.Prelude.{ℕ, suc, ◌≡◌, true, Some, List, [], ◌∷◌}
use Rattle.pie_model.specs.Paths.{Path}
use Rattle.pie_model.specs.Tasks.{Task, Value}
use Rattle.pie_model.specs.declared.words.Look.{Look}
use Rattle.pie_model.specs.declared.words.How.{How}
use Rattle.pie_model.specs.declared.words.Event.{Event}
use Rattle.pie_model.specs.declared.words.Event.TheVariants.{Done, LookAt, ListOf, Write, Require}
use Rattle.pie_model.specs.Trees.{is_done, outcome_of}
use Rattle.pie_model.specs.declared.words.Seen.TheVariants.{Nothing, Holds}
use Rattle.pie_model.specs.declared.words.Outcome.{Outcome}
use Rattle.pie_model.specs.declared.words.Outcome.TheVariants.{Ended}
use Rattle.pie_model.specs.Seen.{visible_at}
use Rattle.pie_model.specs.Evaluation.{World, Project, Progress, listing, evaluation}
use Rattle.pie_model.specs.Records.{Query, Looked, Listed, Required, Observation, Record, record_of, observations_of}
use Rattle.pie_model.specs.Running.{rest_of_run, IsRunning}
use Rattle.pie_model.specs.Separate.{AllMet}
use Rattle.pie_model.specs.inner.Stack.{Frame}
use Rattle.pie_step_laws.specs.Frames.{saw_nothing, saw_contents, has_listed, has_written, was_answered}

-- the event that asks a query
abbrev pub asking : Query → Event
asking (Looked l p) = LookAt l p
asking (Listed d) = ListOf d
asking (Required h u) = Require h u

-- a frame asks next what was observed first of these, or, where nothing was, ends so
abbrev pub AsksNext : Project → Frame → List Observation → Outcome → Type 0
AsksNext P f [] e = (v : Value) × (e ≡ Ended v) × (P.next f.task f.progress.answers ≡ Done v)
AsksNext P f (o ∷ os) e = P.next f.task f.progress.answers ≡ asking o.query

-- and has an event left for that
pub record IsAsking (P : Project) (f : Frame) (rest : List Observation) (e : Outcome) : Type 0 where
  pub left : ℕ
  pub is_left : f.left ≡ suc left
  pub next : AsksNext P f rest e

-- a frame writes, some times, and is then the other
pub data Writes (P : Project) (to : Frame) : Frame → Type 0 where
  no_more : Writes P to to
  once_more : {f : Frame} (n : ℕ) (p : Path) (b : List ℕ) → f.left ≡ suc n → P.next f.task f.progress.answers ≡ Write p b
      → Writes P to (has_written f n p b) → Writes P to f

-- a frame observes something, and is then the other; a required task has its evaluation with nothing above
pub data Observes (w : World) (P : Project) (f : Frame) : Frame → Type 0 where
  nothing : (n : ℕ) (l : Look) (p : Path) → f.left ≡ suc n → P.next f.task f.progress.answers ≡ LookAt l p
      → visible_at P.file f.progress.own f.progress.kids p ≡ Nothing → Observes w P f (saw_nothing f n l p)
  contents : (n : ℕ) (l : Look) (p : Path) (b : List ℕ) (m : ℕ) → f.left ≡ suc n → P.next f.task f.progress.answers ≡ LookAt l p
      → visible_at P.file f.progress.own f.progress.kids p ≡ Holds b m → Observes w P f (saw_contents w f n l p b m)
  entries : (n : ℕ) (d : Path) (es : List Path) → f.left ≡ suc n → P.next f.task f.progress.answers ≡ ListOf d → listing w P d ≡ Some es
      → Observes w P f (has_listed w f n d es)
  output : (n : ℕ) (h : How) (u : Task) (v : Value) → f.left ≡ suc n → P.next f.task f.progress.answers ≡ Require h u
      → outcome_of (evaluation w P u) ≡ Ended v → Observes w P f (was_answered w P f n h u v)

-- a record that an earlier project gave a task, which ended with a value: the run then has come as far as this frame now, below these tasks;
-- these observations of the record come next, and what both runs still meet is met
pub record IsBeside (w : World) (before now : Project) (Met : List ℕ → Type 0) (room : ℕ) (above : List Task) (r : Record) (f : Frame)
    (rest : List Observation) : Type 0 where
  pub was : r ≡ record_of w (evaluation w before f.task)
  pub done : is_done r.outcome ≡ true
  pub old_room : ℕ
  pub is_old_room : w.most_tasks ≡ suc old_room
  pub progress : Progress
  pub ran : IsRunning w before old_room [] f.task f.left progress f.seen
  pub comes : observations_of w (rest_of_run w before old_room [] f.task f.left progress) ≡ rest
  -- the two were answered alike, and wrote the same
  pub answers : progress.answers ≡ f.progress.answers
  pub own : progress.own ≡ f.progress.own
  pub met_then : AllMet w Met (rest_of_run w before old_room [] f.task f.left progress)
  pub met_now : AllMet w Met (rest_of_run w now room above f.task f.left f.progress)
