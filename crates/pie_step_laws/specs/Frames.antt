-- A frame of the stack before its first event and after each kind of event.
use Rattle.std.specs.Prelude.{ℕ, ◌≡◌, true, Option, List, [], ◌∷◌, ◌++◌, map}
use Rattle.pie_model.specs.Paths.{Path, among}
use Rattle.pie_model.specs.Tasks.{Task, Value}
use Rattle.pie_model.specs.declared.words.Look.{Look}
use Rattle.pie_model.specs.declared.words.How.{How}
use Rattle.pie_model.specs.declared.words.Answer.TheVariants.{Entries}
use Rattle.pie_model.specs.declared.words.Outcome.TheVariants.{Ended}
use Rattle.pie_model.specs.Evaluation.{World, Project, Progress, start, answered, wrote, required, absent_answer, present_answer, output_answer, evaluation}
use Rattle.pie_model.specs.Records.{Record, Absent, Hash, Looked, Listed, Required, Observation, observed, contents_stamp, value_stamp, hashed, needs_of}
use Rattle.pie_model.specs.inner.Consistent.{IsRecorded}
use Rattle.pie_model.specs.inner.Stack.{Frame}

-- a task before its first event
abbrev pub begun : World → Task → Frame
begun w t = record { task = t; progress = start; seen = []; left = w.most_events }

-- a frame that has come so far, with these observations, and so many events left
abbrev pub gone_on : Frame → Progress → List Observation → ℕ → Frame
gone_on f g seen n = record { task = f.task; progress = g; seen = seen; left = n }

-- after a look that found nothing
abbrev pub saw_nothing : Frame → ℕ → Look → Path → Frame
saw_nothing f n l p = gone_on f (answered f.progress (absent_answer l)) (f.seen ++ observed (Looked l p) Absent ∷ []) n

-- after a look that found these contents with this mark
abbrev pub saw_contents : World → Frame → ℕ → Look → Path → List ℕ → ℕ → Frame
saw_contents w f n l p b m =
    gone_on f (answered f.progress (present_answer w b l)) (f.seen ++ observed (Looked l p) (contents_stamp w p b m l) ∷ []) n

-- after a listing
abbrev pub has_listed : World → Frame → ℕ → Path → List Path → Frame
has_listed w f n d es = gone_on f (answered f.progress (Entries es)) (f.seen ++ observed (Listed d) (Hash (w.hash (w.listing_bytes es))) ∷ []) n

-- after a write
abbrev pub has_written : Frame → ℕ → Path → List ℕ → Frame
has_written f n p b = gone_on f (wrote f.progress p b) f.seen n

-- after a require whose task ended with this value
abbrev pub was_answered : World → Project → Frame → ℕ → How → Task → Value → Frame
was_answered w P f n h u v =
    gone_on f (required f.progress (evaluation w P u) (output_answer v h)) (f.seen ++ observed (Required h u) (value_stamp w v h) ∷ []) n

-- while it waits for a required task: the require counts as an event
abbrev pub set_aside : Frame → ℕ → Frame
set_aside f n = gone_on f f.progress f.seen n

-- the record that a frame leaves once it ended with this value
abbrev pub record_left : World → Frame → Value → Record
record_left w f v = record { task = f.task; observations = f.seen; writes = hashed w f.progress.own; outcome = Ended v }

-- a frame has the evaluations of the tasks that it required so far, and these are recorded
pub record HasItsKids (w : World) (P : Project) (R : Task → Option Record) (f : Frame) : Type 0 where
  pub kids : f.progress.kids ≡ map (evaluation w P) (needs_of f.seen)
  pub recorded : (u : Task) → among u (needs_of f.seen) ≡ true → IsRecorded R u

-- and so has each of these
abbrev pub HaveTheirKids : World → Project → (Task → Option Record) → List Frame → Type 0
HaveTheirKids w P R [] = Unit {0}
HaveTheirKids w P R (f ∷ fs) = HasItsKids w P R f × HaveTheirKids w P R fs
