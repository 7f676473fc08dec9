-- The evaluation of a task: a tree in which every required task is evaluated again.
use Rattle.std.specs.Prelude.{ℕ, zero, suc, ◌-◌, leb, Bool, true, false, cond, Option, Some, None, List, [], ◌∷◌, ◌++◌, length, bytes_eq}
use Rattle.pie_model.specs.Paths.{Path, among}
use Rattle.pie_model.specs.Tasks.{Task, Value, Look, Exists, ByHash, ByMark, Digest, How, Whole, Hashed, Ran, Clash, Budget, Big, Answer, Flag, Contents}
use Rattle.pie_model.specs.Tasks.{HashOf, Entries, Wrote, Output, Succeeded, Event, Done, Fail, LookAt, ListOf, Write, Require}
use Rattle.pie_model.specs.Trees.{Node, node, Trace, ends, looks, lists, writes, needs, Seen, Nothing, Holds, Clashing, Outcome, Ended, Failed, Cycled, Many}
use Rattle.pie_model.specs.Trees.{outcome_of}
use Rattle.pie_model.specs.Seen.{visible_at}

-- what is the same for all builds: the hash of contents, the canonical bytes of a listing, and the limits
pub record World : Type 0 where
  pub hash : List ℕ → List ℕ
  pub listing_bytes : List Path → List ℕ
  pub most_bytes : ℕ
  pub most_tasks : ℕ
  pub most_events : ℕ

-- what a build starts from: what each task does next after these answers, the source files with their marks, and the entries of directories
pub record Project : Type 0 where
  pub next : Task → List Answer → Event
  pub file : Path → Option (List ℕ × ℕ)
  pub entries : Path → List Path

-- how far a task has come: what it was answered, what it wrote, and the evaluations of what it required
pub record Progress : Type 0 where
  pub answers : List Answer
  pub own : List (Path × List ℕ)
  pub kids : List Node

-- before the first event
abbrev pub start : Progress
start = record { answers = []; own = []; kids = [] }

-- one more answer
abbrev pub answered : Progress → Answer → Progress
answered g a = record { answers = g.answers ++ a ∷ []; own = g.own; kids = g.kids }

-- one more write
abbrev pub wrote : Progress → Path → List ℕ → Progress
wrote g p b = record { answers = g.answers ++ Wrote ∷ []; own = g.own ++ (p, b) ∷ []; kids = g.kids }

-- one more required task
abbrev pub required : Progress → Node → Answer → Progress
required g n a = record { answers = g.answers ++ a ∷ []; own = g.own; kids = g.kids ++ n ∷ [] }

-- the answer of a look where nothing is there
abbrev pub absent_answer : Look → Answer
absent_answer Exists = Flag false
absent_answer ByHash = Contents None
absent_answer ByMark = Contents None
absent_answer Digest = HashOf None

-- the answer of a look at these contents
abbrev pub present_answer : World → List ℕ → Look → Answer
present_answer w b Exists = Flag true
present_answer w b ByHash = Contents (Some b)
present_answer w b ByMark = Contents (Some b)
present_answer w b Digest = HashOf (Some (w.hash b))

-- the answer of a require whose task ended with this value
abbrev pub output_answer : Value → How → Answer
output_answer v Whole = Output v
output_answer v Hashed = Output v
output_answer v Ran = Succeeded

-- a listing, where its canonical bytes keep the limit
abbrev pub within_limit : Bool → List Path → Option (List Path)
within_limit true es = Some es
within_limit false es = None

-- the entries that a task is told, unless they are too many
abbrev pub listing : World → Project → Path → Option (List Path)
listing w P d = within_limit (leb (length (w.listing_bytes (P.entries d))) w.most_bytes) (P.entries d)

-- after a look: a clash ends the task, and else it goes on with the answer
abbrev pub on_seen : World → Task → Look → Path → Progress → (Progress → Trace) → Seen → Trace
on_seen w t l p g go Nothing = looks l p Nothing (go (answered g (absent_answer l)))
on_seen w t l p g go (Holds b m) = looks l p (Holds b m) (go (answered g (present_answer w b l)))
on_seen w t l p g go Clashing = looks l p Clashing (ends (Failed t Clash))

-- after a listing: one that is too big ends the task
abbrev pub on_listing : Task → Path → Progress → (Progress → Trace) → Option (List Path) → Trace
on_listing t d g go None = lists d None (ends (Failed t Big))
on_listing t d g go (Some es) = lists d (Some es) (go (answered g (Entries es)))

-- after a require: a task that did not end with a value gives its outcome to the one that required it
abbrev pub on_outcome : How → Progress → Node → (Progress → Trace) → Outcome → Trace
on_outcome h g n go (Ended v) = go (required g n (output_answer v h))
on_outcome h g n go (Failed t k) = ends (Failed t k)
on_outcome h g n go (Cycled ts) = ends (Cycled ts)
on_outcome h g n go Many = ends Many

-- one event, given how required tasks are evaluated and how the task goes on
abbrev pub on_event : World → Project → (Task → Node) → Task → Progress → (Progress → Trace) → Event → Trace
on_event w P child t g go (Done v) = ends (Ended v)
on_event w P child t g go (Fail k) = ends (Failed t k)
on_event w P child t g go (LookAt l p) = on_seen w t l p g go (visible_at P.file g.own g.kids p)
on_event w P child t g go (ListOf d) = on_listing t d g go (listing w P d)
on_event w P child t g go (Write p b) = writes p b (go (wrote g p b))
on_event w P child t g go (Require h u) = needs h u (child u) (on_outcome h g (child u) go (outcome_of (child u)))

-- what a task does from here on, with at most so many events
abbrev pub follow : World → Project → (Task → Node) → Task → ℕ → Progress → Trace
follow w P child t zero g = ends (Failed t Budget)
follow w P child t (suc n) g = on_event w P child t g (follow w P child t n) (P.next t g.answers)

-- the tasks from one that is required again to the one that requires it, where those above stand with the newest first
abbrev pub round : Task → List Task → List Task → List Task
round t [] found = found
round t (a ∷ above) found = cond (bytes_eq t a) (a ∷ found) (round t above (a ∷ found))

-- the evaluation of a task below these, with the newest first, where at most so many tasks may stand one below the other
abbrev pub evaluation_with : ℕ → World → Project → List Task → Task → Node
evaluation_with zero w P above t = node t (ends (cond (among t above) (Cycled (round t above [])) Many))
evaluation_with (suc n) w P above t =
    node t (cond (among t above) (ends (Cycled (round t above []))) (follow w P (evaluation_with n w P (t ∷ above)) t w.most_events start))

-- the evaluation of a task below these
abbrev pub evaluation_under : World → Project → List Task → Task → Node
evaluation_under w P above t = evaluation_with (w.most_tasks - length above) w P above t

-- the evaluation of a task with nothing above it
abbrev pub evaluation : World → Project → Task → Node
evaluation w P t = evaluation_under w P [] t
