-- The record of an evaluation: each observation with its stamp, the writes with their hashes, and the outcome.
use Rattle.std.specs.Prelude.{ℕ, Option, Some, None, List, [], ◌∷◌, ◌++◌}
use Rattle.pie_model.specs.Paths.{Path, Kind, Out, Kept, Source, kind_of}
use Rattle.pie_model.specs.Tasks.{Task, Look, Exists, ByHash, ByMark, Digest, How, Whole, Hashed, Ran}
use Rattle.pie_model.specs.Trees.{Node, Trace, ends, looks, lists, writes, needs, Seen, Nothing, Holds, Clashing, Outcome, Ended, Failed, Cycled, Many}
use Rattle.pie_model.specs.Trees.{outcome_of, task_of, trace_of, writes_of}
use Rattle.pie_model.specs.Evaluation.{World}

-- what is kept of an answer, to be compared later
pub data Stamp : Type 0 where
  Absent Present : Stamp
  Hash : List ℕ → Stamp
  Mark : ℕ → Stamp
  WholeValue : List ℕ → Stamp
  Success : Stamp

-- what was asked: a look at a path, the listing of a directory, or another task
pub data Query : Type 0 where
  Looked : Look → Path → Query
  Listed : Path → Query
  Required : How → Task → Query

-- what was asked, with the stamp of the answer
pub record Observation : Type 0 where
  pub query : Query
  pub stamp : Stamp

-- what is kept of an evaluation
pub record Record : Type 0 where
  pub task : Task
  pub observations : List Observation
  pub writes : List (Path × List ℕ)
  pub outcome : Outcome

-- the stamp of contents looked at by mark: the mark at a source path, and else the hash
abbrev pub mark_stamp : World → Kind → List ℕ → ℕ → Stamp
mark_stamp w Source b m = Mark m
mark_stamp w Out b m = Hash (w.hash b)
mark_stamp w Kept b m = Hash (w.hash b)

-- the stamp of a look at contents with a mark
abbrev pub contents_stamp : World → Path → List ℕ → ℕ → Look → Stamp
contents_stamp w p b m Exists = Present
contents_stamp w p b m ByHash = Hash (w.hash b)
contents_stamp w p b m ByMark = mark_stamp w (kind_of p) b m
contents_stamp w p b m Digest = Hash (w.hash b)

-- the stamp of what a look found; a clash is never compared
abbrev pub look_stamp : World → Look → Path → Seen → Stamp
look_stamp w l p Nothing = Absent
look_stamp w l p (Holds b m) = contents_stamp w p b m l
look_stamp w l p Clashing = Absent

-- the stamp of a listing; one that was too big is never compared
abbrev pub listing_stamp : World → Option (List Path) → Stamp
listing_stamp w None = Absent
listing_stamp w (Some es) = Hash (w.hash (w.listing_bytes es))

-- the stamp of a value that a required task ended with
abbrev pub value_stamp : World → List ℕ → How → Stamp
value_stamp w v Whole = WholeValue v
value_stamp w v Hashed = Hash (w.hash v)
value_stamp w v Ran = Success

-- the stamp of a required task's outcome; one that is no value is never compared
abbrev pub outcome_stamp : World → How → Outcome → Stamp
outcome_stamp w h (Ended v) = value_stamp w v h
outcome_stamp w h (Failed t k) = Absent
outcome_stamp w h (Cycled ts) = Absent
outcome_stamp w h Many = Absent

-- an observation
abbrev pub observed : Query → Stamp → Observation
observed q s = record { query = q; stamp = s }

-- the observations of a trace, in order, repeats included
abbrev pub observations_of : World → Trace → List Observation
observations_of w (ends e) = []
observations_of w (looks l p s k) = observed (Looked l p) (look_stamp w l p s) ∷ observations_of w k
observations_of w (lists d es k) = observed (Listed d) (listing_stamp w es) ∷ observations_of w k
observations_of w (writes p b k) = observations_of w k
observations_of w (needs h u n k) = observed (Required h u) (outcome_stamp w h (outcome_of n)) ∷ observations_of w k

-- writes with the hashes of their contents
abbrev pub hashed : World → List (Path × List ℕ) → List (Path × List ℕ)
hashed w [] = []
hashed w (x ∷ xs) = (x.0, w.hash x.1) ∷ hashed w xs

-- the record of an evaluation
abbrev pub record_of : World → Node → Record
record_of w n = record { task = task_of n; observations = observations_of w (trace_of n); writes = hashed w (writes_of (trace_of n)); outcome = outcome_of n }

-- the task that a query requires
abbrev pub task_asked : Query → List Task
task_asked (Looked l p) = []
task_asked (Listed d) = []
task_asked (Required h u) = u ∷ []

-- the tasks that a record requires, in order
abbrev pub needs_of : List Observation → List Task
needs_of [] = []
needs_of (o ∷ os) = task_asked o.query ++ needs_of os
