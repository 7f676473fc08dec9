-- The stamp that an observation of a record would get now.
use Rattle.std.specs.Prelude.{ℕ, ◌≡◌, Option, Some, None, List, [], ◌∷◌, ◌++◌, map}
use Rattle.pie_model.specs.Paths.{Path, Kind, Out, Kept, Source, kind_of}
use Rattle.pie_model.specs.Tasks.{Task, Look, Exists, ByHash, ByMark, Digest, How}
use Rattle.pie_model.specs.Trees.{Outcome, Ended, Failed, Cycled, Many, outcome_of, Seen, Nothing, Holds, Clashing}
use Rattle.pie_model.specs.Seen.{provided, first_write, seen_file}
use Rattle.pie_model.specs.Evaluation.{World, Project, listing, evaluation}
use Rattle.pie_model.specs.Records.{Stamp, Absent, Present, Hash, Query, Looked, Listed, Required, Observation, Record, look_stamp, value_stamp, listing_stamp}

-- what is told of a path under `out`: no task wrote it, one task with contents of this hash, or two distinct tasks
pub data Told : Type 0 where
  Untold : Told
  ToldHash : List ℕ → Told
  ToldClash : Told

-- what is told where this is seen
abbrev pub told_of : World → Seen → Told
told_of w Nothing = Untold
told_of w (Holds b m) = ToldHash (w.hash b)
told_of w Clashing = ToldClash

-- how tasks end, and what some required tasks provide at a path
pub record Teller : Type 0 where
  pub end : Task → Outcome
  pub told : List Task → Path → Told

-- told by evaluation
abbrev pub by_evaluation : World → Project → Teller
by_evaluation w P = record {
  end = λ u. outcome_of (evaluation w P u);
  told = λ us p. told_of w (provided (map (evaluation w P) us) p);
}

-- the outcome in a record, and too long a chain where there is no record
abbrev pub recorded_outcome : Option Record → Outcome
recorded_outcome None = Many
recorded_outcome (Some r) = r.outcome

-- told by a set of records
abbrev pub by_records : (Task → Option Record) → (List Task → Path → Told) → Teller
by_records R told = record { end = λ u. recorded_outcome (R u); told = told }

-- the stamp of provided contents with this hash
abbrev pub hash_stamp : List ℕ → Look → Stamp
hash_stamp h Exists = Present
hash_stamp h ByHash = Hash h
hash_stamp h ByMark = Hash h
hash_stamp h Digest = Hash h

-- the stamp of what is told; a clash differs from every stamp
abbrev pub told_stamp : Look → Told → Option Stamp
told_stamp l Untold = Some Absent
told_stamp l (ToldHash h) = Some (hash_stamp h l)
told_stamp l ToldClash = None

-- the record's own write first, and else what is told
abbrev pub own_told : Option (List ℕ) → Told → Told
own_told (Some h) s = ToldHash h
own_told None s = s

-- the stamp now of a look at a path of this kind
abbrev pub look_now : World → Project → Teller → List (Path × List ℕ) → List Task → Look → Path → Kind → Option Stamp
look_now w P by own before l p Out = told_stamp l (own_told (first_write p own) (by.told before p))
look_now w P by own before l p Kept = Some Absent
look_now w P by own before l p Source = Some (look_stamp w l p (seen_file (P.file p)))

-- the stamp now of a listing; one that is too big differs from every stamp
abbrev pub listing_now : World → Option (List Path) → Option Stamp
listing_now w None = None
listing_now w (Some es) = Some (listing_stamp w (Some es))

-- the stamp now of an outcome; one that is no value differs from every stamp
abbrev pub outcome_now : World → How → Outcome → Option Stamp
outcome_now w h (Ended v) = Some (value_stamp w v h)
outcome_now w h (Failed t k) = None
outcome_now w h (Cycled ts) = None
outcome_now w h Many = None

-- the stamp that a query would get now, with all writes of its record and the tasks that it required before
abbrev pub stamp_now : World → Project → Teller → List (Path × List ℕ) → List Task → Query → Option Stamp
stamp_now w P by own before (Looked l p) = look_now w P by own before l p (kind_of p)
stamp_now w P by own before (Listed d) = listing_now w (listing w P d)
stamp_now w P by own before (Required h u) = outcome_now w h (by.end u)

-- the tasks required before the next query
abbrev pub asked_before : List Task → Query → List Task
asked_before before (Looked l p) = before
asked_before before (Listed d) = before
asked_before before (Required h u) = before ++ u ∷ []

-- every stamp is the one that its query would get now
abbrev pub StampsAgree : World → Project → Teller → List (Path × List ℕ) → List Task → List Observation → Type 0
StampsAgree w P by own before [] = Unit {0}
StampsAgree w P by own before (o ∷ os) =
    (stamp_now w P by own before o.query ≡ Some o.stamp) × StampsAgree w P by own (asked_before before o.query) os

-- every stamp of a record is the one that its query would get now
abbrev pub RecordAgrees : World → Project → Teller → Record → Type 0
RecordAgrees w P by r = StampsAgree w P by r.writes [] r.observations
