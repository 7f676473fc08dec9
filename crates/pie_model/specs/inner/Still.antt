-- The stamps of a record that sources alone decide are the stamps now.
use Rattle.std.specs.Prelude.{ℕ, ◌≡◌, true, Some, List, [], ◌∷◌}
use Rattle.pie_model.specs.Paths.{Source, kind_of}
use Rattle.pie_model.specs.Seen.{seen_file}
use Rattle.pie_model.specs.Tasks.{Task}
use Rattle.pie_model.specs.Trees.{outcome_of, trace_of, is_done}
use Rattle.pie_model.specs.Evaluation.{World, Project, listing, evaluation}
use Rattle.pie_model.specs.Records.{Stamp, Query, Looked, Listed, Required, Observation, look_stamp, Record, record_of}
use Rattle.pie_model.specs.StampNow.{listing_now}
use Rattle.pie_model.specs.Separate.{AllMet}

-- a look at a source path, or a listing, has the stamp that it would get now
abbrev pub SourceStampStill : World → Project → Query → Stamp → Type 0
SourceStampStill w now (Looked l p) s = kind_of p ≡ Source → look_stamp w l p (seen_file (now.file p)) ≡ s
SourceStampStill w now (Listed d) s = listing_now w (listing w now d) ≡ Some s
SourceStampStill w now (Required h u) s = Unit {0}

-- all looks at source paths and all listings have the stamps that they would get now
abbrev pub SourcesStill : World → Project → List Observation → Type 0
SourcesStill w now [] = Unit {0}
SourcesStill w now (o ∷ os) = SourceStampStill w now o.query o.stamp × SourcesStill w now os

-- a record is that of an old evaluation that ended with a value, and what the task observes then and now is met
pub record WasDone (w : World) (old now : Project) (Met : List ℕ → Type 0) (t : Task) (r : Record) : Type 0 where
  pub was : r ≡ record_of w (evaluation w old t)
  pub done : is_done (outcome_of (evaluation w old t)) ≡ true
  pub met_then : AllMet w Met (trace_of (evaluation w old t))
  pub met_now : AllMet w Met (trace_of (evaluation w now t))
