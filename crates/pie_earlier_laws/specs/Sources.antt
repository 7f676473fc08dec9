-- Which stamps of an old record sources alone decide, and which of these a list of changed paths leaves as they are.
use Rattle.std.specs.Prelude.{◌≡◌, true, false, Some, List, [], ◌∷◌}
use Rattle.std.specs.List.{list_any}
use Rattle.pie_base.specs.Path.{is_below}
use Rattle.pie_model.specs.Paths.{Path, among, kind_of}
use Rattle.pie_model.specs.declared.words.Kind.TheVariants.{Source}
use Rattle.pie_model.specs.Tasks.{Task}
use Rattle.pie_model.specs.declared.words.Answer.{Answer}
use Rattle.pie_model.specs.declared.words.Event.{Event}
use Rattle.pie_model.specs.declared.words.Event.TheVariants.{ListOf}
use Rattle.pie_model.specs.Trees.{outcome_of, is_done}
use Rattle.pie_model.specs.Seen.{seen_file}
use Rattle.pie_model.specs.Evaluation.{World, Project, listing, evaluation}
use Rattle.pie_model.specs.Records.{Stamp, Query, Looked, Listed, Required, Observation, look_stamp, record_of}
use Rattle.pie_model.specs.StampNow.{listing_now}
use Rattle.pie_model.specs.Separate.{NeverWritesWhatItSaw}
use Rattle.pie_model.specs.inner.Still.{SourcesStill}

-- outside the named paths the sources of two projects are the same: the files, and the entries of directories above none of these paths
pub record SourcesAgree (old now : Project) (changes : List Path) : Type 0 where
  pub files : (p : Path) → kind_of p ≡ Source → among p changes ≡ false → old.file p ≡ now.file p
  pub entries : (d : Path) → kind_of d ≡ Source → list_any (is_below d) changes ≡ false → old.entries d ≡ now.entries d

-- a look at a named source path, or a listing of a directory above a named path, has the stamp that it would get now
abbrev pub IsTested : World → Project → List Path → Query → Stamp → Type 0
IsTested w now changes (Looked l p) s = kind_of p ≡ Source → among p changes ≡ true → look_stamp w l p (seen_file (now.file p)) ≡ s
IsTested w now changes (Listed d) s = list_any (is_below d) changes ≡ true → listing_now w (listing w now d) ≡ Some s
IsTested w now changes (Required h u) s = Unit {0}

-- all looks at named source paths and all listings above named paths have the stamps that they would get now
abbrev pub AreTested : World → Project → List Path → List Observation → Type 0
AreTested w now changes [] = Unit {0}
AreTested w now changes (o ∷ os) = IsTested w now changes o.query o.stamp × AreTested w now changes os

-- a task lists source directories alone
abbrev pub ListsSources : (List Answer → Event) → Type 0
ListsSources next = (answers : List Answer) (d : Path) → next answers ≡ ListOf d → kind_of d ≡ Source

-- where the named stamps of an old record are those that they would get now, so are all that sources alone decide
abbrev pub NamedStampsDecide : Type 0
NamedStampsDecide =
    (w : World) (old now : Project) (changes : List Path) (t : Task) → NeverWritesWhatItSaw (old.next t) → ListsSources (old.next t)
    → is_done (outcome_of (evaluation w old t)) ≡ true → SourcesAgree old now changes
    → AreTested w now changes (record_of w (evaluation w old t)).observations → SourcesStill w now (record_of w (evaluation w old t)).observations
