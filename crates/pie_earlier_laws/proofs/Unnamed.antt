-- Stamps of sources stay where the sources do.
use Rattle.std.proofs.Common.{ℕ, ◌≡◌, Bool, true, false, Some, List, [], ◌∷◌, length, leb, sym, ◌∙◌, ap, subst, refl}
use Rattle.std.specs.List.{list_any}
use Rattle.pie_base.specs.Path.{is_below}
use Rattle.pie_model.specs.Paths.{Path, among, kind_of}
use Rattle.pie_model.specs.declared.words.Kind.TheVariants.{Source}
use Rattle.pie_model.specs.Tasks.{Task}
use Rattle.pie_model.specs.declared.words.Look.{Look}
use Rattle.pie_model.specs.declared.words.Event.{Event}
use Rattle.pie_model.specs.declared.words.Event.TheVariants.{Done, Fail, LookAt, ListOf, Write, Require}
use Rattle.pie_model.specs.Trees.{Trace, ends, looks, lists, writes, needs, outcome_of, trace_of, is_done}
use Rattle.pie_model.specs.Seen.{seen_file}
use Rattle.pie_model.specs.Evaluation.{World, Project, listing, within_limit, evaluation}
use Rattle.pie_model.specs.Records.{Stamp, Query, Looked, Listed, Required, Observation, look_stamp, observations_of, record_of}
use Rattle.pie_model.specs.StampNow.{Teller, by_evaluation, look_now, listing_now, stamp_now, asked_before, StampsAgree}
use Rattle.pie_model.specs.Separate.{NeverWritesWhatItSaw}
use Rattle.pie_model.specs.inner.Still.{SourceStampStill, SourcesStill}
use Rattle.pie_model.proofs.LooksLemmas.{some_same}
use Rattle.pie_model.proofs.ItselfLemmas.{agrees_itself}
use Rattle.pie_earlier_laws.specs.Sources.{SourcesAgree, IsTested, AreTested, ListsSources}
use Rattle.pie_earlier_laws.proofs.Events.{EachEvent, events_of}

-- an event lists a source directory, if any
abbrev Lists : Event → Type 0
Lists (Done v) = Unit {0}
Lists (Fail k) = Unit {0}
Lists (LookAt l p) = Unit {0}
Lists (ListOf d) = kind_of d ≡ Source
Lists (Write p b) = Unit {0}
Lists (Require h u) = Unit {0}

-- the listings among observations are of source directories
abbrev pub ListSources : List Observation → Type 0
ListSources [] = Unit {0}
ListSources (o ∷ os) = ((d : Path) → o.query ≡ Listed d → kind_of d ≡ Source) × ListSources os

listed_same : (d e : Path) → Listed d ≡ Listed e → d ≡ e
listed_same d e h = cc

observed_sources : (w : World) (k : Trace) → EachEvent Lists k → ListSources (observations_of w k)
observed_sources w (ends e) h = tt
observed_sources w (looks l p s k) h = (λ d e. cc, observed_sources w k h.1)
observed_sources w (lists d es k) h = (λ x e. subst (λ z. kind_of z ≡ Source) (listed_same d x e) h.0, observed_sources w k h.1)
observed_sources w (writes p b k) h = observed_sources w k h.1
observed_sources w (needs r u n k) h = (λ d e. cc, observed_sources w k h.1)

lists_by : (e : Event) → ((d : Path) → e ≡ ListOf d → kind_of d ≡ Source) → Lists e
lists_by (Done v) f = tt
lists_by (Fail k) f = tt
lists_by (LookAt l p) f = tt
lists_by (ListOf d) f = f d refl
lists_by (Write p b) f = tt
lists_by (Require h u) f = tt

pub record_lists : (w : World) (P : Project) (t : Task) → ListsSources (P.next t) → ListSources (record_of w (evaluation w P t)).observations
record_lists w P t f =
    observed_sources w (trace_of (evaluation w P t)) (events_of w P t Lists (λ answers. lists_by (P.next t answers) (f answers)))

module _ (w : World) (old now : Project) (changes : List Path) (agree : SourcesAgree old now changes) (by : Teller) (own : List (Path × List ℕ)) where
  look_still : (before : List Task) (l : Look) (p : Path) (s : Stamp) (b : Bool) → among p changes ≡ b → kind_of p ≡ Source
      → look_now w old by own before l p (kind_of p) ≡ Some s
      → (kind_of p ≡ Source → among p changes ≡ true → look_stamp w l p (seen_file (now.file p)) ≡ s)
      → look_stamp w l p (seen_file (now.file p)) ≡ s
  look_still before l p s true e k h f = f k e
  look_still before l p s false e k h f =
      ap (λ z. look_stamp w l p (seen_file z)) (sym (agree.files p k e))
      ∙ some_same (look_stamp w l p (seen_file (old.file p))) s (subst (λ z. look_now w old by own before l p z ≡ Some s) k h)

  listing_still : (d : Path) (s : Stamp) (b : Bool) → list_any (is_below d) changes ≡ b → kind_of d ≡ Source
      → listing_now w (listing w old d) ≡ Some s → (list_any (is_below d) changes ≡ true → listing_now w (listing w now d) ≡ Some s)
      → listing_now w (listing w now d) ≡ Some s
  listing_still d s true e k h f = f e
  listing_still d s false e k h f =
      ap (λ z. listing_now w (within_limit (leb (length (w.listing_bytes z)) w.most_bytes) z)) (sym (agree.entries d k e)) ∙ h

  stamp_still : (before : List Task) (q : Query) (s : Stamp) → ((d : Path) → q ≡ Listed d → kind_of d ≡ Source)
      → stamp_now w old by own before q ≡ Some s → IsTested w now changes q s → SourceStampStill w now q s
  stamp_still before (Looked l p) s k h f = λ i. look_still before l p s (among p changes) refl i h f
  stamp_still before (Listed d) s k h f = listing_still d s (list_any (is_below d) changes) refl (k d refl) h f
  stamp_still before (Required r u) s k h f = tt

  pub all_still : (os : List Observation) (before : List Task) → ListSources os → StampsAgree w old by own before os → AreTested w now changes os
      → SourcesStill w now os
  all_still [] before k h f = tt
  all_still (o ∷ os) before k h f = (
    stamp_still before o.query o.stamp k.0 h.0 f.0,
    all_still os (asked_before before o.query) k.1 h.1 f.1,
  )

pub sources_still : (w : World) (old now : Project) (changes : List Path) (t : Task) → NeverWritesWhatItSaw (old.next t) → ListsSources (old.next t)
    → is_done (outcome_of (evaluation w old t)) ≡ true → SourcesAgree old now changes
    → AreTested w now changes (record_of w (evaluation w old t)).observations → SourcesStill w now (record_of w (evaluation w old t)).observations
sources_still w old now changes t manners sources done agree tested =
    all_still w old now changes agree (by_evaluation w old) (record_of w (evaluation w old t)).writes (record_of w (evaluation w old t)).observations []
    (record_lists w old t sources) (agrees_itself w old t manners done) tested
