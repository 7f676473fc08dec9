-- An evaluation that ends with a value has met no clash, so what it found absent are its observations with the stamp of what is absent.
use Rattle.std.proofs.Common.{◌≡◌, ℕ, zero, suc, Bool, true, false, cond, Option, Some, None, List, [], ◌∷◌, ◌++◌, map, refl, sym, ap, ap₂, ◌∙◌}
use Rattle.std.specs.List.{flat_map}
use Rattle.pie_base.specs.Path.{is_out}
use Rattle.pie_model.specs.declared.words.Kind.{Kind}
use Rattle.pie_model.specs.declared.words.Kind.TheVariants.{Out, Kept, Source}
use Rattle.pie_model.specs.declared.words.Look.{Look}
use Rattle.pie_model.specs.declared.words.Look.TheVariants.{Exists, ByHash, ByMark, Digest}
use Rattle.pie_model.specs.declared.words.How.{How}
use Rattle.pie_model.specs.declared.words.Event.{Event}
use Rattle.pie_model.specs.declared.words.Event.TheVariants.{Done, Fail, LookAt, ListOf, Write, Require}
use Rattle.pie_model.specs.declared.words.Seen.{Seen}
use Rattle.pie_model.specs.declared.words.Seen.TheVariants.{Nothing, Holds, Clashing}
use Rattle.pie_model.specs.declared.words.Outcome.{Outcome}
use Rattle.pie_model.specs.declared.words.Outcome.TheVariants.{Ended, Failed, Cycled, Many}
use Rattle.pie_model.specs.Paths.{Path, among, kind_of}
use Rattle.pie_model.specs.Tasks.{Task}
use Rattle.pie_model.specs.Trees.{Node, Trace, ends, looks, lists, writes, needs, end_of, trace_of, outcome_of, is_done}
use Rattle.pie_model.specs.Seen.{visible_at}
use Rattle.pie_model.specs.Evaluation.{World, Project, Progress, start, listing, on_seen}
use Rattle.pie_model.specs.Evaluation.{on_listing, on_outcome, on_event, follow, round, evaluation_with, evaluation}
use Rattle.pie_model.specs.Records.{Stamp, Absent, Present, Hash, Mark, WholeValue, Success, Query}
use Rattle.pie_model.specs.Records.{Looked, Listed, Required, Observation, mark_stamp, contents_stamp, observations_of, hashed}
use Rattle.pie_model.specs.Verdict.{absent_here, found_absent}
use Rattle.pie_check_laws.specs.Recorded.{HasNoClash}
use Rattle.pie_check_laws.proofs.PathKinds.{is_kind_out, kind_is}

-- ---- no clash

-- a trace that ends with a value has none
abbrev IsClear : Trace → Type 0
IsClear T = is_done (end_of T) ≡ true → HasNoClash T

module _ (w : World) (P : Project) (child : Task → Node) (t : Task) where
  module _ (go : Progress → Trace) (G : (g : Progress) → IsClear (go g)) where
    seen_clear : (l : Look) (p : Path) (g : Progress) (s : Seen) → IsClear (on_seen w t l p g go s)
    seen_clear l p g Nothing h = G _ h
    seen_clear l p g (Holds b m) h = G _ h
    seen_clear l p g Clashing h = cc

    listing_clear : (d : Path) (g : Progress) (es : Option (List Path)) → IsClear (on_listing t d g go es)
    listing_clear d g None h = tt
    listing_clear d g (Some es) h = G _ h

    outcome_clear : (r : How) (g : Progress) (n : Node) (e : Outcome) → IsClear (on_outcome r g n go e)
    outcome_clear r g n (Ended v) h = G _ h
    outcome_clear r g n (Failed u k) h = tt
    outcome_clear r g n (Cycled ts) h = tt
    outcome_clear r g n Many h = tt

    event_clear : (g : Progress) (e : Event) → IsClear (on_event w P child t g go e)
    event_clear g (Done v) h = tt
    event_clear g (Fail k) h = tt
    event_clear g (LookAt l p) h = seen_clear l p g (visible_at P.file g.own g.kids p) h
    event_clear g (ListOf d) h = listing_clear d g (listing w P d) h
    event_clear g (Write p b) h = G _ h
    event_clear g (Require r u) h = outcome_clear r g (child u) (outcome_of (child u)) h

  follow_clear : (n : ℕ) (g : Progress) → IsClear (follow w P child t n g)
  follow_clear zero g h = tt
  follow_clear (suc n) g h = event_clear (follow w P child t n) (follow_clear n) g (P.next t g.answers) h

clear_with : (n : ℕ) (w : World) (P : Project) (above : List Task) (t : Task) → IsClear (trace_of (evaluation_with n w P above t))
clear_with zero w P above t h = tt
clear_with (suc n) w P above t h = by (among t above) h
  where
    by : (b : Bool) → IsClear (cond b (ends (Cycled (round t above []))) (follow w P (evaluation_with n w P (t ∷ above)) t w.most_events start))
    by true k = tt
    by false k = follow_clear w P (evaluation_with n w P (t ∷ above)) t w.most_events start k

pub clear : (w : World) (P : Project) (t : Task) → is_done (outcome_of (evaluation w P t)) ≡ true → HasNoClash (trace_of (evaluation w P t))
clear w P t h = clear_with _ w P [] t h

-- ---- what was found absent, by observations

-- the path under `out` that a query with a stamp found absent
abbrev pub absent_by : Query → Stamp → List Path
absent_by (Looked l p) Absent = cond (is_out p) (p ∷ []) []
absent_by (Looked l p) Present = []
absent_by (Looked l p) (Hash h) = []
absent_by (Looked l p) (Mark m) = []
absent_by (Looked l p) (WholeValue v) = []
absent_by (Looked l p) Success = []
absent_by (Listed d) s = []
absent_by (Required h u) s = []

-- the path under `out` that an observation found absent
abbrev pub absent_in : Observation → List Path
absent_in o = absent_by o.query o.stamp

nothing_here : (p : Path) → absent_here p (kind_of p) Nothing ≡ cond (is_out p) (p ∷ []) []
nothing_here p = by (kind_of p) ∙ ap (λ b. cond b (p ∷ []) []) (kind_is p)
  where
    by : (k : Kind) → absent_here p k Nothing ≡ cond (is_kind_out k) (p ∷ []) []
    by Out = refl
    by Kept = refl
    by Source = refl

held_here : (p : Path) (b : List ℕ) (m : ℕ) (k : Kind) → absent_here p k (Holds b m) ≡ []
held_here p b m Out = refl
held_here p b m Kept = refl
held_here p b m Source = refl

held_stamp : (w : World) (p : Path) (b : List ℕ) (m : ℕ) (l : Look) → absent_by (Looked l p) (contents_stamp w p b m l) ≡ []
held_stamp w p b m Exists = refl
held_stamp w p b m ByHash = refl
held_stamp w p b m ByMark = by (kind_of p)
  where
    by : (k : Kind) → absent_by (Looked ByMark p) (mark_stamp w k b m) ≡ []
    by Out = refl
    by Kept = refl
    by Source = refl
held_stamp w p b m Digest = refl

pub absent_observed : (w : World) (T : Trace) → HasNoClash T → found_absent T ≡ flat_map absent_in (observations_of w T)
absent_observed w (ends e) h = refl
absent_observed w (looks l p Nothing k) h = ap₂ (λ xs ys. xs ++ ys) (nothing_here p) (absent_observed w k h)
absent_observed w (looks l p (Holds b m) k) h =
    ap₂ (λ xs ys. xs ++ ys) (held_here p b m (kind_of p) ∙ sym (held_stamp w p b m l)) (absent_observed w k h)
absent_observed w (looks l p Clashing k) h = absurd h
absent_observed w (lists d es k) h = absent_observed w k h
absent_observed w (writes p b k) h = absent_observed w k h
absent_observed w (needs r u n k) h = absent_observed w k h

-- ---- what was written, by hashes

pub hashed_is : (w : World) (xs : List (Path × List ℕ)) → hashed w xs ≡ map (λ (x : Path × List ℕ). (x.0, w.hash x.1)) xs
hashed_is w [] = refl
hashed_is w (x ∷ xs) = ap (λ z. (x.0, w.hash x.1) ∷ z) (hashed_is w xs)
