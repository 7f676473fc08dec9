-- Requires that are union edges, and paths that are observed.
use Rattle.std.proofs.Common.{ℕ, suc, ◌≡◌, true, Option, None, Some, List, [], ◌∷◌, ◌++◌, ◌⊎◌, inl, inr, sym, ◌∙◌, ap, subst, refl}
use Rattle.pie_model.specs.Paths.{Path, among}
use Rattle.pie_model.specs.Tasks.{Task}
use Rattle.pie_model.specs.declared.words.Look.{Look}
use Rattle.pie_model.specs.declared.words.How.{How}
use Rattle.pie_model.specs.declared.words.Event.{Event}
use Rattle.pie_model.specs.declared.words.Event.TheVariants.{LookAt, ListOf, Require}
use Rattle.pie_model.specs.declared.words.Seen.{Seen}
use Rattle.pie_model.specs.declared.words.Seen.TheVariants.{Nothing, Holds, Clashing}
use Rattle.pie_model.specs.Trees.{Trace, ends, looks, lists, writes, needs, trace_of, required_by}
use Rattle.pie_model.specs.Seen.{visible_at}
use Rattle.pie_model.specs.Evaluation.{World, Project, listing, on_seen, on_listing, on_event, evaluation_with, evaluation}
use Rattle.pie_model.specs.Records.{Record, Query, Looked, Listed, Required, Observation, observations_of, needs_of}
use Rattle.pie_model.specs.Running.{rest_of_run}
use Rattle.pie_model.specs.inner.RecordLaws.{HasItsRecord}
use Rattle.pie_model.specs.inner.Stack.{Frame}
use Rattle.pie_model.specs.Changes.{IsUnionEdge}
use Rattle.pie_model.specs.Reasons.{observed_paths}
use Rattle.pie_model.proofs.Basics.{among_here, among_left, among_right}
use Rattle.pie_model.proofs.Rooms.{evaluation_room}
use Rattle.pie_model.proofs.Ways.{needs_of-observations, needs_right}
use Rattle.pie_step_laws.proofs.StepLemmas.{needs_of-append}
use Rattle.pie_settle_laws.specs.Going.{IsGoing}
use Rattle.pie_settle_laws.proofs.Goings.{alone_with}

pub recorded_edge : (w : World) (now : Project) (old_records R : Task → Option Record) (t : Task) (r : Record) (u : Task) → R t ≡ Some r
    → (R t ≡ old_records t) ⊎ HasItsRecord w now R t → among u (needs_of r.observations) ≡ true → IsUnionEdge w now old_records t u
recorded_edge w now old_records R t r u h (inl e) i = inl (r, sym e ∙ h, i)
recorded_edge w now old_records R t r u h (inr q) i = inr (needs_right w now R t u r q h i)

-- the path that a query looks at
abbrev path_asked : Query → List Path
path_asked (Looked l p) = p ∷ []
path_asked (Listed d) = d ∷ []
path_asked (Required h u) = []

abbrev paths_asked : List Observation → List Path
paths_asked [] = []
paths_asked (o ∷ os) = path_asked o.query ++ paths_asked os

paths_of-observations : (w : World) (k : Trace) → paths_asked (observations_of w k) ≡ observed_paths k
paths_of-observations w (ends e) = refl
paths_of-observations w (looks l p s k) = ap (λ z. p ∷ z) (paths_of-observations w k)
paths_of-observations w (lists d es k) = ap (λ z. d ∷ z) (paths_of-observations w k)
paths_of-observations w (writes p b k) = paths_of-observations w k
paths_of-observations w (needs h u n k) = paths_of-observations w k

asked_behind : (p : Path) (xs ys : List Observation) → among p (paths_asked ys) ≡ true → among p (paths_asked (xs ++ ys)) ≡ true
asked_behind p [] ys h = h
asked_behind p (x ∷ xs) ys h = among_right p (path_asked x.query) (paths_asked (xs ++ ys)) (asked_behind p xs ys h)

module _ (w : World) (P : Project) (R : Task → Option Record) (busy : Task → Type 0) (base : Task) (fs : List Frame) (f : Frame)
    (G : IsGoing w P R busy base fs f) where
  -- alone it is its task's evaluation
  whole : evaluation_with (suc G.whole_room) w P [] f.task ≡ evaluation w P f.task
  whole = ap (λ n. evaluation_with n w P [] f.task) (sym G.is_whole_room) ∙ sym (evaluation_room w P f.task)

  seen_front : observations_of w (trace_of (evaluation w P f.task)) ≡ f.seen ++ observations_of w (rest_of_run w P G.whole_room [] f.task f.left f.progress)
  seen_front = ap (λ z. observations_of w (trace_of z)) (sym whole) ∙ G.alone.observations

  pub answered_required : (u : Task) → among u (needs_of f.seen) ≡ true → among u (required_by (trace_of (evaluation w P f.task))) ≡ true
  answered_required u i =
      subst (λ z. among u z ≡ true) (needs_of-observations w (trace_of (evaluation w P f.task)))
      (subst (λ z. among u (needs_of z) ≡ true) (sym seen_front)
      (subst (λ z. among u z ≡ true)
      (sym (needs_of-append f.seen (observations_of w (rest_of_run w P G.whole_room [] f.task f.left f.progress))))
      (among_left u (needs_of f.seen) (needs_of (observations_of w (rest_of_run w P G.whole_room [] f.task f.left f.progress))) i)))

  module _ (n : ℕ) (left : f.left ≡ suc n) where
    -- what follows is what the next event gives
    abbrev follows : Event → Trace
    follows e =
        on_event w P (evaluation_with G.whole_room w P (f.task ∷ [])) f.task f.progress (rest_of_run w P G.whole_room [] f.task n) e

    event_front : (e : Event) → P.next f.task f.progress.answers ≡ e
        → observations_of w (trace_of (evaluation w P f.task)) ≡ f.seen ++ observations_of w (follows e)
    event_front e h =
        ap (λ z. observations_of w (trace_of z)) (sym whole) ∙ (alone_with w P R busy base fs f G n left).observations
        ∙ ap (λ z. f.seen ++ observations_of w (follows z)) h

    pub next_required : (h : How) (u : Task) → P.next f.task f.progress.answers ≡ Require h u
        → among u (required_by (trace_of (evaluation w P f.task))) ≡ true
    next_required h u e =
        subst (λ z. among u z ≡ true) (needs_of-observations w (trace_of (evaluation w P f.task)))
        (subst (λ z. among u (needs_of z) ≡ true) (sym (event_front (Require h u) e))
        (subst (λ z. among u z ≡ true) (sym (needs_of-append f.seen (observations_of w (follows (Require h u)))))
        (among_right u (needs_of f.seen) (needs_of (observations_of w (follows (Require h u)))) (among_here u _))))

    looked_first : (l : Look) (p : Path) (s : Seen)
        → among p (paths_asked (observations_of w (on_seen w f.task l p f.progress (rest_of_run w P G.whole_room [] f.task n) s))) ≡ true
    looked_first l p Nothing = among_here p _
    looked_first l p (Holds b m) = among_here p _
    looked_first l p Clashing = among_here p []

    listed_first : (d : Path) (es : Option (List Path))
        → among d (paths_asked (observations_of w (on_listing f.task d f.progress (rest_of_run w P G.whole_room [] f.task n) es))) ≡ true
    listed_first d None = among_here d []
    listed_first d (Some es) = among_here d _

    asked_next : (p : Path) (e : Event) → P.next f.task f.progress.answers ≡ e → among p (paths_asked (observations_of w (follows e))) ≡ true
        → among p (observed_paths (trace_of (evaluation w P f.task))) ≡ true
    asked_next p e h i =
        subst (λ z. among p z ≡ true) (paths_of-observations w (trace_of (evaluation w P f.task)))
        (subst (λ z. among p (paths_asked z) ≡ true) (sym (event_front e h)) (asked_behind p f.seen (observations_of w (follows e)) i))

    pub next_looked : (l : Look) (p : Path) → P.next f.task f.progress.answers ≡ LookAt l p
        → among p (observed_paths (trace_of (evaluation w P f.task))) ≡ true
    next_looked l p e = asked_next p (LookAt l p) e (looked_first l p (visible_at P.file f.progress.own f.progress.kids p))

    pub next_listed : (d : Path) → P.next f.task f.progress.answers ≡ ListOf d
        → among d (observed_paths (trace_of (evaluation w P f.task))) ≡ true
    next_listed d e = asked_next d (ListOf d) e (listed_first d (listing w P d))
