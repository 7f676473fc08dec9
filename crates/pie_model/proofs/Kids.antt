-- What holds of every evaluation that a trace requires, and what follows for the whole tree.
use Rattle.std.proofs.Common.{ℕ, zero, suc, ◌≤◌, ◌≡◌, Bool, true, false, Option, Some, None, List, ◌∷◌, ◌⊎◌, inl, inr, sym, ◌∙◌, ap, subst, refl, arith}
use Rattle.pie_model.specs.Paths.{Path, among}
use Rattle.pie_model.specs.Tasks.{Task, Value, Look, How, Event, Done, Fail, LookAt, ListOf, Write, Require}
use Rattle.pie_model.specs.Trees.{Node, Trace, ends, looks, lists, writes, needs, Seen, Nothing, Holds, Clashing, Outcome, Ended, Failed, Cycled, Many}
use Rattle.pie_model.specs.Trees.{outcome_of, end_of, trace_of, HasTask, HasBelow, StandsIn, StandsBelow, levels, levels_below, required_by}
use Rattle.pie_model.specs.Seen.{visible_at}
use Rattle.pie_model.specs.Evaluation.{World, Project, Progress, start, listing, on_seen, on_listing, on_outcome, on_event, follow, evaluation_with}
use Rattle.pie_model.proofs.Basics.{clash, cases, among_split, among_here, among_there}
use Rattle.pie_model.proofs.MovedLemmas.{opened_apart, opened_among}

-- every evaluation that the trace requires has this
abbrev pub Kids : (Task → Node → Type 0) → Trace → Type 0
Kids Q (ends e) = Unit {0}
Kids Q (looks l p s k) = Kids Q k
Kids Q (lists d es k) = Kids Q k
Kids Q (writes p b k) = Kids Q k
Kids Q (needs h u n k) = Q u n × Kids Q k

pub good_kid : (good : Outcome → Bool) → ((v : Value) → good (Ended v) ≡ true)
    → (h : How) (g : Progress) (n : Node) (go : Progress → Trace) (e : Outcome)
    → good (end_of (on_outcome h g n go e)) ≡ true → good e ≡ true
good_kid good gv h g n go (Ended v) k = gv v
good_kid good gv h g n go (Failed t f) k = k
good_kid good gv h g n go (Cycled ts) k = k
good_kid good gv h g n go Many k = k

module _ (w : World) (P : Project) (t : Task) (child : Task → Node) (Q : Task → Node → Type 0) (good : Outcome → Bool)
    (gv : (v : Value) → good (Ended v) ≡ true)
    (H : (u : Task) → good (outcome_of (child u)) ≡ true → Q u (child u)) where
  module _ (go : Progress → Trace) (G : (g : Progress) → good (end_of (go g)) ≡ true → Kids Q (go g)) where
    seen_kids : (l : Look) (p : Path) (g : Progress) (s : Seen) → good (end_of (on_seen w t l p g go s)) ≡ true → Kids Q (on_seen w t l p g go s)
    seen_kids l p g Nothing h = G _ h
    seen_kids l p g (Holds b m) h = G _ h
    seen_kids l p g Clashing h = tt

    listing_kids : (d : Path) (g : Progress) (es : Option (List Path)) → good (end_of (on_listing t d g go es)) ≡ true
        → Kids Q (on_listing t d g go es)
    listing_kids d g None h = tt
    listing_kids d g (Some es) h = G _ h

    outcome_kids : (h : How) (g : Progress) (n : Node) (e : Outcome) → good (end_of (on_outcome h g n go e)) ≡ true → Kids Q (on_outcome h g n go e)
    outcome_kids h g n (Ended v) k = G _ k
    outcome_kids h g n (Failed x f) k = tt
    outcome_kids h g n (Cycled ts) k = tt
    outcome_kids h g n Many k = tt

    event_kids : (g : Progress) (e : Event) → good (end_of (on_event w P child t g go e)) ≡ true → Kids Q (on_event w P child t g go e)
    event_kids g (Done v) h = tt
    event_kids g (Fail f) h = tt
    event_kids g (LookAt l p) h = seen_kids l p g (visible_at P.file g.own g.kids p) h
    event_kids g (ListOf d) h = listing_kids d g (listing w P d) h
    event_kids g (Write p b) h = G _ h
    event_kids g (Require r u) h =
        (H u (good_kid good gv r g (child u) go (outcome_of (child u)) h), outcome_kids r g (child u) (outcome_of (child u)) h)

  pub follow_kids : (n : ℕ) (g : Progress) → good (end_of (follow w P child t n g)) ≡ true → Kids Q (follow w P child t n g)
  follow_kids zero g h = tt
  follow_kids (suc n) g h = event_kids (follow w P child t n) (follow_kids n) g (P.next t g.answers) h

-- the same of an evaluation
pub evaluation_kids : (n : ℕ) (w : World) (P : Project) (above : List Task) (t : Task) (Q : Task → Node → Type 0) (good : Outcome → Bool)
    → ((v : Value) → good (Ended v) ≡ true)
    → ((u : Task) → good (outcome_of (evaluation_with n w P (t ∷ above) u)) ≡ true → Q u (evaluation_with n w P (t ∷ above) u))
    → good (outcome_of (evaluation_with (suc n) w P above t)) ≡ true → Kids Q (trace_of (evaluation_with (suc n) w P above t))
evaluation_kids n w P above t Q good gv H h = go (cases (among t above))
  where
    go : (among t above ≡ true) ⊎ (among t above ≡ false) → Kids Q (trace_of (evaluation_with (suc n) w P above t))
    go (inl i) = subst (λ x. Kids Q (trace_of x)) (sym (opened_among (suc n) w P above t i)) tt
    go (inr o) = subst (λ x. Kids Q (trace_of x)) (sym (opened_apart (suc n) w P above t o))
        (follow_kids w P t (evaluation_with n w P (t ∷ above)) Q good gv H w.most_events start
        (sym (ap (λ x. good (outcome_of x)) (opened_apart (suc n) w P above t o)) ∙ h))

pub kids_map : (Q R : Task → Node → Type 0) → ((u : Task) (n : Node) → Q u n → R u n) → (k : Trace) → Kids Q k → Kids R k
kids_map Q R f (ends e) h = tt
kids_map Q R f (looks l p s k) h = kids_map Q R f k h
kids_map Q R f (lists d es k) h = kids_map Q R f k h
kids_map Q R f (writes p b k) h = kids_map Q R f k h
kids_map Q R f (needs r u n k) h = (f u n h.0, kids_map Q R f k h.1)

-- a task that stands below stands in one of the required evaluations
pub task_below : {R : Type 0} (Q : Task → Node → Type 0) (x : Task) (k : Trace) → Kids Q k
    → ((u : Task) (n : Node) → Q u n → HasTask x n → R) → HasBelow x k → R
task_below Q x (ends e) q f h = absurd h
task_below Q x (looks l p s k) q f h = task_below Q x k q f h
task_below Q x (lists d es k) q f h = task_below Q x k q f h
task_below Q x (writes p b k) q f h = task_below Q x k q f h
task_below Q x (needs r u n k) q f (inl h) = f u n q.0 h
task_below Q x (needs r u n k) q f (inr h) = task_below Q x k q.1 f h

pub node_below : {R : Type 0} (Q : Task → Node → Type 0) (m : Node) (k : Trace) → Kids Q k
    → ((u : Task) (n : Node) → among u (required_by k) ≡ true → Q u n → StandsIn m n → R)
    → StandsBelow m k → R
node_below Q m (ends e) q f h = absurd h
node_below Q m (looks l p s k) q f h = node_below Q m k q f h
node_below Q m (lists d es k) q f h = node_below Q m k q f h
node_below Q m (writes p b k) q f h = node_below Q m k q f h
node_below Q m (needs r u n k) q f (inl h) = f u n (among_here u (required_by k)) q.0 h
node_below Q m (needs r u n k) q f (inr h) = node_below Q m k q.1 (λ v x i. f v x (among_there v u (required_by k) i)) h

pub levels_kids : (m : ℕ) (k : Trace) → Kids (λ u n. levels n ≤ m) k → levels_below k ≤ m
levels_kids m (ends e) q = omega arith
levels_kids m (looks l p s k) q = levels_kids m k q
levels_kids m (lists d es k) q = levels_kids m k q
levels_kids m (writes p b k) q = levels_kids m k q
levels_kids m (needs r u n k) q = let f : levels n ≤ m = q.0 in let g : levels_below k ≤ m = levels_kids m k q.1 in omega arith

pub kids_both : (Q R : Task → Node → Type 0) (k : Trace) → Kids Q k → Kids R k → Kids (λ u n. Q u n × R u n) k
kids_both Q R (ends e) h g = tt
kids_both Q R (looks l p s k) h g = kids_both Q R k h g
kids_both Q R (lists d es k) h g = kids_both Q R k h g
kids_both Q R (writes p b k) h g = kids_both Q R k h g
kids_both Q R (needs r u n k) h g = ((h.0, g.0), kids_both Q R k h.1 g.1)

-- what stands in a required evaluation stands in the trace, and its task is required
pub kids_stand : (whole k : Trace) → ((m : Node) → StandsBelow m k → StandsBelow m whole)
    → Kids (λ u n. (m : Node) → StandsIn m n → StandsBelow m whole) k
kids_stand whole (ends e) f = tt
kids_stand whole (looks l p s k) f = kids_stand whole k f
kids_stand whole (lists d es k) f = kids_stand whole k f
kids_stand whole (writes p b k) f = kids_stand whole k f
kids_stand whole (needs r u n k) f = (λ m h. f m (inl h), kids_stand whole k (λ m h. f m (inr h)))

pub kids_have : (whole k : Trace) → ((x : Task) → HasBelow x k → HasBelow x whole) → Kids (λ u n. (x : Task) → HasTask x n → HasBelow x whole) k
kids_have whole (ends e) f = tt
kids_have whole (looks l p s k) f = kids_have whole k f
kids_have whole (lists d es k) f = kids_have whole k f
kids_have whole (writes p b k) f = kids_have whole k f
kids_have whole (needs r u n k) f = (λ x h. f x (inl h), kids_have whole k (λ x h. f x (inr h)))

pub kids_required : (whole k : Trace) → ((u : Task) → among u (required_by k) ≡ true → among u (required_by whole) ≡ true)
    → Kids (λ u n. among u (required_by whole) ≡ true) k
kids_required whole (ends e) f = tt
kids_required whole (looks l p s k) f = kids_required whole k f
kids_required whole (lists d es k) f = kids_required whole k f
kids_required whole (writes p b k) f = kids_required whole k f
kids_required whole (needs r u n k) f =
    (f u (among_here u (required_by k)), kids_required whole k (λ v h. f v (among_there v u (required_by k) h)))

-- a required task has an evaluation in the trace
pub required_kid : {R : Type 0} (Q : Task → Node → Type 0) (u : Task) (k : Trace) → Kids Q k → among u (required_by k) ≡ true
    → ((n : Node) → Q u n → ((m : Node) → StandsIn m n → StandsBelow m k) → R) → R
required_kid Q u (ends e) q h f = clash false h refl
required_kid Q u (looks l p s k) q h f = required_kid Q u k q h f
required_kid Q u (lists d es k) q h f = required_kid Q u k q h f
required_kid Q u (writes p b k) q h f = required_kid Q u k q h f
required_kid {R} Q u (needs r v n k) q h f =
    go (among_split u v (required_by k) h) (λ i. required_kid Q u k q.1 i (λ m c s. f m c (λ x j. inr (s x j))))
  where
    go : (u ≡ v) ⊎ (among u (required_by k) ≡ true) → (among u (required_by k) ≡ true → R) → R
    go (inl e) later = f n (subst (λ x. Q x n) (sym e) q.0) (λ x j. inl j)
    go (inr i) later = later i

-- some required evaluation ended so
abbrev pub StopsBy : Outcome → Trace → Type 0
StopsBy e (ends x) = ⊥
StopsBy e (looks l p s k) = StopsBy e k
StopsBy e (lists d es k) = StopsBy e k
StopsBy e (writes p b k) = StopsBy e k
StopsBy e (needs h u n k) = (outcome_of n ≡ e) ⊎ StopsBy e k

-- a trace that ends in too long a chain has a required evaluation that does
module _ (w : World) (P : Project) (t : Task) (child : Task → Node) where
  module _ (go : Progress → Trace) (G : (g : Progress) → end_of (go g) ≡ Many → StopsBy Many (go g)) where
    seen_many : (l : Look) (p : Path) (g : Progress) (s : Seen) → end_of (on_seen w t l p g go s) ≡ Many → StopsBy Many (on_seen w t l p g go s)
    seen_many l p g Nothing h = G _ h
    seen_many l p g (Holds b m) h = G _ h
    seen_many l p g Clashing h = cc

    listing_many : (d : Path) (g : Progress) (es : Option (List Path)) → end_of (on_listing t d g go es) ≡ Many
        → StopsBy Many (on_listing t d g go es)
    listing_many d g None h = cc
    listing_many d g (Some es) h = G _ h

    outcome_many : (h : How) (u : Task) (g : Progress) (n : Node) (e : Outcome) → outcome_of n ≡ e → end_of (on_outcome h g n go e) ≡ Many
        → StopsBy Many (needs h u n (on_outcome h g n go e))
    outcome_many h u g n (Ended v) q k = inr (G _ k)
    outcome_many h u g n (Failed x f) q k = cc
    outcome_many h u g n (Cycled ts) q k = cc
    outcome_many h u g n Many q k = inl q

    event_many : (g : Progress) (e : Event) → end_of (on_event w P child t g go e) ≡ Many → StopsBy Many (on_event w P child t g go e)
    event_many g (Done v) h = cc
    event_many g (Fail f) h = cc
    event_many g (LookAt l p) h = seen_many l p g (visible_at P.file g.own g.kids p) h
    event_many g (ListOf d) h = listing_many d g (listing w P d) h
    event_many g (Write p b) h = G _ h
    event_many g (Require r u) h = outcome_many r u g (child u) (outcome_of (child u)) refl h

  pub follow_many : (n : ℕ) (g : Progress) → end_of (follow w P child t n g) ≡ Many → StopsBy Many (follow w P child t n g)
  follow_many zero g h = cc
  follow_many (suc n) g h = event_many (follow w P child t n) (follow_many n) g (P.next t g.answers) h

pub levels_stop : (m : ℕ) (e : Outcome) (k : Trace) → Kids (λ u n. outcome_of n ≡ e → m ≤ levels n) k → StopsBy e k → m ≤ levels_below k
levels_stop m e (ends x) q h = absurd h
levels_stop m e (looks l p s k) q h = levels_stop m e k q h
levels_stop m e (lists d es k) q h = levels_stop m e k q h
levels_stop m e (writes p b k) q h = levels_stop m e k q h
levels_stop m e (needs r u n k) q (inl h) = let f : m ≤ levels n = q.0 h in omega arith
levels_stop m e (needs r u n k) q (inr h) = let f : m ≤ levels_below k = levels_stop m e k q.1 h in omega arith
