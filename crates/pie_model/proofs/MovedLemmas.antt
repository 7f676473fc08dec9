-- A plain tree below other tasks and with other room: the same, or no room, or a cycle through it.
use Rattle.std.proofs.Common.{ℕ, zero, suc, ◌≤◌, ◌≡◌, true, false, cond, Option, Some, None, List, [], ◌∷◌, ◌⊎◌, inl, inr, sym, ◌∙◌, ap, subst, subst₂, refl}
use Rattle.std.proofs.Common.{arith}
use Rattle.pie_model.specs.Paths.{Path, among}
use Rattle.pie_model.specs.Tasks.{Task, Look, How, Event, Done, Fail, LookAt, ListOf, Write, Require}
use Rattle.pie_model.specs.Trees.{Node, node, Trace, ends, looks, lists, writes, needs, Seen, Nothing, Holds, Clashing, Outcome, Ended, Failed, Cycled, Many}
use Rattle.pie_model.specs.Trees.{outcome_of, end_of, is_plain, HasTask, HasBelow, levels, levels_below}
use Rattle.pie_model.specs.Seen.{visible_at}
use Rattle.pie_model.specs.Evaluation.{World, Project, Progress, start, listing, on_seen, on_listing, on_outcome, on_event, follow, round, evaluation_with}
use Rattle.pie_model.specs.inner.Moved.{Moved}
use Rattle.pie_model.specs.inner.Moved.Moved.{same as same_tree, no_room as no_room_tree, through as through_tree}
use Rattle.pie_model.proofs.Basics.{clash, cases, among_split, apart_rest, apart_prefix}

-- as `Moved`, of traces; the task of the cycle does not stand above the old one
pub data MovedTrace (m : ℕ) (new_above old_above : List Task) (new old : Trace) : Type 0 where
  same : new ≡ old → MovedTrace m new_above old_above new old
  no_room : end_of new ≡ Many → (levels_below old ≤ m → ⊥) → MovedTrace m new_above old_above new old
  through : (a : Task) (ts : List Task) → end_of new ≡ Cycled ts → among a new_above ≡ true → among a old_above ≡ false → HasBelow a old
      → MovedTrace m new_above old_above new old

pub data MovedNode (m : ℕ) (new_above old_above : List Task) (new old : Node) : Type 0 where
  same_node : new ≡ old → MovedNode m new_above old_above new old
  no_room_node : outcome_of new ≡ Many → (levels old ≤ m → ⊥) → MovedNode m new_above old_above new old
  through_node : (a : Task) (ts : List Task) → outcome_of new ≡ Cycled ts → among a new_above ≡ true → among a old_above ≡ false → HasTask a old
      → MovedNode m new_above old_above new old

module _ {m : ℕ} {na oa : List Task} where
  on_looks : (l : Look) (p : Path) (s : Seen) {x y : Trace} → MovedTrace m na oa x y → MovedTrace m na oa (looks l p s x) (looks l p s y)
  on_looks l p s (same e) = same (ap (looks l p s) e)
  on_looks l p s (no_room e f) = no_room e f
  on_looks l p s (through a ts e i o h) = through a ts e i o h

  on_lists : (d : Path) (es : Option (List Path)) {x y : Trace} → MovedTrace m na oa x y → MovedTrace m na oa (lists d es x) (lists d es y)
  on_lists d es (same e) = same (ap (lists d es) e)
  on_lists d es (no_room e f) = no_room e f
  on_lists d es (through a ts e i o h) = through a ts e i o h

  on_writes : (p : Path) (b : List ℕ) {x y : Trace} → MovedTrace m na oa x y → MovedTrace m na oa (writes p b x) (writes p b y)
  on_writes p b (same e) = same (ap (writes p b) e)
  on_writes p b (no_room e f) = no_room e f
  on_writes p b (through a ts e i o h) = through a ts e i o h

  on_needs : (h : How) (u : Task) (n : Node) {x y : Trace} → MovedTrace m na oa x y → MovedTrace m na oa (needs h u n x) (needs h u n y)
  on_needs h u n (same e) = same (ap (needs h u n) e)
  on_needs h u n {y = y} (no_room e f) = no_room e (λ k. f (omega arith))
  on_needs h u n (through a ts e i o k) = through a ts e i o (inr k)

-- a required task in a plain tree is plain
pub plain_kid : (h : How) (g : Progress) (n : Node) (go : Progress → Trace) (e : Outcome)
    → is_plain (end_of (on_outcome h g n go e)) ≡ true → is_plain e ≡ true
plain_kid h g n go (Ended v) k = refl
plain_kid h g n go (Failed t f) k = refl
plain_kid h g n go (Cycled ts) k = k
plain_kid h g n go Many k = k

module _ (w : World) (P : Project) (t : Task) (m : ℕ) (na oa : List Task) (new_child old_child : Task → Node)
    (moved : (u : Task) → is_plain (outcome_of (old_child u)) ≡ true → MovedNode m na oa (new_child u) (old_child u)) where
  module _ (new_go old_go : Progress → Trace)
      (goes : (g : Progress) → is_plain (end_of (old_go g)) ≡ true → MovedTrace m na oa (new_go g) (old_go g)) where
    seen_moved : (l : Look) (p : Path) (g : Progress) (s : Seen) → is_plain (end_of (on_seen w t l p g old_go s)) ≡ true
        → MovedTrace m na oa (on_seen w t l p g new_go s) (on_seen w t l p g old_go s)
    seen_moved l p g Nothing h = on_looks l p Nothing (goes _ h)
    seen_moved l p g (Holds b k) h = on_looks l p (Holds b k) (goes _ h)
    seen_moved l p g Clashing h = same refl

    listing_moved : (d : Path) (g : Progress) (es : Option (List Path)) → is_plain (end_of (on_listing t d g old_go es)) ≡ true
        → MovedTrace m na oa (on_listing t d g new_go es) (on_listing t d g old_go es)
    listing_moved d g None h = same refl
    listing_moved d g (Some es) h = on_lists d (Some es) (goes _ h)

    outcome_moved : (h : How) (u : Task) (g : Progress) (n : Node) (e : Outcome) → is_plain (end_of (on_outcome h g n old_go e)) ≡ true
        → MovedTrace m na oa (needs h u n (on_outcome h g n new_go e)) (needs h u n (on_outcome h g n old_go e))
    outcome_moved h u g n (Ended v) k = on_needs h u n (goes _ k)
    outcome_moved h u g n (Failed x f) k = same refl
    outcome_moved h u g n (Cycled ts) k = same refl
    outcome_moved h u g n Many k = same refl

    need_moved : (h : How) (u : Task) (g : Progress) (n old : Node) → is_plain (end_of (on_outcome h g old old_go (outcome_of old))) ≡ true
        → MovedNode m na oa n old
        → MovedTrace m na oa (needs h u n (on_outcome h g n new_go (outcome_of n))) (needs h u old (on_outcome h g old old_go (outcome_of old)))
    need_moved h u g n old k (same_node e) =
        subst (λ x. MovedTrace m na oa (needs h u x (on_outcome h g x new_go (outcome_of x)))
        (needs h u old (on_outcome h g old old_go (outcome_of old)))) (sym e)
        (outcome_moved h u g old (outcome_of old) k)
    need_moved h u g n old k (no_room_node e f) = no_room (ap (λ x. end_of (on_outcome h g n new_go x)) e) (λ q. f (omega arith))
    need_moved h u g n old k (through_node a ts e i o s) = through a ts (ap (λ x. end_of (on_outcome h g n new_go x)) e) i o (inl s)

    event_moved : (g : Progress) (e : Event) → is_plain (end_of (on_event w P old_child t g old_go e)) ≡ true
        → MovedTrace m na oa (on_event w P new_child t g new_go e) (on_event w P old_child t g old_go e)
    event_moved g (Done v) h = same refl
    event_moved g (Fail f) h = same refl
    event_moved g (LookAt l p) h = seen_moved l p g (visible_at P.file g.own g.kids p) h
    event_moved g (ListOf d) h = listing_moved d g (listing w P d) h
    event_moved g (Write p b) h = on_writes p b (goes _ h)
    event_moved g (Require r u) h =
        need_moved r u g (new_child u) (old_child u) h (moved u (plain_kid r g (old_child u) old_go (outcome_of (old_child u)) h))

  follow_moved : (n : ℕ) (g : Progress) → is_plain (end_of (follow w P old_child t n g)) ≡ true
      → MovedTrace m na oa (follow w P new_child t n g) (follow w P old_child t n g)
  follow_moved zero g h = same refl
  follow_moved (suc n) g h = event_moved (follow w P new_child t n) (follow w P old_child t n) (follow_moved n) g (P.next t g.answers) h

-- the task itself is put back on the lists
lifted : (m : ℕ) (t : Task) (na oa : List Task) (x y : Trace) → MovedTrace m (t ∷ na) (t ∷ oa) x y → MovedNode (suc m) na oa (node t x) (node t y)
lifted m t na oa x y (same e) = same_node (ap (node t) e)
lifted m t na oa x y (no_room e f) = no_room_node e (λ k. f (omega arith))
lifted m t na oa x y (through a ts e i o h) = through_node a ts e (later (among_split a t na i)) (apart_rest a t oa o) (inr h)
  where
    later : (a ≡ t) ⊎ (among a na ≡ true) → among a na ≡ true
    later (inl q) = apart_prefix a t oa o q
    later (inr q) = q

-- the trace of an evaluation, after the test of what is above
abbrev pub rest_of : ℕ → World → Project → List Task → Task → Trace
rest_of zero w P above t = ends Many
rest_of (suc n) w P above t = follow w P (evaluation_with n w P (t ∷ above)) t w.most_events start

pub opened_apart : (n : ℕ) (w : World) (P : Project) (above : List Task) (t : Task) → among t above ≡ false
    → evaluation_with n w P above t ≡ node t (rest_of n w P above t)
opened_apart zero w P above t h = ap (λ b. node t (ends (cond b (Cycled (round t above [])) Many))) h
opened_apart (suc n) w P above t h =
    ap (λ b. node t (cond b (ends (Cycled (round t above []))) (follow w P (evaluation_with n w P (t ∷ above)) t w.most_events start))) h

pub opened_among : (n : ℕ) (w : World) (P : Project) (above : List Task) (t : Task) → among t above ≡ true
    → evaluation_with n w P above t ≡ node t (ends (Cycled (round t above [])))
opened_among zero w P above t h = ap (λ b. node t (ends (cond b (Cycled (round t above [])) Many))) h
opened_among (suc n) w P above t h =
    ap (λ b. node t (cond b (ends (Cycled (round t above []))) (follow w P (evaluation_with n w P (t ∷ above)) t w.most_events start))) h

-- a plain evaluation is not below its own task
pub plain_apart : (n : ℕ) (w : World) (P : Project) (above : List Task) (t : Task) → is_plain (outcome_of (evaluation_with n w P above t))
    ≡ true → among t above ≡ false
plain_apart n w P above t h = go (cases (among t above))
  where
    go : (among t above ≡ true) ⊎ (among t above ≡ false) → among t above ≡ false
    go (inl e) = clash false (sym (ap (λ x. is_plain (outcome_of x)) (opened_among n w P above t e)) ∙ h) refl
    go (inr e) = e

moved_by : (n m : ℕ) (w : World) (P : Project) (na oa : List Task) (t : Task)
    → ((k : ℕ) (u : Task) → is_plain (outcome_of (evaluation_with n w P (t ∷ oa) u)) ≡ true
    → MovedNode k (t ∷ na) (t ∷ oa) (evaluation_with k w P (t ∷ na) u) (evaluation_with n w P (t ∷ oa) u))
    → is_plain (outcome_of (evaluation_with (suc n) w P oa t)) ≡ true → among t oa ≡ false → (among t na ≡ true) ⊎ (among t na ≡ false)
    → MovedNode m na oa (evaluation_with m w P na t) (evaluation_with (suc n) w P oa t)
moved_by n m w P na oa t rec h o (inl i) = through_node t (round t na []) (ap outcome_of (opened_among m w P na t i)) i o (inl refl)
moved_by n zero w P na oa t rec h o (inr f) = no_room_node (ap outcome_of (opened_apart zero w P na t f)) (λ q. absurd (omega arith))
moved_by n (suc m) w P na oa t rec h o (inr f) =
    subst₂ (MovedNode (suc m) na oa) (sym (opened_apart (suc m) w P na t f)) (sym (opened_apart (suc n) w P oa t o))
    (lifted m t na oa _ _
    (follow_moved w P t m (t ∷ na) (t ∷ oa) (evaluation_with m w P (t ∷ na)) (evaluation_with n w P (t ∷ oa)) (rec m) w.most_events start
    (sym (ap (λ x. is_plain (outcome_of x)) (opened_apart (suc n) w P oa t o)) ∙ h)))

pub moved_with : (n m : ℕ) (w : World) (P : Project) (na oa : List Task) (t : Task) → is_plain (outcome_of (evaluation_with n w P oa t)) ≡ true
    → MovedNode m na oa (evaluation_with m w P na t) (evaluation_with n w P oa t)
moved_with zero m w P na oa t h = clash false (sym (ap (λ x. is_plain (outcome_of x))
    (opened_apart zero w P oa t (plain_apart zero w P oa t h))) ∙ h) refl
moved_with (suc n) m w P na oa t h =
    moved_by n m w P na oa t (λ k u q. moved_with n k w P (t ∷ na) (t ∷ oa) u q) h (plain_apart (suc n) w P oa t h) (cases (among t na))

-- in the words of the law
pub moved_law : (old_room new_room : ℕ) (w : World) (P : Project) (old_above new_above : List Task) (t : Task)
    → is_plain (outcome_of (evaluation_with old_room w P old_above t)) ≡ true
    → Moved new_room new_above (evaluation_with new_room w P new_above t) (evaluation_with old_room w P old_above t)
moved_law n m w P oa na t h = go (moved_with n m w P na oa t h)
  where
    go : MovedNode m na oa (evaluation_with m w P na t) (evaluation_with n w P oa t)
        → Moved m na (evaluation_with m w P na t) (evaluation_with n w P oa t)
    go (same_node e) = same_tree e
    go (no_room_node e f) = no_room_tree e f
    go (through_node a ts e i o s) = through_tree a ts e i s
