-- Ways by records, and what stands in a tree of right records.
use Rattle.std.proofs.Common.{ℕ, zero, suc, ◌-◌, ◌≡◌, true, Option, Some, List, [], ◌∷◌, length, inl, inr, sym, ◌∙◌, ap, subst, refl, arith}
use Rattle.pie_model.specs.Paths.{among}
use Rattle.pie_model.specs.Tasks.{Task}
use Rattle.pie_model.specs.Trees.{Node, node, Trace, ends, looks, lists, writes, needs, outcome_of, task_of, trace_of, is_plain, StandsIn, StandsBelow}
use Rattle.pie_model.specs.Trees.{required_by}
use Rattle.pie_model.specs.Evaluation.{World, Project, evaluation_with, evaluation}
use Rattle.pie_model.specs.Records.{Record, record_of, needs_of, observations_of}
use Rattle.pie_model.specs.inner.Present.{Reaches}
use Rattle.pie_model.specs.inner.Present.Way.{here, along}
use Rattle.pie_model.specs.inner.RecordLaws.{HasItsRecord}
use Rattle.pie_model.proofs.Basics.{among_here, among_there}
use Rattle.pie_model.proofs.Kids.{Kids, required_kid}
use Rattle.pie_model.proofs.Rooms.{IsOwn, own_kids}
use Rattle.pie_model.proofs.LooksLemmas.{some_same}

pub further : {R : Task → Option Record} {b c a : Task} → Reaches R a b → Reaches R b c → Reaches R a c
further here q = q
further (along e i p) q = along e i (further p q)

pub needs_of-observations : (w : World) (k : Trace) → needs_of (observations_of w k) ≡ required_by k
needs_of-observations w (ends e) = refl
needs_of-observations w (looks l p s k) = needs_of-observations w k
needs_of-observations w (lists d es k) = needs_of-observations w k
needs_of-observations w (writes p b k) = needs_of-observations w k
needs_of-observations w (needs h u n k) = ap (λ z. u ∷ z) (needs_of-observations w k)

pub task_of-evaluation_with : (n : ℕ) (w : World) (P : Project) (above : List Task) (t : Task) → task_of (evaluation_with n w P above t) ≡ t
task_of-evaluation_with zero w P above t = refl
task_of-evaluation_with (suc n) w P above t = refl

pub task_of-evaluation : (w : World) (P : Project) (t : Task) → task_of (evaluation w P t) ≡ t
task_of-evaluation w P t = task_of-evaluation_with (w.most_tasks - length {A = Task} []) w P [] t

pub stands_itself : (n : Node) → StandsIn n n
stands_itself (node t k) = inl refl

pub below_in : (m n : Node) → StandsBelow m (trace_of n) → StandsIn m n
below_in m (node t k) h = inr h

pub record_right : (w : World) (P : Project) (R : Task → Option Record) (x : Task) (r : Record) → HasItsRecord w P R x → R x ≡ Some r
    → r ≡ record_of w (evaluation w P x)
record_right w P R x r h e = some_same _ _ (sym e ∙ h.is)

-- the required tasks of a right record are those of the evaluation
pub needs_right : (w : World) (P : Project) (R : Task → Option Record) (x u : Task) (r : Record) → HasItsRecord w P R x → R x ≡ Some r
    → among u (needs_of r.observations) ≡ true → among u (required_by (trace_of (evaluation w P x))) ≡ true
needs_right w P R x u r h e i =
    subst (λ z. among u z ≡ true) (needs_of-observations w (trace_of (evaluation w P x)))
    (subst (λ z. among u (needs_of z.observations) ≡ true) (record_right w P R x r h e) i)

pub right_needs : (w : World) (P : Project) (x u : Task) → among u (required_by (trace_of (evaluation w P x))) ≡ true
    → among u (needs_of (observations_of w (trace_of (evaluation w P x)))) ≡ true
right_needs w P x u i = subst (λ z. among u z ≡ true) (sym (needs_of-observations w (trace_of (evaluation w P x)))) i

pub kids_own : (w : World) (P : Project) (x : Task) → is_plain (outcome_of (evaluation w P x)) ≡ true → Kids (IsOwn w P) (trace_of (evaluation w P x))
kids_own w P x h = own_kids (w.most_tasks - length {A = Task} []) w P [] x (omega arith) h

module _ (w : World) (P : Project) (R : Task → Option Record) where
  -- what the records reach stands in the tree
  pub reached_stands : {b a : Task} → Reaches R a b → ((x : Task) → Reaches R a x → HasItsRecord w P R x)
      → StandsIn (evaluation w P b) (evaluation w P a)
  reached_stands here H = stands_itself (evaluation w P _)
  reached_stands {b} {a} (along {b = c} {r = r} e i q) H =
      required_kid (IsOwn w P) c (trace_of (evaluation w P a)) (kids_own w P a (H a here).plain) (needs_right w P R a c r (H a here) e i)
      (λ n own f. below_in (evaluation w P b) (evaluation w P a)
      (f (evaluation w P b) (subst (λ z. StandsIn (evaluation w P b) z) (sym own.0) (reached_stands q (λ x r. H x (along e i r))))))

  -- what stands in the tree is reached by the records, and is its task's own evaluation
  pub record Reached (u : Task) (m : Node) : Type 0 where
    pub way : Reaches R u (task_of m)
    pub own : m ≡ evaluation w P (task_of m)

  own_reached : (u : Task) (m : Node) → m ≡ evaluation w P u → Reached u m
  own_reached u m e =
      let q : task_of m ≡ u = ap task_of e ∙ task_of-evaluation w P u in
      record { way = subst (λ z. Reaches R u z) (sym q) here; own = e ∙ ap (evaluation w P) (sym q) }

  after : (u v : Task) (m : Node) (r : Record) → R u ≡ Some r → among v (needs_of r.observations) ≡ true → Reached v m → Reached u m
  after u v m r e i q = record { way = along e i q.way; own = q.own }

  mutual
    pub stands_reached : (n : Node) (u : Task) (m : Node) → n ≡ evaluation w P u → ((x : Task) → Reaches R u x → HasItsRecord w P R x)
        → StandsIn m n → Reached u m
    stands_reached (node t k) u m e H (inl q) = own_reached u m (q ∙ e)
    stands_reached (node t k) u m e H (inr s) =
        below_reached k u m
        (subst (λ z. Kids (IsOwn w P) (trace_of z)) (sym e) (kids_own w P u (H u here).plain))
        (λ v i. right_needs w P u v (subst (λ z. among v (required_by (trace_of z)) ≡ true) e i)) H s

    pub below_reached : (k : Trace) (u : Task) (m : Node) → Kids (IsOwn w P) k
        → ((v : Task) → among v (required_by k) ≡ true → among v (needs_of (observations_of w (trace_of (evaluation w P u)))) ≡ true)
        → ((x : Task) → Reaches R u x → HasItsRecord w P R x) → StandsBelow m k → Reached u m
    below_reached (ends e) u m q f H s = absurd s
    below_reached (looks l p x k) u m q f H s = below_reached k u m q f H s
    below_reached (lists d es k) u m q f H s = below_reached k u m q f H s
    below_reached (writes p b k) u m q f H s = below_reached k u m q f H s
    below_reached (needs h v n k) u m q f H (inl s) =
        after u v m _ (H u here).is (f v (among_here v (required_by k)))
        (stands_reached n v m q.0.0 (λ x r. H x (along (H u here).is (f v (among_here v (required_by k))) r)) s)
    below_reached (needs h v n k) u m q f H (inr s) = below_reached k u m q.1 (λ x i. f x (among_there x v (required_by k) i)) H s
