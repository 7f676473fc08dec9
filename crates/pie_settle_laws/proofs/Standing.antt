-- What waits for a task holds its evaluation in the tree of the base.
use Rattle.std.proofs.Common.{ℕ, suc, ◌-◌, ◌≡◌, List, [], ◌∷◌, length, inl, inr, sym, ap, subst, arith}
use Rattle.pie_model.specs.Tasks.{Task}
use Rattle.pie_model.specs.Trees.{Node, node, Trace, ends, looks, lists, writes, needs, HasTask, StandsIn, StandsBelow}
use Rattle.pie_model.specs.Evaluation.{World, Project, evaluation_with, evaluation_under, evaluation}
use Rattle.pie_model.specs.inner.Stack.{Frame, tasks_of, IsWaiting}
use Rattle.pie_model.specs.inner.Stack.IsWaiting.{nobody, waits}
use Rattle.pie_model.proofs.Ways.{stands_itself, task_of-evaluation_with}
use Rattle.pie_model.proofs.Rooms.{has_task}
use Rattle.pie_model.proofs.RunningLemmas.{required_stands}

mutual
  -- what stands in a tree that stands in another stands in that one
  pub stands_through : (a b n : Node) → StandsIn a b → StandsIn b n → StandsIn a n
  stands_through a b (node t k) i (inl e) = subst (λ z. StandsIn a z) e i
  stands_through a b (node t k) i (inr s) = inr (below_through a b k i s)

  below_through : (a b : Node) (k : Trace) → StandsIn a b → StandsBelow b k → StandsBelow a k
  below_through a b (ends e) i s = s
  below_through a b (looks l p x k) i s = below_through a b k i s
  below_through a b (lists d es k) i s = below_through a b k i s
  below_through a b (writes p c k) i s = below_through a b k i s
  below_through a b (needs h u n k) i (inl s) = inl (stands_through a b n i s)
  below_through a b (needs h u n k) i (inr s) = inr (below_through a b k i s)

module _ (w : World) (P : Project) (base : Task) where
  under_is : (fs : List Frame) (f : Frame) (room : ℕ) → w.most_tasks - length (tasks_of fs) ≡ suc room → (u : Task)
      → evaluation_under w P (tasks_of (f ∷ fs)) u ≡ evaluation_with room w P (f.task ∷ tasks_of fs) u
  under_is fs f room e u = ap (λ n. evaluation_with n w P (f.task ∷ tasks_of fs) u) (less w.most_tasks (length (tasks_of fs)) room e)
    where
      less : (a b c : ℕ) → a - b ≡ suc c → a - suc b ≡ c
      less a b c q = omega arith

  -- the evaluation of a task that is waited for stands in the base's
  pub stands_down : (fs : List Frame) (u : Task) → IsWaiting w P base fs u → StandsIn (evaluation_under w P (tasks_of fs) u) (evaluation w P base)
  stands_down [] u nobody = stands_itself (evaluation w P base)
  stands_down (f ∷ fs) u (waits k room is_room run next below) =
      stands_through (evaluation_under w P (tasks_of (f ∷ fs)) u) (evaluation_under w P (tasks_of fs) f.task) (evaluation w P base)
      (subst (λ z. StandsIn z (evaluation_under w P (tasks_of fs) f.task)) (sym (under_is fs f room is_room u))
      (subst (λ n. StandsIn (evaluation_with room w P (f.task ∷ tasks_of fs) u) (evaluation_with n w P (tasks_of fs) f.task)) (sym is_room)
      (required_stands w P room (tasks_of fs) f.task f.left f.progress f.seen k u next run)))
      (stands_down fs f.task below)

  pub has_down : (fs : List Frame) (u : Task) → IsWaiting w P base fs u → HasTask u (evaluation w P base)
  has_down fs u h =
      subst (λ z. HasTask z (evaluation w P base)) (task_of-evaluation_with (w.most_tasks - length (tasks_of fs)) w P (tasks_of fs) u)
      (has_task (evaluation_under w P (tasks_of fs) u) (evaluation w P base) (stands_down fs u h))
