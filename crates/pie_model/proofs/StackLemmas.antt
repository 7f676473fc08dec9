-- A failure, a cycle or too many tasks at the newest running task is the root's.
use Rattle.std.proofs.Common.{ℕ, suc, ◌-◌, ◌≡◌, Bool, true, false, cond, List, [], ◌∷◌, ◌++◌, length, sym, ◌∙◌, ap, subst, refl, arith, append_assoc}
use Rattle.std.proofs.Common.{append-nil}
use Rattle.pie_model.specs.Paths.{among}
use Rattle.pie_model.specs.Tasks.{Task}
use Rattle.pie_model.specs.Trees.{Node, node, Trace, ends, looks, lists, writes, needs, Outcome, outcome_of, is_done, entered, entered_below, enter}
use Rattle.pie_model.specs.Evaluation.{World, Project, evaluation_with, evaluation_under, evaluation, on_outcome}
use Rattle.pie_model.specs.Running.{rest_of_run}
use Rattle.pie_model.specs.inner.Stack.{Frame, tasks_of, entered_by, IsWaiting, Begins}
use Rattle.pie_model.specs.inner.Stack.IsWaiting.{nobody, waits}
use Rattle.pie_model.proofs.RunningLemmas.{ends_as_required, enters_stopped, enters_required}

pub begins_itself : (xs : List Task) → Begins xs xs
begins_itself xs = record { rest = []; is = sym (append-nil xs) }

pub begins_more : (xs ys zs : List Task) → Begins xs ys → Begins ys zs → Begins xs zs
begins_more xs ys zs a b = record { rest = a.rest ++ b.rest; is = b.is ∙ ap (λ z. z ++ b.rest) a.is ∙ append_assoc xs a.rest b.rest }

enter_begins : (t : Task) (all : List Task) → Begins all (enter t all)
enter_begins t all = go (among t all)
  where
    go : (b : Bool) → Begins all (cond b all (all ++ t ∷ []))
    go true = begins_itself all
    go false = record { rest = t ∷ []; is = refl }

-- what was entered before stands in front
mutual
  pub entered_begins : (n : Node) (all : List Task) → Begins all (entered n all)
  entered_begins (node t k) all = begins_more all (enter t all) (entered_below k (enter t all)) (enter_begins t all) (below_begins k (enter t all))

  pub below_begins : (k : Trace) (all : List Task) → Begins all (entered_below k all)
  below_begins (ends e) all = begins_itself all
  below_begins (looks l p s k) all = below_begins k all
  below_begins (lists d es k) all = below_begins k all
  below_begins (writes p b k) all = below_begins k all
  below_begins (needs h u n k) all = begins_more all (entered n all) (entered_below k (entered n all)) (entered_begins n all)
      (below_begins k (entered n all))

module _ (w : World) (P : Project) (root : Task) where
  child_is : (fs : List Frame) (f : Frame) (room : ℕ) → w.most_tasks - length (tasks_of fs) ≡ suc room → (u : Task)
      → evaluation_under w P (tasks_of (f ∷ fs)) u ≡ evaluation_with room w P (f.task ∷ tasks_of fs) u
  child_is fs f room e u = ap (λ n. evaluation_with n w P (f.task ∷ tasks_of fs) u) (less w.most_tasks (length (tasks_of fs)) room e)
    where
      less : (a b c : ℕ) → a - b ≡ suc c → a - suc b ≡ c
      less a b c q = omega arith

  -- an outcome that is no value is the root's
  pub sinks : (fs : List Frame) (u : Task) (e : Outcome) → IsWaiting w P root fs u → outcome_of (evaluation_under w P (tasks_of fs) u) ≡ e
      → is_done e ≡ false
      → outcome_of (evaluation w P root) ≡ e
  sinks [] u e nobody h d = h
  sinks (f ∷ fs) u e (waits k room room_is run next below) h d =
      sinks fs f.task e below
      (ap (λ n. outcome_of (evaluation_with n w P (tasks_of fs) f.task)) room_is
      ∙ ap (λ r. r.outcome) (ends_as_required w P room (tasks_of fs) f.task f.left f.progress f.seen k u e next
      (sym (ap outcome_of (child_is fs f room room_is u)) ∙ h) d run)) d

  -- and so is what was entered
  pub sinks_entered : (base : List Task) (fs : List Frame) (u : Task) (e : Outcome) → IsWaiting w P root fs u
      → outcome_of (evaluation_under w P (tasks_of fs) u) ≡ e → is_done e ≡ false
      → entered (evaluation w P root) base ≡ entered (evaluation_under w P (tasks_of fs) u) (entered_by base fs)
  sinks_entered base [] u e nobody h d = refl
  sinks_entered base (f ∷ fs) u e (waits k room room_is run next below) h d =
      let q = sym (ap outcome_of (child_is fs f room room_is u)) ∙ h in
      sinks_entered base fs f.task e below
      (ap (λ n. outcome_of (evaluation_with n w P (tasks_of fs) f.task)) room_is
      ∙ ap (λ r. r.outcome) (ends_as_required w P room (tasks_of fs) f.task f.left f.progress f.seen k u e next q d run)) d
      ∙ ap (λ n. entered (evaluation_with n w P (tasks_of fs) f.task) (entered_by base fs)) room_is
      ∙ enters_stopped w P room (tasks_of fs) f.task f.left f.progress f.seen k u e next q d run (entered_by base fs)
      ∙ ap (λ n. entered n (entered_by base (f ∷ fs))) (sym (child_is fs f room room_is u))

  -- whatever follows, what was entered so far stands in front of what the root enters
  pub sinks_begins : (base : List Task) (fs : List Frame) (u : Task) → IsWaiting w P root fs u
      → Begins (entered (evaluation_under w P (tasks_of fs) u) (entered_by base fs)) (entered (evaluation w P root) base)
  sinks_begins base [] u nobody = begins_itself _
  sinks_begins base (f ∷ fs) u (waits k room room_is run next below) =
      begins_more _ _ _
      (subst (λ n. Begins (entered n (entered_by base (f ∷ fs))) (entered (evaluation_with (suc room) w P (tasks_of fs) f.task) (entered_by base fs)))
      (sym (child_is fs f room room_is u))
      (subst (λ z. Begins (entered (evaluation_with room w P (f.task ∷ tasks_of fs) u) (entered_by base (f ∷ fs))) z)
      (sym (enters_required w P room (tasks_of fs) f.task f.left f.progress f.seen k u next run (entered_by base fs)))
      (below_begins (on_outcome k f.progress (evaluation_with room w P (f.task ∷ tasks_of fs) u)
      (rest_of_run w P room (tasks_of fs) f.task f.left) (outcome_of (evaluation_with room w P (f.task ∷ tasks_of fs) u)))
      (entered (evaluation_with room w P (f.task ∷ tasks_of fs) u) (entered_by base (f ∷ fs))))))
      (subst (λ n. Begins (entered (evaluation_with n w P (tasks_of fs) f.task) (entered_by base fs)) (entered (evaluation w P root) base)) room_is
      (sinks_begins base fs f.task below))
