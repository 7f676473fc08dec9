-- The walk began at a root, after each step too.
use Rattle.std.proofs.Common.{◌≡◌, ℕ, List, [], ◌∷◌, ◌++◌, None, Some, refl, sym, ap, ◌∙◌, subst}
use Rattle.std.specs.List.{Contains}
use Rattle.pie_value.specs.declared.task.Task.{Task}
use Rattle.pie_graph.specs.declared.edges.TaskNo.{TaskNo}
use Rattle.pie_graph.proofs.Among.{contains_here}
use Rattle.pie_walk.specs.declared.marks.Mark.{Mark}
use Rattle.pie_walk.specs.declared.marks.Mark.TheVariants.{New, Visited, Runs, Settled}
use Rattle.pie_walk.specs.declared.stack.Entry.{Entry}
use Rattle.pie_walk.specs.declared.stack.Entry.TheVariants.{Visit, Waits}
use Rattle.pie_walk.specs.Marks.{mark_of}
use Rattle.pie_walk.specs.States.{WalkState, no_of, base_of, below, met, visiting, if_new}
use Rattle.pie_walk.specs.Standing.{HoldsIn, mark_for}
use Rattle.pie_walk.proofs.EntrySteps.{marked_in}
use Rattle.pie_compare_laws.proofs.Ways.{one_some}
use Rattle.pie_bottomup.specs.inner.States.{IsRootAt, IsBased}
use Rattle.pie_bottomup.proofs.Growing.{named_more}

no_base : (n : ℕ) → None ≡ Some n → ⊥
no_base n e = cc

module _ (roots names : List Task) where
  -- an empty stack
  pub based_empty : (stack : List Entry) → stack ≡ [] → IsBased roots names stack
  based_empty stack e n is = absurd (no_base n (sym (ap base_of e) ∙ is))

  -- a stack with the same base
  pub based_as : (old new : List Entry) → base_of new ≡ base_of old → IsBased roots names old → IsBased roots names new
  based_as old new e is n base = is n (sym e ∙ base)

  pub based_same : (old new : List Entry) → new ≡ old → IsBased roots names old → IsBased roots names new
  based_same old new e = based_as old new (ap base_of e)

  -- one entry more
  pub based_pushed : (e : Entry) (es : List Entry) → (es ≡ [] → IsRootAt roots names (no_of e)) → IsBased roots names es → IsBased roots names (e ∷ es)
  based_pushed e [] root is n base = subst (IsRootAt roots names) (one_some (no_of e) n base) (root refl)
  based_pushed e (f ∷ fs) root is n base = is n base

  -- one less
  pub based_popped : (es : List Entry) → IsBased roots names es → IsBased roots names (below es)
  based_popped [] is n base = is n base
  based_popped (e ∷ []) is n base = absurd (no_base n base)
  based_popped (e ∷ f ∷ fs) is n base = is n base

  -- a task is met
  pub based_met : (s : WalkState) (task : TaskNo) → (s.stack ≡ [] → IsRootAt roots names task.0) → IsBased roots names s.stack
      → IsBased roots names (met s task).stack
  based_met s task root is = by (mark_of s.marks task.0)
    where
      by : (m : Mark) → IsBased roots names (if_new m (visiting s task) s).stack
      by New = based_pushed (Visit task 0) s.stack root is
      by Visited = is
      by Runs = is
      by Settled = is

  -- one name more
  pub based_more : (t : Task) (stack : List Entry) → IsBased roots names stack → IsBased roots (names ++ t ∷ []) stack
  based_more t stack is n base =
      let at = is n base in record { root = at.root; listed = at.listed; named = named_more names t at.root n at.named }

-- where no task was met, the stack is empty
pub none_stacked : (s : WalkState) → HoldsIn s → ((n : ℕ) → mark_of s.marks n ≡ New) → s.stack ≡ []
none_stacked s holds fresh = by s.stack refl
  where
    other : (e : Entry) → New ≡ mark_for e → ⊥
    other (Visit task next) is = cc
    other (Waits task) is = cc

    by : (es : List Entry) → s.stack ≡ es → s.stack ≡ []
    by [] is = is
    by (e ∷ es) is =
        absurd (other e (sym (fresh (no_of e))
        ∙ marked_in s.rows s.marks None s.stack e holds.entries (subst (λ (xs : List Entry). Contains xs e) (sym is) (contains_here e es))))
