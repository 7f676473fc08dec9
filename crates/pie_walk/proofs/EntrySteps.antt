-- The entries of a stack while rows and marks change.
use Rattle.std.proofs.Common.{◌≡◌, ◌≢◌, ◌⊎◌, ℕ, ◌<◌, ◌≤◌, List, [], ◌∷◌, Option, None, Some, length, refl, sym, ap, ◌∙◌, subst, inl, inr, arith}
use Rattle.std.specs.Prelude.{slice_index}
use Rattle.std.specs.List.{Contains}
use Rattle.std.proofs.lemmas.List.{get_or_default}
use Rattle.pie_graph.specs.Rows.{Row, Calls}
use Rattle.pie_graph.proofs.Among.{contains_here, contains_later, contains_cases}
use Rattle.pie_order.specs.Places.{PlacesAgree, StandsBefore}
use Rattle.pie_walk.specs.declared.marks.Mark.{Mark}
use Rattle.pie_walk.specs.declared.stack.Entry.{Entry}
use Rattle.pie_walk.specs.declared.stack.Entry.TheVariants.{Visit, Waits}
use Rattle.pie_walk.specs.Marks.{mark_of, IsSettled}
use Rattle.pie_walk.specs.States.{no_of}
use Rattle.pie_walk.specs.Standing.{needs_at, mark_for, HasVisited, HasRequired, HasCome, IsEntry, AreEntries}
use Rattle.pie_walk.proofs.MarkSteps.{KeepsSettled}

-- a change that leaves a task as it was
pub record IsUntouched (rows rows_now : List Row) (marks marks_now : List Mark) (n : ℕ) : Type 0 where
  pub inside : length rows ≤ length rows_now
  pub mark : mark_of marks_now n ≡ mark_of marks n
  pub needs : needs_at rows_now n ≡ needs_at rows n

come_kept : (needs : List ℕ) (marks marks_now : List Mark) (above : Option ℕ) (e : Entry) → KeepsSettled marks marks_now → HasCome needs marks above e
    → HasCome needs marks_now above e
come_kept needs marks marks_now above (Visit task next) keep come = record {
  within = come.within;
  before = λ i l. keep (slice_index needs i) (come.before i l);
  here = come.here;
}
come_kept needs marks marks_now above (Waits task) keep come = record {
  settled = λ k h. elim (come.settled k h) [ inl is ↦ inl (keep k is) | inr e ↦ inr e ];
  here = come.here;
}

entry_kept : (rows rows_now : List Row) (marks marks_now : List Mark) (above : Option ℕ) (e : Entry)
    → IsUntouched rows rows_now marks marks_now (no_of e) → KeepsSettled marks marks_now → IsEntry rows marks above e → IsEntry rows_now marks_now above e
entry_kept rows rows_now marks marks_now above e same keep is = record {
  inside = omega (arith, same.inside, is.inside);
  marked = same.mark ∙ is.marked;
  come = subst (λ (needs : List ℕ). HasCome needs marks_now above e) (sym same.needs) (come_kept (needs_at rows (no_of e)) marks marks_now above e keep is.come);
}

-- a change that leaves the tasks of a stack as they were
pub entries_kept : (rows rows_now : List Row) (marks marks_now : List Mark) (above : Option ℕ) (es : List Entry)
    → ((g : Entry) → Contains es g → IsUntouched rows rows_now marks marks_now (no_of g)) → KeepsSettled marks marks_now
    → AreEntries rows marks above es → AreEntries rows_now marks_now above es
entries_kept rows rows_now marks marks_now above [] same keep are = tt
entries_kept rows rows_now marks marks_now above (e ∷ es) same keep are = (
  entry_kept rows rows_now marks marks_now above e (same e (contains_here e es)) keep are.0,
  are.1,
  entries_kept rows rows_now marks marks_now (Some (no_of e)) es (λ g h. same g (contains_later e g es h)) keep are.2,
)

-- the task above is settled
come_arrived : (needs : List ℕ) (marks : List Mark) (u : ℕ) (e : Entry) → IsSettled marks u → HasCome needs marks (Some u) e → HasCome needs marks None e
come_arrived needs marks u (Visit task next) is come = record { within = come.within; before = come.before; here = λ k e. absurd (cc) }
come_arrived needs marks u (Waits task) is come = record {
  settled = λ k h. elim (come.settled k h) [
    | inl there ↦ inl there
    | inr e ↦ let same : u ≡ k = cc in inl (subst (IsSettled marks) same is)
  ];
  here = λ k e. absurd (cc);
}

pub entries_arrived : (rows : List Row) (marks : List Mark) (u : ℕ) (es : List Entry) → IsSettled marks u → AreEntries rows marks (Some u) es
    → AreEntries rows marks None es
entries_arrived rows marks u [] is are = tt
entries_arrived rows marks u (e ∷ es) is are = (
  record { inside = are.0.inside; marked = are.0.marked; come = come_arrived (needs_at rows (no_of e)) marks u e is are.0.come },
  are.1,
  are.2,
)

pub marked_in : (rows : List Row) (marks : List Mark) (above : Option ℕ) (es : List Entry) (g : Entry) → AreEntries rows marks above es → Contains es g
    → mark_of marks (no_of g) ≡ mark_for g
marked_in rows marks above [] g are h = absurd (omega (arith, h.1))
marked_in rows marks above (e ∷ es) g are h =
    elim (contains_cases e g es h) [
      | inl same ↦ subst (λ (x : Entry). mark_of marks (no_of x) ≡ mark_for x) same are.0.marked
      | inr later ↦ marked_in rows marks (Some (no_of e)) es g are.2 later
    ]

calls_above : (needs : List ℕ) (marks : List Mark) (u : ℕ) (e : Entry) → HasCome needs marks (Some u) e → Contains needs u
calls_above needs marks u (Visit task next) come = let at = come.here u refl in (next, at.0, get_or_default needs next u 0 at.0 ∙ at.1)
calls_above needs marks u (Waits task) come = come.here u refl

-- a task above a stack stands before each task on it
pub falls : (rows : List Row) (places : List ℕ) (marks : List Mark) (u : ℕ) (es : List Entry) (g : Entry) → PlacesAgree rows places
    → AreEntries rows marks (Some u) es → Contains es g → StandsBefore places u (no_of g)
falls rows places marks u [] g agrees are h = absurd (omega (arith, h.1))
falls rows places marks u (e ∷ es) g agrees are h =
    let first : StandsBefore places u (no_of e) = agrees.each (no_of e) u (calls_above (needs_at rows (no_of e)) marks u e are.0.come) in
    elim (contains_cases e g es h) [
      | inl same ↦ subst (λ (x : Entry). StandsBefore places u (no_of x)) same first
      | inr later ↦ let rest = falls rows places marks (no_of e) es g agrees are.2 later in omega (arith, first, rest)
    ]
