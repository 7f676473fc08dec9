-- Steps of a walk, one after another.
use Rattle.std.proofs.Common.{◌≡◌, ◌≢◌, ◌⊎◌, ℕ, zero, suc, ◌<◌, ◌≤◌, ◌+◌, ◌*◌, Bool, true, false, List, [], ◌∷◌, Option, None, Some, length, get_or, set, refl, sym, ap, ◌∙◌}
use Rattle.std.proofs.Common.{subst, inl, inr, arith}
use Rattle.std.specs.Prelude.{slice_index}
use Rattle.std.specs.List.{Contains, sum_by}
use Rattle.std.proofs.lemmas.Bool.{cases_lt}
use Rattle.std.proofs.lemmas.List.{get_or_default}
use Rattle.pie_graph.specs.declared.edges.TaskNo.{TaskNo}
use Rattle.pie_graph.specs.Numbers.{IsMarked}
use Rattle.pie_graph.specs.Rows.{Row, Calls}
use Rattle.pie_graph.proofs.Among.{contains_here, contains_later, contains_cases}
use Rattle.pie_reach.specs.inner.Reaches.{Leads, Reaches}
use Rattle.pie_reach.specs.inner.Reaches.Leads.{itself, step}
use Rattle.pie_walk.specs.declared.marks.Mark.{Mark}
use Rattle.pie_walk.specs.declared.marks.Mark.TheVariants.{New, Visited, Runs, Settled}
use Rattle.pie_walk.specs.declared.stack.Entry.{Entry}
use Rattle.pie_walk.specs.declared.stack.Entry.TheVariants.{Visit, Waits}
use Rattle.pie_walk.specs.declared.walking.Turn.{Turn}
use Rattle.pie_walk.specs.declared.walking.Turn.TheVariants.{Takes, Answers, Idle}
use Rattle.pie_walk.specs.Marks.{mark_of, IsSettled, rank, MarksRise, is_unstarted, unstarted}
use Rattle.pie_walk.specs.States.{WalkState, OnTop, no_of, below, waiting, base_of, visiting, passed, taken, settled}
use Rattle.pie_walk.specs.Standing.{needs_at, mark_for, Holds, HoldsIn}
use Rattle.pie_walk.specs.Turns.{Walks, IsTaken, IsAnswered, HasEnded, Turns}
use Rattle.pie_walk.specs.inner.Scans.{AreSettled, IsNext}
use Rattle.pie_walk.specs.inner.Steps.{is_unmet, left, Nears, StepsTo, IsReady, IsUnsettledAt}
use Rattle.pie_walk.proofs.MarkSteps.{stage_of, rises_set, rises_on, settled_stays, met_stays, weight_set, idle_is_open}
use Rattle.pie_walk.proofs.MarkSteps.Stage.{is_new, is_settled, is_open}
use Rattle.pie_walk.proofs.EntrySteps.{marked_in}
use Rattle.pie_walk.proofs.HoldSteps.{not_open, comes_to, enters, takes}
use Rattle.pie_walk.proofs.StateSteps.{on_top, top_ready, settled_holds}

-- the bottom of a stack with a top
base_some : (e : Entry) (es : List Entry) → (n : ℕ) × (base_of (e ∷ es) ≡ Some n)
base_some e [] = (no_of e, refl)
base_some e (f ∷ es) = base_some f es

base_none : (es : List Entry) → base_of es ≡ None → es ≡ []
base_none [] e = refl
base_none (f ∷ es) e = let n = base_some f es in absurd (let clash : None ≡ Some n.0 = sym e ∙ n.1 in cc)

base_same : (e f : Entry) (es : List Entry) → no_of e ≡ no_of f → base_of (e ∷ es) ≡ base_of (f ∷ es)
base_same e f [] same = ap Some same
base_same e f (g ∷ es) same = refl

base_below : (e : Entry) (es : List Entry) → (es ≡ []) ⊎ (base_of es ≡ base_of (e ∷ es))
base_below e [] = inl refl
base_below e (f ∷ es) = inr refl

-- a walk that stands still
pub walks_still : (s : WalkState) → Walks s s
walks_still s = record { same = refl; rise = λ n. omega arith; base = inr refl; counts = record { begins = omega arith; waits = refl } }

pub walks_on : (a b c : WalkState) → Walks a b → Walks b c → Walks a c
walks_on a b c one two = record {
  same = two.same ∙ ap (λ (s : WalkState). record s { marks = c.marks; stack = c.stack }) one.same;
  rise = rises_on a.marks b.marks c.marks one.rise two.rise;
  counts = record { begins = omega (arith, one.counts.begins, two.counts.begins); waits = two.counts.waits ∙ one.counts.waits };
  base = elim two.base [
    | inl empty ↦ inl empty
    | inr same ↦ elim one.base [
      | inl empty ↦ inl (base_none c.stack (same ∙ ap base_of empty))
      | inr before ↦ inr (same ∙ before)
    ]
  ];
}

-- what stood on the stack of a walk is settled once the stack is empty
ended : (a c : WalkState) → HoldsIn a → HoldsIn c → c.stack ≡ [] → MarksRise a.marks c.marks → (e : Entry) → Contains a.stack e → IsSettled c.marks (no_of e)
ended a c stands_a stands_c empty rise e there =
    let marked : mark_of a.marks (no_of e) ≡ mark_for e = marked_in a.rows a.marks None a.stack e stands_a.entries there in
    let was : mark_of a.marks (no_of e) ≢ New = λ is. stacked e (sym is ∙ marked) in
    elim (stage_of (mark_of c.marks (no_of e))) [
      | is_new is ↦ absurd (met_stays a.marks c.marks rise (no_of e) was is)
      | is_settled is ↦ is
      | is_open met unsettled ↦
          let g = stands_c.stands (no_of e) met unsettled in
          absurd (omega (arith, (subst (λ (es : List Entry). Contains es g.0) empty g.1).1))
    ]
  where
    stacked : (e : Entry) → New ≡ mark_for e → ⊥
    stacked (Visit t next) is = cc
    stacked (Waits t) is = cc

taken_on : (a b c : WalkState) (task : TaskNo) → Walks a b → IsTaken b c task → IsTaken a c task
taken_on a b c task one two = record {
  top = two.top;
  was = subst (λ (s : WalkState). IsMarked s.scheduled task.0) one.same two.was;
  ready = two.ready;
  lowest = λ other reaches flag. two.lowest other (subst (λ (s : WalkState). Reaches s.rows task.0 other) (sym one.same) reaches)
      (subst (λ (s : WalkState). IsMarked s.scheduled other) (sym one.same) flag);
  same = two.same ∙ ap (λ (s : WalkState). record s { marks = c.marks; stack = c.stack; scheduled = set s.scheduled task.0 false }) one.same;
  rise = rises_on a.marks b.marks c.marks one.rise two.rise;
  counts = record {
    begins = omega (arith, one.counts.begins, two.counts.begins);
    waits = two.counts.waits ∙ ap (λ (ns : List ℕ). task.0 ∷ ns) one.counts.waits;
  };
  base = elim one.base [
    | inl empty ↦
        let n = base_some (Waits task) two.top.0 in
        let clash : Some n.0 ≡ None = sym (ap base_of two.top.1 ∙ n.1) ∙ two.base ∙ ap base_of empty in
        absurd (cc)
    | inr same ↦ two.base ∙ same
  ];
}

-- a walk that went on and then stops
pub turns_on : (a b c : WalkState) (turn : Turn) → HoldsIn a → Walks a b → HoldsIn c → Turns b c turn → Turns a c turn
turns_on a b c (Takes task) stands_a one stands_c two = taken_on a b c task one two
turns_on a b c (Answers task) stands_a one stands_c two = record { top = two.top; ready = two.ready; walks = walks_on a b c one two.walks }
turns_on a b c Idle stands_a one stands_c two =
    let walks : Walks a c = walks_on a b c one two.walks in
    record { empty = two.empty; ended = ended a c stands_a stands_c two.empty walks.rise; walks = walks }

-- what a settled task reaches is settled
pub settled_reach : (rows : List Row) (marks : List Mark) → ((n k : ℕ) → IsSettled marks n → Calls rows n k → IsSettled marks k) → (a b : ℕ)
    → Leads (Calls rows) a b → IsSettled marks a → IsSettled marks b
settled_reach rows marks closed a b (itself {a = c}) is = is
settled_reach rows marks closed a b (step {a = x} {b = y} {c = z} first rest) is = settled_reach rows marks closed y b rest (closed x y is first)

reaches_cases : (rows : List Row) (a b : ℕ) → Leads (Calls rows) a b → (b ≡ a) ⊎ ((k : ℕ) × Calls rows a k × Leads (Calls rows) k b)
reaches_cases rows a b (itself {a = c}) = inl refl
reaches_cases rows a b (step {a = x} {b = y} {c = z} first rest) = inr (y, first, rest)

-- a task whose requires are settled reaches no other scheduled task
pub lowest_of : (s : WalkState) (n : ℕ) → HoldsIn s → ((k : ℕ) → Calls s.rows n k → IsSettled s.marks k) → (other : ℕ) → Reaches s.rows n other
    → IsMarked s.scheduled other → other ≡ n
lowest_of s n stands ready other reaches flag =
    elim (reaches_cases s.rows n other reaches) [
      | inl same ↦ same
      | inr on ↦ absurd (idle_is_open s.marks other (stands.calm other flag)
          (settled_reach s.rows s.marks stands.closed on.0 other on.2 (ready on.0 on.1)))
    ]

-- the visit on top ends, and the task is settled
pub leaves : (s new : WalkState) (task : TaskNo) → HoldsIn s → IsReady s task → (IsMarked s.scheduled task.0 → ⊥) → new ≡ settled s task.0 → Nears s new
leaves s new task stands at free e = subst (Nears s) (sym e) (record { holds = after; walks = walks; falls = falls })
  where
    after : HoldsIn (settled s task.0)
    after = settled_holds s (Visit task at.next) at.top stands at.ready free

    marked : mark_of s.marks task.0 ≡ Visited
    marked = (on_top s (Visit task at.next) at.top stands).entries.0.marked

    inside : task.0 < length s.marks
    inside = omega (arith, stands.marks_sized, (on_top s (Visit task at.next) at.top stands).entries.0.inside)

    walks : Walks s (settled s task.0)
    walks = record {
      same = refl;
      rise = rises_set s.marks task.0 Settled inside (omega (arith, ap rank marked));
      counts = record {
        begins = omega (arith, weight_set is_unstarted s.marks task.0 Visited Settled inside marked);
        waits = subst (λ (es : List Entry). waiting (below es) ≡ waiting es) (sym at.top.1) refl;
      };
      base = subst (λ (es : List Entry). (below es ≡ []) ⊎ (base_of (below es) ≡ base_of es)) (sym at.top.1) (base_below (Visit task at.next) at.top.0);
    }

    falls : left (settled s task.0) < left s
    falls = omega (
      arith,
      weight_set is_unmet s.marks task.0 Visited Settled inside marked,
      subst (λ (es : List Entry). length es ≡ length (below es) + 1) (sym at.top.1) (omega arith),
    )

-- the visit on top ends, and the task is taken
pub is_taken : (s new : WalkState) (task : TaskNo) → HoldsIn s → IsReady s task → IsMarked s.scheduled task.0 → new ≡ taken s task
    → HoldsIn new × IsTaken s new task
is_taken s new task stands at flag e = subst (λ (t : WalkState). HoldsIn t × IsTaken s t task) (sym e) (after, is)
  where
    held : Holds s.rows s.places s.marks s.scheduled None (Visit task at.next ∷ at.top.0)
    held = on_top s (Visit task at.next) at.top stands

    marked : mark_of s.marks task.0 ≡ Visited
    marked = held.entries.0.marked

    inside : task.0 < length s.marks
    inside = omega (arith, stands.marks_sized, held.entries.0.inside)

    after : HoldsIn (taken s task)
    after = subst (λ (es : List Entry). Holds s.rows s.places (set s.marks task.0 Runs) (set s.scheduled task.0 false) None (Waits task ∷ below es)) (sym at.top.1)
        (takes s.rows s.places s.marks s.scheduled task at.next at.top.0 held at.ready)

    is : IsTaken s (taken s task) task
    is = record {
      top = (below s.stack, refl);
      was = flag;
      ready = top_ready (taken s task) task (below s.stack, refl) after;
      lowest = lowest_of s task.0 stands at.ready;
      same = refl;
      rise = rises_set s.marks task.0 Runs inside (omega (arith, ap rank marked));
      counts = record {
        begins = omega (arith, weight_set is_unstarted s.marks task.0 Visited Runs inside marked);
        waits = subst (λ (es : List Entry). ◌≡◌ {A = List ℕ} (task.0 ∷ waiting (below es)) (task.0 ∷ waiting es)) (sym at.top.1) refl;
      };
      base = subst (λ (es : List Entry). base_of (Waits task ∷ below es) ≡ base_of es) (sym at.top.1)
          (base_same (Waits task) (Visit task at.next) at.top.0 refl);
    }

-- the task of an unsettled require was not met
pub unmet_at : (s : WalkState) (task : TaskNo) (at : ℕ) → HoldsIn s → IsUnsettledAt s task at
    → mark_of s.marks (slice_index (needs_at s.rows task.0) at) ≡ New
unmet_at s task at stands is =
    let u = slice_index (needs_at s.rows task.0) at in
    let awaits = comes_to s.rows s.places s.marks s.scheduled task is.next at is.top.0 (on_top s (Visit task is.next) is.top stands) is.within is.before in
    elim (stage_of (mark_of s.marks u)) [
      | is_new e ↦ e
      | is_settled e ↦ absurd (is.unsettled e)
      | is_open a b ↦ absurd (not_open s.rows s.places s.marks s.scheduled u (Visit task at ∷ is.top.0) awaits a b)
    ]

-- the visit on top goes down to a task that wasn't met
pub descends : (s mid new : WalkState) (task callee : TaskNo) (at : ℕ) → HoldsIn s → IsUnsettledAt s task at
    → callee.0 ≡ slice_index (needs_at s.rows task.0) at → callee.0 < length s.rows → mid ≡ passed s task at → new ≡ visiting mid callee → Nears s new
descends s mid new task callee at stands is same inside m e =
    subst (Nears s) (sym (e ∙ ap (λ (t : WalkState). visiting t callee) m)) (record { holds = after; walks = walks; falls = falls })
  where
    new_mark : mark_of s.marks callee.0 ≡ New
    new_mark = ap (mark_of s.marks) same ∙ unmet_at s task at stands is

    within : callee.0 < length s.marks
    within = omega (arith, stands.marks_sized, inside)

    after : HoldsIn (visiting (passed s task at) callee)
    after =
        enters s.rows s.places s.marks s.scheduled callee (Visit task at ∷ below s.stack)
        (subst (λ (es : List Entry). Holds s.rows s.places s.marks s.scheduled (Some callee.0) (Visit task at ∷ below es)) (sym is.top.1)
        (subst (λ (u : ℕ). Holds s.rows s.places s.marks s.scheduled (Some u) (Visit task at ∷ is.top.0)) (sym same)
        (comes_to s.rows s.places s.marks s.scheduled task is.next at is.top.0 (on_top s (Visit task is.next) is.top stands) is.within is.before)))
        inside new_mark

    walks : Walks s (visiting (passed s task at) callee)
    walks = record {
      same = refl;
      rise = rises_set s.marks callee.0 Visited within (omega (arith, ap rank new_mark));
      counts = record {
        begins = omega (arith, weight_set is_unstarted s.marks callee.0 New Visited within new_mark);
        waits = subst (λ (es : List Entry). ◌≡◌ {A = List ℕ} (waiting (below es)) (waiting es)) (sym is.top.1) refl;
      };
      base = inr (subst (λ (es : List Entry). base_of (Visit task at ∷ below es) ≡ base_of es) (sym is.top.1)
          (base_same (Visit task at) (Visit task is.next) is.top.0 refl));
    }

    falls : left (visiting (passed s task at) callee) < left s
    falls = omega (
      arith,
      weight_set is_unmet s.marks callee.0 New Visited within new_mark,
      subst (λ (es : List Entry). length es ≡ length (below es) + 1) (sym is.top.1) (omega arith),
    )

-- the scan from the place of the visit on top finds no unsettled require
pub scanned_all : (s : WalkState) (task : TaskNo) (next : ℕ) → HoldsIn s → OnTop s (Visit task next) → IsNext (needs_at s.rows task.0) s.marks next None
    → IsReady s task
scanned_all s task next stands top all = record {
  next = next;
  top = top;
  ready = λ k calls.
      let needs = needs_at s.rows task.0 in
      let settled_at : IsSettled s.marks (slice_index needs calls.0) = elim (cases_lt calls.0 next) [
        | inl before ↦ (on_top s (Visit task next) top stands).entries.0.come.before calls.0 before
        | inr from ↦ all calls.0 from calls.1
      ] in
      subst (IsSettled s.marks) (get_or_default needs calls.0 0 k calls.1 ∙ calls.2) settled_at;
}

-- or one
pub scanned_to : (s : WalkState) (task : TaskNo) (next at : ℕ) → HoldsIn s → OnTop s (Visit task next) → IsNext (needs_at s.rows task.0) s.marks next (Some at)
    → IsUnsettledAt s task at
scanned_to s task next at stands top found = record {
  next = next;
  top = top;
  within = found.1;
  before = λ i l. elim (cases_lt i next) [
    | inl before ↦ (on_top s (Visit task next) top stands).entries.0.come.before i before
    | inr from ↦ found.2 i from l
  ];
  unsettled = found.3;
}

-- a task on top that was taken can go on
pub goes_on : (s : WalkState) (task : TaskNo) → HoldsIn s → OnTop s (Waits task) → IsAnswered s s task
goes_on s task stands top = record { top = top; ready = top_ready s task top stands; walks = walks_still s }

-- nothing stands on the stack
pub is_over : (s : WalkState) → s.stack ≡ [] → HasEnded s s
is_over s empty = record {
  empty = empty;
  ended = λ e there. absurd (omega (arith, (subst (λ (es : List Entry). Contains es e) empty there).1));
  walks = walks_still s;
}
