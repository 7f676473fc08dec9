-- The tables and the stack hold after each step that changes a whole state.
use Rattle.std.proofs.Common.{◌≡◌, ◌⊎◌, ℕ, ◌<◌, Bool, true, false, List, [], ◌∷◌, ◌++◌, None, Some, length, replicate, set, sym, ap, ◌∙◌, subst, inl, inr, arith}
use Rattle.std.specs.Prelude.{slice_index}
use Rattle.std.specs.List.{Contains}
use Rattle.pie_graph.specs.declared.edges.TaskNo.{TaskNo}
use Rattle.std.proofs.lemmas.List.Elements.{All-contains}
use Rattle.pie_graph.specs.Numbers.{IsMarked, AllBelow}
use Rattle.pie_graph.specs.Rows.{Row, row_at, no_edges, Calls, NeedsBelow}
use Rattle.pie_graph.proofs.RowLemmas.{needs_below_at}
use Rattle.pie_reach.proofs.WalkSteps.{all_below}
use Rattle.pie_order.specs.Places.{PlacesAgree, StandsBefore, numbers_below}
use Rattle.pie_union.specs.Requiring.{requiring}
use Rattle.pie_walk.specs.declared.marks.Mark.{Mark}
use Rattle.pie_walk.specs.declared.marks.Mark.TheVariants.{New, Runs, Settled}
use Rattle.pie_walk.specs.declared.stack.Entry.{Entry}
use Rattle.pie_walk.specs.declared.stack.Entry.TheVariants.{Visit, Waits}
use Rattle.pie_walk.specs.Marks.{mark_of, IsSettled, IsIdle}
use Rattle.pie_walk.specs.States.{WalkState, OnTop, no_of, below, NeedsAreEarlier, with_row, with_need, with_one_more, visiting, if_new, met, passed, taken, settled}
use Rattle.pie_walk.specs.Standing.{needs_at, Holds, HoldsIn}
use Rattle.pie_walk.specs.inner.Steps.{IsReady, IsUnsettledAt}
use Rattle.pie_walk.proofs.MarkSteps.{stage_of, idle_is_open, running_is_open}
use Rattle.pie_walk.proofs.MarkSteps.Stage.{is_new, is_settled, is_open}
use Rattle.pie_walk.proofs.HoldSteps.{not_open, arrives, comes_to, enters, settles, takes, requires, shrinks, grows, starts, awaits_root}

pub start_holds : (rows : List Row) (count : ℕ) (places : List ℕ) (marks : List Mark) (scheduled : List Bool) (stack : List Entry) → NeedsBelow rows
    → NeedsAreEarlier rows → count ≡ length rows → places ≡ numbers_below count → marks ≡ replicate count New → scheduled ≡ replicate count false
    → stack ≡ [] → Holds rows places marks scheduled None stack
start_holds rows count places marks scheduled stack needs earlier size p m f e =
    subst (Holds rows places marks scheduled None) (sym e)
    (subst (λ (flags : List Bool). Holds rows places marks flags None []) (sym (f ∙ ap (λ n. replicate n false) size))
    (subst (λ (ms : List Mark). Holds rows places ms (replicate (length rows) false) None []) (sym (m ∙ ap (λ n. replicate n New) size))
    (subst (λ (ps : List ℕ). Holds rows ps (replicate (length rows) New) (replicate (length rows) false) None []) (sym (p ∙ ap numbers_below size))
    (starts rows needs earlier))))

-- one more task, in parts
pub more_holds : (s : WalkState) (rows : List Row) (places : List ℕ) (marks : List Mark) (scheduled : List Bool) → NeedsBelow s.rows → HoldsIn s
    → rows ≡ s.rows ++ no_edges ∷ [] → places ≡ s.places ++ length s.places ∷ [] → marks ≡ s.marks ++ New ∷ [] → scheduled ≡ s.scheduled ++ true ∷ []
    → Holds rows places marks scheduled None s.stack
more_holds s rows places marks scheduled needs stands r p m f =
    let t = with_one_more s in
    subst (λ (flags : List Bool). Holds rows places marks flags None s.stack) (sym f)
    (subst (λ (ms : List Mark). Holds rows places ms t.scheduled None s.stack) (sym m)
    (subst (λ (ps : List ℕ). Holds rows ps t.marks t.scheduled None s.stack) (sym p)
    (subst (λ (rs : List Row). Holds rs t.places t.marks t.scheduled None s.stack) (sym r)
    (grows s.rows s.places s.marks s.scheduled (length s.places) s.stack needs stands))))

-- what holds of a walk, with its top
pub on_top : (s : WalkState) (e : Entry) (top : OnTop s e) → HoldsIn s → Holds s.rows s.places s.marks s.scheduled None (e ∷ top.0)
on_top s e top stands = subst (Holds s.rows s.places s.marks s.scheduled None) top.1 stands

-- an awaited task is visited, unless it is settled
pub met_holds : (s : WalkState) (task : TaskNo) → Holds s.rows s.places s.marks s.scheduled (Some task.0) s.stack → task.0 < length s.rows
    → HoldsIn (met s task)
met_holds s task holds l =
    elim (stage_of (mark_of s.marks task.0)) [
      | is_new e ↦ subst (λ (m : Mark). HoldsIn (if_new m (visiting s task) s)) (sym e)
          (enters s.rows s.places s.marks s.scheduled task s.stack holds l e)
      | is_settled e ↦ subst (λ (m : Mark). HoldsIn (if_new m (visiting s task) s)) (sym e) (arrives s.rows s.places s.marks s.scheduled task.0 s.stack holds e)
      | is_open a b ↦ absurd (not_open s.rows s.places s.marks s.scheduled task.0 s.stack holds a b)
    ]

-- a root is visited, unless it is settled
pub begun_holds : (s : WalkState) (root : TaskNo) → HoldsIn s → s.stack ≡ [] → root.0 < length s.rows → HoldsIn (met s root)
begun_holds s root stands empty l =
    met_holds s root
    (subst (Holds s.rows s.places s.marks s.scheduled (Some root.0)) (sym empty)
    (awaits_root s.rows s.places s.marks s.scheduled root.0 (subst (Holds s.rows s.places s.marks s.scheduled None) empty stands)))
    l

-- a task on top that was taken has settled requires alone, and isn't scheduled
pub top_ready : (s : WalkState) (task : TaskNo) → OnTop s (Waits task) → HoldsIn s → (k : ℕ) → Calls s.rows task.0 k → IsSettled s.marks k
top_ready s task top stands k calls =
    elim ((on_top s (Waits task) top stands).entries.0.come.settled k calls) [ inl is ↦ is | inr e ↦ absurd (cc) ]

pub top_inside : (s : WalkState) (e : Entry) → OnTop s e → HoldsIn s → no_of e < length s.rows
top_inside s e top stands = (on_top s e top stands).entries.0.inside

pub top_runs : (s : WalkState) (task : TaskNo) → OnTop s (Waits task) → HoldsIn s → mark_of s.marks task.0 ≡ Runs
top_runs s task top stands = (on_top s (Waits task) top stands).entries.0.marked

pub top_busy : (s : WalkState) (task : TaskNo) → OnTop s (Waits task) → HoldsIn s → IsIdle s.marks task.0 → ⊥
top_busy s task top stands idle = let marked = top_runs s task top stands in elim idle [ inl is ↦ (cc) | inr is ↦ (cc) ]

pub top_free : (s : WalkState) (task : TaskNo) → OnTop s (Waits task) → HoldsIn s → IsMarked s.scheduled task.0 → ⊥
top_free s task top stands flag = top_busy s task top stands (stands.calm task.0 flag)

-- the task on top is settled
pub settled_holds : (s : WalkState) (e : Entry) → OnTop s e → HoldsIn s → ((k : ℕ) → Calls s.rows (no_of e) k → IsSettled s.marks k)
    → (IsMarked s.scheduled (no_of e) → ⊥) → HoldsIn (settled s (no_of e))
settled_holds s e top stands ready free =
    subst (λ (es : List Entry). Holds s.rows s.places (set s.marks (no_of e) Settled) s.scheduled None (below es)) (sym top.1)
    (settles s.rows s.places s.marks s.scheduled e top.0 (on_top s e top stands) ready free)

pub kept_holds : (s : WalkState) (task : TaskNo) → OnTop s (Waits task) → HoldsIn s → HoldsIn (settled s task.0)
kept_holds s task top stands = settled_holds s (Waits task) top stands (top_ready s task top stands) (top_free s task top stands)

-- what a task required is below the count of the rows
pub fewer_below : (s : WalkState) (n : ℕ) (ns : List ℕ) → NeedsBelow s.rows → ((k : ℕ) → Contains ns k → Calls s.rows n k) → AllBelow (length s.rows) ns
fewer_below s n ns needs fewer =
    all_below (length s.rows) ns
    (λ k h. All-contains (λ m. m < length s.rows) (needs_at s.rows n) k (needs_below_at s.rows n needs) (fewer k h))

-- the running task on top ends with another row
finished_holds : (s : WalkState) (task : TaskNo) (row : Row) → OnTop s (Waits task) → HoldsIn s
    → ((k : ℕ) → Contains row.needs k → Calls s.rows task.0 k) → HoldsIn (settled (with_row s task.0 row) task.0)
finished_holds s task row top stands fewer =
    kept_holds (with_row s task.0 row) task top
    (subst (Holds (set s.rows task.0 row) s.places s.marks s.scheduled None) (sym top.1)
    (shrinks s.rows s.places s.marks s.scheduled task row top.0 (on_top s (Waits task) top stands) fewer))

-- in parts
pub finished_parts : (s : WalkState) (rows : List Row) (new : WalkState) (task : TaskNo) (row : Row) → OnTop s (Waits task) → HoldsIn s
    → ((k : ℕ) → Contains row.needs k → Calls s.rows task.0 k) → rows ≡ set s.rows task.0 row → new ≡ settled (record s { rows = rows }) task.0 → HoldsIn new
finished_parts s rows new task row top stands fewer r e =
    subst HoldsIn (sym e) (subst (λ (rs : List Row). HoldsIn (settled (record s { rows = rs }) task.0)) (sym r) (finished_holds s task row top stands fewer))

-- the running task on top requires one more task, which is visited unless it is settled
required_holds : (s : WalkState) (places : List ℕ) (from to : TaskNo) → OnTop s (Waits from) → HoldsIn s → to.0 < length s.rows
    → PlacesAgree s.rows places → StandsBefore places to.0 from.0 → HoldsIn (met (with_need s places from.0 to.0) to)
required_holds s places from to top stands l agrees less =
    let t = with_need s places from.0 to.0 in
    let holds : Holds t.rows t.places t.marks t.scheduled (Some to.0) t.stack =
    subst (Holds t.rows t.places t.marks t.scheduled (Some to.0)) (sym top.1)
    (requires s.rows s.places places s.marks s.scheduled from to.0 top.0 (on_top s (Waits from) top stands) agrees less) in
    met_holds t to holds (omega (arith, l, holds.marks_sized, stands.marks_sized))

-- in parts
pub required_parts : (s : WalkState) (rows : List Row) (places : List ℕ) (new : WalkState) (from to : TaskNo) → OnTop s (Waits from) → HoldsIn s
    → to.0 < length s.rows → PlacesAgree s.rows places × StandsBefore places to.0 from.0
    → rows ≡ set s.rows from.0 (requiring (row_at s.rows from.0) to.0) → new ≡ met (record s { rows = rows; places = places }) to → HoldsIn new
required_parts s rows places new from to top stands l order r e =
    subst HoldsIn (sym e)
    (subst (λ (rs : List Row). HoldsIn (met (record s { rows = rs; places = places }) to)) (sym r)
    (required_holds s places from to top stands l order.0 order.1))
