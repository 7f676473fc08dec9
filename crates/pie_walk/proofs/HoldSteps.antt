-- What holds of a walk is kept by each of its steps.
use Rattle.std.proofs.Common.{◌≡◌, ◌≢◌, ◌⊎◌, ℕ, zero, suc, ◌<◌, ◌≤◌, ◌+◌, Bool, true, false, List, [], ◌∷◌, ◌++◌, Option, None, Some, length, get_or, set, replicate}
use Rattle.std.proofs.Common.{refl, sym, ap, ◌∙◌, subst, inl, inr, arith, length-set}
use Rattle.std.specs.Prelude.{slice_index}
use Rattle.std.specs.List.{Contains}
use Rattle.std.proofs.lemmas.Bool.Decides.{eqb_tells}
use Rattle.std.proofs.lemmas.Bool.{cases_lt}
use Rattle.std.proofs.lemmas.List.{get_or-set_same, get_or-set_other, get_or_append_left, get_or_past, length_push, length-replicate}
use Rattle.std.proofs.lemmas.List.Elements.{All-contains, Contains-push_cases, Contains-push}
use Rattle.std.proofs.Math.Seq.{get_or-append_seam}
use Rattle.pie_graph.specs.Numbers.{IsMarked}
use Rattle.pie_graph.specs.Rows.{Row, row_at, no_edges, Calls, NeedsBelow}
use Rattle.pie_graph.proofs.Among.{contains_here, contains_later, contains_cases}
use Rattle.pie_graph.proofs.RowLemmas.{needs_below_at}
use Rattle.pie_reach.proofs.WalkSteps.{caller_below}
use Rattle.pie_order.specs.Places.{PlacesAgree, StandsBefore, numbers_below}
use Rattle.pie_order.proofs.Numbering.{length-numbers_below}
use Rattle.pie_union.specs.Requiring.{requiring}
use Rattle.pie_walk.specs.declared.marks.Mark.{Mark}
use Rattle.pie_walk.specs.declared.marks.Mark.TheVariants.{New, Visited, Runs, Settled}
use Rattle.pie_graph.specs.declared.edges.TaskNo.{TaskNo}
use Rattle.pie_walk.specs.declared.stack.Entry.{Entry}
use Rattle.pie_walk.specs.declared.stack.Entry.TheVariants.{Visit, Waits}
use Rattle.pie_walk.specs.Marks.{mark_of, IsSettled, IsIdle}
use Rattle.pie_walk.specs.States.{no_of}
use Rattle.pie_walk.specs.Standing.{needs_at, mark_for, HasVisited, HasRequired, HasCome, IsEntry, AreEntries, Holds}
use Rattle.pie_walk.proofs.MarkSteps.{KeepsSettled, Stage, stage_of, same_mark, other_mark, keeps_settled, settled_cases, was_settled, new_is_open, visited_is_open}
use Rattle.pie_walk.proofs.MarkSteps.{running_is_open, idle_is_open}
use Rattle.pie_walk.proofs.MarkSteps.Stage.{is_new, is_settled, is_open}
use Rattle.pie_walk.proofs.EntrySteps.{IsUntouched, entries_kept, entries_arrived, marked_in, falls}

-- a task that is awaited above a stack doesn't stand on it
pub not_open : (rows : List Row) (places : List ℕ) (marks : List Mark) (scheduled : List Bool) (u : ℕ) (es : List Entry)
    → Holds rows places marks scheduled (Some u) es → mark_of marks u ≢ New → mark_of marks u ≢ Settled → ⊥
not_open rows places marks scheduled u es holds met unsettled =
    let g = holds.stands u met unsettled in
    let less : StandsBefore places u (no_of g.0) = falls rows places marks u es g.0 holds.agrees holds.entries g.1 in
    omega (arith, less, ap (slice_index places) g.2)

-- the awaited task is settled
pub arrives : (rows : List Row) (places : List ℕ) (marks : List Mark) (scheduled : List Bool) (u : ℕ) (es : List Entry)
    → Holds rows places marks scheduled (Some u) es → IsSettled marks u → Holds rows places marks scheduled None es
arrives rows places marks scheduled u es holds is = record {
  marks_sized = holds.marks_sized;
  scheduled_sized = holds.scheduled_sized;
  agrees = holds.agrees;
  entries = entries_arrived rows marks u es is holds.entries;
  stands = holds.stands;
  closed = holds.closed;
  calm = holds.calm;
}

-- another entry of the same task is on top
replaced : (e f : Entry) (es : List Entry) (n : ℕ) → no_of f ≡ no_of e → (g : Entry) × Contains (e ∷ es) g × (no_of g ≡ n)
    → (g : Entry) × Contains (f ∷ es) g × (no_of g ≡ n)
replaced e f es n same g =
    elim (contains_cases e g.0 es g.1) [
      | inl is ↦ (f, contains_here f es, same ∙ ap no_of is ∙ g.2)
      | inr later ↦ (g.0, contains_later f g.0 es later, g.2)
    ]

-- a change of one mark leaves the others as they were
mark_untouched : (rows : List Row) (marks : List Mark) (n : ℕ) (m : Mark) (k : ℕ) → k ≢ n → IsUntouched rows rows marks (set marks n m) k
mark_untouched rows marks n m k apart = record { inside = omega arith; mark = other_mark marks n m k apart; needs = refl }

-- the visit on top has come to a require, which is awaited
pub comes_to : (rows : List Row) (places : List ℕ) (marks : List Mark) (scheduled : List Bool) (task : TaskNo) (next at : ℕ) (es : List Entry)
    → Holds rows places marks scheduled None (Visit task next ∷ es) → at < length (needs_at rows task.0)
    → ((i : ℕ) → i < at → IsSettled marks (slice_index (needs_at rows task.0) i))
    → Holds rows places marks scheduled (Some (slice_index (needs_at rows task.0) at)) (Visit task at ∷ es)
comes_to rows places marks scheduled task next at es holds l before = record {
  marks_sized = holds.marks_sized;
  scheduled_sized = holds.scheduled_sized;
  agrees = holds.agrees;
  entries = (
    record {
      inside = holds.entries.0.inside;
      marked = holds.entries.0.marked;
      come = record { within = omega (arith, l); before = before; here = λ u e. (l, (cc)) };
    },
    holds.entries.1,
    holds.entries.2,
  );
  stands = λ n met unsettled. replaced (Visit task next) (Visit task at) es n refl (holds.stands n met unsettled);
  closed = holds.closed;
  calm = holds.calm;
}

-- an awaited task that wasn't met goes on top
pub enters : (rows : List Row) (places : List ℕ) (marks : List Mark) (scheduled : List Bool) (task : TaskNo) (es : List Entry)
    → Holds rows places marks scheduled (Some task.0) es → task.0 < length rows → mark_of marks task.0 ≡ New
    → Holds rows places (set marks task.0 Visited) scheduled None (Visit task 0 ∷ es)
enters rows places marks scheduled task es holds l new =
    let n = task.0 in
    let marks_now = set marks n Visited in
    let inside : n < length marks = omega (arith, holds.marks_sized, l) in
    let now : mark_of marks_now n ≡ Visited = same_mark marks n Visited inside in
    let keep : KeepsSettled marks marks_now = keeps_settled marks n Visited (new_is_open (mark_of marks n) new) in
    let was : (k : ℕ) → IsSettled marks_now k → IsSettled marks k = λ k is. was_settled marks n Visited k inside (λ e. cc) is in
    let apart : (g : Entry) → Contains es g → no_of g ≢ n = λ g h e.
    let clash : New ≡ mark_for g = sym new ∙ ap (mark_of marks) (sym e) ∙ marked_in rows marks (Some n) es g holds.entries h in
    no_mark g clash in
    record {
      marks_sized = length-set marks n Visited ∙ holds.marks_sized;
      scheduled_sized = holds.scheduled_sized;
      agrees = holds.agrees;
      entries = (
        record {
          inside = l;
          marked = now;
          come = record { within = omega arith; before = λ i below. absurd (omega (arith, below)); here = λ u e. absurd (cc) };
        },
        apart,
        entries_kept rows rows marks marks_now (Some n) es (λ g h. mark_untouched rows marks n Visited (no_of g) (apart g h)) keep holds.entries,
      );
      stands = λ k met unsettled. elim (eqb_tells k n) [
        | inl e ↦ (Visit task 0, contains_here (Visit task 0) es, sym e.1)
        | inr e ↦
            let other = other_mark marks n Visited k e.1 in
            let g = holds.stands k (λ is. met (other ∙ is)) (λ is. unsettled (other ∙ is)) in
            (g.0, contains_later (Visit task 0) g.0 es g.1, g.2)
      ];
      closed = λ m k is calls. keep k (holds.closed m k (was m is) calls);
      calm = λ k flag. elim (eqb_tells k n) [
        | inl e ↦ inr (ap (mark_of marks_now) e.1 ∙ now)
        | inr e ↦
            let other = other_mark marks n Visited k e.1 in
            elim (holds.calm k flag) [ inl is ↦ inl (other ∙ is) | inr is ↦ inr (other ∙ is) ]
      ];
    }
  where
    no_mark : (g : Entry) → New ≡ mark_for g → ⊥
    no_mark (Visit t next) e = cc
    no_mark (Waits t) e = cc

-- the task on top is settled
pub settles : (rows : List Row) (places : List ℕ) (marks : List Mark) (scheduled : List Bool) (e : Entry) (es : List Entry)
    → Holds rows places marks scheduled None (e ∷ es) → ((k : ℕ) → Calls rows (no_of e) k → IsSettled marks k)
    → (IsMarked scheduled (no_of e) → ⊥) → Holds rows places (set marks (no_of e) Settled) scheduled None es
settles rows places marks scheduled e es holds ready free =
    let n = no_of e in
    let marks_now = set marks n Settled in
    let top = holds.entries.0 in
    let inside : n < length marks = omega (arith, holds.marks_sized, top.inside) in
    let now : IsSettled marks_now n = same_mark marks n Settled inside in
    let keep : KeepsSettled marks marks_now = keeps_settled marks n Settled (stacked_is_open e top.marked) in
    record {
      marks_sized = length-set marks n Settled ∙ holds.marks_sized;
      scheduled_sized = holds.scheduled_sized;
      agrees = holds.agrees;
      entries = entries_arrived rows marks_now n es now
          (entries_kept rows rows marks marks_now (Some n) es (λ g h. mark_untouched rows marks n Settled (no_of g) (holds.entries.1 g h)) keep holds.entries.2);
      stands = λ k met unsettled. elim (eqb_tells k n) [
        | inl same ↦ absurd (unsettled (ap (mark_of marks_now) same.1 ∙ now))
        | inr other_one ↦
            let other = other_mark marks n Settled k other_one.1 in
            let g = holds.stands k (λ is. met (other ∙ is)) (λ is. unsettled (other ∙ is)) in
            elim (contains_cases e g.0 es g.1) [
              | inl is ↦ absurd (other_one.1 (sym (ap no_of is ∙ g.2)))
              | inr later ↦ (g.0, later, g.2)
            ]
      ];
      closed = λ m k is calls. elim (settled_cases marks n Settled m is) [
        | inl same ↦ keep k (ready k (subst (λ (x : ℕ). Calls rows x k) same calls))
        | inr before ↦ keep k (holds.closed m k before calls)
      ];
      calm = λ k flag. elim (eqb_tells k n) [
        | inl same ↦ absurd (free (subst (IsMarked scheduled) same.1 flag))
        | inr other_one ↦
            let other = other_mark marks n Settled k other_one.1 in
            elim (holds.calm k flag) [ inl is ↦ inl (other ∙ is) | inr is ↦ inr (other ∙ is) ]
      ];
    }
  where
    stacked_is_open : (g : Entry) → mark_of marks (no_of e) ≡ mark_for g → IsSettled marks (no_of e) → ⊥
    stacked_is_open (Visit t next) is = visited_is_open (mark_of marks (no_of e)) is
    stacked_is_open (Waits t) is = running_is_open (mark_of marks (no_of e)) is

flag_set : (flags : List Bool) (n k : ℕ) → n < length flags → IsMarked (set flags n false) k → (k ≢ n) × IsMarked flags k
flag_set flags n k l is =
    elim (eqb_tells k n) [
      | inl e ↦ absurd (let clash : false ≡ true = sym (get_or-set_same flags n false false l) ∙ ap (λ j. get_or (set flags n false) j false) (sym e.1) ∙ is in cc)
      | inr e ↦ (e.1, sym (get_or-set_other flags n k false false e.1) ∙ is)
    ]

-- the task on top is taken
pub takes : (rows : List Row) (places : List ℕ) (marks : List Mark) (scheduled : List Bool) (task : TaskNo) (next : ℕ) (es : List Entry)
    → Holds rows places marks scheduled None (Visit task next ∷ es) → ((k : ℕ) → Calls rows task.0 k → IsSettled marks k)
    → Holds rows places (set marks task.0 Runs) (set scheduled task.0 false) None (Waits task ∷ es)
takes rows places marks scheduled task next es holds ready =
    let n = task.0 in
    let marks_now = set marks n Runs in
    let top = holds.entries.0 in
    let inside : n < length marks = omega (arith, holds.marks_sized, top.inside) in
    let flagged : n < length scheduled = omega (arith, holds.scheduled_sized, top.inside) in
    let now : mark_of marks_now n ≡ Runs = same_mark marks n Runs inside in
    let keep : KeepsSettled marks marks_now = keeps_settled marks n Runs (visited_is_open (mark_of marks n) top.marked) in
    let was : (k : ℕ) → IsSettled marks_now k → IsSettled marks k = λ k is. was_settled marks n Runs k inside (λ e. cc) is in
    record {
      marks_sized = length-set marks n Runs ∙ holds.marks_sized;
      scheduled_sized = length-set scheduled n false ∙ holds.scheduled_sized;
      agrees = holds.agrees;
      entries = (
        record {
          inside = top.inside;
          marked = now;
          come = record { settled = λ k h. inl (keep k (ready k h)); here = λ u e. absurd (cc) };
        },
        holds.entries.1,
        entries_kept rows rows marks marks_now (Some n) es (λ g h. mark_untouched rows marks n Runs (no_of g) (holds.entries.1 g h)) keep holds.entries.2,
      );
      stands = λ k met unsettled. elim (eqb_tells k n) [
        | inl e ↦ (Waits task, contains_here (Waits task) es, sym e.1)
        | inr e ↦
            let other = other_mark marks n Runs k e.1 in
            replaced (Visit task next) (Waits task) es k refl (holds.stands k (λ is. met (other ∙ is)) (λ is. unsettled (other ∙ is)))
      ];
      closed = λ m k is calls. keep k (holds.closed m k (was m is) calls);
      calm = λ k flag.
          let before = flag_set scheduled n k flagged flag in
          let other = other_mark marks n Runs k before.0 in
          elim (holds.calm k before.1) [ inl is ↦ inl (other ∙ is) | inr is ↦ inr (other ∙ is) ];
    }

same_row : (rows : List Row) (n : ℕ) (row : Row) → n < length rows → row_at (set rows n row) n ≡ row
same_row rows n row l = get_or-set_same rows n row no_edges l

other_row : (rows : List Row) (n : ℕ) (row : Row) (k : ℕ) → k ≢ n → row_at (set rows n row) k ≡ row_at rows k
other_row rows n row k ne = get_or-set_other rows n k row no_edges ne

-- what a task requires after a change of one row
calls_cases : (rows : List Row) (n : ℕ) (row : Row) (m k : ℕ) → n < length rows → Calls (set rows n row) m k
    → ((m ≡ n) × Contains row.needs k) ⊎ ((m ≢ n) × Calls rows m k)
calls_cases rows n row m k l calls =
    elim (eqb_tells m n) [
      | inl e ↦ inl
          (e.1, subst (λ (r : Row). Contains r.needs k) (ap (row_at (set rows n row)) e.1 ∙ same_row rows n row l) calls)
      | inr e ↦ inr (e.1, subst (λ (r : Row). Contains r.needs k) (other_row rows n row m e.1) calls)
    ]

row_untouched : (rows : List Row) (n : ℕ) (row : Row) (marks : List Mark) (k : ℕ) → k ≢ n → IsUntouched rows (set rows n row) marks marks k
row_untouched rows n row marks k apart = record {
  inside = omega (arith, length-set rows n row);
  mark = refl;
  needs = ap (λ (r : Row). r.needs) (other_row rows n row k apart);
}

-- the running task on top requires one more, which is awaited
pub requires : (rows : List Row) (before places : List ℕ) (marks : List Mark) (scheduled : List Bool) (task : TaskNo) (u : ℕ) (es : List Entry)
    → Holds rows before marks scheduled None (Waits task ∷ es) → PlacesAgree rows places → StandsBefore places u task.0
    → Holds (set rows task.0 (requiring (row_at rows task.0) u)) places marks scheduled (Some u) (Waits task ∷ es)
requires rows before places marks scheduled task u es holds agrees less =
    let n = task.0 in
    let row = requiring (row_at rows n) u in
    let rows_now = set rows n row in
    let top = holds.entries.0 in
    let size : length rows_now ≡ length rows = length-set rows n row in
    let here : row_at rows_now n ≡ row = same_row rows n row top.inside in
    record {
      marks_sized = holds.marks_sized ∙ sym size;
      scheduled_sized = holds.scheduled_sized ∙ sym size;
      agrees = record {
        as_many = agrees.as_many ∙ sym size;
        each = λ m k calls. elim (calls_cases rows n row m k top.inside calls) [
          | inl own ↦ elim (Contains-push_cases (needs_at rows n) u k own.1) [
            | inl old ↦ agrees.each m k (subst (λ (x : ℕ). Calls rows x k) (sym own.0) old)
            | inr new ↦ subst (λ (x : ℕ). StandsBefore places k x) (sym own.0) (subst (λ (x : ℕ). StandsBefore places x n) new less)
          ]
          | inr other ↦ agrees.each m k other.1
        ];
      };
      entries = (
        record {
          inside = omega (arith, size, top.inside);
          marked = top.marked;
          come = subst (λ (r : Row). HasRequired r.needs marks (Some u)) (sym here) (record {
            settled = λ k h. elim (Contains-push_cases (needs_at rows n) u k h) [
              | inl old ↦ elim (top.come.settled k old) [ inl is ↦ inl is | inr e ↦ absurd (cc) ]
              | inr new ↦ inr (ap Some new)
            ];
            here = λ k e. let same : u ≡ k = cc in subst (Contains row.needs) same (Contains-push (needs_at rows n) u);
          });
        },
        holds.entries.1,
        entries_kept rows rows_now marks marks (Some n) es (λ g h. row_untouched rows n row marks (no_of g) (holds.entries.1 g h)) (λ k is. is)
            holds.entries.2,
      );
      stands = holds.stands;
      closed = λ m k is calls. elim (calls_cases rows n row m k top.inside calls) [
        | inl own ↦ absurd (running_is_open (mark_of marks n) top.marked (ap (mark_of marks) (sym own.0) ∙ is))
        | inr other ↦ holds.closed m k is other.1
      ];
      calm = holds.calm;
    }

-- the row of the task on top becomes one that requires nothing more
pub shrinks : (rows : List Row) (places : List ℕ) (marks : List Mark) (scheduled : List Bool) (task : TaskNo) (row : Row) (es : List Entry)
    → Holds rows places marks scheduled None (Waits task ∷ es) → ((k : ℕ) → Contains row.needs k → Calls rows task.0 k)
    → Holds (set rows task.0 row) places marks scheduled None (Waits task ∷ es)
shrinks rows places marks scheduled task row es holds fewer =
    let n = task.0 in
    let rows_now = set rows n row in
    let top = holds.entries.0 in
    let size : length rows_now ≡ length rows = length-set rows n row in
    let here : row_at rows_now n ≡ row = same_row rows n row top.inside in
    let calls_before : (m k : ℕ) → Calls rows_now m k → Calls rows m k = λ m k calls. elim (calls_cases rows n row m k top.inside calls) [
      | inl own ↦ subst (λ (x : ℕ). Calls rows x k) (sym own.0) (fewer k own.1)
      | inr other ↦ other.1
    ] in
    record {
      marks_sized = holds.marks_sized ∙ sym size;
      scheduled_sized = holds.scheduled_sized ∙ sym size;
      agrees = record {
        as_many = holds.agrees.as_many ∙ sym size;
        each = λ m k calls. holds.agrees.each m k (calls_before m k calls);
      };
      entries = (
        record {
          inside = omega (arith, size, top.inside);
          marked = top.marked;
          come = subst (λ (r : Row). HasRequired r.needs marks None) (sym here)
              (record { settled = λ k h. top.come.settled k (fewer k h); here = λ u e. absurd (cc) });
        },
        holds.entries.1,
        entries_kept rows rows_now marks marks (Some n) es (λ g h. row_untouched rows n row marks (no_of g) (holds.entries.1 g h)) (λ k is. is)
            holds.entries.2,
      );
      stands = holds.stands;
      closed = λ m k is calls. holds.closed m k is (calls_before m k calls);
      calm = holds.calm;
    }

-- a default at the end of a list changes no element
pub default_more : {A : Type 0} (xs : List A) (d : A) (n : ℕ) → get_or (xs ++ d ∷ []) n d ≡ get_or xs n d
default_more [] d zero = refl
default_more [] d (suc n) = refl
default_more (x ∷ xs) d zero = refl
default_more (x ∷ xs) d (suc n) = default_more xs d n

flag_more : (flags : List Bool) (n k : ℕ) → length flags ≡ n → IsMarked (flags ++ true ∷ []) k → (k ≡ n) ⊎ IsMarked flags k
flag_more flags n k size is =
    elim (eqb_tells k n) [
      | inl e ↦ inl e.1
      | inr e ↦ elim (cases_lt k (length flags)) [
        | inl l ↦ inr (sym (get_or_append_left flags (true ∷ []) false k l) ∙ is)
        | inr past ↦ absurd
            (let clash : false ≡ true = sym (get_or_past (flags ++ true ∷ []) k false (omega (arith, length_push flags true, past, size, e.1))) ∙ is in cc)
      ]
    ]

-- one more task, which is scheduled
pub grows : (rows : List Row) (places : List ℕ) (marks : List Mark) (scheduled : List Bool) (place : ℕ) (es : List Entry)
    → NeedsBelow rows → Holds rows places marks scheduled None es
    → Holds (rows ++ no_edges ∷ []) (places ++ place ∷ []) (marks ++ New ∷ []) (scheduled ++ true ∷ []) None es
grows rows places marks scheduled place es needs holds =
    let n = length rows in
    let marks_now = marks ++ New ∷ [] in
    let size : length (rows ++ no_edges ∷ []) ≡ n + 1 = length_push rows no_edges in
    let same : (k : ℕ) → mark_of marks_now k ≡ mark_of marks k = λ k. default_more marks New k in
    let row : (k : ℕ) → row_at (rows ++ no_edges ∷ []) k ≡ row_at rows k = λ k. default_more rows no_edges k in
    let calls_before : (m k : ℕ) → Calls (rows ++ no_edges ∷ []) m k → Calls rows m k =
    λ m k calls. subst (λ (r : Row). Contains r.needs k) (row m) calls in
    record {
      marks_sized = omega (arith, length_push marks New, holds.marks_sized, size);
      scheduled_sized = omega (arith, length_push scheduled true, holds.scheduled_sized, size);
      agrees = record {
        as_many = omega (arith, length_push places place, holds.agrees.as_many, size);
        each = λ m k calls.
            let old = calls_before m k calls in
            let less = holds.agrees.each m k old in
            let m_in : m < length places = omega (arith, holds.agrees.as_many, caller_below rows m k old) in
            let k_in : k < length places = omega (
              arith,
              holds.agrees.as_many,
              All-contains (λ x. x < length rows) (needs_at rows m) k (needs_below_at rows m needs) old,
            ) in
            omega (arith, less, get_or_append_left places (place ∷ []) 0 m m_in, get_or_append_left places (place ∷ []) 0 k k_in);
      };
      entries = entries_kept rows (rows ++ no_edges ∷ []) marks marks_now None es (λ g h. record {
        inside = omega (arith, size);
        mark = same (no_of g);
        needs = ap (λ (r : Row). r.needs) (row (no_of g));
      }) (λ k is. same k ∙ is) holds.entries;
      stands = λ k met unsettled. holds.stands k (λ is. met (same k ∙ is)) (λ is. unsettled (same k ∙ is));
      closed = λ m k is calls. same k ∙ holds.closed m k (sym (same m) ∙ is) (calls_before m k calls);
      calm = λ k flag. elim (flag_more scheduled n k holds.scheduled_sized flag) [
        | inl e ↦ inl (same k ∙ get_or_past marks k New (omega (arith, holds.marks_sized, e)))
        | inr old ↦ elim (holds.calm k old) [ inl is ↦ inl (same k ∙ is) | inr is ↦ inr (same k ∙ is) ]
      ];
    }

all_new : (count n : ℕ) → mark_of (replicate count New) n ≡ New
all_new zero n = refl
all_new (suc count) zero = refl
all_new (suc count) (suc n) = all_new count n

number_at : (count n : ℕ) → n < count → slice_index (numbers_below count) n ≡ n
number_at zero n l = absurd (omega arith)
number_at (suc count) n l =
    elim (cases_lt n count) [
      | inl below ↦ get_or_append_left (numbers_below count) (count ∷ []) 0 n (omega (arith, length-numbers_below count, below)) ∙ number_at count n below
      | inr past ↦
          let e : n ≡ count = omega (arith, past, l) in
          ap (slice_index (numbers_below count ++ count ∷ [])) (e ∙ sym (length-numbers_below count))
          ∙ get_or-append_seam (numbers_below count) count [] 0 ∙ sym e
    ]

-- before anything was met
pub starts : (rows : List Row) → NeedsBelow rows → ((m k : ℕ) → Calls rows m k → k < m)
    → Holds rows (numbers_below (length rows)) (replicate (length rows) New) (replicate (length rows) false) None []
starts rows needs earlier = record {
  marks_sized = length-replicate (length rows) New;
  scheduled_sized = length-replicate (length rows) false;
  agrees = record {
    as_many = length-numbers_below (length rows);
    each = λ m k calls.
        let m_in = caller_below rows m k calls in
        let less = earlier m k calls in
        omega (arith, less, number_at (length rows) m m_in, number_at (length rows) k (omega (arith, less, m_in)));
  };
  entries = tt;
  stands = λ n met unsettled. absurd (met (new_at n));
  closed = λ m k is calls. absurd (new_is_open (mark_of (replicate (length rows) New) m) (new_at m) is);
  calm = λ n flag. inl (new_at n);
}
  where
    new_at : (n : ℕ) → mark_of (replicate (length rows) New) n ≡ New
    new_at n = all_new (length rows) n

-- a root is awaited above the empty stack
pub awaits_root : (rows : List Row) (places : List ℕ) (marks : List Mark) (scheduled : List Bool) (root : ℕ)
    → Holds rows places marks scheduled None [] → Holds rows places marks scheduled (Some root) []
awaits_root rows places marks scheduled root holds = record {
  marks_sized = holds.marks_sized;
  scheduled_sized = holds.scheduled_sized;
  agrees = holds.agrees;
  entries = tt;
  stands = holds.stands;
  closed = holds.closed;
  calm = holds.calm;
}

-- one more task is scheduled
pub schedules : (rows : List Row) (places : List ℕ) (marks : List Mark) (scheduled : List Bool) (n : ℕ) (above : Option ℕ) (es : List Entry)
    → Holds rows places marks scheduled above es → IsIdle marks n → Holds rows places marks (set scheduled n true) above es
schedules rows places marks scheduled n above es holds idle = record {
  marks_sized = holds.marks_sized;
  scheduled_sized = length-set scheduled n true ∙ holds.scheduled_sized;
  agrees = holds.agrees;
  entries = holds.entries;
  stands = holds.stands;
  closed = holds.closed;
  calm = λ k flag. elim (eqb_tells k n) [
    | inl e ↦ subst (IsIdle marks) (sym e.1) idle
    | inr e ↦ holds.calm k (sym (get_or-set_other scheduled n k true false e.1) ∙ flag)
  ];
}

-- others are scheduled, of those that were neither taken nor settled
pub flags_hold : (rows : List Row) (places : List ℕ) (marks : List Mark) (before scheduled : List Bool) (above : Option ℕ) (es : List Entry)
    → Holds rows places marks before above es → length scheduled ≡ length before → ((k : ℕ) → IsMarked scheduled k → IsIdle marks k)
    → Holds rows places marks scheduled above es
flags_hold rows places marks before scheduled above es holds size calm = record {
  marks_sized = holds.marks_sized;
  scheduled_sized = size ∙ holds.scheduled_sized;
  agrees = holds.agrees;
  entries = holds.entries;
  stands = holds.stands;
  closed = holds.closed;
  calm = calm;
}
