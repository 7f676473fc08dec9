-- How a walk goes on, and what holds of records, rows and roots meanwhile.
use Rattle.std.proofs.Common.{◌≡◌, ◌≢◌, ◌⊎◌, ℕ, ◌<◌, Bool, true, false, List, ◌∷◌, length, set, refl, sym, ap, ◌∙◌, subst}
use Rattle.std.proofs.Common.{inl, inr, arith}
use Rattle.std.specs.List.{Contains}
use Rattle.std.proofs.lemmas.Bool.Decides.{eqb_tells}
use Rattle.std.proofs.lemmas.List.{get_or-set_other}
use Rattle.pie_value.specs.declared.task.Task.{Task}
use Rattle.pie_graph.specs.declared.edges.TaskNo.{TaskNo}
use Rattle.pie_graph.specs.Numbers.{IsMarked}
use Rattle.pie_graph.specs.Rows.{Row, row_at, no_edges}
use Rattle.pie_graph.proofs.Among.{contains_here, contains_later}
use Rattle.pie_record.specs.declared.records.Records.{Records}
use Rattle.pie_walk.specs.declared.marks.Mark.{Mark}
use Rattle.pie_walk.specs.declared.marks.Mark.TheVariants.{New, Visited, Runs, Settled}
use Rattle.pie_walk.specs.Marks.{mark_of, rank, MarksRise}
use Rattle.pie_walk.specs.States.{WalkState, waiting, met, if_new, visiting, with_need, with_scheduled}
use Rattle.pie_walk.specs.Turns.{Walks, IsTaken}
use Rattle.pie_walk.specs.Callers.{SchedulesCallers, Sweeps}
use Rattle.pie_walk.proofs.MarkSteps.{settled_stays, met_stays, rises_set}
use Rattle.pie_frames.proofs.Handing.{met_rows, required_rows}
use Rattle.pie_old.specs.inner.Rows.{IsRowOf}
use Rattle.pie_union.specs.Requiring.{requiring}
use Rattle.pie_bottomup.specs.inner.Recorded.{HasEnded, WasTaken, IsStill, AreRecorded, IsMet, AreKnown, GoesOn}
use Rattle.std.proofs.lemmas.List.{length-set}
use Rattle.pie_walk.proofs.FlagSteps.{flag_kept}
use Rattle.pie_walk.proofs.MarkSteps.{same_mark}

-- ---- steps

-- the waiting tasks and the rows are the same, and no less is scheduled
goes_by : (old new : WalkState) → new.rows ≡ old.rows → ((n : ℕ) → IsMarked old.scheduled n → IsMarked new.scheduled n ⊎ WasTaken new n)
    → ((n : ℕ) → WasTaken old n → WasTaken new n) → MarksRise old.marks new.marks → GoesOn old new
goes_by old new rows scheduled taken rise = record {
  sized = ap length rows;
  rows = λ n free. ap (λ (rs : List Row). row_at rs n) rows;
  scheduled = scheduled;
  taken = taken;
  rise = rise;
}

taken_by : (old new : WalkState) → waiting new.stack ≡ waiting old.stack → (n : ℕ) → WasTaken old n → WasTaken new n
taken_by old new e n h = subst (λ (ns : List ℕ). Contains ns n) (sym e) h

pub marked_by : (old new : List Bool) → new ≡ old → (n : ℕ) → IsMarked old n → IsMarked new n
marked_by old new e n h = subst (λ (flags : List Bool). IsMarked flags n) (sym e) h

stays : (marks : List Mark) → MarksRise marks marks
stays marks n = omega arith

rises_by : (old new : List Mark) → new ≡ old → MarksRise old new
rises_by old new e n = omega (arith, ap (λ (ms : List Mark). rank (mark_of ms n)) e)

-- it walks
pub goes_walking : (old new : WalkState) → Walks old new → GoesOn old new
goes_walking old new w =
    goes_by old new (ap (λ (s : WalkState). s.rows) w.same)
    (λ n is. inl (marked_by old.scheduled new.scheduled (ap (λ (s : WalkState). s.scheduled) w.same) n is))
    (taken_by old new w.counts.waits) w.rise

-- it takes a task
pub goes_taking : (old new : WalkState) (task : TaskNo) → IsTaken old new task → GoesOn old new
goes_taking old new task is =
    goes_by old new (ap (λ (s : WalkState). s.rows) is.same) flags
    (λ n h. subst (λ (ns : List ℕ). Contains ns n) (sym is.counts.waits) (contains_later task.0 n (waiting old.stack) h)) is.rise
  where
    flags : (n : ℕ) → IsMarked old.scheduled n → IsMarked new.scheduled n ⊎ WasTaken new n
    flags n flag =
        elim (eqb_tells n task.0) [
          | inl e ↦ inr (subst (λ (ns : List ℕ). Contains ns n) (sym is.counts.waits)
              (subst (Contains (task.0 ∷ waiting old.stack)) (sym e.1) (contains_here task.0 (waiting old.stack))))
          | inr e ↦ inl (marked_by (set old.scheduled task.0 false) new.scheduled (ap (λ (s : WalkState). s.scheduled) is.same) n
              (get_or-set_other old.scheduled task.0 n false false e.1 ∙ flag))
        ]

-- more is scheduled
pub goes_scheduling : (old new : WalkState) → new.rows ≡ old.rows → new.stack ≡ old.stack → new.marks ≡ old.marks
    → ((n : ℕ) → IsMarked old.scheduled n → IsMarked new.scheduled n) → GoesOn old new
goes_scheduling old new rows stack marks more =
    goes_by old new rows (λ n is. inl (more n is)) (taken_by old new (ap waiting stack)) (rises_by old.marks new.marks marks)

pub goes_calling : (old new : WalkState) (task : ℕ) → SchedulesCallers old new task → GoesOn old new
goes_calling old new task is =
    goes_scheduling old new (ap (λ (s : WalkState). s.rows) is.same) (ap (λ (s : WalkState). s.stack) is.same) (ap (λ (s : WalkState). s.marks) is.same) is.kept

pub goes_sweeping : (old new : WalkState) (task : ℕ) → Sweeps old new task → GoesOn old new
goes_sweeping old new task is =
    goes_scheduling old new (ap (λ (s : WalkState). s.rows) is.same) (ap (λ (s : WalkState). s.stack) is.same) (ap (λ (s : WalkState). s.marks) is.same) is.kept

pub goes_marking : (old new : WalkState) (task : ℕ) → task < length old.scheduled → new ≡ with_scheduled old task → GoesOn old new
goes_marking old new task l e =
    goes_scheduling old new (ap (λ (s : WalkState). s.rows) e) (ap (λ (s : WalkState). s.stack) e) (ap (λ (s : WalkState). s.marks) e)
    (λ n is. marked_by (set old.scheduled task true) new.scheduled (ap (λ (s : WalkState). s.scheduled) e) n (flag_kept old.scheduled task n l is))

-- a task is visited, unless it was met
met_flags : (s : WalkState) (task : TaskNo) → (met s task).scheduled ≡ s.scheduled
met_flags s task = by (mark_of s.marks task.0)
  where
    by : (m : Mark) → (if_new m (visiting s task) s).scheduled ≡ s.scheduled
    by New = refl
    by Visited = refl
    by Runs = refl
    by Settled = refl

met_waits : (s : WalkState) (task : TaskNo) → waiting (met s task).stack ≡ waiting s.stack
met_waits s task = by (mark_of s.marks task.0)
  where
    by : (m : Mark) → waiting (if_new m (visiting s task) s).stack ≡ waiting s.stack
    by New = refl
    by Visited = refl
    by Runs = refl
    by Settled = refl

met_rises : (s : WalkState) (task : TaskNo) → task.0 < length s.marks → MarksRise s.marks (met s task).marks
met_rises s task l = by (mark_of s.marks task.0) refl
  where
    by : (m : Mark) → mark_of s.marks task.0 ≡ m → MarksRise s.marks (if_new m (visiting s task) s).marks
    by New e = rises_set s.marks task.0 Visited l (omega (arith, ap rank e))
    by Visited e = λ n. omega arith
    by Runs e = λ n. omega arith
    by Settled e = λ n. omega arith

-- and then it was met
pub is_met : (s : WalkState) (task : TaskNo) → task.0 < length s.marks → mark_of (met s task).marks task.0 ≢ New
is_met s task l = by (mark_of s.marks task.0) refl
  where
    by : (m : Mark) → mark_of s.marks task.0 ≡ m → mark_of (if_new m (visiting s task) s).marks task.0 ≢ New
    by New e = λ is. let clash : Visited ≡ New = sym (same_mark s.marks task.0 Visited l) ∙ is in cc
    by Visited e = λ is. let clash : Visited ≡ New = sym e ∙ is in cc
    by Runs e = λ is. let clash : Runs ≡ New = sym e ∙ is in cc
    by Settled e = λ is. let clash : Settled ≡ New = sym e ∙ is in cc

pub goes_meeting : (old new : WalkState) (task : TaskNo) → task.0 < length old.marks → new ≡ met old task → GoesOn old new
goes_meeting old new task l e =
    goes_by old new (ap (λ (s : WalkState). s.rows) e ∙ met_rows old task)
    (λ n is. inl (marked_by old.scheduled new.scheduled (ap (λ (s : WalkState). s.scheduled) e ∙ met_flags old task) n is))
    (taken_by old new (ap (λ (s : WalkState). waiting s.stack) e ∙ met_waits old task))
    (subst (λ (s : WalkState). MarksRise old.marks s.marks) (sym e) (met_rises old task l))

-- the task in hand requires one more
pub goes_requiring : (old new : WalkState) (task to : TaskNo) (places : List ℕ) → WasTaken old task.0 → to.0 < length old.marks
    → new ≡ met (with_need old places task.0 to.0) to → GoesOn old new
goes_requiring old new task to places taken l e =
    let s = with_need old places task.0 to.0 in
    let row = requiring (row_at old.rows task.0) to.0 in
    let changed : new.rows ≡ set old.rows task.0 row = required_rows old new places task.0 to e in
    let waits : waiting new.stack ≡ waiting old.stack = ap (λ (w : WalkState). waiting w.stack) e ∙ met_waits s to in
    record {
      sized = ap length changed ∙ length-set old.rows task.0 row;
      rows = λ n free. ap (λ (rs : List Row). row_at rs n) changed
          ∙ get_or-set_other old.rows task.0 n row no_edges (λ same. free (subst (WasTaken new) (sym same) (taken_by old new waits task.0 taken)));
      scheduled = λ n is. inl (marked_by old.scheduled new.scheduled (ap (λ (w : WalkState). w.scheduled) e ∙ met_flags s to) n is);
      taken = taken_by old new waits;
      rise = subst (λ (w : WalkState). MarksRise old.marks w.marks) (sym e) (met_rises s to l);
    }

-- ---- what holds while it goes on

pub still_before : (old new : WalkState) → GoesOn old new → (n : ℕ) → IsStill new n → IsStill old n
still_before old new on n still = record {
  calm = λ flag. elim (on.scheduled n flag) [ inl is ↦ still.calm is | inr taken ↦ still.free taken ];
  free = λ taken. still.free (on.taken n taken);
}

pub recorded_on : (names : List Task) (records : Records) (old new : WalkState) → GoesOn old new → AreRecorded names records old
    → AreRecorded names records new
recorded_on names records old new on are = record {
  each = λ n l still. are.each n (omega (arith, l, on.sized)) (still_before old new on n still);
  rows = λ n r kept done free. subst (IsRowOf names r) (sym (on.rows n free)) (are.rows n r kept done (λ taken. free (on.taken n taken)));
  done = λ n k output still calls. are.done n k output (still_before old new on n still)
      (subst (λ (row : Row). Contains row.needs k) (on.rows n still.free) calls);
  outputs = are.outputs;
}

pub known_on : (known : Task → Type 0) (names : List Task) (records : Records) (old new : WalkState) → GoesOn old new → AreKnown known names records old
    → AreKnown known names records new
known_on known names records old new on are n t named output still = are n t named output (still_before old new on n still)

pub ended_on : (records : Records) (old new : List Mark) → MarksRise old new → (n : ℕ) → HasEnded records old n → HasEnded records new n
ended_on records old new rise n is = record { output = is.output; settled = settled_stays old new rise n is.settled }

pub met_on : (names : List Task) (old new : List Mark) → MarksRise old new → (t : Task) → IsMet names old t → IsMet names new t
met_on names old new rise t is = record { number = is.number; named = is.named; met = met_stays old new rise is.number is.met }
