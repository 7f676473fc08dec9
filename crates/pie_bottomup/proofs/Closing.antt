-- A task that was taken is settled.
use Rattle.std.proofs.Common.{eqb, ◌≡◌, ◌≢◌, ◌⊎◌, ℕ, ◌<◌, Bool, true, false, List, ◌∷◌, Option, Some, length, refl, sym, ap, ◌∙◌, subst}
use Rattle.std.proofs.Common.{inl, inr, arith}
use Rattle.std.specs.Prelude.{slice_get}
use Rattle.std.specs.List.{Contains}
use Rattle.std.proofs.lemmas.Bool.Decides.{eqb_tells}
use Rattle.std.proofs.lemmas.List.{get_or-set_other}
use Rattle.pie_value.specs.declared.task.Task.{Task}
use Rattle.pie_graph.specs.Rows.{Row, row_at, no_edges, Calls}
use Rattle.pie_graph.proofs.Among.{contains_cases}
use Rattle.pie_record.specs.declared.records.Records.{Records}
use Rattle.pie_record.specs.declared.task_record.TaskRecord.{TaskRecord}
use Rattle.pie_record.specs.inner.Records.{record_of}
use Rattle.pie_walk.specs.declared.marks.Mark.TheVariants.{Runs, Settled}
use Rattle.pie_walk.specs.Marks.{mark_of, rank, IsSettled, MarksRise}
use Rattle.pie_walk.specs.States.{WalkState, waiting, with_row, settled}
use Rattle.pie_walk.proofs.MarkSteps.{settled_stays, rises_set}
use Rattle.pie_old.specs.inner.Rows.{IsRowOf}
use Rattle.pie_results.specs.inner.Failures.{is_done}
use Rattle.pie_bottomup.proofs.Going.{marked_by}
use Rattle.pie_bottomup.specs.inner.Recorded.{HasOutput, HasEnded, HasValue, WasTaken, IsStill, AreRecorded, AreKnown, Ends, SameBut}
use Rattle.std.proofs.lemmas.List.{length-set}
use Rattle.std.proofs.Common.{None}

pub ends_kept : (old new : WalkState) (task : ℕ) → task < length old.marks → mark_of old.marks task ≡ Runs → new ≡ settled old task
    → task ∷ waiting new.stack ≡ waiting old.stack → Ends old new task
ends_kept old new task l runs e waits = record {
  sized = ap (λ (s : WalkState). length s.rows) e;
  rows = λ n apart. ap (λ (s : WalkState). row_at s.rows n) e;
  scheduled = ap (λ (s : WalkState). s.scheduled) e;
  waits = waits;
  rise = subst (λ (s : WalkState). MarksRise old.marks s.marks) (sym e) (rises_set old.marks task Settled l (omega (arith, ap rank runs)));
}

pub ends_finished : (old new : WalkState) (task : ℕ) (row : Row) → task < length old.marks → mark_of old.marks task ≡ Runs
    → new ≡ settled (with_row old task row) task → task ∷ waiting new.stack ≡ waiting old.stack → Ends old new task
ends_finished old new task row l runs e waits = record {
  sized = ap (λ (s : WalkState). length s.rows) e ∙ length-set old.rows task row;
  rows = λ n apart. ap (λ (s : WalkState). row_at s.rows n) e ∙ get_or-set_other old.rows task n row no_edges apart;
  scheduled = ap (λ (s : WalkState). s.scheduled) e;
  waits = waits;
  rise = subst (λ (s : WalkState). MarksRise old.marks s.marks) (sym e) (rises_set old.marks task Settled l (omega (arith, ap rank runs)));
}

-- another task stands as it stood
still_other : (old new : WalkState) (task : ℕ) → Ends old new task → (n : ℕ) → n ≢ task → IsStill new n → IsStill old n
still_other old new task ends n apart still = record {
  calm = λ flag. still.calm (marked_by old.scheduled new.scheduled ends.scheduled n flag);
  free = λ taken. elim (contains_cases task n (waiting new.stack) (subst (λ (ns : List ℕ). Contains ns n) (sym ends.waits) taken)) [
    | inl e ↦ apart (sym e)
    | inr later ↦ still.free later
  ];
}

output_other : (records now : Records) (task n : ℕ) → SameBut records now task → n ≢ task → HasOutput now n → HasOutput records n
output_other records now task n same apart is = record { rec = is.rec; kept = sym (same n apart) ∙ is.kept; done = is.done }

pub output_stays : (records now : Records) (task n : ℕ) → SameBut records now task → n ≢ task → HasOutput records n → HasOutput now n
output_stays records now task n same apart is = record { rec = is.rec; kept = same n apart ∙ is.kept; done = is.done }

-- the record of a task that ends: its row is the new one, and what it requires is done
pub record IsEnd (names : List Task) (now : Records) (new : WalkState) (task : ℕ) (r : TaskRecord) : Type 0 where
  pub row : IsRowOf names r (row_at new.rows task)
  pub done : (k : ℕ) → Calls new.rows task k → HasOutput now k

-- another task that neither runs nor has to requires this one
pub record IsStillCaller (w : WalkState) (n task : ℕ) : Type 0 where
  pub still : IsStill w n
  pub apart : n ≢ task
  pub calls : Calls w.rows n task

same_record : (now : Records) (n : ℕ) (r s : TaskRecord) → record_of now n ≡ Some r → record_of now n ≡ Some s → r ≡ s
same_record now n r s a b = ap (the r) (sym a ∙ b)
  where
    the : TaskRecord → Option TaskRecord → TaskRecord
    the d None = d
    the d (Some x) = x

done_by : (now : Records) (n : ℕ) (r : TaskRecord) → record_of now n ≡ Some r → HasOutput now n → is_done r.outcome ≡ true
done_by now n r kept output = ap (λ (s : TaskRecord). is_done s.outcome) (same_record now n r output.rec kept output.kept) ∙ output.done

pub recorded_ended : (names : List Task) (records now : Records) (old new : WalkState) (task : ℕ) (r : TaskRecord) → Ends old new task
    → SameBut records now task → record_of now task ≡ Some r → HasValue r → (is_done r.outcome ≡ true → IsEnd names now new task r)
    → (is_done r.outcome ≡ false → HasOutput records task → (n : ℕ) → IsStillCaller old n task → ⊥)
    → AreRecorded names records old → AreRecorded names now new
recorded_ended names records now old new task r ends same kept value end callers are = record {
  each = λ n l still. each n l still (eqb_tells n task);
  rows = λ n s is done free. rows n s is done free (eqb_tells n task);
  done = λ n k output still calls. done n k output still calls (eqb_tells n task);
  outputs = λ n s is. output n s is (eqb_tells n task);
}
  where
    each : (n : ℕ) → n < length new.rows → IsStill new n → ((eqb n task ≡ true) × (n ≡ task)) ⊎ ((eqb n task ≡ false) × (n ≢ task))
        → (s : TaskRecord) × (record_of now n ≡ Some s)
    each n l still (inl e) = (r, subst (λ (m : ℕ). record_of now m ≡ Some r) (sym e.1) kept)
    each n l still (inr e) =
        let before = are.each n (omega (arith, l, ends.sized)) (still_other old new task ends n e.1 still) in (before.0, same n e.1 ∙ before.1)

    rows : (n : ℕ) (s : TaskRecord) → record_of now n ≡ Some s → is_done s.outcome ≡ true → (WasTaken new n → ⊥)
        → ((eqb n task ≡ true) × (n ≡ task)) ⊎ ((eqb n task ≡ false) × (n ≢ task)) → IsRowOf names s (row_at new.rows n)
    rows n s is done free (inl e) =
        let one : r ≡ s = same_record now task r s kept (subst (λ (m : ℕ). record_of now m ≡ Some s) e.1 is) in
        subst (λ (m : ℕ). IsRowOf names s (row_at new.rows m)) (sym e.1)
        (subst (λ (x : TaskRecord). IsRowOf names x (row_at new.rows task)) one (end (ap (λ (x : TaskRecord). is_done x.outcome) one ∙ done)).row)
    rows n s is done free (inr e) =
        subst (IsRowOf names s) (sym (ends.rows n e.1)) (are.rows n s (sym (same n e.1) ∙ is) done (free_before n e.1 free))
      where
        free_before : (m : ℕ) → m ≢ task → (WasTaken new m → ⊥) → WasTaken old m → ⊥
        free_before m apart none taken =
            elim (contains_cases task m (waiting new.stack) (subst (λ (ns : List ℕ). Contains ns m) (sym ends.waits) taken)) [
              | inl same_one ↦ apart (sym same_one)
              | inr later ↦ none later
            ]

    output : (n : ℕ) (s : TaskRecord) → record_of now n ≡ Some s → ((eqb n task ≡ true) × (n ≡ task)) ⊎ ((eqb n task ≡ false) × (n ≢ task))
        → HasValue s
    output n s is (inl e) =
        subst HasValue (same_record now task r s kept (subst (λ (m : ℕ). record_of now m ≡ Some s) e.1 is)) value
    output n s is (inr e) = are.outputs n s (sym (same n e.1) ∙ is)

    reached : (k : ℕ) → HasOutput records k → (k ≡ task → is_done r.outcome ≡ false → HasOutput records task → ⊥)
        → ((eqb k task ≡ true) × (k ≡ task)) ⊎ ((eqb k task ≡ false) × (k ≢ task)) → HasOutput now k
    reached k output never (inr e) = output_stays records now task k same e.1 output
    reached k output never (inl e) = by (is_done r.outcome) refl
      where
        by : (b : Bool) → is_done r.outcome ≡ b → HasOutput now k
        by true is = record { rec = r; kept = subst (λ (m : ℕ). record_of now m ≡ Some r) (sym e.1) kept; done = is }
        by false is = absurd (never e.1 is (subst (HasOutput records) e.1 output))

    done : (n k : ℕ) → HasOutput now n → IsStill new n → Calls new.rows n k → ((eqb n task ≡ true) × (n ≡ task)) ⊎ ((eqb n task ≡ false) × (n ≢ task))
        → HasOutput now k
    done n k output still calls (inl e) =
        (end (done_by now task r kept (subst (HasOutput now) e.1 output))).done k (subst (λ (m : ℕ). Calls new.rows m k) e.1 calls)
    done n k output still calls (inr e) =
        let before : IsStill old n = still_other old new task ends n e.1 still in
        let called : Calls old.rows n k = subst (λ (row : Row). Contains row.needs k) (ends.rows n e.1) calls in
        reached k (are.done n k (output_other records now task n same e.1 output) before called)
        (λ one failed was. callers failed was n (record { still = before; apart = e.1; calls = subst (Calls old.rows n) one called })) (eqb_tells k task)

pub known_ended : (known : Task → Type 0) (names : List Task) (records now : Records) (old new : WalkState) (task : ℕ) (r : TaskRecord) → Ends old new task
    → SameBut records now task → record_of now task ≡ Some r → slice_get names task ≡ Some r.task → (is_done r.outcome ≡ true → known r.task)
    → AreKnown known names records old → AreKnown known names now new
known_ended known names records now old new task r ends same kept named is are n t at output still = by (eqb_tells n task)
  where
    the_task : Task → Option Task → Task
    the_task d None = d
    the_task d (Some x) = x

    by : ((eqb n task ≡ true) × (n ≡ task)) ⊎ ((eqb n task ≡ false) × (n ≢ task)) → known t
    by (inl e) =
        subst known (ap (the_task r.task) (sym named ∙ subst (λ (m : ℕ). slice_get names m ≡ Some t) e.1 at))
        (is (done_by now task r kept (subst (HasOutput now) e.1 output)))
    by (inr e) = are n t at (output_other records now task n same e.1 output) (still_other old new task ends n e.1 still)

-- what was settled before is another task, and stays so
pub ended_stays : (records now : Records) (old new : WalkState) (task : ℕ) → Ends old new task → SameBut records now task
    → (IsSettled old.marks task → ⊥) → (n : ℕ) → HasEnded records old.marks n → HasEnded now new.marks n
ended_stays records now old new task ends same unsettled n is = record {
  output = output_stays records now task n same (λ e. unsettled (subst (IsSettled old.marks) e is.settled)) is.output;
  settled = settled_stays old.marks new.marks ends.rise n is.settled;
}
