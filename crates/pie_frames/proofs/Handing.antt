-- A task in hand waits or ends, and one that waits is in hand.
use Rattle.std.proofs.Common.{◌≡◌, ◌∙◌, ℕ, ◌+◌, ◌<◌, ◌≤◌, List, [], ◌∷◌, ◌++◌, length, refl, sym, ap, subst, arith, length-set, set}
use Rattle.std.proofs.lemmas.List.{drop-append-le, length_push, get_or-set_same}
use Rattle.pie_graph.specs.declared.edges.TaskNo.{TaskNo}
use Rattle.pie_graph.specs.Rows.{Row, row_at, no_edges}
use Rattle.pie_union.specs.Requiring.{requiring}
use Rattle.pie_value.specs.Canonical.{IsEncodableTask}
use Rattle.pie_running.specs.inner.Frames.{IsWaiting}
use Rattle.pie_walk.specs.declared.marks.Mark.{Mark}
use Rattle.pie_walk.specs.declared.marks.Mark.TheVariants.{New, Visited, Runs, Settled}
use Rattle.pie_walk.specs.declared.stack.Entry.TheVariants.{Waits}
use Rattle.pie_walk.specs.Marks.{mark_of}
use Rattle.pie_walk.specs.States.{WalkState, OnTop, met, if_new, visiting, with_need, with_one_more, with_row, settled}
use Rattle.pie_walk.specs.Standing.{Stands}
use Rattle.pie_walk.specs.Counts.{Counts}
use Rattle.pie_walk.specs.Turns.{IsTaken, IsAnswered}
use Rattle.pie_walk.proofs.StateSteps.{top_inside}
use Rattle.pie_frames.specs.declared.parked.Parked.{Parked}
use Rattle.pie_frames.specs.declared.frames.Frames.{Frames}
use Rattle.pie_frames.specs.inner.Standing.{HasFrom, IsParked, AreTaken, Rests, Holds, number_of, numbers_up}
use Rattle.pie_frames.specs.inner.Turns.{HasAnswered, HasParked}
use Rattle.pie_frames.specs.inner.Weights.{weight, weight_of, left_of}
use Rattle.pie_frames.proofs.Tying.{all_same, grown_rows, other_rows, same_taken, still_taken, one_taken, one_settled, unparked, parked, top_first}
use Rattle.pie_frames.proofs.Weighing.{weight_unparked, weight_parked}

-- a task that is met changes no row
pub met_rows : (s : WalkState) (task : TaskNo) → (met s task).rows ≡ s.rows
met_rows s task = by (mark_of s.marks task.0)
  where
    by : (m : Mark) → (if_new m (visiting s task) s).rows ≡ s.rows
    by New = refl
    by Visited = refl
    by Runs = refl
    by Settled = refl

-- one require more
pub required_rows : (s new : WalkState) (places : List ℕ) (from : ℕ) (to : TaskNo) → new ≡ met (with_need s places from to.0) to
    → new.rows ≡ set s.rows from (requiring (row_at s.rows from) to.0)
required_rows s new places from to e = ap (λ (t : WalkState). t.rows) e ∙ met_rows (with_need s places from to.0) to

-- ---- no task in hand

-- a root is begun
pub begun_rests : (old : Frames) (new : WalkState) (root : TaskNo) → Rests old → Stands new → new ≡ met old.walk root → Counts old.walk new [] []
    → AreTaken new old.parked.items []
begun_rests old new root rests stands e counts =
    still_taken old.walk new old.parked.items [] stands (ap (λ (s : WalkState). s.rows) e ∙ met_rows old.walk root) counts rests

-- the walk takes a task
pub takes : (old : Frames) (new : WalkState) (task : TaskNo) → Rests old → Stands new → IsTaken old.walk new task
    → AreTaken new old.parked.items (task.0 ∷ [])
takes old new task rests stands taken =
    one_taken old.walk new old.parked.items task.0 stands (ap (λ (s : WalkState). s.rows) taken.same) taken.counts rests

-- the walk answers, and the newest task that waits is in hand
pub answers : (old new : Frames) (walk : WalkState) (task : TaskNo) (p : Parked) → Rests old → Stands walk → IsAnswered old.walk walk task
    → new.walk ≡ walk → old.parked.items ≡ new.parked.items ++ p ∷ [] → HasAnswered old new task p
answers old new walk task p rests stands answered e rest =
    let walks = answered.walks in
    let still : AreTaken walk old.parked.items [] =
    still_taken old.walk walk old.parked.items [] stands (ap (λ (s : WalkState). s.rows) walks.same) walks.counts rests in
    let out = unparked walk old.parked.items new.parked.items p rest still in
    let number : number_of p ≡ task.0 = top_first walk task (number_of p) (numbers_up new.parked.items) answered.top out.0.tied in
    let falls = weight_unparked old.walk walk old.parked.items new.parked.items p rest walks.counts in
    record {
      holds = record {
        taken = subst (λ (s : WalkState). AreTaken s new.parked.items (task.0 ∷ [])) (sym e)
            (subst (λ (n : ℕ). AreTaken walk new.parked.items (n ∷ [])) number out.0);
        top = subst (λ (s : WalkState). OnTop s (Waits task)) (sym e) answered.top;
      };
      inside = subst (λ (s : WalkState). task.0 < length s.rows) (sym e) (top_inside walk (Waits task) answered.top stands.holds);
      answered = subst (λ (s : WalkState). IsAnswered old.walk s task) (sym e) answered;
      parked = rest;
      is_parked = subst (λ (s : WalkState). IsParked s.rows p) (sym e) out.1;
      number = number;
      falls = subst (λ (s : WalkState). weight_of s new.parked.items + left_of p ≤ weight old) (sym e) falls;
    }

-- ---- a task in hand

-- the row of a task that requires one more
more_needs : (row : Row) (from k : ℕ) (needs : List ℕ) → HasFrom row from needs → HasFrom (requiring row k) from (needs ++ k ∷ [])
more_needs row from k needs has = record {
  within = omega (arith, has.within, length_push row.needs k);
  same = drop-append-le from row.needs (k ∷ []) has.within ∙ ap (λ (ns : List ℕ). ns ++ k ∷ []) has.same;
}

-- the walk takes a require in, and the task in hand waits
pub parks : (old new : Frames) (task : TaskNo) (p : Parked) → Holds task old → Stands new.walk → Counts old.walk new.walk [] []
    → new.walk ≡ met (with_need old.walk new.walk.places task.0 p.callee.0) p.callee → new.parked.items ≡ old.parked.items ++ p ∷ []
    → number_of p ≡ task.0 → HasFrom (row_at old.walk.rows task.0) p.from p.caller.waiting.notes.needs
    → IsWaiting p.caller.waiting → IsEncodableTask p.caller.required → p.callee.0 < length old.walk.rows → HasParked old new task p
parks old new task p holds stands counts e more number has waits required callee =
    let changed : new.walk.rows ≡ set old.walk.rows task.0 (requiring (row_at old.walk.rows task.0) p.callee.0) =
    required_rows old.walk new.walk new.walk.places task.0 p.callee e in
    let sized : length new.walk.rows ≡ length old.walk.rows = ap length changed ∙ length-set old.walk.rows task.0 (requiring (row_at old.walk.rows task.0) p.callee.0) in
    let inside : task.0 < length old.walk.rows = top_inside old.walk (Waits task) holds.top holds.taken.stands.holds in
    let row : row_at new.walk.rows (number_of p) ≡ requiring (row_at old.walk.rows task.0) p.callee.0 =
    ap (λ (n : ℕ). row_at new.walk.rows n) number ∙ ap (λ (rows : List Row). row_at rows task.0) changed
    ∙ get_or-set_same old.walk.rows task.0 (requiring (row_at old.walk.rows task.0) p.callee.0) no_edges inside in
    let still : AreTaken new.walk old.parked.items (task.0 ∷ []) =
    same_taken old.walk new.walk old.parked.items (task.0 ∷ []) stands (omega (arith, sized))
    (other_rows old.walk task old.parked.items (requiring (row_at old.walk.rows task.0) p.callee.0) new.walk.rows holds.top holds.taken changed)
    counts holds.taken in
    let is : IsParked new.walk.rows p = record {
      waits = waits;
      required = required;
      callee = omega (arith, sized, callee);
      row = subst (λ (r : Row). HasFrom r p.from (p.caller.waiting.notes.needs ++ p.callee.0 ∷ [])) (sym row)
          (more_needs (row_at old.walk.rows task.0) p.from p.callee.0 p.caller.waiting.notes.needs has);
    } in
    record {
      rests = parked new.walk old.parked.items new.parked.items p more is
          (subst (λ (n : ℕ). AreTaken new.walk old.parked.items (n ∷ [])) (sym number) still);
      walk = e;
      parked = more;
      falls = weight_parked old.walk new.walk old.parked.items new.parked.items p more counts;
      room = omega (arith, counts.begins);
    }

-- the task in hand is settled, with the same row
pub kept_rests : (old : Frames) (new : WalkState) (task : TaskNo) → Holds task old → Stands new → new ≡ settled old.walk task.0
    → Counts old.walk new [] (task.0 ∷ []) → AreTaken new old.parked.items []
kept_rests old new task holds stands e counts =
    let same : new.rows ≡ old.walk.rows = ap (λ (s : WalkState). s.rows) e in
    one_settled old.walk new old.parked.items task.0 stands (omega (arith, ap length same)) (all_same (numbers_up old.parked.items) old.walk.rows new.rows same)
    counts holds.taken

-- or with another one
pub finished_rests : (old : Frames) (new : WalkState) (task : TaskNo) (row : Row) → Holds task old → Stands new
    → new ≡ settled (with_row old.walk task.0 row) task.0 → Counts old.walk new [] (task.0 ∷ []) → AreTaken new old.parked.items []
finished_rests old new task row holds stands e counts =
    let changed : new.rows ≡ set old.walk.rows task.0 row = ap (λ (s : WalkState). s.rows) e in
    one_settled old.walk new old.parked.items task.0 stands (omega (arith, ap length changed, length-set old.walk.rows task.0 row))
    (other_rows old.walk task old.parked.items row new.rows holds.top holds.taken changed) counts holds.taken

-- ---- any

-- nothing but what is scheduled changes
pub rests_on : (old : Frames) (new : WalkState) → Stands new → new.rows ≡ old.walk.rows → Counts old.walk new [] [] → Rests old
    → AreTaken new old.parked.items []
rests_on old new stands e counts rests = still_taken old.walk new old.parked.items [] stands e counts rests

-- one task more
pub grows : (old : Frames) (new : WalkState) (in_hand : List ℕ) → Stands new → new ≡ with_one_more old.walk → Counts old.walk new [] []
    → AreTaken old.walk old.parked.items in_hand → AreTaken new old.parked.items in_hand
grows old new in_hand stands e counts taken =
    let more : new.rows ≡ old.walk.rows ++ no_edges ∷ [] = ap (λ (s : WalkState). s.rows) e in
    same_taken old.walk new old.parked.items in_hand stands (omega (arith, ap length more, length_push old.walk.rows no_edges))
    (λ n h. ap (λ (rows : List Row). row_at rows n) more ∙ grown_rows old.walk.rows n) counts taken
