-- A walk stands after each call, and each call says by what it falls.
use Rattle.std.proofs.Common.{◌≡◌, ◌⊎◌, ℕ, ◌<◌, ◌≤◌, ◌+◌, ◌-◌, Bool, true, false, List, [], ◌∷◌, ◌++◌, None, length, replicate, set, refl, sym, ap, ◌∙◌}
use Rattle.std.proofs.Common.{subst, inl, inr, arith, length-set}
use Rattle.std.specs.List.{Contains, sum_by}
use Rattle.std.proofs.lemmas.List.{length_push}
use Rattle.std.proofs.lemmas.List.Sums.{sum_by_push}
use Rattle.pie_graph.specs.declared.edges.TaskNo.{TaskNo}
use Rattle.pie_graph.specs.Numbers.{IsMarked}
use Rattle.pie_graph.specs.Rows.{Row, row_at, no_edges, Calls, NeedsBelow}
use Rattle.pie_order.specs.Places.{PlacesAgree, StandsBefore, numbers_below}
use Rattle.pie_union.specs.Requiring.{requiring}
use Rattle.pie_walk.specs.declared.marks.Mark.{Mark}
use Rattle.pie_walk.specs.declared.marks.Mark.TheVariants.{New, Visited, Runs, Settled}
use Rattle.pie_walk.specs.declared.stack.Entry.{Entry}
use Rattle.pie_walk.specs.declared.stack.Entry.TheVariants.{Visit, Waits}
use Rattle.pie_walk.specs.declared.walking.Turn.{Turn}
use Rattle.pie_walk.specs.Marks.{mark_of, IsIdle, is_unstarted}
use Rattle.pie_walk.specs.States.{WalkState, OnTop, below, waiting, NeedsAreEarlier, with_scheduled, visiting, if_new, met, settled}
use Rattle.pie_walk.specs.Standing.{Holds, HoldsIn, IsSwept, IsSweptIn, Stands}
use Rattle.pie_walk.specs.Counts.{Counts}
use Rattle.pie_walk.specs.Turns.{Turns}
use Rattle.pie_walk.proofs.MarkSteps.{stage_of, weight_set}
use Rattle.pie_walk.proofs.MarkSteps.Stage.{is_new, is_settled, is_open}
use Rattle.pie_walk.proofs.HoldSteps.{schedules}
use Rattle.pie_walk.proofs.StateSteps.{start_holds, more_holds, begun_holds, kept_holds, finished_parts, required_parts, top_runs, top_busy, top_inside}
use Rattle.pie_walk.proofs.SweptSteps.{IsCalm, swept_on, calm_on, met_calm, settled_calm, row_calm, scheduled_calm, turns_swept, none_swept, grown_swept}

-- what a call leaves: the walk stands, some tasks were taken and some settled
pub record Leaves (old new : WalkState) (more less : List ℕ) : Type 0 where
  pub stands : Stands new
  pub counts : Counts old new more less

-- before anything was met, in parts
pub start_stands : (rows : List Row) (count : ℕ) (places : List ℕ) (marks : List Mark) (scheduled looks_out swept : List Bool) (stack : List Entry)
    → NeedsBelow rows → NeedsAreEarlier rows → length looks_out ≡ length rows → count ≡ length rows → places ≡ numbers_below count
    → marks ≡ replicate count New → scheduled ≡ replicate count false → swept ≡ replicate count false → stack ≡ []
    → Stands (record { rows = rows; places = places; marks = marks; scheduled = scheduled; looks_out = looks_out; swept = swept; stack = stack })
start_stands rows count places marks scheduled looks_out swept stack needs earlier looks size p m f w e = record {
  holds = start_holds rows count places marks scheduled stack needs earlier size p m f e;
  swept = subst (IsSwept rows marks scheduled looks_out) (sym (w ∙ ap (λ n. replicate n false) size)) (none_swept rows marks scheduled looks_out looks);
}

-- one more task, in parts
pub more_stands : (s : WalkState) (rows : List Row) (places : List ℕ) (marks : List Mark) (scheduled looks_out swept : List Bool) → NeedsBelow s.rows
    → length s.rows < 50000 → Stands s → rows ≡ s.rows ++ no_edges ∷ [] → places ≡ s.places ++ length s.places ∷ [] → marks ≡ s.marks ++ New ∷ []
    → scheduled ≡ s.scheduled ++ true ∷ [] → looks_out ≡ s.looks_out ++ false ∷ [] → swept ≡ s.swept ++ false ∷ []
    → (let t : WalkState = record { rows = rows; places = places; marks = marks; scheduled = scheduled; looks_out = looks_out; swept = swept; stack = s.stack } in
    Leaves s t [] [])
more_stands s rows places marks scheduled looks_out swept needs few stands r p m f l w = record {
  stands = record {
    holds = more_holds s rows places marks scheduled needs stands.holds r p m f;
    swept = subst (IsSwept rows marks scheduled looks_out) (sym w)
        (subst (λ (xs : List Bool). IsSwept rows marks scheduled xs (s.swept ++ false ∷ [])) (sym l)
        (subst (λ (xs : List Bool). IsSwept rows marks xs (s.looks_out ++ false ∷ []) (s.swept ++ false ∷ [])) (sym f)
        (subst (λ (ms : List Mark). IsSwept rows ms (s.scheduled ++ true ∷ []) (s.looks_out ++ false ∷ []) (s.swept ++ false ∷ [])) (sym m)
        (subst (λ (rs : List Row). IsSwept rs (s.marks ++ New ∷ []) (s.scheduled ++ true ∷ []) (s.looks_out ++ false ∷ []) (s.swept ++ false ∷ [])) (sym r)
        (grown_swept s.rows s.marks s.scheduled s.looks_out s.swept stands.swept)))));
  };
  counts = record {
    begins = omega (arith, few, ap length r, length_push s.rows no_edges, ap (sum_by is_unstarted) m, sum_by_push is_unstarted s.marks New);
    waits = refl;
  };
}

-- a task is scheduled
pub scheduled_stands : (s : WalkState) (n : ℕ) → Stands s → IsIdle s.marks n → n < length s.rows → Leaves s (with_scheduled s n) [] []
scheduled_stands s n stands idle l = record {
  stands = record {
    holds = schedules s.rows s.places s.marks s.scheduled n None s.stack stands.holds idle;
    swept = swept_on s (with_scheduled s n) (scheduled_calm s n (omega (arith, l, stands.holds.scheduled_sized))) stands.swept;
  };
  counts = record { begins = omega arith; waits = refl };
}

met_counts : (s : WalkState) (task : TaskNo) → task.0 < length s.marks → Counts s (met s task) [] []
met_counts s task l = by (mark_of s.marks task.0) refl
  where
    by : (m : Mark) → mark_of s.marks task.0 ≡ m → Counts s (if_new m (visiting s task) s) [] []
    by New e = record { begins = omega (arith, weight_set is_unstarted s.marks task.0 New Visited l e); waits = refl }
    by Visited e = record { begins = omega arith; waits = refl }
    by Runs e = record { begins = omega arith; waits = refl }
    by Settled e = record { begins = omega arith; waits = refl }

-- a root is visited, unless it is settled
pub begun_stands : (s : WalkState) (root : TaskNo) → Stands s → s.stack ≡ [] → root.0 < length s.rows → Leaves s (met s root) [] []
begun_stands s root stands empty l =
    let within : root.0 < length s.marks = omega (arith, l, stands.holds.marks_sized) in
    record {
      stands = record {
        holds = begun_holds s root stands.holds empty l;
        swept = swept_on s (met s root) (met_calm s root within) stands.swept;
      };
      counts = met_counts s root within;
    }

settled_counts : (s : WalkState) (task : TaskNo) → OnTop s (Waits task) → HoldsIn s → Counts s (settled s task.0) [] (task.0 ∷ [])
settled_counts s task top holds =
    let within : task.0 < length s.marks = omega (arith, top_inside s (Waits task) top holds, holds.marks_sized) in
    record {
      begins = omega (arith, weight_set is_unstarted s.marks task.0 Runs Settled within (top_runs s task top holds));
      waits = subst (λ (es : List Entry). ◌≡◌ {A = List ℕ} (task.0 ∷ waiting (below es)) (waiting es)) (sym top.1) refl;
    }

-- the task on top is kept
pub kept_stands : (s : WalkState) (task : TaskNo) → OnTop s (Waits task) → Stands s → Leaves s (settled s task.0) [] (task.0 ∷ [])
kept_stands s task top stands = record {
  stands = record {
    holds = kept_holds s task top stands.holds;
    swept = swept_on s (settled s task.0)
        (settled_calm s task.0 (omega (arith, top_inside s (Waits task) top stands.holds, stands.holds.marks_sized))) stands.swept;
  };
  counts = settled_counts s task top stands.holds;
}

-- the task on top ends, in parts
pub finished_stands : (s : WalkState) (rows : List Row) (new : WalkState) (task : TaskNo) (row : Row) → OnTop s (Waits task) → Stands s
    → ((k : ℕ) → Contains row.needs k → Calls s.rows task.0 k) → rows ≡ set s.rows task.0 row → new ≡ settled (record s { rows = rows }) task.0
    → Leaves s new [] (task.0 ∷ [])
finished_stands s rows new task row top stands fewer r e =
    let n = task.0 in
    let t : WalkState = record s { rows = set s.rows n row } in
    let same : new ≡ settled t n = e ∙ ap (λ (rs : List Row). settled (record s { rows = rs }) n) r in
    let within : n < length s.marks = omega (arith, top_inside s (Waits task) top stands.holds, stands.holds.marks_sized) in
    let calm : IsCalm s (settled t n) = calm_on s t (settled t n) (row_calm s s.places n row (top_busy s task top stands.holds)) (settled_calm t n within) in
    record {
      stands = record {
        holds = finished_parts s rows new task row top stands.holds fewer r e;
        swept = subst IsSweptIn (sym same) (swept_on s (settled t n) calm stands.swept);
      };
      counts = subst (λ (u : WalkState). Counts s u [] (n ∷ [])) (sym same) (record {
        begins = omega (
          arith,
          length-set s.rows n row,
          weight_set is_unstarted s.marks n Runs Settled within (top_runs s task top stands.holds),
        );
        waits = (settled_counts s task top stands.holds).waits;
      });
    }

-- the task on top requires one more, in parts
pub required_stands : (s : WalkState) (rows : List Row) (places : List ℕ) (new : WalkState) (from to : TaskNo) → OnTop s (Waits from) → Stands s
    → to.0 < length s.rows → PlacesAgree s.rows places × StandsBefore places to.0 from.0
    → rows ≡ set s.rows from.0 (requiring (row_at s.rows from.0) to.0) → new ≡ met (record s { rows = rows; places = places }) to → Leaves s new [] []
required_stands s rows places new from to top stands l order r e =
    let row = requiring (row_at s.rows from.0) to.0 in
    let t : WalkState = record s { rows = set s.rows from.0 row; places = places } in
    let same : new ≡ met t to = e ∙ ap (λ (rs : List Row). met (record s { rows = rs; places = places }) to) r in
    let within : to.0 < length s.marks = omega (arith, l, stands.holds.marks_sized) in
    let calm : IsCalm s (met t to) = calm_on s t (met t to) (row_calm s places from.0 row (top_busy s from top stands.holds)) (met_calm t to within) in
    let counts = met_counts t to within in
    record {
      stands = record {
        holds = required_parts s rows places new from to top stands.holds l order r e;
        swept = subst IsSweptIn (sym same) (swept_on s (met t to) calm stands.swept);
      };
      counts = subst (λ (u : WalkState). Counts s u [] []) (sym same)
          (record { begins = omega (arith, length-set s.rows from.0 row, counts.begins); waits = counts.waits });
    }

-- a walk stops
pub turned_stands : (s t : WalkState) (turn : Turn) → Stands s → HoldsIn t → Turns s t turn → Stands t
turned_stands s t turn stands holds turns = record { holds = holds; swept = turns_swept s t turn holds turns stands.swept }
