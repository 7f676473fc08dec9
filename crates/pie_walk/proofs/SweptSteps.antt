-- Sweeps that went up to their end stay so while tasks are taken and settled.
use Rattle.std.proofs.Common.{◌≡◌, ◌≢◌, ◌⊎◌, ℕ, ◌<◌, ◌≤◌, ◌+◌, Bool, true, false, List, [], ◌∷◌, ◌++◌, length, get_or, set, replicate}
use Rattle.std.proofs.Common.{refl, sym, ap, ◌∙◌, subst, inl, inr, arith, length-set}
use Rattle.std.specs.List.{Contains}
use Rattle.std.proofs.lemmas.Bool.Decides.{eqb_tells}
use Rattle.std.proofs.lemmas.Bool.{cases_lt}
use Rattle.std.proofs.lemmas.List.{get_or-set_same, get_or-set_other, get_or_append_left, get_or_past, length_push, length-replicate}
use Rattle.pie_order.proofs.MarkSteps.{none_marked}
use Rattle.pie_graph.specs.declared.edges.TaskNo.{TaskNo}
use Rattle.pie_graph.specs.Numbers.{IsMarked}
use Rattle.pie_graph.specs.Rows.{Row, row_at, no_edges, Calls}
use Rattle.pie_walk.specs.declared.marks.Mark.{Mark}
use Rattle.pie_walk.specs.declared.marks.Mark.TheVariants.{New, Visited, Runs, Settled}
use Rattle.pie_walk.specs.Marks.{mark_of, IsSettled, IsIdle, rank, MarksRise}
use Rattle.pie_walk.specs.States.{WalkState, OnTop, visiting, if_new, met, settled, with_scheduled}
use Rattle.pie_walk.specs.Standing.{HoldsIn, IsSwept, IsSweptIn}
use Rattle.pie_walk.specs.declared.walking.Turn.{Turn}
use Rattle.pie_walk.specs.declared.walking.Turn.TheVariants.{Takes, Answers, Idle}
use Rattle.pie_walk.specs.Turns.{Walks, IsTaken, Turns}
use Rattle.pie_walk.proofs.MarkSteps.{idle_before, rises_on, rises_set, stage_of}
use Rattle.pie_walk.proofs.MarkSteps.Stage.{is_new, is_settled, is_open}
use Rattle.pie_walk.proofs.HoldSteps.{default_more}
use Rattle.pie_walk.proofs.StateSteps.{top_busy}

-- a change by which no idle task requires more than before, and none of them is scheduled no longer
pub record IsCalm (s t : WalkState) : Type 0 where
  pub looks : t.looks_out ≡ s.looks_out
  pub swept : t.swept ≡ s.swept
  pub sized : length t.rows ≡ length s.rows
  pub rise : MarksRise s.marks t.marks
  pub calls : (k n : ℕ) → IsIdle t.marks k → Calls t.rows k n → Calls s.rows k n
  pub flags : (k : ℕ) → IsIdle t.marks k → IsMarked s.scheduled k → IsMarked t.scheduled k

pub swept_on : (s t : WalkState) → IsCalm s t → IsSweptIn s → IsSweptIn t
swept_on s t calm is = record {
  looks_sized = ap length calm.looks ∙ is.looks_sized ∙ sym calm.sized;
  swept_sized = ap length calm.swept ∙ is.swept_sized ∙ sym calm.sized;
  up = λ n k mark calls idle.
      subst (λ (flags : List Bool). IsMarked flags k) (sym calm.swept)
      (is.up n k (subst (λ (flags : List Bool). IsMarked flags n) calm.swept mark) (calm.calls k n idle calls)
      (idle_before s.marks t.marks calm.rise k idle));
  flags = λ k mark idle looks.
      calm.flags k idle
      (is.flags k (subst (λ (flags : List Bool). IsMarked flags k) calm.swept mark) (idle_before s.marks t.marks calm.rise k idle)
      (subst (λ (flags : List Bool). IsMarked flags k) calm.looks looks));
}

pub calm_still : (s : WalkState) → IsCalm s s
calm_still s = record {
  looks = refl;
  swept = refl;
  sized = refl;
  rise = λ n. omega arith;
  calls = λ k n idle calls. calls;
  flags = λ k idle flag. flag;
}

pub calm_on : (a b c : WalkState) → IsCalm a b → IsCalm b c → IsCalm a c
calm_on a b c one two = record {
  looks = two.looks ∙ one.looks;
  swept = two.swept ∙ one.swept;
  sized = two.sized ∙ one.sized;
  rise = rises_on a.marks b.marks c.marks one.rise two.rise;
  calls = λ k n idle calls. one.calls k n (idle_before b.marks c.marks two.rise k idle) (two.calls k n idle calls);
  flags = λ k idle flag. two.flags k idle (one.flags k (idle_before b.marks c.marks two.rise k idle) flag);
}

-- a task is visited, unless it was met
pub met_calm : (s : WalkState) (task : TaskNo) → task.0 < length s.marks → IsCalm s (met s task)
met_calm s task l =
    elim (stage_of (mark_of s.marks task.0)) [
      | is_new e ↦ subst (λ (m : Mark). IsCalm s (if_new m (visiting s task) s)) (sym e) (record {
        looks = refl;
        swept = refl;
        sized = refl;
        rise = rises_set s.marks task.0 Visited l (omega (arith, ap rank e));
        calls = λ k n idle calls. calls;
        flags = λ k idle flag. flag;
      })
      | is_settled e ↦ subst (λ (m : Mark). IsCalm s (if_new m (visiting s task) s)) (sym e) (calm_still s)
      | is_open a b ↦ subst (λ (t : WalkState). IsCalm s t) (old_met (mark_of s.marks task.0) a) (calm_still s)
    ]
  where
    old_met : (m : Mark) → m ≢ New → s ≡ if_new m (visiting s task) s
    old_met New apart = absurd (apart refl)
    old_met Visited apart = refl
    old_met Runs apart = refl
    old_met Settled apart = refl

-- a task is settled
pub settled_calm : (s : WalkState) (n : ℕ) → n < length s.marks → IsCalm s (settled s n)
settled_calm s n l = record {
  looks = refl;
  swept = refl;
  sized = refl;
  rise = rises_set s.marks n Settled l (rank_bound (mark_of s.marks n));
  calls = λ k m idle calls. calls;
  flags = λ k idle flag. flag;
}
  where
    rank_bound : (m : Mark) → rank m ≤ 3
    rank_bound New = omega arith
    rank_bound Visited = omega arith
    rank_bound Runs = omega arith
    rank_bound Settled = omega arith

-- the row of a task that was taken changes
pub row_calm : (s : WalkState) (places : List ℕ) (n : ℕ) (row : Row) → (IsIdle s.marks n → ⊥)
    → IsCalm s (record s { rows = set s.rows n row; places = places })
row_calm s places n row taken_it = record {
  looks = refl;
  swept = refl;
  sized = length-set s.rows n row;
  rise = λ m. omega arith;
  calls = λ k m idle calls. elim (eqb_tells k n) [
    | inl e ↦ absurd (taken_it (subst (IsIdle s.marks) e.1 idle))
    | inr e ↦ subst (λ (r : Row). Contains r.needs m) (get_or-set_other s.rows n k row no_edges e.1) calls
  ];
  flags = λ k idle flag. flag;
}

-- a walk goes on without taking a task
pub walks_calm : (s t : WalkState) → Walks s t → IsCalm s t
walks_calm s t walks = record {
  looks = ap (λ (u : WalkState). u.looks_out) walks.same;
  swept = ap (λ (u : WalkState). u.swept) walks.same;
  sized = ap (λ (u : WalkState). length u.rows) walks.same;
  rise = walks.rise;
  calls = λ k n idle calls. subst (λ (u : WalkState). Calls u.rows k n) walks.same calls;
  flags = λ k idle flag. subst (λ (u : WalkState). IsMarked u.scheduled k) (sym walks.same) flag;
}

-- a task is taken
pub taken_calm : (s t : WalkState) (task : TaskNo) → HoldsIn t → IsTaken s t task → IsCalm s t
taken_calm s t task holds is = record {
  looks = ap (λ (u : WalkState). u.looks_out) is.same;
  swept = ap (λ (u : WalkState). u.swept) is.same;
  sized = ap (λ (u : WalkState). length u.rows) is.same;
  rise = is.rise;
  calls = λ k n idle calls. subst (λ (u : WalkState). Calls u.rows k n) is.same calls;
  flags = λ k idle flag. elim (eqb_tells k task.0) [
    | inl e ↦ absurd (top_busy t task is.top holds (subst (IsIdle t.marks) e.1 idle))
    | inr e ↦ subst (λ (u : WalkState). IsMarked u.scheduled k) (sym is.same) (get_or-set_other s.scheduled task.0 k false false e.1 ∙ flag)
  ];
}

-- a walk that stops
pub turns_swept : (s t : WalkState) (turn : Turn) → HoldsIn t → Turns s t turn → IsSweptIn s → IsSweptIn t
turns_swept s t (Takes task) holds turns = swept_on s t (taken_calm s t task holds turns)
turns_swept s t (Answers task) holds turns = swept_on s t (walks_calm s t turns.walks)
turns_swept s t Idle holds turns = swept_on s t (walks_calm s t turns.walks)

-- nothing was swept
pub none_swept : (rows : List Row) (marks : List Mark) (scheduled looks_out : List Bool) → length looks_out ≡ length rows
    → IsSwept rows marks scheduled looks_out (replicate (length rows) false)
none_swept rows marks scheduled looks_out size = record {
  looks_sized = size;
  swept_sized = length-replicate (length rows) false;
  up = λ n k mark calls idle. absurd (none_marked (length rows) n mark);
  flags = λ k mark idle looks. absurd (none_marked (length rows) k mark);
}

-- one more task, which is scheduled
pub grown_swept : (rows : List Row) (marks : List Mark) (scheduled looks_out swept : List Bool) → IsSwept rows marks scheduled looks_out swept
    → IsSwept (rows ++ no_edges ∷ []) (marks ++ New ∷ []) (scheduled ++ true ∷ []) (looks_out ++ false ∷ []) (swept ++ false ∷ [])
grown_swept rows marks scheduled looks_out swept is =
    let old_mark : (k : ℕ) → IsMarked (swept ++ false ∷ []) k → IsMarked swept k = λ k mark. sym (default_more swept false k) ∙ mark in
    let old_idle : (k : ℕ) → IsIdle (marks ++ New ∷ []) k → IsIdle marks k =
    λ k idle. elim idle [ inl e ↦ inl (sym (default_more marks New k) ∙ e) | inr e ↦ inr (sym (default_more marks New k) ∙ e) ] in
    record {
      looks_sized = omega (arith, length_push looks_out false, length_push rows no_edges, is.looks_sized);
      swept_sized = omega (arith, length_push swept false, length_push rows no_edges, is.swept_sized);
      up = λ n k mark calls idle.
          default_more swept false k ∙ is.up n k (old_mark n mark) (subst (λ (r : Row). Contains r.needs n) (default_more rows no_edges k) calls)
          (old_idle k idle);
      flags = λ k mark idle looks.
          flag_grown scheduled k (is.flags k (old_mark k mark) (old_idle k idle) (sym (default_more looks_out false k) ∙ looks));
    }
  where
    flag_grown : (flags : List Bool) (k : ℕ) → IsMarked flags k → IsMarked (flags ++ true ∷ []) k
    flag_grown flags k mark = elim (cases_lt k (length flags)) [
      | inl l ↦ get_or_append_left flags (true ∷ []) false k l ∙ mark
      | inr past ↦ absurd (let clash : false ≡ true = sym (get_or_past flags k false past) ∙ mark in cc)
    ]

-- one more task is scheduled
pub scheduled_calm : (s : WalkState) (n : ℕ) → n < length s.scheduled → IsCalm s (with_scheduled s n)
scheduled_calm s n l = record {
  looks = refl;
  swept = refl;
  sized = refl;
  rise = λ m. omega arith;
  calls = λ k m idle calls. calls;
  flags = λ k idle flag. elim (eqb_tells k n) [
    | inl e ↦ ap (λ j. get_or (set s.scheduled n true) j false) e.1 ∙ get_or-set_same s.scheduled n true false l
    | inr e ↦ get_or-set_other s.scheduled n k true false e.1 ∙ flag
  ];
}
