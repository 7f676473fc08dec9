-- The tasks that require one are scheduled.
use Rattle.std.proofs.Common.{◌≡◌, ◌⊎◌, ℕ, ◌<◌, ◌+◌, Bool, true, false, cond, List, [], ◌∷◌, None, length, set, get_or, drop, refl, sym, ap, ◌∙◌, subst, inl, inr}
use Rattle.std.proofs.Common.{arith, length-set}
use Rattle.std.specs.List.{Contains}
use Rattle.std.proofs.lemmas.List.{drop_more}
use Rattle.pie_graph.specs.declared.edges.TaskNo.{TaskNo}
use Rattle.pie_graph.specs.Numbers.{numbers, IsMarked, Exactly, AllBelow}
use Rattle.pie_graph.specs.Rows.{Row, Calls}
use Rattle.pie_reach.proofs.WalkSteps.{caller_below, all_below}
use Rattle.pie_graph.proofs.Among.{contains_here, contains_later, contains_cases}
use Rattle.pie_walk.specs.Marks.{mark_of, IsIdle}
use Rattle.pie_walk.specs.States.{WalkState, with_scheduled}
use Rattle.pie_walk.specs.Standing.{HoldsIn, IsSweptIn, Stands}
use Rattle.pie_walk.specs.Counts.{Counts}
use Rattle.pie_walk.specs.Callers.{SchedulesCallers}
use Rattle.pie_walk.specs.inner.Sweeping.{is_idle, schedule_one, schedule_all}
use Rattle.pie_walk.proofs.HoldSteps.{flags_hold}
use Rattle.pie_walk.proofs.SweptSteps.{IsCalm, swept_on}
use Rattle.pie_walk.proofs.FlagSteps.{flag_here, flag_kept, flag_cases, idle_tells, busy_tells}

-- these tasks are scheduled, those that were neither taken nor settled
record AreScheduled (old new : WalkState) (ks : List ℕ) : Type 0 where
  same : new ≡ record old { scheduled = new.scheduled }
  sized : length new.scheduled ≡ length old.scheduled
  kept : (k : ℕ) → IsMarked old.scheduled k → IsMarked new.scheduled k
  each : (k : ℕ) → Contains ks k → IsIdle old.marks k → IsMarked new.scheduled k
  only : (k : ℕ) → IsMarked new.scheduled k → IsMarked old.scheduled k ⊎ (Contains ks k × IsIdle old.marks k)

one_scheduled : (s : WalkState) (n : ℕ) → n < length s.scheduled → AreScheduled s (schedule_one n s) (n ∷ [])
one_scheduled s n l = by (is_idle (mark_of s.marks n)) refl
  where
    by : (b : Bool) → is_idle (mark_of s.marks n) ≡ b → AreScheduled s (cond b (with_scheduled s n) s) (n ∷ [])
    by true e = record {
      same = refl;
      sized = length-set s.scheduled n true;
      kept = λ k mark. flag_kept s.scheduled n k l mark;
      each = λ k h idle. elim (contains_cases n k [] h) [
        | inl same ↦ subst (IsMarked (set s.scheduled n true)) same (flag_here s.scheduled n l)
        | inr later ↦ absurd (omega (arith, later.1))
      ];
      only = λ k mark. elim (flag_cases s.scheduled n true k mark) [
        | inl same ↦ inr (
          subst (Contains (n ∷ [])) (sym same) (contains_here n []),
          subst (IsIdle s.marks) (sym same) (idle_tells (mark_of s.marks n) e),
        )
        | inr old ↦ inl old
      ];
    }
    by false e = record {
      same = refl;
      sized = refl;
      kept = λ k mark. mark;
      each = λ k h idle. elim (contains_cases n k [] h) [
        | inl same ↦ absurd (busy_tells (mark_of s.marks n) e (subst (IsIdle s.marks) (sym same) idle))
        | inr later ↦ absurd (omega (arith, later.1))
      ];
      only = λ k mark. inl mark;
    }

all_scheduled : (ks : List ℕ) (s : WalkState) → ((k : ℕ) → Contains ks k → k < length s.scheduled) → AreScheduled s (schedule_all ks s) ks
all_scheduled [] s below = record {
  same = refl;
  sized = refl;
  kept = λ k mark. mark;
  each = λ k h idle. absurd (omega (arith, h.1));
  only = λ k mark. inl mark;
}
all_scheduled (n ∷ ns) s below =
    let t = schedule_one n s in
    let one : AreScheduled s t (n ∷ []) = one_scheduled s n (below n (contains_here n ns)) in
    let rest : AreScheduled t (schedule_all ns t) ns = all_scheduled ns t (λ k h. omega (arith, one.sized, below k (contains_later n k ns h))) in
    let u = schedule_all ns t in
    let marks : t.marks ≡ s.marks = ap (λ (x : WalkState). x.marks) one.same in
    record {
      same = rest.same ∙ ap (λ (x : WalkState). record x { scheduled = u.scheduled }) one.same;
      sized = rest.sized ∙ one.sized;
      kept = λ k mark. rest.kept k (one.kept k mark);
      each = λ k h idle. elim (contains_cases n k ns h) [
        | inl same ↦ rest.kept k (one.each k (subst (Contains (n ∷ [])) same (contains_here n [])) idle)
        | inr later ↦ rest.each k later (elim idle [ inl e ↦ inl (ap (λ ms. mark_of ms k) marks ∙ e) | inr e ↦ inr (ap (λ ms. mark_of ms k) marks ∙ e) ])
      ];
      only = λ k mark. elim (rest.only k mark) [
        | inl before ↦ elim (one.only k before) [
          | inl old ↦ inl old
          | inr is ↦ elim (contains_cases n k [] is.0) [
            | inl same ↦ inr (subst (Contains (n ∷ ns)) same (contains_here n ns), is.1)
            | inr later ↦ absurd (omega (arith, later.1))
          ]
        ]
        | inr is ↦ inr (
          contains_later n k ns is.0,
          elim is.1 [ inl e ↦ inl (ap (λ ms. mark_of ms k) (sym marks) ∙ e) | inr e ↦ inr (ap (λ ms. mark_of ms k) (sym marks) ∙ e) ],
        )
      ];
    }

-- what is left when those that require a task were scheduled
pub record HasScheduled (old new : WalkState) (task : ℕ) : Type 0 where
  pub scheduled : SchedulesCallers old new task
  pub counts : Counts old new [] []
  pub stands : Stands new

pub callers_scheduled : (s new : WalkState) (task : ℕ) (ks : List ℕ) → Stands s → Exactly (λ k. Calls s.rows k task) ks
    → ((k : ℕ) → Contains ks k → k < length s.scheduled) → new ≡ schedule_all ks s → HasScheduled s new task
callers_scheduled s new task ks stands exactly below e =
    let all : AreScheduled s new ks = subst (λ (t : WalkState). AreScheduled s t ks) (sym e) (all_scheduled ks s below) in
    let flags = new.scheduled in
    let calm : IsCalm s (record s { scheduled = flags }) = record {
      looks = refl;
      swept = refl;
      sized = refl;
      rise = λ n. omega arith;
      calls = λ k n idle calls. calls;
      flags = λ k idle flag. all.kept k flag;
    } in
    subst (λ (t : WalkState). HasScheduled s t task) (sym all.same) (record {
      scheduled = record {
        same = refl;
        kept = all.kept;
        each = λ k calls idle. all.each k (exactly.each k calls) idle;
        only = λ k mark. elim (all.only k mark) [ inl old ↦ inl old | inr is ↦ inr (exactly.only k is.0, is.1) ];
      };
      counts = record { begins = omega arith; waits = refl };
      stands = record {
        holds = flags_hold s.rows s.places s.marks s.scheduled flags None s.stack stands.holds all.sized (λ k mark. elim (all.only k mark) [
          | inl old ↦ stands.holds.calm k old
          | inr is ↦ is.1
        ]);
        swept = swept_on s (record s { scheduled = flags }) calm stands.swept;
      };
    })

-- one more task of a list
pub schedule_more : (nos : List TaskNo) (i : ℕ) (d : TaskNo) (s : WalkState) → i < length nos
    → schedule_all (numbers (drop i nos)) s ≡ schedule_all (numbers (drop (i + 1) nos)) (schedule_one (get_or nos i d).0 s)
schedule_more nos i d s l = ap (λ (xs : List TaskNo). schedule_all (numbers xs) s) (drop_more nos i d l)

pub one_length : (n : ℕ) (s : WalkState) → length (schedule_one n s).scheduled ≡ length s.scheduled
one_length n s =
    elim (is_idle (mark_of s.marks n)) as (λ b. length (cond b (with_scheduled s n) s).scheduled ≡ length s.scheduled) [
      | true ↦ length-set s.scheduled n true
      | false ↦ refl
    ]

-- the tasks that require one have flags
pub callers_fit : (s : WalkState) (task : ℕ) (ks : List ℕ) → Stands s → Exactly (λ k. Calls s.rows k task) ks → (k : ℕ) → Contains ks k
    → k < length s.scheduled
callers_fit s task ks stands exactly k h = omega (arith, caller_below s.rows k task (exactly.only k h), stands.holds.scheduled_sized)

-- and so many flags are enough
pub callers_below : (rows : List Row) (count task : ℕ) (ks : List ℕ) → count ≡ length rows → Exactly (λ k. Calls rows k task) ks → AllBelow count ks
callers_below rows count task ks size exactly = all_below count ks (λ k h. omega (arith, caller_below rows k task (exactly.only k h), size))
