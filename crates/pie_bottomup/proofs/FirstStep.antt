-- The first step: old tasks are scheduled.
use Rattle.std.proofs.Common.{◌≡◌, ℕ, ◌<◌, ◌≤◌, ◌+◌, Bool, true, false, List, Some, length, set, take, sym, ap, ◌∙◌, subst, refl, arith, inl, inr}
use Rattle.std.specs.Prelude.{slice_get, slice_index_or}
use Rattle.std.specs.List.{All}
use Rattle.std.proofs.lemmas.List.Elements.{All-nil}
use Rattle.std.proofs.lemmas.Bool.{cases_lt}
use Rattle.std.proofs.lemmas.Option.{slice_get_within}
use Rattle.pie_graph.specs.Numbers.{IsMarked}
use Rattle.pie_value.specs.declared.task.Task.{Task}
use Rattle.pie_walk.specs.Marks.{mark_of}
use Rattle.pie_walk.specs.States.{WalkState, with_scheduled}
use Rattle.pie_walk.proofs.FlagSteps.{flag_kept, flag_here}
use Rattle.pie_frames.specs.declared.frames.Frames.{Frames}
use Rattle.pie_frames.specs.inner.Standing.{Rests}
use Rattle.pie_frames.specs.inner.Weights.{weight}
use Rattle.pie_walk.specs.Counts.{begins}
use Rattle.pie_bottomup.specs.declared.state.Core.{Core}
use Rattle.pie_bottomup.specs.declared.state.First.TheVariants.{Done}
use Rattle.pie_bottomup.specs.inner.Recorded.{IsStill, HasOutput, IsMet}
use Rattle.pie_bottomup.specs.inner.Running.{IsKnown, IsCaller}
use Rattle.pie_bottomup.specs.inner.States.{IsUntested, IsAtRest, IsTested, IsDue}
use Rattle.pie_bottomup.proofs.Basing.{based_empty, none_stacked}
use Rattle.pie_bottomup.proofs.Going.{recorded_on, goes_marking}
use Rattle.pie_bottomup.proofs.Keeping.{tasks_stay, keeps_then}

-- what is named may be better known
pub named_tested : (c new : Core) → new ≡ record c { named = new.named } → IsUntested c → IsTested c new
named_tested c new e is = subst (IsTested c) (sym e) (record {
  untested = record {
    tables = is.tables;
    sized = is.sized;
    roots = is.roots;
    rests = is.rests;
    start = record {
      first = is.start.first;
      hand = is.start.hand;
      at = is.start.at;
      parked = is.start.parked;
      fresh = is.start.fresh;
      recorded = is.start.recorded;
      digests = is.start.digests;
    };
  };
  rows = refl;
  first = refl;
  nearer = omega arith;
  keeps = record { plan = refl; room = omega arith; tasks = tasks_stay c.tables; ran = λ n is. is };
  more = λ n flag. flag;
})

-- a task is scheduled
pub scheduled_tested : (c : Core) (f : Frames) (n : ℕ) → IsUntested c → n < length c.frames.walk.rows → Rests f → f.walk ≡ with_scheduled c.frames.walk n
    → f.parked ≡ c.frames.parked → weight f ≤ weight c.frames → begins f.walk ≤ begins c.frames.walk → IsTested c (record c { frames = f })
scheduled_tested c f n is l rests e same weights room =
    let old = c.frames.walk in
    let inside : n < length old.scheduled = omega (arith, l, is.rests.stands.holds.scheduled_sized) in
    let flags : f.walk.scheduled ≡ set old.scheduled n true = ap (λ (s : WalkState). s.scheduled) e in
    record {
      untested = record {
        tables = is.tables;
        sized = is.sized ∙ sym (ap (λ (s : WalkState). length s.rows) e);
        roots = is.roots;
        rests = rests;
        start = record {
          first = is.start.first;
          hand = is.start.hand;
          at = is.start.at;
          parked = ap (λ v. v.items) same ∙ is.start.parked;
          fresh = λ k. ap (λ (s : WalkState). mark_of s.marks k) e ∙ is.start.fresh k;
          recorded = recorded_on c.tables.names c.tables.records old f.walk (goes_marking old f.walk n inside e) is.start.recorded;
          digests = is.start.digests;
        };
      };
      rows = ap (λ (s : WalkState). length s.rows) e;
      first = refl;
      nearer = omega (arith, weights);
      keeps = record { plan = refl; room = room; tasks = tasks_stay c.tables; ran = λ n is. is };
      more = λ k flag. subst (λ (fs : List Bool). IsMarked fs k) (sym flags) (flag_kept old.scheduled n k inside flag);
    }

pub tested_on : (a b c : Core) → IsTested a b → IsTested b c → IsTested a c
tested_on a b c one two = record {
  untested = two.untested;
  rows = two.rows ∙ one.rows;
  first = two.first ∙ one.first;
  nearer = omega (arith, one.nearer, two.nearer);
  keeps = keeps_then a b c one.keeps two.keeps;
  more = λ n flag. two.more n (one.more n flag);
}

-- the same after what is named was asked for
pub scheduled_after : (old mid : Core) (f : Frames) (n : ℕ) → IsUntested old → mid ≡ record old { named = mid.named } → n < length old.frames.walk.rows → Rests f
    → f.walk ≡ with_scheduled mid.frames.walk n → f.parked ≡ mid.frames.parked → weight f ≤ weight mid.frames → begins f.walk ≤ begins mid.frames.walk
    → IsTested old (record mid { frames = f })
scheduled_after old mid f n is e l rests walk same weights room =
    let one = named_tested old mid e is in
    tested_on old mid (record mid { frames = f }) one
    (scheduled_tested mid f n one.untested (subst (λ (c : Core). n < length c.frames.walk.rows) (sym e) l) rests walk same weights room)

-- it is scheduled then
pub scheduled_due : (c : Core) (f : Frames) (n : ℕ) → IsUntested c → n < length c.frames.walk.rows → f.walk ≡ with_scheduled c.frames.walk n
    → IsDue (record c { frames = f }) n
scheduled_due c f n is l e unflagged =
    subst (λ (s : WalkState). IsMarked s.scheduled n) (sym e)
    (flag_here c.frames.walk.scheduled n (omega (arith, l, is.rests.stands.holds.scheduled_sized)))

-- what was due stays so
pub due_stays : (old new : Core) (n : ℕ) → IsTested old new → IsDue old n → IsDue new n
due_stays old new n tested due unflagged =
    tested.more n (due (subst (λ p. slice_index_or p.same.items n false ≡ false) tested.keeps.plan unflagged))

pub due_more : (old new : Core) (m : ℕ) → IsTested old new → ((n : ℕ) → n < m → IsDue old n) → IsDue new m → (n : ℕ) → n < m + 1 → IsDue new n
due_more old new m tested before last n l = elim (cases_lt n m) [
  | inl less ↦ due_stays old new n tested (before n less)
  | inr past ↦ let same : n ≡ m = omega (arith, l, past) in subst (IsDue new) (sym same) last
]

-- all old tasks were tested
pub begun_rests : (c : Core) → IsUntested c → ((n : ℕ) → n < length c.frames.walk.rows → IsDue c n) → IsAtRest (record c { first = Done })
begun_rests c is due = record {
  site = record {
    tables = is.tables;
    sized = is.sized;
    roots = is.roots;
    tested = refl;
    agree = record {
      recorded = is.start.recorded;
      callers = subst (All (IsCaller c.plan c.tables.names c.tables.records c.frames.walk.marks)) (sym is.start.parked)
          (All-nil (IsCaller c.plan c.tables.names c.tables.records c.frames.walk.marks));
      met = subst (λ (n : ℕ). All (IsMet c.tables.names c.frames.walk.marks) (take n c.plan.roots.items)) (sym is.start.at)
          (All-nil (IsMet c.tables.names c.frames.walk.marks));
      known = known;
    };
    based = based_empty c.plan.roots.items c.tables.names c.frames.walk.stack (none_stacked c.frames.walk is.rests.stands.holds is.start.fresh);
  };
  rests = is.rests;
}
  where
    known : (n : ℕ) (t : Task) → slice_get c.tables.names n ≡ Some t → HasOutput c.tables.records n → IsStill c.frames.walk n → IsKnown c.plan t
    known n t named output still = by (slice_index_or c.plan.same.items n false) refl
      where
        by : (b : Bool) → slice_index_or c.plan.same.items n false ≡ b → IsKnown c.plan t
        by true flag = inr (is.start.digests n t flag named)
        by false flag = absurd (still.calm (due n (omega (arith, slice_get_within c.tables.names n t named, is.sized)) flag))
