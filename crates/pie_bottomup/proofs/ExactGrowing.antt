-- A build stays exact where a task begins to run or waits, and where one more comes.
use Rattle.std.proofs.Common.{◌≡◌, ◌⊎◌, ℕ, zero, suc, ◌<◌, ◌≤◌, Bool, true, false, List, [], ◌∷◌, ◌++◌, Option, None, Some, length, refl, sym, ap, ◌∙◌, subst, inl, inr, arith}
use Rattle.std.specs.Prelude.{slice_get, slice_index_or, slice_set, take, IfSome}
use Rattle.std.specs.List.{All}
use Rattle.std.proofs.lemmas.List.{get_or-set_same, get_or-set_other, length_push, take-append-le, take_all}
use Rattle.std.proofs.lemmas.List.Elements.{All-weaker, All-push}
use Rattle.std.proofs.lemmas.Option.{slice_get_within}
use Rattle.pie_value.specs.declared.task.Task.{Task}
use Rattle.pie_graph.specs.declared.edges.TaskNo.{TaskNo}
use Rattle.pie_graph.specs.Numbers.{IsMarked}
use Rattle.pie_graph.specs.Rows.{Row, row_at, no_edges}
use Rattle.pie_record.specs.declared.records.Records.{Records}
use Rattle.pie_record.specs.declared.task_record.TaskRecord.{TaskRecord}
use Rattle.pie_record.specs.inner.Records.{record_of as kept_of}
use Rattle.pie_tables.specs.declared.tables.Tables.{Tables}
use Rattle.pie_tables.specs.Tabled.{IsTables, IsRecordAt}
use Rattle.pie_union.specs.Requiring.{requiring}
use Rattle.pie_walk.specs.declared.marks.Mark.TheVariants.{New, Runs, Settled}
use Rattle.pie_walk.specs.Marks.{mark_of, IsSettled}
use Rattle.pie_walk.specs.States.{WalkState, with_one_more}
use Rattle.pie_walk.specs.Standing.{Stands}
use Rattle.pie_walk.proofs.HoldSteps.{default_more}
use Rattle.pie_walk.proofs.StateSteps.{top_runs, top_inside}
use Rattle.pie_walk.specs.declared.stack.Entry.TheVariants.{Waits}
use Rattle.pie_frames.specs.declared.parked.Parked.{Parked}
use Rattle.pie_frames.specs.declared.frames.Frames.{Frames}
use Rattle.pie_frames.specs.inner.Standing.{Holds, number_of}
use Rattle.pie_frames.specs.inner.Turns.{HasParked}
use Rattle.pie_frames.proofs.Handing.{required_rows}
use Rattle.pie_frames.proofs.Tying.{grown_rows}
use Rattle.pie_builder_laws.specs.Names.{AreTasks, called_in}
use Rattle.pie_builder_laws.specs.Views.{AreNumbersOf}
use Rattle.pie_builder_laws.proofs.Provided.{numbers_stay}
use Rattle.pie_core_laws.specs.Update.{Update}
use Rattle.pie_core_laws.specs.Exact.{runs, is_busy, IsExact}
use Rattle.pie_core_laws.specs.Moving.{Moves}
use Rattle.pie_core_laws.proofs.Exactly.{busy_is, scheduled_busy, runs_busy}
use Rattle.pie_core_laws.proofs.Grown.{new_stays}
use Rattle.pie_core_laws.proofs.Visited.{requires_move}
use Rattle.pie_bottomup.specs.declared.state.Core.{Core}
use Rattle.pie_bottomup.specs.declared.state.InHand.{InHand}
use Rattle.pie_bottomup.specs.inner.Causes.{AreTried, IsTried}
use Rattle.pie_bottomup.specs.inner.Exact.{KnowsTouched, AreWritten, BeginsAsOld, WaitsAsOld, HoldsAsOld}
use Rattle.pie_bottomup.specs.inner.Exact.{IsExactCore, IsTakenExact}
use Rattle.pie_bottomup.proofs.Exactly.{are_moved}
use Rattle.pie_bottomup.proofs.ExactEnding.{waits_apart}
use Rattle.pie_bottomup.proofs.Trying.{tried_more}

-- ---- one task more

pub named_back : (names : List Task) (t x : Task) (n : ℕ) → n < length names → slice_get (names ++ t ∷ []) n ≡ Some x → slice_get names n ≡ Some x
named_back [] t x n l e = absurd (omega (arith, l))
named_back (y ∷ ys) t x zero l e = e
named_back (y ∷ ys) t x (suc n) l e = named_back ys t x n (omega (arith, l)) e

pub marked_inside : (flags : List Bool) (n : ℕ) → IsMarked flags n → n < length flags
marked_inside [] n e = cc
marked_inside (x ∷ xs) zero e = omega arith
marked_inside (x ∷ xs) (suc n) e = let l = marked_inside xs n e in omega (arith, l)

flag_more : (flags : List Bool) (n : ℕ) → IsMarked flags n → IsMarked (flags ++ true ∷ []) n
flag_more [] n e = cc
flag_more (x ∷ xs) zero e = e
flag_more (x ∷ xs) (suc n) e = flag_more xs n e

-- the number after the last has no record
pub none_after : (t : Tables) → IsTables t → kept_of t.records (length t.names) ≡ None
none_after t is = by (kept_of t.records (length t.names)) refl
  where
    by : (o : Option TaskRecord) → kept_of t.records (length t.names) ≡ o → o ≡ None
    by None e = refl
    by (Some r) e =
        let at : IsRecordAt t.names (length t.names) r = subst (λ o. IfSome o (IsRecordAt t.names (length t.names))) e (is.records (length t.names)) in
        absurd (omega (arith, slice_get_within t.names (length t.names) r.task at.named))

module _ (u : Update) (c : Core) (f : Frames) (t : Tables) (task : Task) (e : IsExactCore u c) (w : Stands c.frames.walk)
    (walk : f.walk ≡ with_one_more c.frames.walk) (names : t.names ≡ c.tables.names ++ task ∷ []) (records : t.records ≡ c.tables.records)
    (ran : t.ran.items ≡ c.tables.ran.items ++ false ∷ []) where
  marks_same : (n : ℕ) → mark_of f.walk.marks n ≡ mark_of c.frames.walk.marks n
  marks_same n = ap (λ (z : WalkState). mark_of z.marks n) walk ∙ default_more c.frames.walk.marks New n

  ran_same : (n : ℕ) → slice_index_or t.ran.items n false ≡ slice_index_or c.tables.ran.items n false
  ran_same n = ap (λ (flags : List Bool). slice_index_or flags n false) ran ∙ default_more c.tables.ran.items false n

  kept_same : (n : ℕ) → kept_of t.records n ≡ kept_of c.tables.records n
  kept_same n = ap (λ (rs : Records). kept_of rs n) records

  rows_same : (n : ℕ) → row_at f.walk.rows n ≡ row_at c.frames.walk.rows n
  rows_same n = ap (λ (z : WalkState). row_at z.rows n) walk ∙ grown_rows c.frames.walk.rows n

  calm_before : (n : ℕ) → is_busy f.walk n ≡ false → is_busy c.frames.walk n ≡ false
  calm_before n calm = by (is_busy c.frames.walk n) refl
    where
      busy_now : IsMarked c.frames.walk.scheduled n ⊎ (runs (mark_of c.frames.walk.marks n) ≡ true) → is_busy f.walk n ≡ true
      busy_now (inl flag) =
          scheduled_busy f.walk n (subst (λ (z : WalkState). IsMarked z.scheduled n) (sym walk) (flag_more c.frames.walk.scheduled n flag))
      busy_now (inr run) = runs_busy f.walk n (ap runs (marks_same n) ∙ run)

      by : (b : Bool) → is_busy c.frames.walk n ≡ b → b ≡ false
      by true is = (let clash : true ≡ false = sym (busy_now (busy_is c.frames.walk n is)) ∙ calm in cc)
      by false is = refl

  begins_grown : (n from : ℕ) → BeginsAsOld c.tables c.frames.walk.rows n from → BeginsAsOld t f.walk.rows n from
  begins_grown n from begins = record {
    old = λ rec kept.
        subst (λ (ns : List Task). AreNumbersOf ns (take from (row_at f.walk.rows n).needs) (called_in rec.deps)) (sym names)
        (subst (λ (r : Row). AreNumbersOf (c.tables.names ++ task ∷ []) (take from r.needs) (called_in rec.deps)) (sym (rows_same n))
        (numbers_stay c.tables.names task (take from (row_at c.frames.walk.rows n).needs) (called_in rec.deps) (begins.old rec (sym (kept_same n) ∙ kept))));
    new = λ none. ap (λ (r : Row). take from r.needs) (rows_same n) ∙ begins.new (sym (kept_same n) ∙ none);
  }

  hand_grown : (h : Option InHand) → HoldsAsOld c.tables c.frames.walk.rows h → HoldsAsOld t f.walk.rows h
  hand_grown None is = tt
  hand_grown (Some h) is = begins_grown h.no.0 h.from is

  known_grown : KnowsTouched u c.named c.plan.same.items t f.walk.marks
  known_grown = record {
    informed = e.are.known.informed;
    meaning = record {
      few = subst (λ (ns : List Task). length c.plan.same.items ≤ length ns) (sym names)
          (omega (arith, e.are.known.meaning.few, length_push c.tables.names task));
      means = λ n x flag at.
          e.are.known.meaning.means n x flag
          (named_back c.tables.names task x n (omega (arith, marked_inside c.plan.same.items n flag, e.are.known.meaning.few))
          (ap (λ (ns : List Task). slice_get ns n) (sym names) ∙ at));
    };
    searched = λ n rec kept un flag. e.are.known.searched n rec (sym (kept_same n) ∙ kept) (λ is. un (marks_same n ∙ is)) flag;
    parts = λ n rec kept un. e.are.known.parts n rec (sym (kept_same n) ∙ kept) (λ is. un (marks_same n ∙ is));
  }

  written_grown : AreWritten u t f.walk c.stage
  written_grown = record {
    there = λ n rec calm rested kept. e.are.written.there n rec (calm_before n calm) (sym (ran_same n) ∙ rested) (sym (kept_same n) ∙ kept);
    ran = λ n rec path is flag kept. e.are.written.ran n rec path (sym (marks_same n) ∙ is) (sym (ran_same n) ∙ flag) (sym (kept_same n) ∙ kept);
    fetched = λ n rec path bytes is rested kept full.
        e.are.written.fetched n rec path bytes (sym (marks_same n) ∙ is) (sym (ran_same n) ∙ rested) (sym (kept_same n) ∙ kept) full;
    idle = λ n rests un.
        let was = e.are.written.idle n (ap runs (sym (marks_same n)) ∙ rests) (λ is. un (marks_same n ∙ is)) in
        record { rested = ran_same n ∙ was.rested; unstaged = was.unstaged };
  }

  pub grown_exact : IsTried u task → IsTables c.tables → Stands f.walk → AreTasks t.names → length c.tables.names ≡ length c.frames.walk.rows
      → length c.frames.walk.rows < 50000 → f.parked ≡ c.frames.parked → IsExactCore u (record c { frames = f; tables = t })
  grown_exact tried tables v tasks sized few parked = record {
    tested = e.tested;
    counted = e.counted;
    tried = subst (AreTried u c.earlier) (sym names) (tried_more u c.earlier c.tables.names task e.tried tried);
    are = record {
      tables = subst (λ (ns : List Task). IsExact u ns t.records f.walk) (sym names)
          (subst (λ (rs : Records). IsExact u (c.tables.names ++ task ∷ []) rs f.walk) (sym records)
          (subst (λ (z : WalkState). IsExact u (c.tables.names ++ task ∷ []) c.tables.records z) (sym walk)
          (new_stays u c.tables.names c.tables.records c.frames.walk task e.are.tables w (subst Stands walk v) (subst AreTasks names tasks)
          (omega (arith, few, sized)) (none_after c.tables tables)).exact));
      known = known_grown;
      written = written_grown;
      unchanged = λ n rec calm rested kept.
          e.are.unchanged n rec (calm_before n calm) (sym (ran_same n) ∙ rested) (sym (kept_same n) ∙ kept);
    };
    parked = subst (All (WaitsAsOld t f.walk.rows)) (sym (ap (λ ps. ps.items) parked))
        (All-weaker (WaitsAsOld c.tables c.frames.walk.rows) (WaitsAsOld t f.walk.rows) (λ p is. begins_grown (number_of p) p.from is)
        c.frames.parked.items e.parked);
    hand = hand_grown c.hand e.hand;
  }

-- the row of a task in hand begins as it did
pub begins_still : (c : Core) (f : Frames) (t : Tables) (task : Task) → f.walk ≡ with_one_more c.frames.walk → t.names ≡ c.tables.names ++ task ∷ []
    → t.records ≡ c.tables.records → (n from : ℕ) → BeginsAsOld c.tables c.frames.walk.rows n from → BeginsAsOld t f.walk.rows n from
begins_still c f t task walk names records n from begins =
    let same : row_at f.walk.rows n ≡ row_at c.frames.walk.rows n = ap (λ (z : WalkState). row_at z.rows n) walk ∙ grown_rows c.frames.walk.rows n in
    record {
      old = λ rec kept.
          subst (λ (ns : List Task). AreNumbersOf ns (take from (row_at f.walk.rows n).needs) (called_in rec.deps)) (sym names)
          (subst (λ (r : Row). AreNumbersOf (c.tables.names ++ task ∷ []) (take from r.needs) (called_in rec.deps)) (sym same)
          (numbers_stay c.tables.names task (take from (row_at c.frames.walk.rows n).needs) (called_in rec.deps)
          (begins.old rec (sym (ap (λ (rs : Records). kept_of rs n) records) ∙ kept))));
      new = λ none. ap (λ (r : Row). take from r.needs) same ∙ begins.new (sym (ap (λ (rs : Records). kept_of rs n) records) ∙ none);
    }

-- ---- the task in hand waits

pub parked_exact : (u : Update) (c : Core) (f : Frames) (task : TaskNo) (p : Parked) → IsExactCore u c → Holds task c.frames → HasParked c.frames f task p
    → number_of p ≡ task.0 → p.callee.0 < length c.frames.walk.rows → p.from ≤ length (row_at c.frames.walk.rows task.0).needs
    → BeginsAsOld c.tables c.frames.walk.rows task.0 p.from → c.hand ≡ None → IsExactCore u (record c { frames = f })
parked_exact u c f task p e holds has number callee within begins free =
    let s = c.frames.walk in
    let w = holds.taken.stands in
    let row = row_at s.rows task.0 in
    let inside : task.0 < length s.rows = top_inside s (Waits task) holds.top w.holds in
    let rows = required_rows s f.walk f.walk.places task.0 p.callee has.walk in
    let here : row_at f.walk.rows task.0 ≡ requiring row p.callee.0 =
    ap (λ (rs : List Row). row_at rs task.0) rows ∙ get_or-set_same s.rows task.0 (requiring row p.callee.0) no_edges inside in
    let front : take p.from (row_at f.walk.rows task.0).needs ≡ take p.from row.needs =
    ap (λ (r : Row). take p.from r.needs) here ∙ take-append-le p.from row.needs (p.callee.0 ∷ []) within in
    let own : BeginsAsOld c.tables f.walk.rows task.0 p.from = record {
      old = λ rec kept. subst (λ (ns : List ℕ). AreNumbersOf c.tables.names ns (called_in rec.deps)) (sym front) (begins.old rec kept);
      new = λ none. front ∙ begins.new none;
    } in
    record {
      tested = e.tested;
      counted = e.counted;
      tried = e.tried;
      are = are_moved u c.named c.plan.same.items c.tables s f.walk c.stage e.are w has.rests.stands
          (subst (Moves s) (sym has.walk) (requires_move s f.walk.places task.0 p.callee w (ap runs (top_runs s task holds.top w.holds)) callee));
      parked = subst (All (WaitsAsOld c.tables f.walk.rows)) (sym has.parked)
          (All-push (WaitsAsOld c.tables f.walk.rows) c.frames.parked.items p
          (waits_apart c.tables c.tables c.frames task f.walk.rows holds refl (λ k d. refl)
          (λ k d. ap (λ (rs : List Row). row_at rs k) rows ∙ get_or-set_other s.rows task.0 k (requiring row p.callee.0) no_edges d) e.parked)
          (subst (λ (m : ℕ). BeginsAsOld c.tables f.walk.rows m p.from) (sym number) own));
      hand = subst (HoldsAsOld c.tables f.walk.rows) (sym free) tt;
    }

-- ---- a task that was taken begins to run

module _ (u : Update) (c : Core) (t : Tables) (task : TaskNo) (h : InHand) (taken : IsTakenExact u c task.0)
    (bare : kept_of c.tables.records task.0 ≡ None → (row_at c.frames.walk.rows task.0).needs ≡ []) (holds : Holds task c.frames)
    (names : t.names ≡ c.tables.names) (records : t.records ≡ c.tables.records) (ran : t.ran.items ≡ slice_set c.tables.ran.items task.0 true) where
  run : mark_of c.frames.walk.marks task.0 ≡ Runs
  run = top_runs c.frames.walk task holds.top holds.taken.stands.holds

  kept_as : (n : ℕ) → kept_of t.records n ≡ kept_of c.tables.records n
  kept_as n = ap (λ (rs : Records). kept_of rs n) records

  ran_other : (n : ℕ) → (n ≡ task.0 → ⊥) → slice_index_or t.ran.items n false ≡ slice_index_or c.tables.ran.items n false
  ran_other n d =
      ap (λ (flags : List Bool). slice_index_or flags n false) ran ∙ get_or-set_other c.tables.ran.items task.0 n true false d

  unsettled : (n : ℕ) → IsSettled c.frames.walk.marks n → n ≡ task.0 → ⊥
  unsettled n is e = let clash : Runs ≡ Settled = sym run ∙ sym (ap (mark_of c.frames.walk.marks) e) ∙ is in cc

  calm_other : (n : ℕ) → is_busy c.frames.walk n ≡ false → n ≡ task.0 → ⊥
  calm_other n calm e =
      let busy : is_busy c.frames.walk n ≡ true = runs_busy c.frames.walk n (ap (λ m. runs (mark_of c.frames.walk.marks m)) e ∙ ap runs run) in
      let clash : true ≡ false = sym busy ∙ calm in cc

  resting_other : (n : ℕ) → runs (mark_of c.frames.walk.marks n) ≡ false → n ≡ task.0 → ⊥
  resting_other n rests e =
      let clash : true ≡ false = sym (ap (λ m. runs (mark_of c.frames.walk.marks m)) e ∙ ap runs run) ∙ rests in cc

  begins_as : (n from : ℕ) → BeginsAsOld c.tables c.frames.walk.rows n from → BeginsAsOld t c.frames.walk.rows n from
  begins_as n from begins = record {
    old = λ rec kept.
        subst (λ (ns : List Task). AreNumbersOf ns (take from (row_at c.frames.walk.rows n).needs) (called_in rec.deps)) (sym names)
        (begins.old rec (sym (kept_as n) ∙ kept));
    new = λ none. begins.new (sym (kept_as n) ∙ none);
  }

  begins_whole : (from : ℕ) → from ≡ length (row_at c.frames.walk.rows task.0).needs → BeginsAsOld c.tables c.frames.walk.rows task.0 from
  begins_whole from e =
      let all : take from (row_at c.frames.walk.rows task.0).needs ≡ (row_at c.frames.walk.rows task.0).needs =
      take_all from (row_at c.frames.walk.rows task.0).needs (omega (arith, e)) in
      record {
        old = λ rec kept. subst (λ (ns : List ℕ). AreNumbersOf c.tables.names ns (called_in rec.deps)) (sym all) (taken.rests rec kept).row.0;
        new = λ none. all ∙ bare none;
      }

  written_started : AreWritten u t c.frames.walk c.stage
  written_started = record {
    there = λ n rec calm rested kept.
        taken.exact.are.written.there n rec calm (sym (ran_other n (calm_other n calm)) ∙ rested) (sym (kept_as n) ∙ kept);
    ran = λ n rec path is flag kept.
        taken.exact.are.written.ran n rec path is (sym (ran_other n (unsettled n is)) ∙ flag) (sym (kept_as n) ∙ kept);
    fetched = λ n rec path bytes is rested kept full.
        taken.exact.are.written.fetched n rec path bytes is (sym (ran_other n (unsettled n is)) ∙ rested) (sym (kept_as n) ∙ kept) full;
    idle = λ n rests un.
        let was = taken.exact.are.written.idle n rests un in
        record { rested = ran_other n (resting_other n rests) ∙ was.rested; unstaged = was.unstaged };
  }

  known_started : KnowsTouched u c.named c.plan.same.items t c.frames.walk.marks
  known_started =
      let known = taken.exact.are.known in
      record {
        informed = known.informed;
        meaning = record {
          few = subst (λ (ns : List Task). length c.plan.same.items ≤ length ns) (sym names) known.meaning.few;
          means = λ n x flag at. known.meaning.means n x flag (ap (λ (ns : List Task). slice_get ns n) (sym names) ∙ at);
        };
        searched = λ n rec kept un flag. known.searched n rec (sym (kept_as n) ∙ kept) un flag;
        parts = λ n rec kept un. known.parts n rec (sym (kept_as n) ∙ kept) un;
      }

  pub started_exact : h.no ≡ task → h.from ≡ length (row_at c.frames.walk.rows task.0).needs → IsExactCore u (record c { tables = t; hand = Some h })
  started_exact number from = record {
    tested = taken.exact.tested;
    counted = taken.exact.counted;
    tried = subst (AreTried u c.earlier) (sym names) taken.exact.tried;
    are = record {
      tables = subst (λ (ns : List Task). IsExact u ns t.records c.frames.walk) (sym names)
          (subst (λ (rs : Records). IsExact u c.tables.names rs c.frames.walk) (sym records) taken.exact.are.tables);
      known = known_started;
      written = written_started;
      unchanged = λ n rec calm rested kept.
          taken.exact.are.unchanged n rec calm (sym (ran_other n (calm_other n calm)) ∙ rested) (sym (kept_as n) ∙ kept);
    };
    parked = All-weaker (WaitsAsOld c.tables c.frames.walk.rows) (WaitsAsOld t c.frames.walk.rows) (λ p is. begins_as (number_of p) p.from is)
        c.frames.parked.items taken.exact.parked;
    hand = subst (λ (m : TaskNo). BeginsAsOld t c.frames.walk.rows m.0 h.from) (sym number) (begins_as task.0 h.from (begins_whole h.from from));
  }
