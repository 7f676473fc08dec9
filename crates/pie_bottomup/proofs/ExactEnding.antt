-- A build stays exact where a task that was taken is settled.
use Rattle.std.proofs.Common.{◌≡◌, ◌⊎◌, ℕ, ◌<◌, ◌≤◌, get_or, Bool, true, false, List, None, Some, length, refl, sym, ap, ◌∙◌, subst, inl, inr}
use Rattle.std.specs.Prelude.{slice_get, slice_index_or, take, drop}
use Rattle.std.specs.List.{All}
use Rattle.std.proofs.lemmas.List.{get_or-set_same, get_or-set_other}
use Rattle.pie_value.specs.declared.task.Task.{Task}
use Rattle.pie_graph.specs.declared.edges.TaskNo.{TaskNo}
use Rattle.pie_graph.specs.Numbers.{IsMarked}
use Rattle.pie_graph.specs.Rows.{Row, row_at, no_edges}
use Rattle.pie_record.specs.declared.task_record.TaskRecord.{TaskRecord}
use Rattle.pie_record.specs.inner.Records.{record_of as kept_of}
use Rattle.pie_tables.specs.declared.tables.Tables.{Tables}
use Rattle.pie_named.specs.declared.named.Named.{Named}
use Rattle.pie_types.specs.Whole.{number_from}
use Rattle.pie_view.specs.Content.{Staged, content}
use Rattle.pie_compare.specs.inner.Standing.{RecordStands}
use Rattle.pie_walk.specs.declared.marks.Mark.{Mark}
use Rattle.pie_walk.specs.declared.marks.Mark.TheVariants.{New, Runs, Settled}
use Rattle.pie_walk.specs.Marks.{mark_of, IsSettled}
use Rattle.pie_walk.specs.States.{WalkState, settled}
use Rattle.pie_walk.specs.Standing.{Stands}
use Rattle.pie_walk.proofs.StateSteps.{top_runs, top_ready}
use Rattle.pie_frames.specs.declared.frames.Frames.{Frames}
use Rattle.pie_frames.specs.inner.Standing.{Rests, Holds, number_of}
use Rattle.pie_frames.proofs.Tying.{up_in, in_hand_alone}
use Rattle.pie_frames.proofs.Rest.{in_rest}
use Rattle.pie_model_pipeline.specs.World.{world}
use Rattle.pie_model_pipeline.specs.Rows.{outcome_of, record_of as model_record}
use Rattle.pie_model.specs.inner.Steps.{SameShape}
use Rattle.pie_builder_laws.specs.Names.{called_in}
use Rattle.pie_builder_laws.specs.Views.{AreNumbersOf, RowIs}
use Rattle.pie_earlier_laws.specs.Left.{AreThere}
use Rattle.pie_compare_laws.proofs.Ways.{one_some}
use Rattle.pie_core_laws.specs.Update.{Update}
use Rattle.pie_core_laws.specs.Exact.{runs, is_busy, IsExact}
use Rattle.pie_core_laws.specs.Finishing.{Finishes, StaysExact, TellsCallers, TellsOthers}
use Rattle.pie_core_laws.specs.Seeing.{written_now}
use Rattle.pie_core_laws.proofs.Exactly.{busy_is, scheduled_busy, runs_busy, runs_inside, same_or_not}
use Rattle.pie_core_laws.proofs.Finished.{finish_stays}
use Rattle.pie_core_laws.proofs.Joined.{one_shape}
use Rattle.pie_core_laws.proofs.Kept.{kept_stays}
use Rattle.pie_bottomup.specs.declared.state.Core.{Core}
use Rattle.pie_bottomup.specs.inner.Finished.{HasFinished, HasSameEdges, end_row}
use Rattle.pie_bottomup.specs.inner.Finished as told
use Rattle.pie_bottomup.specs.inner.Causes.{AreTried}
use Rattle.pie_bottomup.specs.inner.Exact.{IsPlanNow, KnowsTouched, AreWritten, IsUnchanged, AreUnchanged, BeginsAsOld, WaitsAsOld, HoldsAsOld, AreExact}
use Rattle.pie_bottomup.specs.inner.Exact.{IsExactCore, IsTakenExact, EndedRight}
use Rattle.pie_bottomup.proofs.Exactly.{nothing_staged, marked_apart}
use Rattle.pie_bottomup.proofs.Settling.{put_at, put_other}

-- ---- one task is settled

-- it is settled, no other is, and no less is scheduled
pub record SettlesOne (s after : WalkState) (n : ℕ) : Type 0 where
  pub marked : IsSettled after.marks n
  pub others : (k : ℕ) → (k ≡ n → ⊥) → mark_of after.marks k ≡ mark_of s.marks k
  pub flags : (k : ℕ) → IsMarked s.scheduled k → IsMarked after.scheduled k

-- it wrote what it has to
record HasWritten (u : Update) (t : Tables) (staged : Staged) (n : ℕ) (rec : TaskRecord) : Type 0 where
  there : slice_index_or t.ran.items n false ≡ false → AreThere world u.directory rec.writes
  ran : (path : List ℕ) → IsMarked t.ran.items n → content staged n path ≡ written_now u rec.task path
  unstaged : (path : List ℕ) → slice_index_or t.ran.items n false ≡ false → content staged n path ≡ None

module _ (s after : WalkState) (n : ℕ) (one : SettlesOne s after n) where
  -- another one is
  not_it : (k : ℕ) → (IsSettled after.marks k → ⊥) → k ≡ n → ⊥
  not_it k un e = un (subst (IsSettled after.marks) (sym e) one.marked)

  stays_settled : (k : ℕ) → IsSettled s.marks k → IsSettled after.marks k
  stays_settled k is = by (same_or_not n k)
    where
      by : (k ≡ n) ⊎ (k ≡ n → ⊥) → IsSettled after.marks k
      by (inl e) = subst (IsSettled after.marks) (sym e) one.marked
      by (inr d) = one.others k d ∙ is

  -- who isn't busy now wasn't before
  calm_before : (k : ℕ) → (k ≡ n → ⊥) → is_busy after k ≡ false → is_busy s k ≡ false
  calm_before k d calm = by (is_busy s k) refl
    where
      busy_now : IsMarked s.scheduled k ⊎ (runs (mark_of s.marks k) ≡ true) → is_busy after k ≡ true
      busy_now (inl flag) = scheduled_busy after k (one.flags k flag)
      busy_now (inr run) = runs_busy after k (ap runs (one.others k d) ∙ run)

      by : (b : Bool) → is_busy s k ≡ b → b ≡ false
      by true e = (let clash : true ≡ false = sym (busy_now (busy_is s k e)) ∙ calm in cc)
      by false e = refl

  written_one : (u : Update) (t new : Tables) (staged : Staged) → new.ran.items ≡ t.ran.items
      → ((k : ℕ) → (k ≡ n → ⊥) → kept_of new.records k ≡ kept_of t.records k)
      → ((rec : TaskRecord) → kept_of new.records n ≡ Some rec → HasWritten u new staged n rec) → AreWritten u t s staged → AreWritten u new after staged
  written_one u t new staged ran records has w = record {
    there = λ k rec calm rested kept. there k rec calm rested kept (same_or_not n k);
    ran = λ k rec path is flag kept. written k rec path is flag kept (same_or_not n k);
    fetched = λ k rec path bytes is rested kept full. fetched k rec path bytes is rested kept full (same_or_not n k);
    idle = λ k rests un.
        let d = not_it k un in
        let was = w.idle k (ap runs (sym (one.others k d)) ∙ rests) (λ is. un (stays_settled k is)) in
        record { rested = ap (λ (flags : List Bool). slice_index_or flags k false) ran ∙ was.rested; unstaged = was.unstaged };
  }
    where
      there : (k : ℕ) (rec : TaskRecord) → is_busy after k ≡ false → slice_index_or new.ran.items k false ≡ false → kept_of new.records k ≡ Some rec
          → (k ≡ n) ⊎ (k ≡ n → ⊥) → AreThere world u.directory rec.writes
      there k rec calm rested kept (inl e) =
          (has rec (subst (λ (m : ℕ). kept_of new.records m ≡ Some rec) e kept)).there
          (subst (λ (m : ℕ). slice_index_or new.ran.items m false ≡ false) e rested)
      there k rec calm rested kept (inr d) =
          w.there k rec (calm_before k d calm) (ap (λ (flags : List Bool). slice_index_or flags k false) (sym ran) ∙ rested) (sym (records k d) ∙ kept)

      fetched : (k : ℕ) (rec : TaskRecord) (path bytes : List ℕ) → IsSettled after.marks k → slice_index_or new.ran.items k false ≡ false
          → kept_of new.records k ≡ Some rec → content staged k path ≡ Some bytes → (k ≡ n) ⊎ (k ≡ n → ⊥) → written_now u rec.task path ≡ Some bytes
      fetched k rec path bytes is rested kept full (inl e) =
          absurd (nothing_staged (content staged n path) bytes
          ((has rec (subst (λ (m : ℕ). kept_of new.records m ≡ Some rec) e kept)).unstaged path
          (subst (λ (m : ℕ). slice_index_or new.ran.items m false ≡ false) e rested)) (subst (λ (m : ℕ). content staged m path ≡ Some bytes) e full))
      fetched k rec path bytes is rested kept full (inr d) =
          w.fetched k rec path bytes (sym (one.others k d) ∙ is) (ap (λ (flags : List Bool). slice_index_or flags k false) (sym ran) ∙ rested)
          (sym (records k d) ∙ kept) full

      written : (k : ℕ) (rec : TaskRecord) (path : List ℕ) → IsSettled after.marks k → IsMarked new.ran.items k → kept_of new.records k ≡ Some rec
          → (k ≡ n) ⊎ (k ≡ n → ⊥) → content staged k path ≡ written_now u rec.task path
      written k rec path is flag kept (inl e) =
          subst (λ (m : ℕ). content staged m path ≡ written_now u rec.task path) (sym e)
          ((has rec (subst (λ (m : ℕ). kept_of new.records m ≡ Some rec) e kept)).ran path (subst (IsMarked new.ran.items) e flag))
      written k rec path is flag kept (inr d) =
          w.ran k rec path (sym (one.others k d) ∙ is) (ap (λ (flags : List Bool). slice_index_or flags k false) (sym ran) ∙ flag)
          (sym (records k d) ∙ kept)

  unchanged_one : (u : Update) (same : List Bool) (t new : Tables) → new.ran.items ≡ t.ran.items
      → ((k : ℕ) → (k ≡ n → ⊥) → kept_of new.records k ≡ kept_of t.records k)
      → ((rec : TaskRecord) → kept_of new.records n ≡ Some rec → slice_index_or new.ran.items n false ≡ false
      → IsUnchanged u same n rec ⊎ (number_from 0 u.functions rec.task ≡ None)) → AreUnchanged u same t s → AreUnchanged u same new after
  unchanged_one u same t new ran records has are k rec calm rested kept = by (same_or_not n k)
    where
      by : (k ≡ n) ⊎ (k ≡ n → ⊥) → IsUnchanged u same k rec ⊎ (number_from 0 u.functions rec.task ≡ None)
      by (inl e) =
          subst (λ (m : ℕ). IsUnchanged u same m rec ⊎ (number_from 0 u.functions rec.task ≡ None)) (sym e)
          (has rec (subst (λ (m : ℕ). kept_of new.records m ≡ Some rec) e kept)
          (subst (λ (m : ℕ). slice_index_or new.ran.items m false ≡ false) e rested))
      by (inr d) =
          are k rec (calm_before k d calm) (ap (λ (flags : List Bool). slice_index_or flags k false) (sym ran) ∙ rested) (sym (records k d) ∙ kept)

  known_one : (u : Update) (named : Named) (same : List Bool) (t new : Tables) → new.names ≡ t.names
      → ((k : ℕ) → (k ≡ n → ⊥) → kept_of new.records k ≡ kept_of t.records k) → KnowsTouched u named same t s.marks
      → KnowsTouched u named same new after.marks
  known_one u named same t new names records known = record {
    informed = known.informed;
    meaning = record {
      few = subst (λ (ns : List Task). length same ≤ length ns) (sym names) known.meaning.few;
      means = λ k x flag at. known.meaning.means k x flag (ap (λ (ns : List Task). slice_get ns k) (sym names) ∙ at);
    };
    searched = λ k rec kept un flag. known.searched k rec (sym (records k (not_it k un)) ∙ kept) (λ is. un (stays_settled k is)) flag;
    parts = λ k rec kept un. known.parts k rec (sym (records k (not_it k un)) ∙ kept) (λ is. un (stays_settled k is));
  }

-- ---- those that wait beside it

-- what the row of another task begins with stays
begins_apart : (t new : Tables) (old rows : List Row) (n from : ℕ) → new.names ≡ t.names → kept_of new.records n ≡ kept_of t.records n
    → row_at rows n ≡ row_at old n → BeginsAsOld t old n from → BeginsAsOld new rows n from
begins_apart t new old rows n from names records row begins = record {
  old = λ rec kept.
      subst (λ (ns : List Task). AreNumbersOf ns (take from (row_at rows n).needs) (called_in rec.deps)) (sym names)
      (subst (λ (r : Row). AreNumbersOf t.names (take from r.needs) (called_in rec.deps)) (sym row) (begins.old rec (sym records ∙ kept)));
  new = λ none. ap (λ (r : Row). take from r.needs) row ∙ begins.new (sym records ∙ none);
}

pub waits_apart : (t new : Tables) (f : Frames) (task : TaskNo) (rows : List Row) → Holds task f → new.names ≡ t.names
    → ((k : ℕ) → (k ≡ task.0 → ⊥) → kept_of new.records k ≡ kept_of t.records k) → ((k : ℕ) → (k ≡ task.0 → ⊥) → row_at rows k ≡ row_at f.walk.rows k)
    → All (WaitsAsOld t f.walk.rows) f.parked.items → All (WaitsAsOld new rows) f.parked.items
waits_apart t new f task rows holds names records same all = λ i d l.
    let p = get_or f.parked.items i d in
    let apart = in_hand_alone f.walk task f.parked.items holds.top holds.taken (number_of p) (up_in f.parked.items i d l) in
    begins_apart t new f.walk.rows rows (number_of p) p.from names (records (number_of p) apart) (same (number_of p) apart) (all i d l)

-- ---- it is kept

settles_kept : (s : WalkState) (n : ℕ) → n < length s.marks → SettlesOne s (settled s n) n
settles_kept s n l = record {
  marked = get_or-set_same s.marks n Settled New l;
  others = λ k d. get_or-set_other s.marks n k Settled New d;
  flags = λ k flag. flag;
}

running_unsettled : (marks : List Mark) (n : ℕ) → mark_of marks n ≡ Runs → IsSettled marks n → ⊥
running_unsettled marks n runs is = let clash : Runs ≡ Settled = sym runs ∙ is in cc

-- it was settled in the model if it is in the walk
pub kept_stay : (u : Update) (c : Core) (f : Frames) (task : TaskNo) → IsPlanNow u c.plan → IsTakenExact u c task.0 → Holds task c.frames
    → IsMarked c.plan.same.items task.0 → (stands : RecordStands c.tables c.frames.walk.rows c.named task.0) → f.walk ≡ settled c.frames.walk task.0 → Rests f
    → StaysExact u c.tables.names c.tables.records c.frames.walk c.tables.names c.tables.records (settled c.frames.walk task.0)
    × AreThere world u.directory stands.0.writes
kept_stay u c f task plan taken holds flag stands same rests =
    let s = c.frames.walk in
    let e = taken.exact in
    let w = holds.taken.stands in
    let on = taken.rests stands.0 stands.1 in
    let run = top_runs s task holds.top w.holds in
    kept_stays u c.tables s c.named task.0 stands.0 plan.update e.are.known.informed e.are.tables w (subst Stands same rests.stands) (record {
      ran = ap runs run;
      rests = on;
      meaning = e.are.known.meaning.means task.0 stands.0.task flag on.named;
      searched = e.are.known.searched task.0 stands.0 stands.1 (running_unsettled s.marks task.0 run) flag;
    }) stands

pub kept_exact : (u : Update) (c : Core) (f : Frames) (task : TaskNo) → IsPlanNow u c.plan → IsTakenExact u c task.0 → Holds task c.frames
    → IsMarked c.plan.same.items task.0 → RecordStands c.tables c.frames.walk.rows c.named task.0 → f.walk ≡ settled c.frames.walk task.0
    → f.parked ≡ c.frames.parked → Rests f → IsExactCore u (record c { frames = f })
kept_exact u c f task plan taken holds flag stands same parked rests =
    let s = c.frames.walk in
    let t = c.tables in
    let e = taken.exact in
    let w = holds.taken.stands in
    let run = top_runs s task holds.top w.holds in
    let stays = kept_stay u c f task plan taken holds flag stands same rests in
    let one = settles_kept s task.0 (runs_inside s.marks task.0 (ap runs run)) in
    let rows : f.walk.rows ≡ s.rows = ap (λ (z : WalkState). z.rows) same in
    record {
      tested = e.tested;
      counted = e.counted;
      tried = e.tried;
      are = subst (λ (z : WalkState). AreExact u c.named c.plan.same.items t z c.stage) (sym same) (record {
        tables = stays.0.exact;
        known = known_one s (settled s task.0) task.0 one u c.named c.plan.same.items t t refl (λ k d. refl) e.are.known;
        written = written_one s (settled s task.0) task.0 one u t t c.stage refl (λ k d. refl) (λ rec kept. record {
          there = λ rested. subst (λ (z : TaskRecord). AreThere world u.directory z.writes) (one_some stands.0 rec (sym stands.1 ∙ kept)) stays.1;
          ran = λ path is. absurd (marked_apart (slice_index_or t.ran.items task.0 false) is taken.unstarted.rested);
          unstaged = λ path rested. taken.unstarted.unstaged path;
        }) e.are.written;
        unchanged = unchanged_one s (settled s task.0) task.0 one u c.plan.same.items t t refl (λ k d. refl) (λ rec kept rested. inl (record {
          code = flag;
          old = e.are.tables.old task.0 rec kept (running_unsettled s.marks task.0 run);
        })) e.are.unchanged;
      });
      parked = subst (All (WaitsAsOld t f.walk.rows)) (sym (ap (λ ps. ps.items) parked))
          (subst (λ (rs : List Row). All (WaitsAsOld t rs) c.frames.parked.items) (sym rows) e.parked);
      hand = subst (λ (rs : List Row). HoldsAsOld t rs c.hand) (sym rows) e.hand;
    }

-- ---- it ends

settles_ended : (s after : WalkState) (n from : ℕ) (rec : TaskRecord) → n < length s.marks
    → after ≡ record (told.ended_walk s n from rec) { scheduled = after.scheduled; swept = after.swept }
    → ((k : ℕ) → IsMarked s.scheduled k → IsMarked after.scheduled k) → SettlesOne s after n
settles_ended s after n from rec l same kept = record {
  marked = ap (λ (z : WalkState). mark_of z.marks n) same ∙ get_or-set_same s.marks n Settled New l;
  others = λ k d. ap (λ (z : WalkState). mark_of z.marks k) same ∙ get_or-set_other s.marks n k Settled New d;
  flags = kept;
}

-- it has the shape of its old record where its row says so
edges_shape : (names : List Task) (row : Row) (from : ℕ) (was rec : TaskRecord) → AreNumbersOf names (take from row.needs) (called_in was.deps)
    → AreNumbersOf names (drop from row.needs) (called_in rec.deps) → HasSameEdges row from was rec → SameShape (model_record was) (model_record rec)
edges_shape names row from was rec before after same =
    one_shape names (take from row.needs) was rec before
    (subst (λ (ns : List ℕ). AreNumbersOf names ns (called_in rec.deps)) (sym same.needs) after) same.writes

module _ (u : Update) (c : Core) (f : Frames) (t : Tables) (task : TaskNo) (from : ℕ) (rec : TaskRecord) (plan : IsPlanNow u c.plan) (e : IsExactCore u c)
    (holds : Holds task c.frames) (rests : Rests f) (names : t.names ≡ c.tables.names) (ran : t.ran.items ≡ c.tables.ran.items)
    (parked : f.parked ≡ c.frames.parked) (free : c.hand ≡ None) (has : HasFinished c (record c { frames = f; tables = t }) task.0 from rec)
    (named : slice_get c.tables.names task.0 ≡ Some rec.task) (begins : BeginsAsOld c.tables c.frames.walk.rows task.0 from)
    (row : RowIs c.tables.names (end_row c.frames.walk task.0 from rec) (Some rec)) where
  run : mark_of c.frames.walk.marks task.0 ≡ Runs
  run = top_runs c.frames.walk task holds.top holds.taken.stands.holds

  pub one : SettlesOne c.frames.walk f.walk task.0
  one = settles_ended c.frames.walk f.walk task.0 from rec (runs_inside c.frames.walk.marks task.0 (ap runs run)) has.same has.kept

  put_here : kept_of t.records task.0 ≡ Some rec
  put_here = put_at c.tables.records t.records task.0 rec has.puts

  pub put_there : (k : ℕ) → (k ≡ task.0 → ⊥) → kept_of t.records k ≡ kept_of c.tables.records k
  put_there = put_other c.tables.records t.records task.0 rec has.puts

  callers : (was : TaskRecord) → told.TellsCallers f.walk task.0 was rec → TellsCallers f.walk task.0 was rec
  callers was (inl same) = inl (ap outcome_of same)
  callers was (inr each) = inr each

  others : (was : TaskRecord) → kept_of c.tables.records task.0 ≡ Some was
      → told.TellsOthers f.walk task.0 (row_at c.frames.walk.rows task.0) from was rec → TellsOthers f.walk task.0 was rec
  others was kept (inl same) = inl (edges_shape c.tables.names (row_at c.frames.walk.rows task.0) from was rec (begins.old was kept) row.0 same)
  others was kept (inr swept) = inr swept

  pub finishes : Finishes c.tables.records c.frames.walk f.walk task.0 (end_row c.frames.walk task.0 from rec) rec
  finishes = record {
    ran = ap runs run;
    same = has.same;
    kept = has.kept;
    only = has.only;
    callers = λ was kept. callers was (has.callers was kept);
    others = λ was kept. others was kept (has.others was kept);
  }

  rows_apart : (k : ℕ) → (k ≡ task.0 → ⊥) → row_at f.walk.rows k ≡ row_at c.frames.walk.rows k
  rows_apart k d =
      ap (λ (z : WalkState). row_at z.rows k) has.same
      ∙ get_or-set_other c.frames.walk.rows task.0 k (end_row c.frames.walk task.0 from rec) no_edges d

  pub ended_stays : EndedRight u (record c { frames = f; tables = t }) task.0 rec
      → StaysExact u c.tables.names c.tables.records c.frames.walk c.tables.names t.records f.walk
  ended_stays right =
      finish_stays u c.tables.names c.tables.records t.records c.frames.walk f.walk task.0 (end_row c.frames.walk task.0 from rec) rec plan.update
      e.are.tables holds.taken.stands rests.stands has.puts named right.right row
      (λ k h. top_ready c.frames.walk task holds.top holds.taken.stands.holds k (in_rest from (row_at c.frames.walk.rows task.0).needs k h)) finishes

  tables_after : EndedRight u (record c { frames = f; tables = t }) task.0 rec → IsExact u t.names t.records f.walk
  tables_after right =
      subst (λ (ns : List Task). IsExact u ns t.records f.walk) (sym names) (ended_stays right).exact

  pub ended_exact : EndedRight u (record c { frames = f; tables = t }) task.0 rec → IsExactCore u (record c { frames = f; tables = t })
  ended_exact right = record {
    tested = e.tested;
    counted = e.counted;
    tried = subst (AreTried u c.earlier) (sym names) e.tried;
    are = record {
      tables = tables_after right;
      known = known_one c.frames.walk f.walk task.0 one u c.named c.plan.same.items c.tables t names put_there e.are.known;
      written = written_one c.frames.walk f.walk task.0 one u c.tables t c.stage ran put_there (λ q kept.
          let same : rec ≡ q = one_some rec q (sym put_here ∙ kept) in
          record {
            there = λ rested. subst (λ (z : TaskRecord). AreThere world u.directory z.writes) same (right.rested rested).0;
            ran = λ path is. right.ran path is ∙ ap (λ (z : TaskRecord). written_now u z.task path) same;
            unstaged = λ path rested. (right.rested rested).1.unstaged path;
          }) e.are.written;
      unchanged = unchanged_one c.frames.walk f.walk task.0 one u c.plan.same.items c.tables t ran put_there (λ q kept rested.
          inr (ap (λ (z : TaskRecord). number_from 0 u.functions z.task) (sym (one_some rec q (sym put_here ∙ kept))) ∙ right.lost rested)) e.are.unchanged;
    };
    parked = subst (All (WaitsAsOld t f.walk.rows)) (sym (ap (λ ps. ps.items) parked))
        (waits_apart c.tables t c.frames task f.walk.rows holds names put_there rows_apart e.parked);
    hand = subst (HoldsAsOld t f.walk.rows) (sym free) tt;
  }

-- a build after three calls of which the first and the last change the walk alone
pub ends_same : (old a b new : Core) → a ≡ record old { frames = a.frames } → b ≡ record a { frames = b.frames; tables = b.tables }
    → new ≡ record b { frames = new.frames } → new.tables ≡ b.tables → new ≡ record old { frames = new.frames; tables = new.tables }
ends_same old a b new one two three tables =
    three ∙ ap (λ (z : Core). record z { frames = new.frames }) two ∙ ap (λ (z : Core). record z { frames = new.frames; tables = b.tables }) one
    ∙ ap (λ (t : Tables). record old { frames = new.frames; tables = t }) (sym tables)
