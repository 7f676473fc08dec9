-- Steps that change no record leave a build exact.
use Rattle.std.proofs.Common.{◌≡◌, ◌⊎◌, inl, inr, ℕ, ◌||◌, ◌<◌, Bool, true, false, Option, Some, None, List, [], ◌∷◌, map, length, refl, sym, ap, subst, ◌∙◌, arith}
use Rattle.std.specs.Prelude.{slice_set, slice_index_or, Contains}
use Rattle.std.proofs.lemmas.Bool.{cases_order}
use Rattle.std.proofs.lemmas.List.{length-set, get_or-set_same, get_or-set_other, get_or_past}
use Rattle.pie_value.specs.declared.task.Task.{Task}
use Rattle.pie_value.specs.Canonical.{enc_task}
use Rattle.pie_graph.specs.declared.edges.TaskNo.{TaskNo}
use Rattle.pie_graph.specs.Numbers.{IsMarked}
use Rattle.pie_graph.specs.Rows.{Row, row_at, Calls}
use Rattle.pie_record.specs.declared.records.Records.{Records}
use Rattle.pie_record.specs.declared.task_record.TaskRecord.{TaskRecord}
use Rattle.pie_record.specs.inner.Records.{record_of as kept_of}
use Rattle.pie_walk.specs.declared.marks.Mark.{Mark}
use Rattle.pie_walk.specs.declared.marks.Mark.TheVariants.{New, Visited, Runs, Settled}
use Rattle.pie_walk.specs.declared.stack.Entry.{Entry}
use Rattle.pie_walk.specs.declared.stack.Entry.TheVariants.{Visit, Waits}
use Rattle.pie_walk.specs.Marks.{mark_of, IsSettled}
use Rattle.pie_walk.specs.States.{WalkState, no_of, waiting}
use Rattle.pie_walk.specs.Standing.{Stands, mark_for}
use Rattle.pie_walk.specs.Turns.{Walks, IsTaken}
use Rattle.pie_walk.proofs.MarkSteps.{settled_stays}
use Rattle.pie_walk.proofs.EntrySteps.{marked_in}
use Rattle.pie_model.specs.Paths.{Path}
use Rattle.pie_model.specs.Evaluation.{World, Project}
use Rattle.pie_model.specs.Records.{Record}
use Rattle.pie_model.specs.StampNow.{Told}
use Rattle.pie_model.specs.inner.Consistent.{IsConsistent, IsSettled as IsSettledTask}
use Rattle.pie_model.specs.inner.RecordLaws.{Passes}
use Rattle.pie_model.proofs.Basics.{clash}
use Rattle.pie_check_laws.proofs.Members.{none_in, here, there, here_or_there}
use Rattle.pie_model_pipeline.specs.World.{world}
use Rattle.pie_builder_laws.specs.Names.{under_name, called_in}
use Rattle.pie_builder_laws.specs.Tables.{recorded}
use Rattle.pie_builder_laws.specs.Views.{RowIs}
use Rattle.pie_earlier_laws.specs.Telling.{GoLower}
use Rattle.pie_compare_laws.specs.Settled.{RestsOn}
use Rattle.pie_compare_laws.proofs.Ways.{number_of}
use Rattle.pie_core_laws.specs.Update.{Update, MetIn, earlier, present}
use Rattle.pie_core_laws.specs.Exact.{rank_by, runs, has_ended, is_busy, is_done, busy_by, RestsOnIn, IsExact}
use Rattle.pie_core_laws.specs.Finishing.{StaysExact}
use Rattle.pie_core_laws.specs.Moving.{GoesOn, IsTakenFrom, Moves}
use Rattle.pie_core_laws.proofs.Exactly as exactly
use Rattle.pie_core_laws.proofs.Exactly.Stage.{idle, going, done}

-- with other ranks, and where no more tasks are busy
pub consistent_still : (w : World) (old now : Project) (Met : List ℕ → Type 0) (R : List ℕ → Option Record) (told : List (List ℕ) → Path → Told)
    (held : List (List ℕ)) (rank new_rank : List ℕ → ℕ) (busy after : List ℕ → Type 0) → GoLower R new_rank → ((x : List ℕ) → busy x → after x)
    → IsConsistent w old now Met R told held rank busy → IsConsistent w old now Met R told held new_rank after
consistent_still w old now Met R told held rank new_rank busy after lower f c = record {
  few = c.few;
  counted = c.counted;
  closed = c.closed;
  lower = lower;
  plain = c.plain;
  met = c.met;
  telling = c.telling;
  current = λ t r e b. c.current t r e (λ i. b (f t i));
}

module _ (u : Update) (names : List Task) (records : Records) (s after : WalkState) (e : IsExact u names records s) (w : Stands s) (v : Stands after)
    (m : Moves s after) where
  same_busy : busy_by names after ≡ busy_by names s
  same_busy = let same : is_busy after ≡ is_busy s = λ i n. m.busy n i in ap (λ (f : ℕ → Bool). under_name false f 0 names) same

  inside : (n : ℕ) → IsSettled after.marks n → n < length names
  inside n h = subst (λ z. n < z) (v.holds.marks_sized ∙ m.as_many ∙ e.as_many) (exactly.settled_inside after.marks n h)

  ended_after : (n : ℕ) → IsSettled after.marks n → (rec : TaskRecord) × (kept_of records n ≡ Some rec)
  ended_after n h = by (m.ends n h)
    where
      from : is_busy s n ≡ false → (o : Option TaskRecord) → kept_of records n ≡ o → (rec : TaskRecord) × (kept_of records n ≡ Some rec)
      from b None i = clash (is_busy s n) (e.fresh n (inside n h) i) b
      from b (Some rec) i = (rec, i)

      by : IsSettled s.marks n ⊎ (is_busy s n ≡ false) → (rec : TaskRecord) × (kept_of records n ≡ Some rec)
      by (inl i) = e.ended n i
      by (inr b) = from b (kept_of records n) refl

  rows_after : (n : ℕ) (rec : TaskRecord) → kept_of records n ≡ Some rec → runs (mark_of after.marks n) ≡ false
      → RowIs names (row_at after.rows n) (Some rec)
  rows_after n rec k h =
      let q = m.resting n h in subst (λ (z : Row). RowIs names z (Some rec)) (sym q.1) (e.rows n rec k q.0)

  running_after : (n : ℕ) (rec : TaskRecord) (y : Task) → kept_of records n ≡ Some rec → runs (mark_of after.marks n) ≡ true
      → Contains (called_in rec.deps) y → RestsOnIn names after n y
  running_after n rec y k h i = by (m.going n h)
    where
      by : GoesOn s after n ⊎ IsTakenFrom s after n → RestsOnIn names after n y
      by (inl q) =
          let r = e.running n rec y k q.0 i in
          record { number = r.number; named = r.named; called = q.1 r.number r.called; settled = m.settled r.number r.settled }
      by (inr q) =
          let r = number_of names (row_at s.rows n).needs (called_in rec.deps) y (e.rows n rec k q.0).0 i in
          let c : Calls after.rows n r.number = subst (λ (z : Row). Contains z.needs r.number) (sym q.1) r.listed in
          record { number = r.number; named = r.named; called = c; settled = q.2 r.number c }

  exact_after : IsExact u names records after
  exact_after = record {
    tasks = e.tasks;
    as_many = m.as_many ∙ e.as_many;
    named = e.named;
    ended = ended_after;
    fresh = λ n l k. m.busy n ∙ e.fresh n l k;
    rows = rows_after;
    running = running_after;
    old = λ n rec k h. e.old n rec k (λ i. h (m.settled n i));
    looks = λ n rec k h i. e.looks n rec k (λ j. h (m.settled n j)) (ap (λ xs. slice_index_or xs n false) (sym m.looks) ∙ i);
    consistent = λ told tells.
        consistent_still world (earlier u) (present u) (MetIn u) (recorded names records) told (map enc_task names) (rank_by names s.places)
        (rank_by names after.places) (Passes (busy_by names s)) (Passes (busy_by names after))
        (exactly.lower_by names records after e.tasks rows_after running_after v.holds.agrees)
        (λ x i. subst (λ (f : List ℕ → Bool). f x ≡ true) (sym same_busy) i) (e.consistent told tells);
  }

pub moves_stay : (u : Update) (names : List Task) (records : Records) (s after : WalkState) → IsExact u names records s → Stands s → Stands after
    → Moves s after → StaysExact u names records s names records after
moves_stay u names records s after e w v m = record {
  exact = exact_after u names records s after e w v m;
  settles = λ x i.
      subst (λ (f : List ℕ → Bool). IsSettledTask (recorded names records) (Passes f) x) (sym (same_busy u names records s after e w v m)) i;
}

-- ---- running tasks are those that wait on the stack

waits_mark : (x : Entry) → mark_for x ≡ Runs → (t : TaskNo) × (x ≡ Waits t)
waits_mark (Visit t i) h = cc
waits_mark (Waits t) h = (t, refl)

in_waiting : (es : List Entry) (t : TaskNo) → Contains es (Waits t) → Contains (waiting es) t.0
in_waiting [] t h = absurd (none_in (Waits t) h)
in_waiting (Visit x i ∷ es) t h = by (here_or_there (Visit x i) (Waits t) es h) (in_waiting es t)
  where
    by : (Visit x i ≡ Waits t) ⊎ Contains es (Waits t) → (Contains es (Waits t) → Contains (waiting es) t.0) → Contains (waiting es) t.0
    by (inl e) f = cc
    by (inr k) f = f k
in_waiting (Waits x ∷ es) t h = by (here_or_there (Waits x) (Waits t) es h) (in_waiting es t)
  where
    same : Waits x ≡ Waits t → x.0 ≡ t.0
    same e = cc

    by : (Waits x ≡ Waits t) ⊎ Contains es (Waits t) → (Contains es (Waits t) → Contains (waiting es) t.0) → Contains (x.0 ∷ waiting es) t.0
    by (inl e) f = subst (λ z. Contains (x.0 ∷ waiting es) z) (same e) (here x.0 (waiting es))
    by (inr k) f = there x.0 t.0 (waiting es) (f k)

-- an entry of a task that waits
record IsWaiting (es : List Entry) (n : ℕ) : Type 0 where
  task : TaskNo
  is : task.0 ≡ n
  listed : Contains es (Waits task)

from_waiting : (es : List Entry) (n : ℕ) → Contains (waiting es) n → IsWaiting es n
from_waiting [] n h = absurd (none_in n h)
from_waiting (Visit x i ∷ es) n h =
    let m = from_waiting es n h in record { task = m.task; is = m.is; listed = there (Visit x i) (Waits m.task) es m.listed }
from_waiting (Waits x ∷ es) n h = by (here_or_there x.0 n (waiting es) h) (from_waiting es n)
  where
    by : (x.0 ≡ n) ⊎ Contains (waiting es) n → (Contains (waiting es) n → IsWaiting es n) → IsWaiting (Waits x ∷ es) n
    by (inl e) f = record { task = x; is = e; listed = here (Waits x) es }
    by (inr k) f = let m = f k in record { task = m.task; is = m.is; listed = there (Waits x) (Waits m.task) es m.listed }

runs_mark : (m : Mark) → runs m ≡ true → m ≡ Runs
runs_mark New h = cc
runs_mark Visited h = cc
runs_mark Runs h = refl
runs_mark Settled h = cc

pub runs_waits : (s : WalkState) → Stands s → (n : ℕ) → runs (mark_of s.marks n) ≡ true → Contains (waiting s.stack) n
runs_waits s w n h =
    let is : mark_of s.marks n ≡ Runs = runs_mark (mark_of s.marks n) h in
    let g = w.holds.stands n (λ i. not_new (sym i ∙ is)) (λ i. not_settled (sym i ∙ is)) in
    let k = marked_in s.rows s.marks None s.stack g.0 w.holds.entries g.1 in
    let x = waits_mark g.0 (sym k ∙ ap (mark_of s.marks) g.2 ∙ is) in
    subst (Contains (waiting s.stack)) (sym (ap no_of x.1) ∙ g.2) (in_waiting s.stack x.0 (subst (Contains s.stack) x.1 g.1))
  where
    not_new : New ≡ Runs → ⊥
    not_new i = cc

    not_settled : Settled ≡ Runs → ⊥
    not_settled i = cc

pub waits_runs : (s : WalkState) → Stands s → (n : ℕ) → Contains (waiting s.stack) n → runs (mark_of s.marks n) ≡ true
waits_runs s w n h =
    let g = from_waiting s.stack n h in
    let k = marked_in s.rows s.marks None s.stack (Waits g.task) w.holds.entries g.listed in
    ap (λ z. runs (mark_of s.marks z)) (sym g.is) ∙ ap runs k

same_bool : (a b : Bool) → (a ≡ true → b ≡ true) → (b ≡ true → a ≡ true) → a ≡ b
same_bool true true f g = refl
same_bool true false f g = sym (f refl)
same_bool false true f g = g refl
same_bool false false f g = refl

-- a flag that is set where another was put down was set before
flag_before : (flags : List Bool) (k n : ℕ) → IsMarked (slice_set flags k false) n → IsMarked flags n
flag_before flags k n h = by (exactly.same_or_not k n)
  where
    none : false ≡ true → ⊥
    none e = cc

    within : (i : ℕ) → slice_index_or (slice_set flags k false) i false ≡ true → i ≡ k → (i ≡ length flags) ⊎ ((i < length flags) ⊎ (length flags < i))
        → IsMarked flags i
    within i q e (inr (inl l)) =
        absurd (none (sym (subst (λ z. slice_index_or (slice_set flags z false) i false ≡ false) e (get_or-set_same flags i false false l)) ∙ q))
    within i q e (inr (inr l)) = let p = length-set flags k false in absurd (none (sym (get_or_past (slice_set flags k false) i false (omega arith)) ∙ q))
    within i q e (inl l) = let p = length-set flags k false in absurd (none (sym (get_or_past (slice_set flags k false) i false (omega arith)) ∙ q))

    by : (n ≡ k) ⊎ (n ≡ k → ⊥) → IsMarked flags n
    by (inl e) = within n h e (cases_order n (length flags))
    by (inr d) = sym (get_or-set_other flags k n false false d) ∙ h

-- a settled task isn't busy
not_busy : (s : WalkState) → Stands s → (n : ℕ) → IsSettled s.marks n → is_busy s n ≡ false
not_busy s w n h = by (is_busy s n) refl
  where
    by : (b : Bool) → is_busy s n ≡ b → b ≡ false
    by true i = absurd (exactly.settled_not_busy s w n h i)
    by false i = refl

-- ---- the walk goes on

module _ (s after : WalkState) (w : Stands s) (v : Stands after) (m : Walks s after) where
  same_waiting : waiting after.stack ≡ waiting s.stack
  same_waiting = m.counts.waits

  rows_same : after.rows ≡ s.rows
  rows_same = ap (λ (z : WalkState). z.rows) m.same

  runs_same : (n : ℕ) → runs (mark_of after.marks n) ≡ runs (mark_of s.marks n)
  runs_same n =
      same_bool (runs (mark_of after.marks n)) (runs (mark_of s.marks n))
      (λ h. waits_runs s w n (subst (λ xs. Contains xs n) same_waiting (runs_waits after v n h)))
      (λ h. waits_runs after v n (subst (λ xs. Contains xs n) (sym same_waiting) (runs_waits s w n h)))

  busy_same : (n : ℕ) → is_busy after n ≡ is_busy s n
  busy_same n =
      ap (λ (xs : List Bool). slice_index_or xs n false || runs (mark_of after.marks n)) (ap (λ (z : WalkState). z.scheduled) m.same)
      ∙ ap (λ b. slice_index_or s.scheduled n false || b) (runs_same n)

  pub walks_move : Moves s after
  walks_move = record {
    as_many = ap length rows_same;
    looks = ap (λ (z : WalkState). z.looks_out) m.same;
    busy = busy_same;
    resting = λ n h. (sym (runs_same n) ∙ h, ap (λ rs. row_at rs n) rows_same);
    going = λ n h. inl (sym (runs_same n) ∙ h, λ k c. subst (λ rs. Calls rs n k) (sym rows_same) c);
    settled = settled_stays s.marks after.marks m.rise;
    ends = λ n h. inr (sym (busy_same n) ∙ not_busy after v n h);
  }

-- ---- a scheduled task is taken

module _ (s after : WalkState) (task : TaskNo) (w : Stands s) (v : Stands after) (m : IsTaken s after task) where
  more_waiting : waiting after.stack ≡ task.0 ∷ waiting s.stack
  more_waiting = m.counts.waits

  taken_rows : after.rows ≡ s.rows
  taken_rows = ap (λ (z : WalkState). z.rows) m.same

  taken_runs : runs (mark_of after.marks task.0) ≡ true
  taken_runs = waits_runs after v task.0 (subst (λ xs. Contains xs task.0) (sym more_waiting) (here task.0 (waiting s.stack)))

  was_idle : runs (mark_of s.marks task.0) ≡ false
  was_idle = exactly.idle_not_runs s.marks task.0 (w.holds.calm task.0 m.was)

  runs_cases : (n : ℕ) → runs (mark_of after.marks n) ≡ true → (task.0 ≡ n) ⊎ (runs (mark_of s.marks n) ≡ true)
  runs_cases n h = by (here_or_there task.0 n (waiting s.stack) (subst (λ xs. Contains xs n) more_waiting (runs_waits after v n h)))
    where
      by : (task.0 ≡ n) ⊎ Contains (waiting s.stack) n → (task.0 ≡ n) ⊎ (runs (mark_of s.marks n) ≡ true)
      by (inl i) = inl i
      by (inr i) = inr (waits_runs s w n i)

  runs_on : (n : ℕ) → runs (mark_of s.marks n) ≡ true → runs (mark_of after.marks n) ≡ true
  runs_on n h = waits_runs after v n (subst (λ xs. Contains xs n) (sym more_waiting) (there task.0 n (waiting s.stack) (runs_waits s w n h)))

  flags_are : after.scheduled ≡ slice_set s.scheduled task.0 false
  flags_are = ap (λ (z : WalkState). z.scheduled) m.same

  taken_busy : (n : ℕ) → is_busy after n ≡ is_busy s n
  taken_busy n = same_bool (is_busy after n) (is_busy s n) (λ h. forth (exactly.busy_is after n h)) (λ h. back (exactly.busy_is s n h))
    where
      flag : IsMarked after.scheduled n → IsMarked s.scheduled n
      flag i = flag_before s.scheduled task.0 n (subst (λ xs. IsMarked xs n) flags_are i)

      ran : (task.0 ≡ n) ⊎ (runs (mark_of s.marks n) ≡ true) → is_busy s n ≡ true
      ran (inl i) = exactly.scheduled_busy s n (subst (IsMarked s.scheduled) i m.was)
      ran (inr i) = exactly.runs_busy s n i

      forth : IsMarked after.scheduled n ⊎ (runs (mark_of after.marks n) ≡ true) → is_busy s n ≡ true
      forth (inl i) = exactly.scheduled_busy s n (flag i)
      forth (inr i) = ran (runs_cases n i)

      kept : (n ≡ task.0) ⊎ (n ≡ task.0 → ⊥) → IsMarked s.scheduled n → is_busy after n ≡ true
      kept (inl i) h = exactly.runs_busy after n (ap (λ z. runs (mark_of after.marks z)) i ∙ taken_runs)
      kept (inr d) h =
          exactly.scheduled_busy after n
          (ap (λ xs. slice_index_or xs n false) flags_are ∙ get_or-set_other s.scheduled task.0 n false false d ∙ h)

      back : IsMarked s.scheduled n ⊎ (runs (mark_of s.marks n) ≡ true) → is_busy after n ≡ true
      back (inl i) = kept (exactly.same_or_not task.0 n) i
      back (inr i) = exactly.runs_busy after n (runs_on n i)

  pub takes_move : Moves s after
  takes_move = record {
    as_many = ap length taken_rows;
    looks = ap (λ (z : WalkState). z.looks_out) m.same;
    busy = taken_busy;
    resting = λ n h. (rests n h, ap (λ rs. row_at rs n) taken_rows);
    going = λ n h. goes n (runs_cases n h);
    settled = settled_stays s.marks after.marks m.rise;
    ends = λ n h. inr (sym (taken_busy n) ∙ not_busy after v n h);
  }
    where
      rests : (n : ℕ) → runs (mark_of after.marks n) ≡ false → runs (mark_of s.marks n) ≡ false
      rests n h = by (runs (mark_of s.marks n)) refl
        where
          by : (b : Bool) → runs (mark_of s.marks n) ≡ b → b ≡ false
          by true i = clash (runs (mark_of after.marks n)) (runs_on n i) h
          by false i = refl

      goes : (n : ℕ) → (task.0 ≡ n) ⊎ (runs (mark_of s.marks n) ≡ true) → GoesOn s after n ⊎ IsTakenFrom s after n
      goes n (inl i) =
          inr (subst (λ z. IsTakenFrom s after z) i (was_idle, ap (λ rs. row_at rs task.0) taken_rows, m.ready))
      goes n (inr i) = inl (i, λ k c. subst (λ rs. Calls rs n k) (sym taken_rows) c)

  ended_mark : (k : Mark) → k ≡ Settled → has_ended k ≡ true
  ended_mark k h = ap has_ended h

  pub taken_rest : (u : Update) (names : List Task) (records : Records) (rec : TaskRecord) → IsExact u names records s → kept_of records task.0 ≡ Some rec
      → RestsOn names records after.rows (is_done after) task.0 rec
  taken_rest u names records rec e k = record {
    named = e.named task.0 rec k;
    kept = k;
    row = subst (λ rs. RowIs names (row_at rs task.0) (Some rec)) (sym taken_rows) (e.rows task.0 rec k was_idle);
    ready = λ j c. ended_mark (mark_of after.marks j) (m.ready j c);
  }
