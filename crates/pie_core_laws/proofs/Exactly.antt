-- What holds of an exact build between two steps.
use Rattle.std.proofs.Common.{◌≡◌, ◌⊎◌, inl, inr, ℕ, ◌||◌, ◌<◌, ◌≤◌, Bool, true, false, Some, None, List, length, refl, sym, ap, subst, ◌∙◌, arith}
use Rattle.std.specs.Prelude.{slice_get, slice_index_or, Contains, option_map, unwrap_or, get_or}
use Rattle.std.proofs.lemmas.Bool.{cases_order}
use Rattle.std.proofs.lemmas.Option.{slice_get_cases, unwrap_or-slice_get}
use Rattle.pie_value.specs.declared.task.Task.{Task}
use Rattle.pie_value.specs.Canonical.{enc_task}
use Rattle.pie_graph.specs.Numbers.{IsMarked}
use Rattle.pie_graph.specs.Rows.{row_at, Calls}
use Rattle.pie_order.specs.Places.{PlacesAgree}
use Rattle.pie_record.specs.declared.records.Records.{Records}
use Rattle.pie_record.specs.declared.task_record.TaskRecord.{TaskRecord}
use Rattle.pie_record.specs.inner.Records.{record_of as kept_of}
use Rattle.pie_walk.specs.declared.marks.Mark.{Mark}
use Rattle.pie_walk.specs.declared.marks.Mark.TheVariants.{New, Visited, Runs, Settled}
use Rattle.pie_walk.specs.Marks.{mark_of, IsSettled, IsIdle}
use Rattle.pie_walk.specs.States.{WalkState}
use Rattle.pie_walk.specs.Standing.{Stands}
use Rattle.pie_model.specs.Paths.{Path, among}
use Rattle.pie_model.specs.Records.{Record, needs_of}
use Rattle.pie_model.specs.StampNow.{Told}
use Rattle.pie_model.specs.inner.Present.{Reaches}
use Rattle.pie_model.specs.inner.Present.Way.{here as arrived, along}
use Rattle.pie_model.specs.inner.Consistent.{IsSettled as IsSettledTask}
use Rattle.pie_model.specs.inner.CoreLaws.{TellsRight}
use Rattle.pie_model.specs.inner.RecordLaws.{Passes}
use Rattle.pie_model.proofs.Basics.{clash}
use Rattle.pie_model_pipeline.specs.Rows.{record_of}
use Rattle.pie_builder_laws.specs.Names.{AreTasks, called_in}
use Rattle.pie_builder_laws.specs.Tables.{recorded}
use Rattle.pie_builder_laws.specs.Views.{RowIs}
use Rattle.pie_builder_laws.proofs.Naming.{among_from, placed, one_place, canonical_at}
use Rattle.pie_model_pipeline.proofs.Joining.{tasks_told}
use Rattle.pie_builder_laws.proofs.Tabled.{needs_called, record_has_number, record_by_number}
use Rattle.pie_earlier_laws.specs.Telling.{GoLower, told_by}
use Rattle.pie_earlier_laws.proofs.Writers.{told_right}
use Rattle.pie_compare_laws.proofs.Ways.{number_of}
use Rattle.pie_core_laws.specs.Update.{Update}
use Rattle.pie_core_laws.specs.Exact.{rank_by, runs, is_busy, busy_by, RestsOnIn, IsExact}
use Rattle.pie_core_laws.proofs.Numbers.{by_number, IsBefore, go_lower}

-- ---- marks

pub settled_not_runs : (m : Mark) → m ≡ Settled → runs m ≡ false
settled_not_runs New h = cc
settled_not_runs Visited h = cc
settled_not_runs Runs h = cc
settled_not_runs Settled h = refl

pub idle_not_runs : (marks : List Mark) (n : ℕ) → IsIdle marks n → runs (mark_of marks n) ≡ false
idle_not_runs marks n (inl e) = ap runs e
idle_not_runs marks n (inr e) = ap runs e

pub idle_not_settled : (marks : List Mark) (n : ℕ) → IsIdle marks n → IsSettled marks n → ⊥
idle_not_settled marks n (inl e) s = no (sym e ∙ s)
  where
    no : New ≡ Settled → ⊥
    no h = cc
idle_not_settled marks n (inr e) s = no (sym e ∙ s)
  where
    no : Visited ≡ Settled → ⊥
    no h = cc

-- how far a task has come
pub data Stage (marks : List Mark) (n : ℕ) : Type 0 where
  idle : IsIdle marks n → Stage marks n
  going : runs (mark_of marks n) ≡ true → mark_of marks n ≡ Runs → Stage marks n
  done : IsSettled marks n → Stage marks n

pub stage_of : (marks : List Mark) (n : ℕ) → Stage marks n
stage_of marks n = by (mark_of marks n) refl
  where
    by : (m : Mark) → mark_of marks n ≡ m → Stage marks n
    by New e = idle (inl e)
    by Visited e = idle (inr e)
    by Runs e = going (ap runs e) e
    by Settled e = done e

pub same_or_not : (n k : ℕ) → (k ≡ n) ⊎ (k ≡ n → ⊥)
same_or_not n k = by (cases_order k n)
  where
    below : (i j : ℕ) → i < j → i ≡ j → ⊥
    below i j l e = omega arith

    by : (k ≡ n) ⊎ ((k < n) ⊎ (n < k)) → (k ≡ n) ⊎ (k ≡ n → ⊥)
    by (inl e) = inl e
    by (inr (inl l)) = inr (below k n l)
    by (inr (inr l)) = inr (λ e. below n k l (sym e))

-- a task that was met has a mark of its own
pub met_inside : (marks : List Mark) (n : ℕ) → (mark_of marks n ≡ New → ⊥) → n < length marks
met_inside marks n h = by (slice_get_cases marks n).1
  where
    by : ((m : Mark) × (n < length marks) × (slice_get marks n ≡ Some m) × (get_or marks n m ≡ m)) ⊎ ((length marks ≤ n) × (slice_get marks n ≡ None))
        → n < length marks
    by (inl m) = m.1
    by (inr m) = absurd (h (sym (unwrap_or-slice_get marks n New) ∙ ap (λ o. unwrap_or o New) m.1))

pub settled_inside : (marks : List Mark) (n : ℕ) → IsSettled marks n → n < length marks
settled_inside marks n h = met_inside marks n (λ i. no (sym i ∙ h))
  where
    no : New ≡ Settled → ⊥
    no i = cc

pub runs_inside : (marks : List Mark) (n : ℕ) → runs (mark_of marks n) ≡ true → n < length marks
runs_inside marks n h = met_inside marks n (λ i. clash (runs (mark_of marks n)) h (ap runs i))

either_true : (a b : Bool) → a || b ≡ true → (a ≡ true) ⊎ (b ≡ true)
either_true true b h = inl refl
either_true false b h = inr h

pub left_busy : (a b : Bool) → a ≡ true → a || b ≡ true
left_busy true b h = refl
left_busy false b h = cc

pub right_busy : (a b : Bool) → b ≡ true → a || b ≡ true
right_busy true b h = refl
right_busy false b h = h

-- a busy task is scheduled or runs
pub busy_is : (s : WalkState) (n : ℕ) → is_busy s n ≡ true → IsMarked s.scheduled n ⊎ (runs (mark_of s.marks n) ≡ true)
busy_is s n h = either_true (slice_index_or s.scheduled n false) (runs (mark_of s.marks n)) h

pub scheduled_busy : (s : WalkState) (n : ℕ) → IsMarked s.scheduled n → is_busy s n ≡ true
scheduled_busy s n h = left_busy (slice_index_or s.scheduled n false) (runs (mark_of s.marks n)) h

pub runs_busy : (s : WalkState) (n : ℕ) → runs (mark_of s.marks n) ≡ true → is_busy s n ≡ true
runs_busy s n h = right_busy (slice_index_or s.scheduled n false) (runs (mark_of s.marks n)) h

pub not_busy_runs : (s : WalkState) (n : ℕ) → is_busy s n ≡ false → runs (mark_of s.marks n) ≡ false
not_busy_runs s n h = by (runs (mark_of s.marks n)) refl
  where
    by : (b : Bool) → runs (mark_of s.marks n) ≡ b → b ≡ false
    by true e = clash (is_busy s n) (runs_busy s n e) h
    by false e = refl

pub not_busy_scheduled : (s : WalkState) (n : ℕ) → is_busy s n ≡ false → slice_index_or s.scheduled n false ≡ false
not_busy_scheduled s n h = by (slice_index_or s.scheduled n false) refl
  where
    by : (b : Bool) → slice_index_or s.scheduled n false ≡ b → b ≡ false
    by true e = clash (is_busy s n) (scheduled_busy s n e) h
    by false e = refl

pub idle_same : (old new : List Mark) (n : ℕ) → mark_of old n ≡ mark_of new n → IsIdle old n → IsIdle new n
idle_same old new n e (inl h) = inl (sym e ∙ h)
idle_same old new n e (inr h) = inr (sym e ∙ h)

-- two numbered tasks with one name are one
pub one_task : (names : List Task) → AreTasks names → (i j : ℕ) (t v : Task) → slice_get names i ≡ Some t → slice_get names j ≡ Some v
    → enc_task t ≡ enc_task v → t ≡ v
one_task names a i j t v e f b = tasks_told t v (canonical_at names a i t e) (canonical_at names a j v f) b

pub settled_not_busy : (s : WalkState) → Stands s → (n : ℕ) → IsSettled s.marks n → is_busy s n ≡ true → ⊥
settled_not_busy s w n h b = by (busy_is s n b)
  where
    by : IsMarked s.scheduled n ⊎ (runs (mark_of s.marks n) ≡ true) → ⊥
    by (inl i) = idle_not_settled s.marks n (w.holds.calm n i) h
    by (inr i) = clash (runs (mark_of s.marks n)) i (settled_not_runs (mark_of s.marks n) h)

-- a task that a record requires is required by the row
pub record IsCalled (names : List Task) (s : WalkState) (n : ℕ) (v : Task) : Type 0 where
  pub number : ℕ
  pub named : slice_get names number ≡ Some v
  pub called : Calls s.rows n number

module _ (names : List Task) (records : Records) (s : WalkState)
    (rows : (n : ℕ) (rec : TaskRecord) → kept_of records n ≡ Some rec → runs (mark_of s.marks n) ≡ false → RowIs names (row_at s.rows n) (Some rec))
    (running : (n : ℕ) (rec : TaskRecord) (v : Task) → kept_of records n ≡ Some rec → runs (mark_of s.marks n) ≡ true → Contains (called_in rec.deps) v
    → RestsOnIn names s n v) where
  call_by : (n : ℕ) (rec : TaskRecord) (v : Task) → kept_of records n ≡ Some rec → Contains (called_in rec.deps) v → IsCalled names s n v
  call_by n rec v k i = by (runs (mark_of s.marks n)) refl
    where
      by : (b : Bool) → runs (mark_of s.marks n) ≡ b → IsCalled names s n v
      by true r = let m = running n rec v k r i in record { number = m.number; named = m.named; called = m.called }
      by false r =
          let m = number_of names (row_at s.rows n).needs (called_in rec.deps) v (rows n rec k r).0 i in
          record { number = m.number; named = m.named; called = m.listed }

-- requires of the records go to lower places
pub lower_by : (names : List Task) (records : Records) (s : WalkState) → AreTasks names
    → ((n : ℕ) (rec : TaskRecord) → kept_of records n ≡ Some rec → runs (mark_of s.marks n) ≡ false → RowIs names (row_at s.rows n) (Some rec))
    → ((n : ℕ) (rec : TaskRecord) (v : Task) → kept_of records n ≡ Some rec → runs (mark_of s.marks n) ≡ true → Contains (called_in rec.deps) v
    → RestsOnIn names s n v) → PlacesAgree s.rows s.places → GoLower (recorded names records) (rank_by names s.places)
lower_by names records s tasks rows running agree = go_lower names records s.places tasks before
  where
    before : (n : ℕ) (rec : TaskRecord) (v : Task) → kept_of records n ≡ Some rec → Contains (called_in rec.deps) v → IsBefore names s.places n v
    before n rec v k i =
        let m = call_by names records s rows running n rec v k i in
        record { number = m.number; named = m.named; lower = agree.each n m.number m.called }

module _ (u : Update) (names : List Task) (records : Records) (s : WalkState) (e : IsExact u names records s) where
  -- ---- what a record requires

  pub called_of : (n : ℕ) (rec : TaskRecord) (v : Task) → kept_of records n ≡ Some rec → Contains (called_in rec.deps) v → IsCalled names s n v
  called_of n rec v k i = call_by names records s e.rows e.running n rec v k i

  pub lower : PlacesAgree s.rows s.places → GoLower (recorded names records) (rank_by names s.places)
  lower agree = lower_by names records s e.tasks e.rows e.running agree

  -- what is told rightly by the records
  abbrev pub its_told : List (List ℕ) → Path → Told
  its_told = told_by (recorded names records) (rank_by names s.places)

  pub tells : PlacesAgree s.rows s.places → TellsRight (recorded names records) (told_by (recorded names records) (rank_by names s.places))
  tells agree = λ us p each. told_right (recorded names records) p (rank_by names s.places) (lower agree) us

  -- ---- ways by records

  -- a task that the record of a numbered one requires
  pub record Next (n : ℕ) (y : List ℕ) : Type 0 where
    pub number : ℕ
    pub task : Task
    pub named : slice_get names number ≡ Some task
    pub bytes : y ≡ enc_task task
    pub rec : TaskRecord
    pub kept : kept_of records n ≡ Some rec
    pub listed : Contains (called_in rec.deps) task
    pub called : Calls s.rows n number

  pub next_of : (n : ℕ) (t : Task) (r : Record) (y : List ℕ) → slice_get names n ≡ Some t → recorded names records (enc_task t) ≡ Some r
      → among y (needs_of r.observations) ≡ true → Next n y
  next_of n t r y at now need =
      let m = record_has_number names records (enc_task t) r now in
      let k : kept_of records n ≡ Some m.rec = ap (kept_of records) (same_number m.number m.task m.named m.bytes) ∙ m.kept in
      let v = among_from (called_in m.rec.deps) y
      (subst (λ xs. among y xs ≡ true) (ap (λ (q : Record). needs_of q.observations) m.same ∙ needs_called m.rec.deps) need) in
      let i = placed (called_in m.rec.deps) v.number v.task v.named in
      let c = called_of n m.rec v.task k i in
      record { number = c.number; task = v.task; named = c.named; bytes = v.bytes; rec = m.rec; kept = k; listed = i; called = c.called }
    where
      same_number : (j : ℕ) (v : Task) → slice_get names j ≡ Some v → enc_task t ≡ enc_task v → n ≡ j
      same_number j v f b =
          one_place names e.tasks n j v (at ∙ ap Some (one_task names e.tasks n j t v at f b)) f

  -- ---- what is settled

  settled_on : Stands s → (n : ℕ) (y : List ℕ) → IsSettled s.marks n → (m : Next n y) → IsSettled s.marks m.number
  settled_on w n y h m = w.holds.closed n m.number h m.called

  settled_reach : Stands s → (y x : List ℕ) → Reaches (recorded names records) x y → (n : ℕ) (t : Task) → slice_get names n ≡ Some t → x ≡ enc_task t
      → IsSettled s.marks n → (k : ℕ) × (v : Task) × (slice_get names k ≡ Some v) × (y ≡ enc_task v) × IsSettled s.marks k
  settled_reach w y x arrived n t at b h = (n, t, at, b, h)
  settled_reach w y x (along {a = c} {b = d} {r = r} now need rest) n t at b h =
      let m = next_of n t r d at (ap (recorded names records) (sym b) ∙ now) need in
      settled_reach w y d rest m.number m.task m.named m.bytes (settled_on w n d h m)

  -- a task that is settled in the walk is so in the model
  pub settled_task : Stands s → (n : ℕ) (t : Task) → slice_get names n ≡ Some t → IsSettled s.marks n
      → IsSettledTask (recorded names records) (Passes (busy_by names s)) (enc_task t)
  settled_task w n t at h = record {
    recorded = let m = e.ended n h in record {
      kept = record_of m.0;
      is = record_by_number names records n t e.tasks at ∙ ap (option_map record_of) m.1;
    };
    free = λ x q b.
        let m = settled_reach w x (enc_task t) q n t at refl h in
        let c : is_busy s m.0 ≡ true =
        sym (by_number false (is_busy s) names m.0 m.1 e.tasks m.2) ∙ ap (busy_by names s) (sym m.3) ∙ b in
        settled_not_busy s w m.0 m.4 c;
  }
