-- A right ledger is an exact build, in which no task stands on the stack.
use Rattle.std.proofs.Common.{◌≡◌, ◌⊎◌, inl, inr, ℕ, zero, suc, ◌+◌, ◌<◌, ◌≤◌, true, false, Option, Some, None, List, [], ◌∷◌, map, length, refl, sym, ap, subst, ◌∙◌, arith}
use Rattle.std.specs.Prelude.{slice_get, slice_index_or, Contains, not, is_some, option_map}
use Rattle.pie_value.specs.declared.task.Task.{Task}
use Rattle.pie_value.specs.Canonical.{enc_task}
use Rattle.pie_graph.specs.Numbers.{IsMarked}
use Rattle.pie_graph.specs.Rows.{Row, row_at, Calls}
use Rattle.pie_record.specs.declared.records.Records.{Records}
use Rattle.pie_record.specs.declared.task_record.TaskRecord.{TaskRecord}
use Rattle.pie_record.specs.inner.Records.{record_of as kept_of}
use Rattle.pie_walk.specs.declared.marks.Mark.TheVariants.{New, Settled}
use Rattle.pie_walk.specs.declared.stack.Entry.{Entry}
use Rattle.pie_walk.specs.Marks.{mark_of, IsSettled, IsIdle}
use Rattle.pie_walk.specs.States.{WalkState, no_of}
use Rattle.pie_walk.specs.Standing.{Stands}
use Rattle.pie_model.specs.Paths.{Path, among}
use Rattle.pie_model.specs.Records.{Record, needs_of}
use Rattle.pie_model.specs.StampNow.{Told}
use Rattle.pie_model.specs.inner.RecordLaws.{Passes}
use Rattle.pie_model.specs.inner.Consistent.{IsConsistent}
use Rattle.pie_model.specs.inner.CoreLaws.{TellsRight}
use Rattle.pie_model.specs.Trees.{is_plain, outcome_of}
use Rattle.pie_model.specs.Evaluation.{evaluation}
use Rattle.pie_model.proofs.Basics.{clash}
use Rattle.pie_step_laws.proofs.Tables.{done_plain}
use Rattle.pie_model_pipeline.specs.Rows.{record_of}
use Rattle.pie_model_pipeline.specs.World.{world}
use Rattle.pie_builder_laws.specs.Names.{called_in}
use Rattle.pie_builder_laws.specs.Tables.{recorded}
use Rattle.pie_builder_laws.proofs.Naming.{named_back}
use Rattle.pie_builder_laws.proofs.Tabled.{needs_called, record_by_number}
use Rattle.pie_compare_laws.proofs.Ways.{task_of, number_of}
use Rattle.pie_core_laws.specs.Update.{Update, MetIn, earlier, present}
use Rattle.pie_core_laws.specs.Exact.{runs, is_busy, rank_by, busy_by}
use Rattle.pie_core_laws.proofs.Exactly.{scheduled_busy}
use Rattle.pie_core_laws.proofs.Numbers.{IsBefore, go_lower}
use Rattle.pie_topdown_laws.specs.Ledgers.{IsRightLedger, by_each, mark_by, walk_of, IsAsExact}

no_some : {A : Type 0} {X : Type 0} (x : X) → None ≡ Some x → A
no_some x h = absurd (never h)
  where
    never : None ≡ Some x → ⊥
    never e = cc

-- ---- something for each task

pub each_length : {A : Type 0} (at : ℕ → A) (m : ℕ) (names : List Task) → length (by_each at m names) ≡ length names
each_length at m [] = refl
each_length at m (t ∷ ts) = ap suc (each_length at (m + 1) ts)

pub each_inside : {A : Type 0} (at : ℕ → A) (m : ℕ) (names : List Task) (n : ℕ) (d : A) → n < length names → slice_index_or (by_each at m names) n d ≡ at (m + n)
each_inside at m [] n d h = absurd (none n h)
  where
    none : (a : ℕ) → a < 0 → ⊥
    none a q = omega arith
each_inside at m (t ∷ ts) zero d h = ap at (omega arith)
each_inside at m (t ∷ ts) (suc n) d h = each_inside at (m + 1) ts n d (omega arith) ∙ ap at (omega arith)

pub each_at : {A : Type 0} (at : ℕ → A) (names : List Task) (n : ℕ) (d : A) → n < length names → slice_index_or (by_each at 0 names) n d ≡ at n
each_at at names n d h = each_inside at 0 names n d h ∙ ap at (omega arith)

pub each_past : {A : Type 0} (at : ℕ → A) (m : ℕ) (names : List Task) (n : ℕ) (d : A) → length names ≤ n → slice_index_or (by_each at m names) n d ≡ d
each_past at m [] n d h = refl
each_past at m (t ∷ ts) zero d h = absurd (none (length ts) h)
  where
    none : (a : ℕ) → suc a ≤ 0 → ⊥
    none a q = omega arith
each_past at m (t ∷ ts) (suc n) d h = each_past at (m + 1) ts n d (omega arith)

-- below a count, or not
pub below_or : (a b : ℕ) → (a < b) ⊎ (b ≤ a)
below_or zero zero = inr (omega arith)
below_or zero (suc b) = inl (omega arith)
below_or (suc a) zero = inr (omega arith)
below_or (suc a) (suc b) = go (below_or a b)
  where
    go : (a < b) ⊎ (b ≤ a) → (suc a < suc b) ⊎ (suc b ≤ suc a)
    go (inl h) = inl (omega arith)
    go (inr h) = inr (omega arith)

-- something that is nowhere is nowhere among the tasks
never_marked : (m : ℕ) (names : List Task) (n : ℕ) → IsMarked (by_each (λ k. false) m names) n → ⊥
never_marked m names n h = go (below_or n (length names))
  where
    go : (n < length names) ⊎ (length names ≤ n) → ⊥
    go (inl l) = clash {A = ⊥} (slice_index_or (by_each (λ k. false) m names) n false) h (each_inside (λ k. false) m names n false l)
    go (inr l) = clash {A = ⊥} (slice_index_or (by_each (λ k. false) m names) n false) h (each_past (λ k. false) m names n false l)

module _ (u : Update) (names : List Task) (records : Records) (rows : List Row) (places : List ℕ) (L : IsRightLedger u names records rows places) where
  abbrev s : WalkState
  s = walk_of names records rows places

  -- a number with a record is one of the tasks
  kept_inside : (n : ℕ) (rec : TaskRecord) → kept_of records n ≡ Some rec → n < length names
  kept_inside n rec k = go (below_or n (length names))
    where
      past : (xs : List Task) (m : ℕ) → length xs ≤ m → slice_get xs m ≡ None
      past [] m h = refl
      past (x ∷ xs) zero h = absurd (none (length xs) h)
        where
          none : (a : ℕ) → suc a ≤ 0 → ⊥
          none a q = omega arith
      past (x ∷ xs) (suc m) h = past xs m (omega arith)

      go : (n < length names) ⊎ (length names ≤ n) → n < length names
      go (inl l) = l
      go (inr l) = no_some rec.task (sym (past names n l) ∙ L.named n rec k)

  pub kept_settled : (n : ℕ) (rec : TaskRecord) → kept_of records n ≡ Some rec → IsSettled s.marks n
  kept_settled n rec k = each_at (λ m. mark_by (kept_of records m)) names n New (kept_inside n rec k) ∙ ap mark_by k

  -- a task is settled, or was never met and is scheduled
  data How (n : ℕ) : Type 0 where
    done : (rec : TaskRecord) → kept_of records n ≡ Some rec → How n
    waits : n < length names → kept_of records n ≡ None → mark_of s.marks n ≡ New → IsMarked s.scheduled n → How n
    nobody : length names ≤ n → mark_of s.marks n ≡ New → slice_index_or s.scheduled n false ≡ false → How n

  how : (n : ℕ) → How n
  how n = go (below_or n (length names))
    where
      inside : n < length names → (o : Option TaskRecord) → kept_of records n ≡ o → How n
      inside l None k = waits l k (each_at (λ m. mark_by (kept_of records m)) names n New l ∙ ap mark_by k)
          (each_at (λ m. not (is_some (kept_of records m))) names n false l ∙ ap (λ o. not (is_some o)) k)
      inside l (Some rec) k = done rec k

      go : (n < length names) ⊎ (length names ≤ n) → How n
      go (inl l) = inside l (kept_of records n) refl
      go (inr l) = nobody l (each_past (λ m. mark_by (kept_of records m)) 0 names n New l)
          (each_past (λ m. not (is_some (kept_of records m))) 0 names n false l)

  new_settled : {A : Type 0} (n : ℕ) → mark_of s.marks n ≡ New → IsSettled s.marks n → A
  new_settled n i h = absurd (never (sym i ∙ h))
    where
      never : New ≡ Settled → ⊥
      never e = cc

  pub settled_kept : (n : ℕ) → IsSettled s.marks n → (rec : TaskRecord) × (kept_of records n ≡ Some rec)
  settled_kept n h = go (how n)
    where
      go : How n → (rec : TaskRecord) × (kept_of records n ≡ Some rec)
      go (done rec k) = (rec, k)
      go (waits l k i m) = new_settled n i h
      go (nobody l i m) = new_settled n i h

  -- no task runs
  idle_runs : (n : ℕ) → runs (mark_of s.marks n) ≡ false
  idle_runs n = go (how n)
    where
      go : How n → runs (mark_of s.marks n) ≡ false
      go (done rec k) = ap runs (kept_settled n rec k)
      go (waits l k i m) = ap runs i
      go (nobody l i m) = ap runs i

  -- what the record of a task requires is recorded, and its number is in the row
  called_kept : (n : ℕ) (rec : TaskRecord) (v : Task) (k : ℕ) → kept_of records n ≡ Some rec → Contains (called_in rec.deps) v → slice_get names k ≡ Some v
      → (r : TaskRecord) × (kept_of records k ≡ Some r)
  called_kept n rec v k e i at =
      let now : recorded names records (enc_task rec.task) ≡ Some (record_of rec) = record_by_number names records n rec.task L.tasks (L.named n rec e)
      ∙ ap (option_map record_of) e in
      let need : among (enc_task v) (needs_of (record_of rec).observations) ≡ true =
      subst (λ xs. among (enc_task v) xs ≡ true) (sym (needs_called rec.deps)) (named_back (called_in rec.deps) v i) in
      let r = L.table.closed (enc_task rec.task) (record_of rec) (enc_task v) now need in
      go (kept_of records k) refl (sym (record_by_number names records k v L.tasks at) ∙ r.is)
    where
      go : (o : Option TaskRecord) → kept_of records k ≡ o → {r : Record} → option_map record_of (kept_of records k) ≡ Some r
          → (q : TaskRecord) × (kept_of records k ≡ Some q)
      go None q {r} h = no_some r (ap (option_map record_of) (sym q) ∙ h)
      go (Some x) q h = (x, q)

  closed : (n k : ℕ) → IsSettled s.marks n → Calls rows n k → IsSettled s.marks k
  closed n k h c =
      let m : (rec : TaskRecord) × (kept_of records n ≡ Some rec) = settled_kept n h in
      let t = task_of names (row_at rows n).needs (called_in m.0.deps) k (L.each_row n m.0 m.1).0 c in
      let r : (q : TaskRecord) × (kept_of records k ≡ Some q) = called_kept n m.0 t.task k m.1 t.listed t.named in kept_settled k r.0 r.1

  calm : (n : ℕ) → IsMarked s.scheduled n → IsIdle s.marks n
  calm n h = go (how n)
    where
      go : How n → IsIdle s.marks n
      go (done rec k) =
          clash (slice_index_or s.scheduled n false) h
          (each_at (λ m. not (is_some (kept_of records m))) names n false (kept_inside n rec k) ∙ ap (λ o. not (is_some o)) k)
      go (waits l k i m) = inl i
      go (nobody l i m) = inl i

  nobody_stands : (n : ℕ) → (mark_of s.marks n ≡ New → ⊥) → (mark_of s.marks n ≡ Settled → ⊥) → (e : Entry) × Contains s.stack e × (no_of e ≡ n)
  nobody_stands n a b = absurd (go (how n))
    where
      go : How n → ⊥
      go (done rec k) = b (kept_settled n rec k)
      go (waits l k i m) = a i
      go (nobody l i m) = a i

  pub walk_stands : Stands s
  walk_stands = record {
    holds = record {
      marks_sized = each_length (λ m. mark_by (kept_of records m)) 0 names ∙ sym L.as_many;
      scheduled_sized = each_length (λ m. not (is_some (kept_of records m))) 0 names ∙ sym L.as_many;
      agrees = L.agrees;
      entries = tt;
      stands = nobody_stands;
      closed = closed;
      calm = calm;
    };
    swept = record {
      looks_sized = each_length (λ m. false) 0 names ∙ sym L.as_many;
      swept_sized = each_length (λ m. false) 0 names ∙ sym L.as_many;
      up = λ n k h c i. absurd (never_marked 0 names n h);
      flags = λ k h i m. absurd (never_marked 0 names k h);
    };
  }

  before : (n : ℕ) (rec : TaskRecord) (v : Task) → kept_of records n ≡ Some rec → Contains (called_in rec.deps) v
      → IsBefore names places n v
  before n rec v k i =
      let m = number_of names (row_at rows n).needs (called_in rec.deps) v (L.each_row n rec k).0 i in
      record { number = m.number; named = m.named; lower = L.agrees.each n m.number m.listed }

  consistent : (told : List (List ℕ) → Path → Told) → TellsRight (recorded names records) told
      → IsConsistent world (earlier u) (present u) (MetIn u) (recorded names records) told (map enc_task names) (rank_by names places)
      (Passes (busy_by names s))
  consistent told tells = record {
    few = L.table.few;
    counted = L.table.counted;
    closed = L.table.closed;
    lower = go_lower names records places L.tasks before;
    plain = λ t r e. ap (λ (z : Record). is_plain z.outcome) (L.table.right t r e)
        ∙ done_plain (outcome_of (evaluation world (present u) t)) (L.table.done t r e);
    met = λ t r e. L.met t (record { kept = r; is = e });
    telling = tells;
    current = λ t r e b. inl (L.table.right t r e);
  }

  unsettled_kept : {A : Type 0} (n : ℕ) (rec : TaskRecord) → kept_of records n ≡ Some rec → (IsSettled s.marks n → ⊥) → A
  unsettled_kept n rec k h = absurd (h (kept_settled n rec k))

  fresh : (n : ℕ) → n < length names → kept_of records n ≡ None → is_busy s n ≡ true
  fresh n l k = scheduled_busy s n
      (each_at (λ m. not (is_some (kept_of records m))) names n false l ∙ ap (λ o. not (is_some o)) k)

  pub as_exact : IsAsExact u names records rows places
  as_exact = record {
    exact = record {
      tasks = L.tasks;
      as_many = L.as_many;
      named = L.named;
      ended = settled_kept;
      fresh = fresh;
      rows = λ n rec k i. L.each_row n rec k;
      running = λ n rec v k i c. clash (runs (mark_of s.marks n)) i (idle_runs n);
      old = λ n rec k h. unsettled_kept n rec k h;
      looks = λ n rec k h i. unsettled_kept n rec k h;
      consistent = consistent;
    };
    stands = walk_stands;
  }
