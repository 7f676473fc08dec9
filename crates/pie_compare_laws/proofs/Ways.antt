-- Ways through the rows of settled tasks are ways through their records, and show the same writers.
use Rattle.std.proofs.Common.{◌≡◌, ◌⊎◌, inl, inr, ℕ, Bool, true, false, cond, Option, Some, None, List, [], ◌∷◌, map, bytes_eq}
use Rattle.std.proofs.Common.{refl, sym, ap, subst, ◌∙◌}
use Rattle.std.specs.Prelude.{slice_get, option_map, Contains}
use Rattle.pie_base.specs.Path.{same_text}
use Rattle.pie_value.specs.declared.task.Task.{Task}
use Rattle.pie_value.specs.Canonical.{enc_task}
use Rattle.pie_graph.specs.Rows.{Row, row_at, Calls}
use Rattle.pie_reach.specs.inner.Reaches.{Reaches as RowsReach}
use Rattle.pie_reach.specs.inner.Reaches.Leads.{itself, step}
use Rattle.pie_record.specs.declared.records.Records.{Records}
use Rattle.pie_record.specs.declared.task_record.TaskRecord.{TaskRecord}
use Rattle.pie_record.specs.inner.Records.{record_of as kept_of}
use Rattle.pie_view.specs.declared.seen.Seen.{Seen as RowsSeen}
use Rattle.pie_view.specs.declared.seen.Seen.TheVariants.{Absent, By, Clash}
use Rattle.pie_view.specs.Seen.{Visible, IsOnly}
use Rattle.pie_compare.specs.inner.Standing.{write_at, hash_in}
use Rattle.pie_model.specs.Paths.{Path, among}
use Rattle.pie_model.specs.Seen.{first_write}
use Rattle.pie_model.specs.Records.{Record, needs_of}
use Rattle.pie_model.specs.StampNow.{Told, Untold, ToldHash, ToldClash}
use Rattle.pie_model.specs.inner.Present.{Reaches, WroteByRecords, IsTold}
use Rattle.pie_model.specs.inner.Present.Way.{here as arrived, along}
use Rattle.pie_model.specs.inner.Consistent.{IsRecorded}
use Rattle.pie_model.proofs.Basics.{same_bytes, bytes_same}
use Rattle.pie_check_laws.proofs.Members.{none_in, here, there, here_or_there, into_map, from_map}
use Rattle.pie_model_pipeline.specs.Rows.{record_of}
use Rattle.pie_model_pipeline.proofs.Joining.{tasks_told}
use Rattle.pie_builder_laws.specs.Names.{AreTasks, called_in}
use Rattle.pie_builder_laws.specs.Tables.{recorded}
use Rattle.pie_builder_laws.specs.Views.{AreNumbersOf}
use Rattle.pie_builder_laws.proofs.Naming.{placed, among_from, canonical_at, named_back, one_place}
use Rattle.pie_builder_laws.proofs.Tabled.{needs_called, record_by_number}
use Rattle.pie_compare_laws.specs.Settled.{RestsOn, AreSettled}

pub one_some : {X : Type 0} (x y : X) → Some x ≡ Some y → x ≡ y
one_some x y h = cc

-- ---- numbers and tasks

-- a number among some is that of a task among theirs
pub record HasTask (names : List Task) (ts : List Task) (n : ℕ) : Type 0 where
  pub task : Task
  pub listed : Contains ts task
  pub named : slice_get names n ≡ Some task

pub task_of : (names : List Task) (ns : List ℕ) (ts : List Task) (n : ℕ) → AreNumbersOf names ns ts → Contains ns n → HasTask names ts n
task_of names ns ts n e h =
    let m = from_map Some ts (slice_get names n) (subst (λ xs. Contains xs (slice_get names n)) e (into_map (slice_get names) ns n h)) in
    record { task = m.0; listed = m.1; named = sym m.2 }

-- a task among some is that of a number among theirs
pub record HasNumber (names : List Task) (ns : List ℕ) (t : Task) : Type 0 where
  pub number : ℕ
  pub listed : Contains ns number
  pub named : slice_get names number ≡ Some t

pub number_of : (names : List Task) (ns : List ℕ) (ts : List Task) (t : Task) → AreNumbersOf names ns ts → Contains ts t → HasNumber names ns t
number_of names ns ts t e h =
    let m = from_map (slice_get names) ns (Some t) (subst (λ xs. Contains xs (Some t)) (sym e) (into_map Some ts t h)) in
    record { number = m.0; listed = m.1; named = m.2 }

-- ---- writes

bytes_turned : (x y : List ℕ) → bytes_eq x y ≡ bytes_eq y x
bytes_turned x y = by (bytes_eq x y) refl (bytes_eq y x) refl
  where
    no : true ≡ false → ⊥
    no h = cc

    by : (a : Bool) → bytes_eq x y ≡ a → (b : Bool) → bytes_eq y x ≡ b → a ≡ b
    by true e true f = refl
    by true e false f = absurd (no (sym (subst (λ z. bytes_eq z x ≡ true) (same_bytes x y e) (bytes_same x)) ∙ f))
    by false e true f = absurd (no (sym (subst (λ z. bytes_eq z y ≡ true) (same_bytes y x f) (bytes_same y)) ∙ e))
    by false e false f = refl

-- the first write is one thing in the program and in the model
pub first_is : (ws : List (Path × List ℕ)) (p : Path) → first_write p ws ≡ write_at ws p
first_is [] p = refl
first_is (w ∷ ws) p = by (bytes_eq p w.0) (same_text w.0 p) (bytes_turned p w.0) (first_is ws p)
  where
    by : (a b : Bool) → a ≡ b → first_write p ws ≡ write_at ws p → cond a (Some w.1) (first_write p ws) ≡ cond b (Some w.1) (write_at ws p)
    by true true e h = refl
    by false false e h = h
    by true false e h = cc
    by false true e h = cc

abbrev paths_in : List (Path × List ℕ) → List Path
paths_in ws = map (λ (w : Path × List ℕ). w.0) ws

wrote_path : (ws : List (Path × List ℕ)) (p : Path) (b : List ℕ) → first_write p ws ≡ Some b → Contains (paths_in ws) p
wrote_path [] p b h = absurd (no h)
  where
    no : None ≡ Some b → ⊥
    no e = cc
wrote_path (w ∷ ws) p b h = by (bytes_eq p w.0) refl h (wrote_path ws p b)
  where
    by : (t : Bool) → bytes_eq p w.0 ≡ t → cond t (Some w.1) (first_write p ws) ≡ Some b → (first_write p ws ≡ Some b → Contains (paths_in ws) p)
        → Contains (w.0 ∷ paths_in ws) p
    by true e k r = subst (λ z. Contains (w.0 ∷ paths_in ws) z) (sym (same_bytes p w.0 e)) (here w.0 (paths_in ws))
    by false e k r = there w.0 p (paths_in ws) (r k)

path_wrote : (ws : List (Path × List ℕ)) (p : Path) → Contains (paths_in ws) p → (b : List ℕ) × (first_write p ws ≡ Some b)
path_wrote [] p h = absurd (none_in p h)
path_wrote (w ∷ ws) p h = by (bytes_eq p w.0) refl (here_or_there w.0 p (paths_in ws) h) (path_wrote ws p)
  where
    by : (t : Bool) → bytes_eq p w.0 ≡ t → (w.0 ≡ p) ⊎ Contains (paths_in ws) p
        → (Contains (paths_in ws) p → (b : List ℕ) × (first_write p ws ≡ Some b)) → (b : List ℕ) × (cond t (Some w.1) (first_write p ws) ≡ Some b)
    by true e k r = (w.1, refl)
    by false e (inl k) r = absurd (not_same (sym (subst (λ z. bytes_eq p z ≡ true) (sym k) (bytes_same p)) ∙ e))
      where
        not_same : true ≡ false → ⊥
        not_same f = cc
    by false e (inr k) r = r k

-- what is told of a hash, if there is one
abbrev pub hash_told : Option (List ℕ) → Told
hash_told None = Untold
hash_told (Some h) = ToldHash h

-- what is told where this is seen
abbrev pub seen_told : Records → Path → RowsSeen → Told
seen_told records p Absent = Untold
seen_told records p (By one) = hash_told (hash_in (kept_of records one.0) p)
seen_told records p Clash = ToldClash

module _ (names : List Task) (records : Records) (rows : List Row) (settled : ℕ → Bool) (a : AreTasks names) (s : AreSettled names records rows settled) where
  -- ---- ways

  -- the record of a task by its number
  pub its_record : (n : ℕ) (rec : TaskRecord) → RestsOn names records rows settled n rec
      → recorded names records (enc_task rec.task) ≡ Some (record_of rec)
  its_record n rec r = record_by_number names records n rec.task a r.named ∙ ap (λ o. option_map record_of o) r.kept

  -- what a task that has its row requires by the row, its record requires, and is settled
  record Requires (k n : ℕ) (rec : TaskRecord) : Type 0 where
    task : Task
    named : slice_get names n ≡ Some task
    listed : Contains (called_in rec.deps) task
    settles : settled n ≡ true

  requires : (k n : ℕ) (rec : TaskRecord) → RestsOn names records rows settled k rec → Calls rows k n → Requires k n rec
  requires k n rec r c =
      let m = task_of names (row_at rows k).needs (called_in rec.deps) n r.row.0 c in
      record { task = m.task; named = m.named; listed = m.listed; settles = r.ready n c }

  pub settled_named : (k : ℕ) → settled k ≡ true → (t : Task) × (slice_get names k ≡ Some t)
  settled_named k h = let m = s k h in (m.0.task, m.1.named)

  pub settled_recorded : (k : ℕ) (t : Task) → settled k ≡ true → slice_get names k ≡ Some t → IsRecorded (recorded names records) (enc_task t)
  settled_recorded k t h e =
      let m = s k h in
      let same : m.0.task ≡ t = one_some m.0.task t (sym m.1.named ∙ e) in
      record { kept = record_of m.0; is = ap (λ (z : Task). recorded names records (enc_task z)) (sym same) ∙ its_record k m.0 m.1 }

  pub stays_settled : (k n : ℕ) → settled k ≡ true → RowsReach rows k n → settled n ≡ true
  stays_settled k n h (itself {a = x}) = h
  stays_settled k n h (step {a = x} {b = y} {c = z} first rest) = stays_settled y n ((s k h).1.ready y first) rest

  pub led : (k n : ℕ) (t u : Task) → settled k ≡ true → slice_get names k ≡ Some t → slice_get names n ≡ Some u → RowsReach rows k n
      → Reaches (recorded names records) (enc_task t) (enc_task u)
  led k n t u h e f (itself {a = x}) =
      subst (λ z. Reaches (recorded names records) (enc_task t) (enc_task z)) (one_some t u (sym e ∙ f)) arrived
  led k n t u h e f (step {a = x} {b = y} {c = z} first rest) =
      let m = s k h in
      let r = requires k y m.0 m.1 first in
      let same : m.0.task ≡ t = one_some m.0.task t (sym m.1.named ∙ e) in
      along {a = enc_task t} {b = enc_task r.task} {r = record_of m.0}
      (ap (λ (z : Task). recorded names records (enc_task z)) (sym same) ∙ its_record k m.0 m.1)
      (subst (λ xs. among (enc_task r.task) xs ≡ true) (sym (needs_called m.0.deps)) (named_back (called_in m.0.deps) r.task r.listed))
      (led y n r.task u r.settles r.named f rest)

  -- a task that is reached from a settled one has a number, and is settled
  pub record Led (k : ℕ) (x : List ℕ) : Type 0 where
    pub number : ℕ
    pub task : Task
    pub named : slice_get names number ≡ Some task
    pub bytes : x ≡ enc_task task
    pub leads : RowsReach rows k number
    pub settles : settled number ≡ true

  -- a task that one with its row requires, with its number
  pub record Needed (k : ℕ) (x : List ℕ) : Type 0 where
    pub number : ℕ
    pub task : Task
    pub named : slice_get names number ≡ Some task
    pub bytes : x ≡ enc_task task
    pub called : Calls rows k number
    pub settles : settled number ≡ true

  pub needed : (k : ℕ) (rec : TaskRecord) (y : List ℕ) (r : Record) → RestsOn names records rows settled k rec
      → recorded names records (enc_task rec.task) ≡ Some r → among y (needs_of r.observations) ≡ true → Needed k y
  needed k rec y r rests now need =
      let same : r ≡ record_of rec = one_some r (record_of rec) (sym now ∙ its_record k rec rests) in
      let u = among_from (called_in rec.deps) y
      (subst (λ xs. among y xs ≡ true) (ap (λ (q : Record). needs_of q.observations) same ∙ needs_called rec.deps) need) in
      let n = number_of names (row_at rows k).needs (called_in rec.deps) u.task rests.row.0 (placed (called_in rec.deps) u.number u.task u.named) in
      record { number = n.number; task = u.task; named = n.named; bytes = u.bytes; called = n.listed; settles = rests.ready n.number n.listed }

  led_on : (k : ℕ) (x y : List ℕ) → Needed k x → ((n : ℕ) (t : Task) → settled n ≡ true → slice_get names n ≡ Some t → x ≡ enc_task t → Led n y) → Led k y
  led_on k x y n r = from (r n.number n.task n.settles n.named n.bytes)
    where
      from : Led n.number y → Led k y
      from l = record {
        number = l.number;
        task = l.task;
        named = l.named;
        bytes = l.bytes;
        leads = step {a = k} {b = n.number} {c = l.number} n.called l.leads;
        settles = l.settles;
      }

  pub led_back : (y x : List ℕ) → Reaches (recorded names records) x y → (k : ℕ) (t : Task) → settled k ≡ true → slice_get names k ≡ Some t
      → x ≡ enc_task t → Led k y
  led_back y x arrived k t h e b = record { number = k; task = t; named = e; bytes = b; leads = itself; settles = h }
  led_back y x (along {a = c} {b = d} {r = r} now need rest) k t h e b =
      let m = s k h in
      let same : t ≡ m.0.task = one_some t m.0.task (sym e ∙ m.1.named) in
      let at : recorded names records (enc_task m.0.task) ≡ Some r = ap (recorded names records) (sym (b ∙ ap enc_task same)) ∙ now in
      led_on k d y (needed k m.0 d r m.1 at need) (λ n u i f g. led_back y d rest n u i f g)

  -- ---- writers

  module _ (required : List ℕ) (us : List Task) (e : AreNumbersOf names required us) (all : (k : ℕ) → Contains required k → settled k ≡ true) (p : Path)
    where
      -- what is visible of a number, a task wrote
      pub record Wrote (k : ℕ) : Type 0 where
        pub task : Task
        pub named : slice_get names k ≡ Some task
        pub hash : List ℕ
        pub first : hash_in (kept_of records k) p ≡ Some hash
        pub wrote : WroteByRecords (recorded names records) (map enc_task us) p (enc_task task) hash

      pub wrote_by : (k : ℕ) → Visible rows required p k → Wrote k
      wrote_by k v =
          let r = task_of names required us v.0.0 e v.0.1 in
          let h : settled v.0.0 ≡ true = all v.0.0 v.0.1 in
          let m = s k (stays_settled v.0.0 k h v.0.2) in
          let b = path_wrote m.0.writes p (subst (λ xs. Contains xs p) m.1.row.1 v.1) in
          record {
            task = m.0.task;
            named = m.1.named;
            hash = b.0;
            first = ap (λ o. hash_in o p) m.1.kept ∙ sym (first_is m.0.writes p) ∙ b.1;
            wrote = record {
              from = enc_task r.task;
              listed = named_back us r.task r.listed;
              reaches = led v.0.0 k r.task m.0.task h r.named m.1.named v.0.2;
              found = record_of m.0;
              recorded = its_record k m.0 m.1;
              wrote = b.1;
            };
          }

      -- what a task wrote is visible of its number
      pub record SeenOf (x b : List ℕ) : Type 0 where
        pub number : ℕ
        pub task : Task
        pub named : slice_get names number ≡ Some task
        pub bytes : x ≡ enc_task task
        pub visible : Visible rows required p number
        pub first : hash_in (kept_of records number) p ≡ Some b

      pub seen_of : (x b : List ℕ) → WroteByRecords (recorded names records) (map enc_task us) p x b → SeenOf x b
      seen_of x b h =
          let m = among_from us h.from h.listed in
          let n = number_of names required us m.task e (placed us m.number m.task m.named) in
          let l = led_back x h.from h.reaches n.number m.task (all n.number n.listed) n.named m.bytes in
          let r = s l.number l.settles in
          let same : l.task ≡ r.0.task = one_some l.task r.0.task (sym l.named ∙ r.1.named) in
          let found : h.found ≡ record_of r.0 =
          one_some h.found (record_of r.0)
          (sym h.recorded ∙ ap (recorded names records) (l.bytes ∙ ap enc_task same) ∙ its_record l.number r.0 r.1) in
          let f : first_write p r.0.writes ≡ Some b = ap (λ (q : Record). first_write p q.writes) (sym found) ∙ h.wrote in
          record {
            number = l.number;
            task = l.task;
            named = l.named;
            bytes = l.bytes;
            visible = ((n.number, n.listed, l.leads), subst (λ xs. Contains xs p) (sym r.1.row.1) (wrote_path r.0.writes p b f));
            first = ap (λ o. hash_in o p) r.1.kept ∙ sym (first_is r.0.writes p) ∙ f;
          }

      pub is_told : (seen : RowsSeen) → IsOnly (Visible rows required p) seen
          → IsTold (WroteByRecords (recorded names records) (map enc_task us) p) (seen_told records p seen)
      is_told Absent none = λ x b h. let v = seen_of x b h in none v.number v.visible
      is_told (By one) only =
          let w = wrote_by one.0 only.0 in
          subst (λ o. IsTold (WroteByRecords (recorded names records) (map enc_task us) p) (hash_told o)) (sym w.first) (record {
            writer = enc_task w.task;
            wrote = w.wrote;
            only = λ y k h.
                let v = seen_of y k h in
                let i = only.1 v.number v.visible in
                let same : v.task ≡ w.task = one_some v.task w.task (sym v.named ∙ ap (slice_get names) i ∙ w.named) in
                (v.bytes ∙ ap enc_task same, one_some k w.hash (sym v.first ∙ ap (λ n. hash_in (kept_of records n) p) i ∙ w.first));
          })
      is_told Clash two =
          let v = wrote_by two.0 two.2 in
          let w = wrote_by two.1 two.3 in
          record {
            first = enc_task v.task;
            second = enc_task w.task;
            first_hash = v.hash;
            second_hash = w.hash;
            first_wrote = v.wrote;
            second_wrote = w.wrote;
            distinct = λ h.
                let same : v.task ≡ w.task = tasks_told v.task w.task (canonical_at names a two.0 v.task v.named) (canonical_at names a two.1 w.task w.named) h in
                two.4 (one_place names a two.0 two.1 v.task v.named (w.named ∙ ap Some (sym same)));
          }
