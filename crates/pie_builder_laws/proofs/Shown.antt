-- What the rows of a graph show is what the kept contents show.
use Rattle.std.proofs.Common.{◌≡◌, ◌⊎◌, inl, inr, ℕ, ◌<◌, ◌≤◌, Bool, true, false, cond, Option, Some, None, List, [], ◌∷◌, map, length, bytes_eq}
use Rattle.std.proofs.Common.{refl, sym, ap, subst, ◌∙◌}
use Rattle.std.specs.Prelude.{slice_get, option_map, get_or, unwrap_or, Contains}
use Rattle.std.proofs.lemmas.Option.{slice_get_past, slice_get_cases, unwrap_or-slice_get}
use Rattle.pie_value.specs.declared.task.Task.{Task}
use Rattle.pie_value.specs.Canonical.{enc_task}
use Rattle.pie_graph.specs.Rows.{Row, row_at, no_edges, Calls, Writes}
use Rattle.pie_reach.specs.inner.Reaches.{Reaches as RowsReach}
use Rattle.pie_reach.specs.inner.Reaches.Leads.{itself, step}
use Rattle.pie_record.specs.declared.records.Records.{Records}
use Rattle.pie_record.specs.declared.task_record.TaskRecord.{TaskRecord}
use Rattle.pie_record.specs.inner.Records.{record_of as kept_of}
use Rattle.pie_view.specs.declared.seen.Seen.{Seen as RowsSeen}
use Rattle.pie_view.specs.declared.seen.Seen.TheVariants.{Absent, By, Clash}
use Rattle.pie_view.specs.Seen.{Visible, IsOnly}
use Rattle.pie_model.specs.Paths.{Path, among}
use Rattle.pie_model.specs.Seen.{first_write, seen_file}
use Rattle.pie_model.specs.Records.{Record, needs_of}
use Rattle.pie_model.specs.inner.Present.{Reaches}
use Rattle.pie_model.specs.inner.Present.Way.{here as arrived, along}
use Rattle.pie_model.proofs.Basics.{same_bytes, bytes_same}
use Rattle.pie_step_laws.specs.Contents.{WroteContents, IsShown}
use Rattle.pie_check_laws.proofs.Members.{none_in, here, there, here_or_there, into_map, from_map}
use Rattle.pie_model_pipeline.specs.Rows.{record_of}
use Rattle.pie_model_pipeline.proofs.Joining.{tasks_told}
use Rattle.pie_builder_laws.specs.Names.{AreTasks, called_in}
use Rattle.pie_builder_laws.specs.Tables.{record_at, recorded, Kept, kept}
use Rattle.pie_builder_laws.specs.Views.{AreNumbersOf, RowRequires, AreRowsOf, unmarked, shown}
use Rattle.pie_builder_laws.proofs.Naming.{placed, among_from, canonical_at, named_back, one_place}
use Rattle.pie_builder_laws.proofs.Tabled.{needs_called, record_by_number, contents_by_number}

some_one : {X : Type 0} (x y : X) → Some x ≡ Some y → x ≡ y
some_one x y h = cc

-- ---- numbers and tasks

-- a number among some is that of a task among theirs
record HasTask (names : List Task) (ts : List Task) (n : ℕ) : Type 0 where
  task : Task
  listed : Contains ts task
  named : slice_get names n ≡ Some task

task_of : (names : List Task) (ns : List ℕ) (ts : List Task) (n : ℕ) → AreNumbersOf names ns ts → Contains ns n → HasTask names ts n
task_of names ns ts n e h =
    let m = from_map Some ts (slice_get names n) (subst (λ xs. Contains xs (slice_get names n)) e (into_map (slice_get names) ns n h)) in
    record { task = m.0; listed = m.1; named = sym m.2 }

-- a task among some is that of a number among theirs
record HasNumber (names : List Task) (ns : List ℕ) (t : Task) : Type 0 where
  number : ℕ
  listed : Contains ns number
  named : slice_get names number ≡ Some t

number_of : (names : List Task) (ns : List ℕ) (ts : List Task) (t : Task) → AreNumbersOf names ns ts → Contains ts t → HasNumber names ns t
number_of names ns ts t e h =
    let m = from_map (slice_get names) ns (Some t) (subst (λ xs. Contains xs (Some t)) (sym e) (into_map Some ts t h)) in
    record { number = m.0; listed = m.1; named = m.2 }

-- ---- writes

abbrev paths_in : List (Path × List ℕ) → List Path
paths_in ws = map (λ (w : Path × List ℕ). w.0) ws

pub wrote_path : (ws : List (Path × List ℕ)) (p : Path) (b : List ℕ) → first_write p ws ≡ Some b → Contains (paths_in ws) p
wrote_path [] p b h = absurd (no h)
  where
    no : None ≡ Some b → ⊥
    no e = cc
wrote_path (w ∷ ws) p b h = by (bytes_eq p w.0) refl h (wrote_path ws p b)
  where
    by : (t : Bool) → bytes_eq p w.0 ≡ t → cond t (Some w.1) (first_write p ws) ≡ Some b → (first_write p ws ≡ Some b → Contains (paths_in ws) p)
        → Contains (w.0 ∷ paths_in ws) p
    by true e k r = subst (λ z. Contains (w.0 ∷ paths_in ws) z) (sym (same_bytes p w.0 e)) (here w.0 (paths_in ws))
    by false e k r = there w.0 p (paths_in ws) (r k)

pub path_wrote : (ws : List (Path × List ℕ)) (p : Path) → Contains (paths_in ws) p → (b : List ℕ) × (first_write p ws ≡ Some b)
path_wrote [] p h = absurd (none_in p h)
path_wrote (w ∷ ws) p h = by (bytes_eq p w.0) refl (here_or_there w.0 p (paths_in ws) h) (path_wrote ws p)
  where
    by : (t : Bool) → bytes_eq p w.0 ≡ t → (w.0 ≡ p) ⊎ Contains (paths_in ws) p
        → (Contains (paths_in ws) p → (b : List ℕ) × (first_write p ws ≡ Some b)) → (b : List ℕ) × (cond t (Some w.1) (first_write p ws) ≡ Some b)
    by true e k r = (w.1, refl)
    by false e (inl k) r = absurd (not_same (sym (subst (λ z. bytes_eq p z ≡ true) (sym k) (bytes_same p)) ∙ e))
      where
        not_same : true ≡ false → ⊥
        not_same f = cc
    by false e (inr k) r = r k

module _ (names : List Task) (records : Records) (contents : Kept) (rows : List Row) (a : AreTasks names) (g : AreRowsOf names records contents rows) where
  -- ---- ways

  -- what a row requires, its record does
  record Requires (k : ℕ) (n : ℕ) : Type 0 where
    rec : TaskRecord
    kept : kept_of records k ≡ Some rec
    task : Task
    named : slice_get names n ≡ Some task
    listed : Contains (called_in rec.deps) task

  requires : (k n : ℕ) → Calls rows k n → Requires k n
  requires k n c = by (kept_of records k) refl (g.needs k)
    where
      by : (o : Option TaskRecord) → kept_of records k ≡ o → RowRequires names (row_at rows k) o → Requires k n
      by None e h = absurd (none_in n (subst (λ xs. Contains xs n) h c))
      by (Some rec) e h =
          let m = task_of names (row_at rows k).needs (called_in rec.deps) n h c in
          record { rec = rec; kept = e; task = m.task; named = m.named; listed = m.listed }

  led : (k n : ℕ) (t u : Task) → slice_get names k ≡ Some t → slice_get names n ≡ Some u → RowsReach rows k n
      → Reaches (recorded names records) (enc_task t) (enc_task u)
  led k n t u e f (itself {a = x}) =
      subst (λ z. Reaches (recorded names records) (enc_task t) (enc_task z)) (some_one t u (sym e ∙ f)) arrived
  led k n t u e f (step {a = x} {b = y} {c = z} first rest) =
      let r = requires k y first in
      along {a = enc_task t} {b = enc_task r.task} {r = record_of r.rec} (record_by_number names records k t a e ∙ ap (λ o. option_map record_of o) r.kept)
      (subst (λ xs. among (enc_task r.task) xs ≡ true) (sym (needs_called r.rec.deps)) (named_back (called_in r.rec.deps) r.task r.listed))
      (led y n r.task u r.named f rest)

  -- a task that is reached from a task with a number has one too
  record Led (k : ℕ) (x : List ℕ) : Type 0 where
    number : ℕ
    task : Task
    named : slice_get names number ≡ Some task
    bytes : x ≡ enc_task task
    leads : RowsReach rows k number

  -- the record of a numbered task
  record Recorded (k : ℕ) (r : Record) : Type 0 where
    rec : TaskRecord
    kept : kept_of records k ≡ Some rec
    same : r ≡ record_of rec

  record_under : (k : ℕ) (r : Record) → record_at records k ≡ Some r → Recorded k r
  record_under k r = by (kept_of records k) refl
    where
      by : (o : Option TaskRecord) → kept_of records k ≡ o → option_map record_of o ≡ Some r → Recorded k r
      by None e h = cc
      by (Some rec) e h = record { rec = rec; kept = e; same = sym (some_one (record_of rec) r h) }

  -- a task that a numbered one requires, with its number
  record Needed (k : ℕ) (x : List ℕ) : Type 0 where
    number : ℕ
    task : Task
    named : slice_get names number ≡ Some task
    bytes : x ≡ enc_task task
    called : Calls rows k number

  needed : (k : ℕ) (t : Task) (x y : List ℕ) (r : Record) → slice_get names k ≡ Some t → x ≡ enc_task t → recorded names records x ≡ Some r
      → among y (needs_of r.observations) ≡ true → Needed k y
  needed k t x y r e b now need =
      let m = record_under k r (sym (record_by_number names records k t a e) ∙ ap (recorded names records) (sym b) ∙ now) in
      let deps = m.rec.deps in
      let u = among_from (called_in deps) y (subst (λ xs. among y xs ≡ true) (ap (λ (q : Record). needs_of q.observations) m.same ∙ needs_called deps) need) in
      let n = number_of names (row_at rows k).needs (called_in deps) u.task (subst (RowRequires names (row_at rows k)) m.kept (g.needs k))
      (placed (called_in deps) u.number u.task u.named) in
      record { number = n.number; task = u.task; named = n.named; bytes = u.bytes; called = n.listed }

  led_on : (k : ℕ) (x y : List ℕ) → Needed k x → ((n : ℕ) (t : Task) → slice_get names n ≡ Some t → x ≡ enc_task t → Led n y) → Led k y
  led_on k x y n r = from (r n.number n.task n.named n.bytes)
    where
      from : Led n.number y → Led k y
      from l =
          record { number = l.number; task = l.task; named = l.named; bytes = l.bytes; leads = step {a = k} {b = n.number} {c = l.number} n.called l.leads }

  led_back : (y x : List ℕ) → Reaches (recorded names records) x y → (k : ℕ) (t : Task) → slice_get names k ≡ Some t → x ≡ enc_task t → Led k y
  led_back y x arrived k t e b = record { number = k; task = t; named = e; bytes = b; leads = itself }
  led_back y x (along {a = c} {b = d} {r = r} now need rest) k t e b = led_on k d y (needed k t x d r e b now need) (λ n u f h. led_back y d rest n u f h)

  -- ---- writers

  -- a number with a write is that of a task
  writer_named : (k : ℕ) (p : Path) → Writes rows k p → (u : Task) × (slice_get names k ≡ Some u)
  writer_named k p h = by (slice_get_cases names k).1
    where
      past : length rows ≤ k → no_edges ≡ row_at rows k
      past l = ap (λ o. unwrap_or o no_edges) (sym (slice_get_past rows k l)) ∙ unwrap_or-slice_get rows k no_edges

      empty : length rows ≤ k → (row_at rows k).writes ≡ []
      empty l = ap (λ (r : Row). r.writes) (sym (past l))

      by : ((u : Task) × (k < length names) × (slice_get names k ≡ Some u) × (get_or names k u ≡ u)) ⊎ ((length names ≤ k) × (slice_get names k ≡ None))
          → (u : Task) × (slice_get names k ≡ Some u)
      by (inl m) = (m.0, m.2)
      by (inr m) = absurd (none_in p (subst (λ xs. Contains xs p) (empty (subst (λ n. n ≤ k) (sym g.as_many) m.0)) h))

  module _ (required : List ℕ) (us : List Task) (e : AreNumbersOf names required us) (p : Path) where
    abbrev W : List ℕ → List ℕ → Type 0
    W = WroteContents (recorded names records) (kept names contents) (map enc_task us) p

    -- what is visible of a number, a task wrote
    record Wrote (k : ℕ) : Type 0 where
      task : Task
      named : slice_get names k ≡ Some task
      bytes : List ℕ
      first : first_write p (contents k) ≡ Some bytes
      wrote : W (enc_task task) bytes

    wrote_by : (k : ℕ) → Visible rows required p k → Wrote k
    wrote_by k v =
        let u = writer_named k p v.1 in
        let b = path_wrote (contents k) p (subst (λ xs. Contains xs p) (g.writes k) v.1) in
        let r = task_of names required us v.0.0 e v.0.1 in
        record {
          task = u.0;
          named = u.1;
          bytes = b.0;
          first = b.1;
          wrote = record {
            from = enc_task r.task;
            listed = named_back us r.task r.listed;
            reaches = led v.0.0 k r.task u.0 r.named u.1 v.0.2;
            wrote = ap (first_write p) (contents_by_number names contents k u.0 a u.1) ∙ b.1;
          };
        }

    -- what a task wrote is visible of its number
    record Seen_of (x b : List ℕ) : Type 0 where
      number : ℕ
      task : Task
      named : slice_get names number ≡ Some task
      bytes : x ≡ enc_task task
      visible : Visible rows required p number
      first : first_write p (contents number) ≡ Some b

    seen_of : (x b : List ℕ) → W x b → Seen_of x b
    seen_of x b h =
        let m = among_from us h.from h.listed in
        let n = number_of names required us m.task e (placed us m.number m.task m.named) in
        let l = led_back x h.from h.reaches n.number m.task n.named m.bytes in
        let f = ap (first_write p) (sym (contents_by_number names contents l.number l.task a l.named) ∙ ap (kept names contents) (sym l.bytes)) ∙ h.wrote in
        record {
          number = l.number;
          task = l.task;
          named = l.named;
          bytes = l.bytes;
          visible = ((n.number, n.listed, l.leads), subst (λ xs. Contains xs p) (sym (g.writes l.number)) (wrote_path (contents l.number) p b f));
          first = f;
        }

    pub is_shown : (seen : RowsSeen) → IsOnly (Visible rows required p) seen → IsShown W (shown contents p seen)
    is_shown Absent none = λ x b h. let s = seen_of x b h in none s.number s.visible
    is_shown (By one) only =
        let w = wrote_by one.0 only.0 in
        subst (λ o. IsShown W (seen_file (unmarked o))) (sym w.first) (
          record {
            writer = enc_task w.task;
            wrote = w.wrote;
            only = λ y k h.
                let s = seen_of y k h in
                let i = only.1 s.number s.visible in
                let same : s.task ≡ w.task = some_one s.task w.task (sym s.named ∙ ap (slice_get names) i ∙ w.named) in
                (s.bytes ∙ ap enc_task same, some_one k w.bytes (sym s.first ∙ ap (λ n. first_write p (contents n)) i ∙ w.first));
          },
          refl,
        )
    is_shown Clash two =
        let v = wrote_by two.0 two.2 in
        let w = wrote_by two.1 two.3 in
        record {
          first = enc_task v.task;
          second = enc_task w.task;
          first_hash = v.bytes;
          second_hash = w.bytes;
          first_wrote = v.wrote;
          second_wrote = w.wrote;
          distinct = λ h.
              let same : v.task ≡ w.task = tasks_told v.task w.task (canonical_at names a two.0 v.task v.named) (canonical_at names a two.1 w.task w.named) h in
              two.4 (one_place names a two.0 two.1 v.task v.named (w.named ∙ ap Some (sym same)));
        }
