-- What settled roots reach has ended, and what is kept of it are the rows of the model.
use Rattle.std.proofs.Common.{◌≡◌, ◌⊎◌, inl, inr, ℕ, ◌+◌, ◌<◌, ◌≤◌, max, true, Option, Some, None, List, [], ◌∷◌, ◌++◌, map, length, refl, sym}
use Rattle.std.proofs.Common.{ap, subst, ◌∙◌, arith}
use Rattle.std.specs.Prelude.{slice_get, slice_index_or, option_map, get_or, take, drop, All, Contains}
use Rattle.std.specs.List.{AllPairs, flat_map}
use Rattle.std.proofs.lemmas.Option.{slice_get_cases, slice_get-map, get_or_from_slice_get}
use Rattle.std.proofs.lemmas.List.{length-map, take-append-drop}
use Rattle.std.proofs.lemmas.List.Elements.{All-contains, All-contains_itself, Contains-append_left}
use Rattle.pie_value.specs.declared.task.Task.{Task}
use Rattle.pie_value.specs.declared.value.Value.{Value}
use Rattle.pie_value.specs.declared.verdict.Refusal.{Refusal}
use Rattle.pie_value.specs.declared.verdict.Verdict.{Verdict}
use Rattle.pie_value.specs.declared.verdict.Verdict.TheVariants.{Accepted, Refused}
use Rattle.pie_value.specs.Values.{tree_of}
use Rattle.pie_value.specs.Canonical.{enc, enc_task}
use Rattle.pie_record.specs.declared.dep.Dep.{Dep}
use Rattle.pie_record.specs.declared.dep.DepOn.{DepOn}
use Rattle.pie_record.specs.declared.dep.DepOn.TheVariants.{File, Called}
use Rattle.pie_record.specs.declared.records.Records.{Records}
use Rattle.pie_record.specs.declared.task_record.Outcome.{Outcome}
use Rattle.pie_record.specs.declared.task_record.Outcome.TheVariants.{Done, Failed, Cycled}
use Rattle.pie_record.specs.declared.task_record.TaskRecord.{TaskRecord}
use Rattle.pie_record.specs.inner.Records.{record_of as kept_of}
use Rattle.pie_tables.specs.declared.tables.Tables.{Tables}
use Rattle.pie_view.specs.Content.{Staged}
use Rattle.pie_store.specs.Canonical.{tasks_in, required_on, needs, over as over_tasks, RowBefore, AreInOrder}
use Rattle.pie_checks.specs.declared.built.Built.{Built}
use Rattle.pie_results.specs.inner.Failures.{is_done as ended_well, FailsFirst}
use Rattle.pie_results.specs.inner.Live.{AreLive}
use Rattle.pie_results.specs.inner.Made.{Collects, EndsAs, Checks, GoesOn, Makes}
use Rattle.pie_results.specs.inner.Ordered.{IsOfLive, AreRecords}
use Rattle.pie_results.specs.inner.Outputs.{IsOutput, IsDone, AreOutputs}
use Rattle.pie_results.specs.inner.Stored.{IsEnded, HaveEnded, CanBeStored, StoredWhere}
use Rattle.pie_walk.specs.Marks.{mark_of, IsSettled}
use Rattle.pie_walk.specs.States.{WalkState}
use Rattle.pie_walk.specs.Standing.{Stands}
use Rattle.pie_model.specs.Paths.{among}
use Rattle.pie_model.specs.Trees.{outcome_of as outcome_in_tree, is_done as ends_well}
use Rattle.pie_model.specs.Evaluation.{evaluation}
use Rattle.pie_model.specs.Records.{Record, needs_of}
use Rattle.pie_model.specs.Built.{store_rows}
use Rattle.pie_model.proofs.Basics.{among_here, among_there}
use Rattle.pie_step_laws.specs.Rows.{over, AreHeights, ComesBefore, AreRows as AreStoreRows}
use Rattle.pie_step_laws.specs.Roots.{Between}
use Rattle.pie_step_laws.proofs.RowLemmas.{rows_stored}
use Rattle.pie_settle_laws.specs.Ends.{recorded_among}
use Rattle.pie_settle_laws.proofs.Ending.{record_listed}
use Rattle.pie_check_laws.proofs.Members.{none_in, here, there, here_or_there, into_map, from_map}
use Rattle.pie_model_pipeline.specs.Rows.{outcome_of, record_of}
use Rattle.pie_model_pipeline.specs.Clean.{output_in, with_output, output_bytes}
use Rattle.pie_model_pipeline.specs.World.{world}
use Rattle.pie_builder_laws.specs.Names.{called_on, called_in, under_name}
use Rattle.pie_builder_laws.specs.Tables.{recorded}
use Rattle.pie_builder_laws.proofs.Naming.{placed, one_place, distinct_names, under_number}
use Rattle.pie_builder_laws.proofs.Tabled.{needs_called, record_by_number}
use Rattle.pie_compare_laws.proofs.Ways.{one_some, settled_named, stays_settled}
use Rattle.pie_core_laws.specs.Update.{Update, present}
use Rattle.pie_core_laws.specs.Exact.{is_done, IsExact}
use Rattle.pie_core_laws.specs.Keeping.{Separates}
use Rattle.pie_core_laws.specs.Ends.{IsDoneRoot, entered_by}
use Rattle.pie_core_laws.proofs.Exactly as exactly
use Rattle.pie_core_laws.proofs.Kept.{settled_done, done_settled, settled_rests}
use Rattle.pie_core_laws.proofs.Seen.{record_now}
use Rattle.pie_core_laws.proofs.Rooted.{roots_between}
use Rattle.pie_result_laws.specs.Verdicts.{RootsSettle}
use Rattle.pie_result_laws.specs.Accepted.{HasClean}
use Rattle.pie_result_laws.proofs.Living as living
use Rattle.pie_result_laws.proofs.Failing.{all_done}

-- ---- lists

all_by : {X : Type 0} (Q : X → Type 0) (xs : List X) → ((x : X) → Contains xs x → Q x) → All Q xs
all_by Q xs f k d l = f (slice_index_or xs k d) (All-contains_itself xs k d l)

contains_among : (xs : List (List ℕ)) (x : List ℕ) → Contains xs x → among x xs ≡ true
contains_among [] x h = absurd (none_in x h)
contains_among (y ∷ ys) x h = by (here_or_there y x ys h) (contains_among ys x)
  where
    by : (y ≡ x) ⊎ Contains ys x → (Contains ys x → among x ys ≡ true) → among x (y ∷ ys) ≡ true
    by (inl e) r = subst (λ z. among z (y ∷ ys) ≡ true) e (among_here y ys)
    by (inr k) r = among_there x y ys (r k)

in_front : {X : Type 0} (xs : List X) (n : ℕ) (x : X) → Contains (take n xs) x → Contains xs x
in_front xs n x h = subst (λ ys. Contains ys x) (take-append-drop n xs) (Contains-append_left (take n xs) (drop n xs) x h)

-- what holds of each two elements of a list holds of those of a mapped one
pairs_mapped : {X Y : Type 0} (f : X → Y) (Q : X → X → Type 0) (S : Y → Y → Type 0) (xs : List X)
    → ((x y : X) → Contains xs x → Contains xs y → Q x y → S (f x) (f y)) → AllPairs Q xs → AllPairs S (map f xs)
pairs_mapped {X} {Y} f Q S xs to q i j d l m = by (slice_get_cases xs i).1 (slice_get_cases xs j).1
  where
    within : j < length xs
    within = subst (λ n. j < n) (length-map xs f) m

    at : (k : ℕ) (x : X) → slice_get xs k ≡ Some x → f x ≡ slice_index_or (map f xs) k d
    at k x e = sym (get_or_from_slice_get (map f xs) k (f x) d (slice_get-map f xs k ∙ ap (option_map f) e))

    by : ((x : X) × (i < length xs) × (slice_get xs i ≡ Some x) × (get_or xs i x ≡ x)) ⊎ ((length xs ≤ i) × (slice_get xs i ≡ None))
        → ((y : X) × (j < length xs) × (slice_get xs j ≡ Some y) × (get_or xs j y ≡ y)) ⊎ ((length xs ≤ j) × (slice_get xs j ≡ None))
        → S (slice_index_or (map f xs) i d) (slice_index_or (map f xs) j d)
    by (inl x) (inl y) =
        let h : Q x.0 y.0 = subst (λ (z : X × X). Q z.0 z.1) (λ k. (get_or_from_slice_get xs i x.0 x.0 x.2 k, get_or_from_slice_get xs j y.0 x.0 y.2 k))
        (q i j x.0 l within) in
        subst (λ (z : Y × Y). S z.0 z.1) (λ k. (at i x.0 x.2 k, at j y.0 y.2 k)) (to x.0 y.0 (placed xs i x.0 x.2) (placed xs j y.0 y.2) h)
    by (inl x) (inr y) = absurd (omega (arith, within, y.0))
    by (inr x) y = absurd (omega (arith, within, l, x.0))

-- ---- what is required

calls : (deps : List Dep) → flat_map (λ (d : Dep). required_on d.what) deps ≡ called_in deps
calls [] = refl
calls (d ∷ ds) = by d.what (calls ds)
  where
    by : (what : DepOn) → flat_map (λ (x : Dep). required_on x.what) ds ≡ called_in ds
        → required_on what ++ flat_map (λ (x : Dep). required_on x.what) ds ≡ called_on what ++ called_in ds
    by (File p) r = r
    by (Called t) r = ap (λ ts. t ∷ ts) r

over_same : (g : Task → ℕ) (h : List ℕ → ℕ) (us : List Task) (n : ℕ) → ((u : Task) → Contains us u → h (enc_task u) ≡ g u)
    → over_tasks g us n ≡ over h (map enc_task us) n
over_same g h [] n same = refl
over_same g h (u ∷ us) n same =
    over_same g h us (max n (g u + 1)) (λ x i. same x (there u x us i)) ∙ ap (λ k. over h (map enc_task us) (max n (k + 1))) (sym (same u (here u us)))

-- the height of a named task
abbrev height_at : (Task → ℕ) → Option Task → ℕ
height_at g None = 0
height_at g (Some t) = g t

-- ---- ends

pub well_done : (o : Outcome) → ends_well (outcome_of o) ≡ true → ended_well o ≡ true
well_done (Done v) h = refl
well_done (Failed f) h = h
well_done (Cycled ts) h = h

value_of : (o : Outcome) → ends_well (outcome_of o) ≡ true → (v : Value) × (o ≡ Done v)
value_of (Done v) h = (v, refl)
value_of (Failed f) h = cc
value_of (Cycled ts) h = cc

module _ (u : Update) (names : List Task) (records : Records) (s : WalkState) (roots : List Task) (e : IsExact u names records s) (w : Stands s)
    (apart : Separates u) (all : (r : Task) → Contains roots r → IsDoneRoot names records s r) where
  abbrev now : List ℕ → Option Record
  now = recorded_among (entered_by u roots) (recorded names records)

  between : Between world (present u) (map enc_task roots) now (entered_by u roots)
  between = roots_between u names records s roots e w apart all

  module _ (live : List ℕ) (alive : AreLive names roots s.rows live) where
    -- a live number: its task is entered and settled, and has a record that is done
    pub record IsLiving (n : ℕ) : Type 0 where
      pub task : Task
      pub named : slice_get names n ≡ Some task
      pub listed : among (enc_task task) (entered_by u roots) ≡ true
      pub settled : is_done s n ≡ true
      pub rec : TaskRecord
      pub kept : kept_of records n ≡ Some rec
      pub same : rec.task ≡ task
      pub has : now (enc_task task) ≡ Some (record_of rec)
      pub done : ends_well (outcome_of rec.outcome) ≡ true

    pub lives : (n : ℕ) → Contains live n → IsLiving n
    lives n h =
        let q = alive.exactly.only n h in
        let r = alive.are.only q.0 q.1 in
        let d = all r.0 r.1 in
        let one : d.number ≡ q.0 = one_place names e.tasks d.number q.0 r.0 d.named r.2 in
        let begun : is_done s q.0 ≡ true = settled_done s q.0 (subst (IsSettled s.marks) one d.output.settled) in
        let rests = settled_rests u names records s e w in
        let settled : is_done s n ≡ true = stays_settled names records s.rows (is_done s) e.tasks rests q.0 n begun q.2 in
        let t = settled_named names records s.rows (is_done s) e.tasks rests n settled in
        let k = e.ended n (done_settled s n settled) in
        let same : k.0.task ≡ t.0 = one_some k.0.task t.0 (sym (e.named n k.0 k.1) ∙ t.1) in
        let listed = living.live_entered u names records s roots e w apart all live alive n t.0 h t.1 in
        let has : now (enc_task t.0) ≡ Some (record_of k.0) =
        record_listed (entered_by u roots) (recorded names records) (enc_task t.0) listed ∙ record_by_number names records n t.0 e.tasks t.1
        ∙ ap (option_map record_of) k.1 in
        record {
          task = t.0;
          named = t.1;
          listed = listed;
          settled = settled;
          rec = k.0;
          kept = k.1;
          same = same;
          has = has;
          done = ap (λ (z : Record). ends_well z.outcome) (between.rests.table.right (enc_task t.0) (record_of k.0) has)
              ∙ between.rests.table.done (enc_task t.0) (record_of k.0) has;
        }

    pub live_ended : (n : ℕ) → Contains live n → IsEnded names records s.rows n
    live_ended n h =
        let m = lives n h in
        let row = e.rows n m.rec m.kept (exactly.settled_not_runs (mark_of s.marks n) (done_settled s n m.settled)) in
        record {
          rec = m.rec;
          kept = m.kept;
          done = well_done m.rec.outcome m.done;
          needs = row.0 ∙ ap (map Some) (sym (calls m.rec.deps));
        }

    -- ---- rows

    module _ (heights : List ℕ) (rows : List TaskRecord) (R : AreRecords names records heights live rows) (order : AreInOrder rows) where
      abbrev tall : List ℕ → ℕ
      tall = under_name 0 (λ n. height_at order.height (slice_get names n)) 0 names

      tall_is : (n : ℕ) (t : Task) → slice_get names n ≡ Some t → tall (enc_task t) ≡ order.height t
      tall_is n t i =
          under_number 0 (λ k. height_at order.height (slice_get names k)) 0 names n t (distinct_names names e.tasks) i
          ∙ ap (λ k. height_at order.height (slice_get names k)) (omega arith) ∙ ap (height_at order.height) i

      -- a row is the record of a live number
      of_live : (rec : TaskRecord) → Contains rows rec → IsOfLive records live rec
      of_live rec h = All-contains (IsOfLive records live) rows rec R.only h

      row_tall : (rec : TaskRecord) → Contains rows rec → tall (enc_task rec.task) ≡ order.height rec.task
      row_tall rec h = let m = of_live rec h in tall_is m.number rec.task (e.named m.number rec m.found)

      need_tall : (rec : TaskRecord) → Contains rows rec → (v : Task) → Contains (needs rec) v → tall (enc_task v) ≡ order.height v
      need_tall rec h v i =
          let before = subst (λ (x : TaskRecord). All (λ (t : Task). Contains (tasks_in (take h.0 rows)) t) (needs x)) h.2 (order.earlier h.0 rec h.1) in
          let m = from_map (λ (x : TaskRecord). x.task) (take h.0 rows) v
          (All-contains (λ (t : Task). Contains (tasks_in (take h.0 rows)) t) (needs rec) v before i) in
          subst (λ z. tall (enc_task z) ≡ order.height z) m.2 (row_tall m.0 (in_front rows h.0 m.0 m.1))

      -- an entered task has a row
      record HasRow (x : List ℕ) : Type 0 where
        rec : TaskRecord
        bytes : x ≡ enc_task rec.task
        row : Contains rows rec
        is : now x ≡ Some (record_of rec)

      row_of : (x : List ℕ) → among x (entered_by u roots) ≡ true → HasRow x
      row_of x i =
          let a = living.entered_alive u names records s roots e w apart all live alive x i in
          let m = lives a.number a.lives in
          let same : a.task ≡ m.task = one_some a.task m.task (sym a.named ∙ m.named) in
          let bytes : x ≡ enc_task m.rec.task = a.bytes ∙ ap enc_task (same ∙ sym m.same) in
          record {
            rec = m.rec;
            bytes = bytes;
            row = R.each a.number m.rec a.lives m.kept (well_done m.rec.outcome m.done);
            is = ap now (a.bytes ∙ ap enc_task same) ∙ m.has;
          }

      heights_are : AreHeights now tall
      heights_are x q i =
          let m = row_of x (between.rests.table.counted x q i) in
          let same : q ≡ record_of m.rec = one_some q (record_of m.rec) (sym i ∙ m.is) in
          ap tall m.bytes ∙ row_tall m.rec m.row
          ∙ All-contains (λ (y : TaskRecord). order.height y.task ≡ over_tasks order.height (needs y) 0) rows m.rec order.heights m.row
          ∙ over_same order.height tall (needs m.rec) 0 (need_tall m.rec m.row)
          ∙ ap (λ us. over tall (map enc_task us) 0) (calls m.rec.deps) ∙ ap (λ us. over tall us 0) (sym (needs_called m.rec.deps))
          ∙ ap (λ (z : Record). over tall (needs_of z.observations) 0) (sym same)

      row_kept : (rec : TaskRecord) → Contains rows rec → now (enc_task rec.task) ≡ Some (record_of rec)
      row_kept rec h =
          let q = of_live rec h in
          let m = lives q.number q.is_live in
          let same : m.rec ≡ rec = one_some m.rec rec (sym m.kept ∙ q.found) in
          subst (λ (z : TaskRecord). now (enc_task z.task) ≡ Some (record_of z)) same (ap (λ z. now (enc_task z)) m.same ∙ m.has)

      before_is : (x y : TaskRecord) → Contains rows x → Contains rows y → RowBefore order.height x y → ComesBefore tall (enc_task x.task) (enc_task y.task)
      before_is x y h k (inl l) = inl (subst (λ (z : ℕ × ℕ). z.0 < z.1) (λ i. (sym (row_tall x h) i, sym (row_tall y k) i)) l)
      before_is x y h k (inr m) = inr (row_tall x h ∙ m.0 ∙ sym (row_tall y k), m.1)

      all_there : (x : List ℕ) → among x (entered_by u roots) ≡ true → among x (map (λ (z : Record). z.task) (map record_of rows)) ≡ true
      all_there x i =
          let m = row_of x i in
          subst (λ z. among z (map (λ (y : Record). y.task) (map record_of rows)) ≡ true) (sym m.bytes)
          (contains_among (map (λ (y : Record). y.task) (map record_of rows)) (enc_task m.rec.task)
          (into_map (λ (y : Record). y.task) (map record_of rows) (record_of m.rec) (into_map record_of rows m.rec m.row)))

      are_rows : AreStoreRows now (entered_by u roots) tall (map record_of rows)
      are_rows = record {
        kept = all_by (λ (z : Record). now z.task ≡ Some z) (map record_of rows)
            (λ z h. let m = from_map record_of rows z h in subst (λ (y : Record). now y.task ≡ Some y) m.2 (row_kept m.0 m.1));
        whole = all_there;
        ascending = pairs_mapped record_of (RowBefore order.height) (λ (y z : Record). ComesBefore tall y.task z.task) rows before_is order.ascending;
      }

      pub rows_are : map record_of rows ≡ store_rows world (present u) (map enc_task roots)
      rows_are = rows_stored world (present u) (map enc_task roots) now (entered_by u roots) tall (map record_of rows) between heights_are are_rows

  pub have_ended : HaveEnded names records s.rows roots
  have_ended = record {
    named = all_by (Contains names) roots (λ r i. let d = all r i in placed names d.number r d.named);
    ended = live_ended;
  }

  -- ---- outputs

  pub each_done : All (IsDone names records) roots
  each_done = all_by (IsDone names records) roots its
    where
      its : (r : Task) → Contains roots r → IsDone names records r
      its r i =
          let d = all r i in
          let v = value_of d.output.rec.outcome d.output.gave in
          record {
            named = placed names d.number r d.named;
            gave = λ n at. (
              v.0,
              record {
                rec = d.output.rec;
                kept = ap (kept_of records) (one_place names e.tasks n d.number r at d.named) ∙ d.output.kept;
                gave = v.1;
              },
            );
          }

  output_is : (o : Task × Value) → Contains roots o.0 → IsOutput names records o
      → enc (tree_of o.1) ≡ output_in (outcome_in_tree (evaluation world (present u) (enc_task o.0)))
  output_is o i h =
      let d = all o.0 i in
      let one : d.number ≡ h.number = one_place names e.tasks d.number h.number o.0 d.named h.named in
      let same : h.gave.rec.task ≡ o.0 = one_some h.gave.rec.task o.0 (sym (e.named h.number h.gave.rec h.gave.kept) ∙ h.named) in
      ap (λ (x : Outcome). output_in (outcome_of x)) (sym h.gave.gave)
      ∙ ap (λ (z : Record). output_in z.outcome)
      (record_now u names records s e w apart h.number h.gave.rec (subst (IsSettled s.marks) one d.output.settled) h.gave.kept)
      ∙ ap (λ (z : Task). output_in (outcome_in_tree (evaluation world (present u) (enc_task z)))) same

  outputs_by : (outputs : List (Task × Value))
      → ((o : Task × Value) → Contains outputs o → enc (tree_of o.1) ≡ output_in (outcome_in_tree (evaluation world (present u) (enc_task o.0))))
      → map output_bytes outputs ≡ map (with_output u.functions u.directory) (map enc_task (map (λ (o : Task × Value). o.0) outputs))
  outputs_by [] h = refl
  outputs_by (o ∷ os) h = both _ _ _ _ (λ i. (enc_task o.0, h o (here o os) i)) (outputs_by os (λ x k. h x (there o x os k)))
    where
      both : {X : Type 0} (x y : X) (xs ys : List X) → x ≡ y → xs ≡ ys → x ∷ xs ≡ y ∷ ys
      both x y xs ys p q = λ i. p i ∷ q i

  pub outputs_are : (outputs : List (Task × Value)) → AreOutputs names records roots outputs
      → map output_bytes outputs ≡ map (with_output u.functions u.directory) (map enc_task roots)
  outputs_are outputs g =
      outputs_by outputs (λ o k. output_is o (subst (λ ts. Contains ts o.0) g.tasks (into_map (λ (x : Task × Value). x.0) outputs o k))
      (All-contains (IsOutput names records) outputs o g.each k))
      ∙ ap (λ ts. map (with_output u.functions u.directory) (map enc_task ts)) g.tasks

-- ---- what is made of the tables

no_refusal : {r : Refusal} → Refused r ≡ Accepted → ⊥
no_refusal h = cc

pub accepted_clean : (u : Update) (t : Tables) (s : WalkState) (staged : Staged) (roots : List Task) (b : Built) → IsExact u t.names t.records s → Stands s
    → Separates u → RootsSettle t.names t.records s roots → Makes t s.rows staged roots b
    → (HaveEnded t.names t.records s.rows roots → StoredWhere b.verdict t.names roots b) → b.verdict ≡ Accepted → HasClean u roots b
accepted_clean u t s staged roots b e w apart h m stored accepted = by m.why m.first m.goes
  where
    clean : (live : List ℕ) → AreLive t.names roots s.rows live → FailsFirst t.names t.records roots None → Collects t s.rows staged roots live b
        → HasClean u roots b
    clean live alive f c =
        let all = all_done u t.names t.records s e w apart roots h f in
        let can : CanBeStored t.names roots b =
        subst (λ (v : Verdict). StoredWhere v t.names roots b) accepted (stored (have_ended u t.names t.records s roots e w apart all)) in
        record {
          rows = rows_are u t.names t.records s roots e w apart all live alive c.heights b.rows.items c.kept can.order;
          outputs = outputs_are u t.names t.records s roots e w apart all b.outputs.items
              (c.gave (each_done u t.names t.records s roots e w apart all));
        }

    checked : (c : Checks t s.rows staged roots b) → FailsFirst t.names t.records roots None → (answer : Option Refusal)
        → EndsAs answer t s.rows staged roots c.live b → HasClean u roots b
    checked c f None g = clean c.live c.are f g
    checked c f (Some refusal) g = absurd (no_refusal (sym g ∙ accepted))

    by : (why : Option Refusal) → FailsFirst t.names t.records roots why → GoesOn why t s.rows staged roots b → HasClean u roots b
    by None f c = checked c f c.answer c.ends
    by (Some refusal) f g = absurd (no_refusal (sym g ∙ accepted))
