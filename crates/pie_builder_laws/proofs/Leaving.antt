-- What an accepted build leaves is what the model says: the rows, the files and the outputs.
use Rattle.std.proofs.Common.{◌≡◌, ◌⊎◌, inl, inr, ℕ, suc, ◌+◌, ◌<◌, ◌≤◌, max, true, Option, Some, None, List, [], ◌∷◌, ◌++◌, map, length, refl, sym}
use Rattle.std.proofs.Common.{ap, subst, ◌∙◌, arith}
use Rattle.std.specs.Prelude.{slice_get, slice_index_or, option_map, get_or, take, drop, All, Contains}
use Rattle.std.specs.List.{AllPairs, flat_map}
use Rattle.std.proofs.lemmas.Option.{slice_get_cases, slice_get-map, get_or_from_slice_get}
use Rattle.std.proofs.lemmas.List.{length-map, take-append-drop}
use Rattle.std.proofs.lemmas.List.Elements.{All-contains, All-contains_itself, Contains-append_left}
use Rattle.pie_value.specs.declared.task.Task.{Task}
use Rattle.pie_value.specs.declared.value.Value.{Value}
use Rattle.pie_value.specs.Values.{tree_of}
use Rattle.pie_value.specs.Canonical.{enc, enc_task}
use Rattle.pie_record.specs.declared.dep.Dep.{Dep}
use Rattle.pie_record.specs.declared.dep.DepOn.{DepOn}
use Rattle.pie_record.specs.declared.dep.DepOn.TheVariants.{File, Called}
use Rattle.pie_record.specs.declared.records.Records.{Records}
use Rattle.pie_record.specs.declared.task_record.Outcome.{Outcome}
use Rattle.pie_record.specs.declared.task_record.TaskRecord.{TaskRecord}
use Rattle.pie_record.specs.inner.Records.{record_of as kept_of}
use Rattle.pie_store.specs.Canonical.{tasks_in, required_on, needs, over as over_tasks, RowBefore}
use Rattle.pie_model.specs.Paths.{among}
use Rattle.pie_model.specs.Trees.{outcome_of as outcome_in_tree}
use Rattle.pie_model.specs.Evaluation.{World, Project, evaluation}
use Rattle.pie_model.specs.Records.{Record, needs_of}
use Rattle.pie_model.specs.Built.{store_rows}
use Rattle.pie_model.proofs.Basics.{among_here, among_there}
use Rattle.pie_step_laws.specs.Table.{IsTable}
use Rattle.pie_step_laws.specs.Roots.{Between}
use Rattle.pie_step_laws.specs.Rows.{over, AreHeights, ComesBefore, AreRows as AreStoreRows}
use Rattle.pie_step_laws.proofs.RowLemmas.{rows_stored}
use Rattle.pie_check_laws.proofs.Members.{none_in, here, there, here_or_there, into_map, from_map}
use Rattle.pie_model_pipeline.specs.Rows.{outcome_of, record_of}
use Rattle.pie_model_pipeline.specs.Clean.{output_in, output_bytes}
use Rattle.pie_builder_laws.specs.Names.{AreTasks, called_on, called_in, under_name}
use Rattle.pie_builder_laws.specs.Tables.{recorded}
use Rattle.pie_builder_laws.specs.Builds.{AreRows, IsOutput}
use Rattle.pie_builder_laws.proofs.Naming.{placed, distinct_names, under_number}
use Rattle.pie_builder_laws.proofs.Tabled.{needs_called, record_by_number, record_has_number}

some_one : {X : Type 0} (x y : X) → Some x ≡ Some y → x ≡ y
some_one x y h = cc

-- ---- lists

all_by : {X : Type 0} (Q : X → Type 0) (xs : List X) → ((x : X) → Contains xs x → Q x) → All Q xs
all_by Q xs f k d l = f (slice_index_or xs k d) (All-contains_itself xs k d l)

contains_among : (xs : List (List ℕ)) (x : List ℕ) → Contains xs x → among x xs ≡ true
contains_among [] x h = absurd (none_in x h)
contains_among (y ∷ ys) x h = by (here_or_there y x ys h) (contains_among ys x)
  where
    by : (y ≡ x) ⊎ Contains ys x → (Contains ys x → among x ys ≡ true) → among x (y ∷ ys) ≡ true
    by (inl e) r = subst (λ z. among z (y ∷ ys) ≡ true) e (among_here y ys)
    by (inr k) r = among_there x y ys (r k)

in_front : {X : Type 0} (xs : List X) (n : ℕ) (x : X) → Contains (take n xs) x → Contains xs x
in_front xs n x h = subst (λ ys. Contains ys x) (take-append-drop n xs) (Contains-append_left (take n xs) (drop n xs) x h)

-- what holds of each two elements of a list holds of those of a mapped one
pairs_mapped : {X Y : Type 0} (f : X → Y) (Q : X → X → Type 0) (S : Y → Y → Type 0) (xs : List X)
    → ((x y : X) → Contains xs x → Contains xs y → Q x y → S (f x) (f y)) → AllPairs Q xs → AllPairs S (map f xs)
pairs_mapped {X} {Y} f Q S xs to q i j d l m = by (slice_get_cases xs i).1 (slice_get_cases xs j).1
  where
    within : j < length xs
    within = subst (λ n. j < n) (length-map xs f) m

    at : (k : ℕ) (x : X) → slice_get xs k ≡ Some x → f x ≡ slice_index_or (map f xs) k d
    at k x e = sym (get_or_from_slice_get (map f xs) k (f x) d (slice_get-map f xs k ∙ ap (option_map f) e))

    by : ((x : X) × (i < length xs) × (slice_get xs i ≡ Some x) × (get_or xs i x ≡ x)) ⊎ ((length xs ≤ i) × (slice_get xs i ≡ None))
        → ((y : X) × (j < length xs) × (slice_get xs j ≡ Some y) × (get_or xs j y ≡ y)) ⊎ ((length xs ≤ j) × (slice_get xs j ≡ None))
        → S (slice_index_or (map f xs) i d) (slice_index_or (map f xs) j d)
    by (inl x) (inl y) =
        let h : Q x.0 y.0 = subst (λ (z : X × X). Q z.0 z.1) (λ k. (get_or_from_slice_get xs i x.0 x.0 x.2 k, get_or_from_slice_get xs j y.0 x.0 y.2 k))
        (q i j x.0 l within) in
        subst (λ (z : Y × Y). S z.0 z.1) (λ k. (at i x.0 x.2 k, at j y.0 y.2 k)) (to x.0 y.0 (placed xs i x.0 x.2) (placed xs j y.0 y.2) h)
    by (inl x) (inr y) = absurd (omega (arith, within, y.0))
    by (inr x) y = absurd (omega (arith, within, l, x.0))

-- ---- rows

calls : (deps : List Dep) → flat_map (λ (d : Dep). required_on d.what) deps ≡ called_in deps
calls [] = refl
calls (d ∷ ds) = by d.what (calls ds)
  where
    by : (what : DepOn) → flat_map (λ (x : Dep). required_on x.what) ds ≡ called_in ds
        → required_on what ++ flat_map (λ (x : Dep). required_on x.what) ds ≡ called_on what ++ called_in ds
    by (File p) r = r
    by (Called t) r = ap (λ ts. t ∷ ts) r

over_same : (g : Task → ℕ) (h : List ℕ → ℕ) (us : List Task) (n : ℕ) → ((u : Task) → Contains us u → h (enc_task u) ≡ g u)
    → over_tasks g us n ≡ over h (map enc_task us) n
over_same g h [] n same = refl
over_same g h (u ∷ us) n same =
    over_same g h us (max n (g u + 1)) (λ x i. same x (there u x us i)) ∙ ap (λ k. over h (map enc_task us) (max n (k + 1))) (sym (same u (here u us)))

-- the height of a named task
abbrev height_at : (Task → ℕ) → Option Task → ℕ
height_at g None = 0
height_at g (Some t) = g t

module _ (w : World) (P : Project) (roots : List (List ℕ)) (names : List Task) (records : Records) (a : AreTasks names)
    (B : Between w P roots (recorded names records) (map enc_task names)) (rows : List TaskRecord) (r : AreRows names records rows) where
  abbrev tall : List ℕ → ℕ
  tall = under_name 0 (λ n. height_at r.order.height (slice_get names n)) 0 names

  tall_is : (n : ℕ) (t : Task) → slice_get names n ≡ Some t → tall (enc_task t) ≡ r.order.height t
  tall_is n t e =
      under_number 0 (λ k. height_at r.order.height (slice_get names k)) 0 names n t (distinct_names names a) e
      ∙ ap (λ k. height_at r.order.height (slice_get names k)) (omega arith) ∙ ap (height_at r.order.height) e

  -- a row has a number, and its task the name
  record HasPlace (rec : TaskRecord) : Type 0 where
    number : ℕ
    kept : kept_of records number ≡ Some rec
    named : slice_get names number ≡ Some rec.task

  place_of : (rec : TaskRecord) → Contains rows rec → HasPlace rec
  place_of rec h =
      let m = All-contains (λ (x : TaskRecord). (n : ℕ) × (kept_of records n ≡ Some x)) rows rec r.only h in
      record { number = m.0; kept = m.1; named = r.named m.0 rec m.1 }

  row_tall : (rec : TaskRecord) → Contains rows rec → tall (enc_task rec.task) ≡ r.order.height rec.task
  row_tall rec h = let m = place_of rec h in tall_is m.number rec.task m.named

  need_tall : (rec : TaskRecord) → Contains rows rec → (u : Task) → Contains (needs rec) u → tall (enc_task u) ≡ r.order.height u
  need_tall rec h u i =
      let before = subst (λ (x : TaskRecord). All (λ (t : Task). Contains (tasks_in (take h.0 rows)) t) (needs x)) h.2 (r.order.earlier h.0 rec h.1) in
      let m = from_map (λ (x : TaskRecord). x.task) (take h.0 rows) u
      (All-contains (λ (t : Task). Contains (tasks_in (take h.0 rows)) t) (needs rec) u before i) in
      subst (λ z. tall (enc_task z) ≡ r.order.height z) m.2 (row_tall m.0 (in_front rows h.0 m.0 m.1))

  heights_are : AreHeights (recorded names records) tall
  heights_are x q e =
      let m = record_has_number names records x q e in
      let i = r.each m.number m.rec m.kept in
      let same : m.task ≡ m.rec.task = some_one m.task m.rec.task (sym m.named ∙ r.named m.number m.rec m.kept) in
      ap tall (m.bytes ∙ ap enc_task same) ∙ row_tall m.rec i
      ∙ All-contains (λ (y : TaskRecord). r.order.height y.task ≡ over_tasks r.order.height (needs y) 0) rows m.rec r.order.heights i
      ∙ over_same r.order.height tall (needs m.rec) 0 (need_tall m.rec i)
      ∙ ap (λ us. over tall (map enc_task us) 0) (calls m.rec.deps) ∙ ap (λ us. over tall us 0) (sym (needs_called m.rec.deps))
      ∙ ap (λ (z : Record). over tall (needs_of z.observations) 0) (sym m.same)

  row_kept : (rec : TaskRecord) → Contains rows rec → recorded names records (enc_task rec.task) ≡ Some (record_of rec)
  row_kept rec h = let m = place_of rec h in record_by_number names records m.number rec.task a m.named ∙ ap (λ o. option_map record_of o) m.kept

  before_is : (x y : TaskRecord) → Contains rows x → Contains rows y → RowBefore r.order.height x y → ComesBefore tall (enc_task x.task) (enc_task y.task)
  before_is x y h k (inl l) = inl (subst (λ (z : ℕ × ℕ). z.0 < z.1) (λ i. (sym (row_tall x h) i, sym (row_tall y k) i)) l)
  before_is x y h k (inr m) = inr (row_tall x h ∙ m.0 ∙ sym (row_tall y k), m.1)

  all_there : (x : List ℕ) → among x (map enc_task names) ≡ true → among x (map (λ (z : Record). z.task) (map record_of rows)) ≡ true
  all_there x i =
      let k = B.rests.all x i in
      let m = record_has_number names records x k.kept k.is in
      let same : m.task ≡ m.rec.task = some_one m.task m.rec.task (sym m.named ∙ r.named m.number m.rec m.kept) in
      subst (λ z. among z (map (λ (y : Record). y.task) (map record_of rows)) ≡ true) (sym (m.bytes ∙ ap enc_task same))
      (contains_among (map (λ (y : Record). y.task) (map record_of rows)) (enc_task m.rec.task)
      (into_map (λ (y : Record). y.task) (map record_of rows) (record_of m.rec) (into_map record_of rows m.rec (r.each m.number m.rec m.kept))))

  are_rows : AreStoreRows (recorded names records) (map enc_task names) tall (map record_of rows)
  are_rows = record {
    kept = all_by (λ (z : Record). recorded names records z.task ≡ Some z) (map record_of rows)
        (λ z h. let m = from_map record_of rows z h in subst (λ (y : Record). recorded names records y.task ≡ Some y) m.2 (row_kept m.0 m.1));
    whole = all_there;
    ascending = pairs_mapped record_of (RowBefore r.order.height) (λ (y z : Record). ComesBefore tall y.task z.task) rows before_is r.order.ascending;
  }

  pub rows_are : map record_of rows ≡ store_rows w P roots
  rows_are = rows_stored w P roots (recorded names records) (map enc_task names) tall (map record_of rows) B heights_are are_rows

-- ---- outputs

module _ (w : World) (P : Project) (names : List Task) (records : Records) (a : AreTasks names)
    (T : IsTable w P (recorded names records) (map enc_task names)) where
  output_is : (o : Task × Value) → IsOutput names records o → enc (tree_of o.1) ≡ output_in (outcome_in_tree (evaluation w P (enc_task o.0)))
  output_is o h =
      ap (λ (e : Outcome). output_in (outcome_of e)) (sym h.gave)
      ∙ ap (λ (z : Record). output_in z.outcome)
      (T.right (enc_task o.0) (record_of h.rec) (record_by_number names records h.number o.0 a h.named ∙ ap (λ k. option_map record_of k) h.kept))

  pub outputs_by : (outputs : List (Task × Value)) → ((n : ℕ) (o : Task × Value) → slice_get outputs n ≡ Some o → IsOutput names records o)
      → map output_bytes outputs
      ≡ map (λ (t : List ℕ). (t, output_in (outcome_in_tree (evaluation w P t)))) (map enc_task (map (λ (o : Task × Value). o.0) outputs))
  outputs_by [] h = refl
  outputs_by (o ∷ os) h = both _ _ _ _ (λ i. (enc_task o.0, output_is o (h 0 o refl) i)) (outputs_by os (λ n. h (suc n)))
    where
      both : {X : Type 0} (x y : X) (xs ys : List X) → x ≡ y → xs ≡ ys → x ∷ xs ≡ y ∷ ys
      both x y xs ys e f = λ i. e i ∷ f i
