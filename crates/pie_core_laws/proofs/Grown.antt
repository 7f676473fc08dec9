-- A new task leaves a build exact.
use Rattle.std.proofs.Common.{◌≡◌, ◌⊎◌, inl, inr, ℕ, zero, suc, ◌+◌, ◌<◌, ◌≤◌, Bool, true, false, Option, Some, None, List, [], ◌∷◌, ◌++◌, map, length, refl, sym}
use Rattle.std.proofs.Common.{ap, subst, ◌∙◌, arith}
use Rattle.std.specs.Prelude.{slice_get, slice_index_or, Contains, option_map}
use Rattle.std.proofs.lemmas.Bool.{cases_order}
use Rattle.std.proofs.lemmas.List.{length-append, length-map, map-append}
use Rattle.std.proofs.lemmas.Option.{slice_get_within}
use Rattle.pie_value.specs.declared.task.Task.{Task}
use Rattle.pie_value.specs.Canonical.{enc_task}
use Rattle.pie_graph.specs.Numbers.{IsMarked}
use Rattle.pie_graph.specs.Rows.{Row, row_at, no_edges}
use Rattle.pie_record.specs.declared.records.Records.{Records}
use Rattle.pie_record.specs.declared.task_record.TaskRecord.{TaskRecord}
use Rattle.pie_record.specs.inner.Records.{record_of as kept_of}
use Rattle.pie_walk.specs.declared.marks.Mark.TheVariants.{New}
use Rattle.pie_walk.specs.Marks.{mark_of}
use Rattle.pie_walk.specs.States.{WalkState, with_one_more}
use Rattle.pie_walk.specs.Standing.{Stands}
use Rattle.pie_model.specs.Paths.{Path, among}
use Rattle.pie_model.specs.Records.{Record}
use Rattle.pie_model.specs.StampNow.{Told}
use Rattle.pie_model.specs.inner.Consistent.{IsConsistent, IsSettled as IsSettledTask}
use Rattle.pie_model.specs.inner.CoreLaws.{TellsRight}
use Rattle.pie_model.specs.inner.RecordLaws.{Passes}
use Rattle.pie_model.proofs.Basics.{among_left}
use Rattle.pie_model.proofs.StepsLemmas.{more_busy}
use Rattle.pie_settle_laws.proofs.Settling.{start_spares}
use Rattle.pie_model_pipeline.specs.Rows.{record_of}
use Rattle.pie_model_pipeline.specs.World.{world}
use Rattle.pie_builder_laws.specs.Names.{AreTasks, called_in}
use Rattle.pie_builder_laws.specs.Tables.{recorded}
use Rattle.pie_builder_laws.specs.Views.{RowIs}
use Rattle.pie_builder_laws.proofs.Tabled.{no_record_named, record_by_number}
use Rattle.pie_builder_laws.proofs.Provided.{numbers_stay}
use Rattle.pie_earlier_laws.specs.Telling.{told_by}
use Rattle.pie_core_laws.specs.Update.{Update, MetIn, earlier, present}
use Rattle.pie_core_laws.specs.Exact.{rank_by, runs, is_busy, busy_by, RestsOnIn, IsExact}
use Rattle.pie_core_laws.specs.Finishing.{StaysExact}
use Rattle.pie_core_laws.proofs.Numbers.{by_number, IsNumbered, true_by}
use Rattle.pie_core_laws.proofs.Moved.{consistent_still}
use Rattle.pie_core_laws.proofs.Exactly as exactly

-- ---- one element more

pad_same : {X : Type 0} (xs : List X) (d : X) (n : ℕ) → slice_index_or (xs ++ d ∷ []) n d ≡ slice_index_or xs n d
pad_same [] d zero = refl
pad_same [] d (suc n) = refl
pad_same (x ∷ xs) d zero = refl
pad_same (x ∷ xs) d (suc n) = pad_same xs d n

named_more : (names : List Task) (t v : Task) (n : ℕ) → slice_get names n ≡ Some v → slice_get (names ++ t ∷ []) n ≡ Some v
named_more [] t v n e = cc
named_more (x ∷ xs) t v zero e = e
named_more (x ∷ xs) t v (suc n) e = named_more xs t v n e

-- a flag of one more, which is set
flag_more : (flags : List Bool) (n : ℕ) → IsMarked flags n → IsMarked (flags ++ true ∷ []) n
flag_more [] n e = cc
flag_more (x ∷ xs) zero e = e
flag_more (x ∷ xs) (suc n) e = flag_more xs n e

flag_less : (flags : List Bool) (n : ℕ) → n < length flags → IsMarked (flags ++ true ∷ []) n → IsMarked flags n
flag_less [] n l e = absurd (omega (arith, l))
flag_less (x ∷ xs) zero l e = e
flag_less (x ∷ xs) (suc n) l e = flag_less xs n (omega (arith, l)) e

flag_last : (flags : List Bool) (n : ℕ) → n ≡ length flags → IsMarked (flags ++ true ∷ []) n
flag_last [] n e = subst (λ z. IsMarked (true ∷ []) z) (sym e) refl
flag_last (x ∷ xs) zero e = absurd (omega (arith, e))
flag_last (x ∷ xs) (suc n) e = flag_last xs n (omega (arith, e))

row_more : (names : List Task) (t : Task) (row : Row) (rec : TaskRecord) → RowIs names row (Some rec) → RowIs (names ++ t ∷ []) row (Some rec)
row_more names t row rec h = (numbers_stay names t row.needs (called_in rec.deps) h.0, h.1)

module _ (u : Update) (names : List Task) (records : Records) (s : WalkState) (task : Task) (e : IsExact u names records s) (w : Stands s)
    (v : Stands (with_one_more s)) (tasks : AreTasks (names ++ task ∷ [])) (few : length names < 50000) (none : kept_of records (length names) ≡ None) where
  rows_same : (n : ℕ) → row_at (with_one_more s).rows n ≡ row_at s.rows n
  rows_same n = pad_same s.rows no_edges n

  marks_same : (n : ℕ) → mark_of (with_one_more s).marks n ≡ mark_of s.marks n
  marks_same n = pad_same s.marks New n

  flags_sized : length s.scheduled ≡ length names
  flags_sized = w.holds.scheduled_sized ∙ e.as_many

  more_flags : (n : ℕ) → is_busy s n ≡ true → is_busy (with_one_more s) n ≡ true
  more_flags n h = by (exactly.busy_is s n h)
    where
      by : IsMarked s.scheduled n ⊎ (runs (mark_of s.marks n) ≡ true) → is_busy (with_one_more s) n ≡ true
      by (inl i) = exactly.scheduled_busy (with_one_more s) n (flag_more s.scheduled n i)
      by (inr i) = exactly.runs_busy (with_one_more s) n (ap runs (marks_same n) ∙ i)

  less_flags : (n : ℕ) → n < length names → is_busy (with_one_more s) n ≡ true → is_busy s n ≡ true
  less_flags n l h = by (exactly.busy_is (with_one_more s) n h)
    where
      by : IsMarked (with_one_more s).scheduled n ⊎ (runs (mark_of (with_one_more s).marks n) ≡ true) → is_busy s n ≡ true
      by (inl i) = exactly.scheduled_busy s n (flag_less s.scheduled n (subst (λ z. n < z) (sym flags_sized) l) i)
      by (inr i) = exactly.runs_busy s n (ap runs (sym (marks_same n)) ∙ i)

  same_records : recorded (names ++ task ∷ []) records ≡ recorded names records
  same_records = λ i x. no_record_named names records task x none i

  old_or_last : (n : ℕ) → n < length (names ++ task ∷ []) → (n < length names) ⊎ (n ≡ length names)
  old_or_last n l = by (cases_order n (length names))
    where
      past : length names < n → n < length (names ++ task ∷ []) → ⊥
      past i j = let k = length-append names (task ∷ []) in omega arith

      by : (n ≡ length names) ⊎ ((n < length names) ⊎ (length names < n)) → (n < length names) ⊎ (n ≡ length names)
      by (inl i) = inr i
      by (inr (inl i)) = inl i
      by (inr (inr i)) = absurd (past i l)

  fresh_after : (n : ℕ) → n < length (names ++ task ∷ []) → kept_of records n ≡ None → is_busy (with_one_more s) n ≡ true
  fresh_after n l k = by (old_or_last n l)
    where
      by : (n < length names) ⊎ (n ≡ length names) → is_busy (with_one_more s) n ≡ true
      by (inl i) = more_flags n (e.fresh n i k)
      by (inr i) = exactly.scheduled_busy (with_one_more s) n (flag_last s.scheduled n (i ∙ sym flags_sized))

  rows_after : (n : ℕ) (rec : TaskRecord) → kept_of records n ≡ Some rec → runs (mark_of (with_one_more s).marks n) ≡ false
      → RowIs (names ++ task ∷ []) (row_at (with_one_more s).rows n) (Some rec)
  rows_after n rec k h =
      subst (λ (z : Row). RowIs (names ++ task ∷ []) z (Some rec)) (sym (rows_same n))
      (row_more names task (row_at s.rows n) rec (e.rows n rec k (ap runs (sym (marks_same n)) ∙ h)))

  running_after : (n : ℕ) (rec : TaskRecord) (y : Task) → kept_of records n ≡ Some rec → runs (mark_of (with_one_more s).marks n) ≡ true
      → Contains (called_in rec.deps) y → RestsOnIn (names ++ task ∷ []) (with_one_more s) n y
  running_after n rec y k h i =
      let r = e.running n rec y k (ap runs (sym (marks_same n)) ∙ h) i in
      record {
        number = r.number;
        named = named_more names task y r.number r.named;
        called = subst (λ (z : Row). Contains z.needs r.number) (sym (rows_same n)) r.called;
        settled = marks_same r.number ∙ r.settled;
      }

  more_busy_by : (x : List ℕ) → busy_by names s x ≡ true → busy_by (names ++ task ∷ []) (with_one_more s) x ≡ true
  more_busy_by x b =
      let m = true_by (is_busy s) names x e.tasks b in
      ap (busy_by (names ++ task ∷ []) (with_one_more s)) m.bytes
      ∙ by_number false (is_busy (with_one_more s)) (names ++ task ∷ []) m.number m.task tasks (named_more names task m.task m.number m.named)
      ∙ more_flags m.number m.holds

  few_held : length (map enc_task (names ++ task ∷ [])) ≤ world.most_tasks
  unfolding world
  few_held = let a = length-map (names ++ task ∷ []) enc_task in let b = length-append names (task ∷ []) in omega (arith, a, b, few)

  more_held : (x : List ℕ) → among x (map enc_task names) ≡ true → among x (map enc_task (names ++ task ∷ [])) ≡ true
  more_held x i = subst (λ xs. among x xs ≡ true) (sym (map-append enc_task names (task ∷ []))) (among_left x (map enc_task names) (map enc_task (task ∷ [])) i)

  consistent_after : (told : List (List ℕ) → Path → Told) → TellsRight (recorded (names ++ task ∷ []) records) told
      → IsConsistent world (earlier u) (present u) (MetIn u) (recorded (names ++ task ∷ []) records) told (map enc_task (names ++ task ∷ []))
      (rank_by (names ++ task ∷ []) (with_one_more s).places) (Passes (busy_by (names ++ task ∷ []) (with_one_more s)))
  consistent_after told tells =
      consistent_still world (earlier u) (present u) (MetIn u) (recorded (names ++ task ∷ []) records) told (map enc_task (names ++ task ∷ []))
      (rank_by names s.places) (rank_by (names ++ task ∷ []) (with_one_more s).places) (Passes (busy_by (names ++ task ∷ []) (with_one_more s)))
      (Passes (busy_by (names ++ task ∷ []) (with_one_more s)))
      (exactly.lower_by (names ++ task ∷ []) records (with_one_more s) tasks rows_after running_after v.holds.agrees) (λ x i. i)
      (more_busy world (earlier u) (present u) (MetIn u) (recorded (names ++ task ∷ []) records) told (map enc_task names)
      (map enc_task (names ++ task ∷ [])) (rank_by names s.places) (Passes (busy_by names s))
      (Passes (busy_by (names ++ task ∷ []) (with_one_more s)))
      (subst (λ (R : List ℕ → Option Record). IsConsistent world (earlier u) (present u) (MetIn u) R told (map enc_task names) (rank_by names s.places)
      (Passes (busy_by names s))) (sym same_records)
      (e.consistent told (subst (λ (R : List ℕ → Option Record). TellsRight R told) same_records tells))) few_held more_held more_busy_by)

  exact_after : IsExact u (names ++ task ∷ []) records (with_one_more s)
  exact_after = record {
    tasks = tasks;
    as_many = length-append s.rows (no_edges ∷ []) ∙ ap (λ z. z + 1) e.as_many ∙ sym (length-append names (task ∷ []));
    named = λ n rec k. named_more names task rec.task n (e.named n rec k);
    ended = λ n h. e.ended n (sym (marks_same n) ∙ h);
    fresh = fresh_after;
    rows = rows_after;
    running = running_after;
    old = λ n rec k h. e.old n rec k (λ i. h (marks_same n ∙ i));
    looks = λ n rec k h i. e.looks n rec k (λ j. h (marks_same n ∙ j)) (sym (pad_same s.looks_out false n) ∙ i);
    consistent = consistent_after;
  }

  after_busy : (x : List ℕ) → busy_by (names ++ task ∷ []) (with_one_more s) x ≡ true → (busy_by names s x ≡ true) ⊎ (recorded names records x ≡ None)
  after_busy x b = from (true_by (is_busy (with_one_more s)) (names ++ task ∷ []) x tasks b)
    where
      inside : (n : ℕ) (t : Task) → slice_get (names ++ task ∷ []) n ≡ Some t → n < length names → slice_get names n ≡ Some t
      inside n t h l = named_less names n h l
        where
          named_less : (xs : List Task) (k : ℕ) → slice_get (xs ++ task ∷ []) k ≡ Some t → k < length xs → slice_get xs k ≡ Some t
          named_less [] k i j = absurd (omega (arith, j))
          named_less (y ∷ ys) zero i j = i
          named_less (y ∷ ys) (suc k) i j = named_less ys k i (omega (arith, j))

      by : (n : ℕ) (t : Task) → slice_get (names ++ task ∷ []) n ≡ Some t → x ≡ enc_task t → is_busy (with_one_more s) n ≡ true
          → (n < length names) ⊎ (n ≡ length names) → (busy_by names s x ≡ true) ⊎ (recorded names records x ≡ None)
      by n t h i j (inl l) =
          inl (ap (busy_by names s) i ∙ by_number false (is_busy s) names n t e.tasks (inside n t h l) ∙ less_flags n l j)
      by n t h i j (inr l) =
          inr (ap (λ (R : List ℕ → Option Record). R x) (sym same_records) ∙ ap (recorded (names ++ task ∷ []) records) i
          ∙ record_by_number (names ++ task ∷ []) records n t tasks h ∙ ap (option_map record_of) (ap (kept_of records) l ∙ none))

      from : IsNumbered (names ++ task ∷ []) (is_busy (with_one_more s)) x → (busy_by names s x ≡ true) ⊎ (recorded names records x ≡ None)
      from m =
          by m.number m.task m.named m.bytes m.holds
          (old_or_last m.number (slice_get_within (names ++ task ∷ []) m.number m.task m.named))

pub new_stays : (u : Update) (names : List Task) (records : Records) (s : WalkState) (task : Task) → IsExact u names records s → Stands s
    → Stands (with_one_more s) → AreTasks (names ++ task ∷ []) → length names < 50000 → kept_of records (length names) ≡ None
    → StaysExact u names records s (names ++ task ∷ []) records (with_one_more s)
new_stays u names records s task e w v tasks few none = record {
  exact = exact_after u names records s task e w v tasks few none;
  settles = λ x i.
      subst (λ (R : List ℕ → Option Record). IsSettledTask R (Passes (busy_by (names ++ task ∷ []) (with_one_more s))) x)
      (sym (same_records u names records s task e w v tasks few none))
      (start_spares (recorded names records) (Passes (busy_by names s)) (Passes (busy_by (names ++ task ∷ []) (with_one_more s)))
      (e.consistent (told_by (recorded names records) (rank_by names s.places)) (exactly.tells u names records s e w.holds.agrees)).closed
      (after_busy u names records s task e w v tasks few none) x i);
}
