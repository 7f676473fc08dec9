-- A task that is kept leaves a build exact, and settled tasks are known.
use Rattle.std.proofs.Common.{◌≡◌, ◌⊎◌, inl, inr, ℕ, ◌<◌, true, false, Some, None, List, map, length, refl, sym, ap, subst, ◌∙◌}
use Rattle.std.specs.Prelude.{slice_get}
use Rattle.std.proofs.lemmas.List.{get_or-set_same, get_or-set_other}
use Rattle.pie_value.specs.declared.task.Task.{Task}
use Rattle.pie_value.specs.Canonical.{enc_task}
use Rattle.pie_graph.specs.Numbers.{IsMarked}
use Rattle.pie_graph.specs.Rows.{row_at}
use Rattle.pie_record.specs.declared.records.Records.{Records}
use Rattle.pie_record.specs.declared.task_record.TaskRecord.{TaskRecord}
use Rattle.pie_record.specs.inner.Records.{record_of as kept_of}
use Rattle.pie_tables.specs.declared.tables.Tables.{Tables}
use Rattle.pie_named.specs.declared.named.Named.{Named}
use Rattle.pie_compare.specs.inner.Standing.{RecordStands}
use Rattle.pie_walk.specs.declared.marks.Mark.{Mark}
use Rattle.pie_walk.specs.declared.marks.Mark.TheVariants.{New, Visited, Runs, Settled}
use Rattle.pie_walk.specs.Marks.{mark_of, IsSettled}
use Rattle.pie_walk.specs.States.{WalkState, settled}
use Rattle.pie_walk.specs.Standing.{Stands}
use Rattle.pie_model.specs.Paths.{Path}
use Rattle.pie_model.specs.StampNow.{Told}
use Rattle.pie_model.specs.inner.Consistent.{Stands as StandsInModel, IsUpToDate, IsConsistent}
use Rattle.pie_model.specs.inner.CoreLaws.{TellsRight}
use Rattle.pie_model.specs.inner.RecordLaws.{Passes}
use Rattle.pie_model.proofs.Basics.{clash}
use Rattle.pie_model.proofs.StepsLemmas.{take_consistent, take_settled}
use Rattle.pie_settle_laws.proofs.Settling.{is_known}
use Rattle.pie_manner_laws.proofs.Listings.{listings_tell}
use Rattle.pie_model_pipeline.specs.Rows.{record_of}
use Rattle.pie_model_pipeline.specs.World.{world}
use Rattle.pie_builder_laws.specs.Tables.{recorded}
use Rattle.pie_builder_laws.specs.Views.{RowIs}
use Rattle.pie_earlier_laws.specs.Left.{AreThere}
use Rattle.pie_earlier_laws.specs.Telling.{told_by}
use Rattle.pie_earlier_laws.proofs.Pipelines.{manners_of}
use Rattle.pie_compare_laws.specs.Settled.{AreSettled, ArePresent}
use Rattle.pie_compare_laws.proofs.Ways.{one_some, its_record}
use Rattle.pie_core_laws.specs.Update.{Update, IsUpdate, IsInformed, MetIn, earlier, present}
use Rattle.pie_core_laws.specs.Comparing.{IsOld}
use Rattle.pie_core_laws.specs.Exact.{rank_by, runs, has_ended, is_busy, is_done, busy_by, IsExact}
use Rattle.pie_core_laws.specs.Finishing.{StaysExact}
use Rattle.pie_core_laws.specs.Keeping.{MayBeKept, Separates, IsSettledIn}
use Rattle.pie_core_laws.proofs.Numbers.{by_number, true_by}
use Rattle.pie_core_laws.proofs.Compared.{stands_now}
use Rattle.pie_core_laws.proofs.Exactly as exactly

-- ---- the tables of an exact build, as they are compared

ended_is : (m : Mark) → has_ended m ≡ true → m ≡ Settled
ended_is New h = cc
ended_is Visited h = cc
ended_is Runs h = cc
ended_is Settled h = refl

pub done_settled : (s : WalkState) (n : ℕ) → is_done s n ≡ true → IsSettled s.marks n
done_settled s n h = ended_is (mark_of s.marks n) h

pub settled_done : (s : WalkState) (n : ℕ) → IsSettled s.marks n → is_done s n ≡ true
settled_done s n h = ap has_ended h

pub settled_rests : (u : Update) (names : List Task) (records : Records) (s : WalkState) → IsExact u names records s → Stands s
    → AreSettled names records s.rows (is_done s)
settled_rests u names records s e w n h =
    let m = e.ended n (done_settled s n h) in (
      m.0,
      record {
        named = e.named n m.0 m.1;
        kept = m.1;
        row = e.rows n m.0 m.1 (exactly.settled_not_runs (mark_of s.marks n) (done_settled s n h));
        ready = λ k c. settled_done s k (w.holds.closed n k (done_settled s n h) c);
      },
    )

pub are_present : (u : Update) (names : List Task) (records : Records) (s : WalkState) → IsExact u names records s → Stands s
    → (told : List (List ℕ) → Path → Told) → TellsRight (recorded names records) told → ArePresent names records s.rows (is_done s) told
are_present u names records s e w told tells = record { tasks = e.tasks; settled_rows = settled_rests u names records s e w; telling = tells }

-- ---- a task is kept

module _ (u : Update) (t : Tables) (s : WalkState) (n : Named) (number : ℕ) (rec : TaskRecord) (update : IsUpdate u) (informed : IsInformed u n)
    (e : IsExact u t.names t.records s) (w : Stands s) (v : Stands (settled s number)) (m : MayBeKept u t s n number rec)
    (h : RecordStands t s.rows n number) where
  inside : number < length s.marks
  inside = exactly.runs_inside s.marks number m.ran

  mark_here : IsSettled (settled s number).marks number
  mark_here = get_or-set_same s.marks number Settled New inside

  mark_there : (k : ℕ) → (k ≡ number → ⊥) → mark_of (settled s number).marks k ≡ mark_of s.marks k
  mark_there k d = get_or-set_other s.marks number k Settled New d

  settled_still : (k : ℕ) → IsSettled s.marks k → IsSettled (settled s number).marks k
  settled_still k i = by (exactly.same_or_not number k)
    where
      by : (k ≡ number) ⊎ (k ≡ number → ⊥) → IsSettled (settled s number).marks k
      by (inl j) = ap (mark_of (settled s number).marks) j ∙ mark_here
      by (inr d) = mark_there k d ∙ i

  not_it : (k : ℕ) → (IsSettled (settled s number).marks k → ⊥) → k ≡ number → ⊥
  not_it k i j = i (ap (mark_of (settled s number).marks) j ∙ mark_here)

  running_away : (k : ℕ) → runs (mark_of (settled s number).marks k) ≡ true → k ≡ number → ⊥
  running_away k i j =
      clash (runs (mark_of (settled s number).marks k)) i
      (ap (λ z. runs (mark_of (settled s number).marks z)) j ∙ exactly.settled_not_runs (mark_of (settled s number).marks number) mark_here)

  unsettled : IsSettled s.marks number → ⊥
  unsettled i = clash (runs (mark_of s.marks number)) m.ran (exactly.settled_not_runs (mark_of s.marks number) i)

  is_old : IsOld u rec
  is_old = e.old number rec m.rests.kept unsettled

  -- by whatever is told
  stands_by : (told : List (List ℕ) → Path → Told) → TellsRight (recorded t.names t.records) told
      → StandsInModel world (earlier u) (present u) (MetIn u) (recorded t.names t.records) told (enc_task rec.task) (record_of rec)
      × AreThere world u.directory rec.writes
  stands_by told tells =
      stands_now u t s.rows n (is_done s) told number rec update informed (are_present u t.names t.records s e w told tells) m.rests is_old m.meaning
      m.searched h

  still_busy : (k : ℕ) → (k ≡ number → ⊥) → is_busy s k ≡ true → is_busy (settled s number) k ≡ true
  still_busy k d b = by (exactly.busy_is s k b)
    where
      by : IsMarked s.scheduled k ⊎ (runs (mark_of s.marks k) ≡ true) → is_busy (settled s number) k ≡ true
      by (inl i) = exactly.scheduled_busy (settled s number) k i
      by (inr i) = exactly.runs_busy (settled s number) k (ap runs (mark_there k d) ∙ i)

  was_busy : (k : ℕ) → is_busy (settled s number) k ≡ true → is_busy s k ≡ true
  was_busy k b = by (exactly.busy_is (settled s number) k b)
    where
      by : IsMarked s.scheduled k ⊎ (runs (mark_of (settled s number).marks k) ≡ true) → is_busy s k ≡ true
      by (inl i) = exactly.scheduled_busy s k i
      by (inr i) = exactly.runs_busy s k (ap runs (sym (mark_there k (running_away k i))) ∙ i)

  others_busy : (x : List ℕ) → (x ≡ enc_task rec.task → ⊥) → busy_by t.names s x ≡ true → busy_by t.names (settled s number) x ≡ true
  others_busy x d b =
      let q = true_by (is_busy s) t.names x e.tasks b in
      ap (busy_by t.names (settled s number)) q.bytes ∙ by_number false (is_busy (settled s number)) t.names q.number q.task e.tasks q.named
      ∙ still_busy q.number (λ i. d (q.bytes ∙ ap enc_task (same_task q.number q.task q.named i))) q.holds
    where
      same_task : (k : ℕ) (y : Task) → slice_get t.names k ≡ Some y → k ≡ number → y ≡ rec.task
      same_task k y i j = one_some y rec.task (sym i ∙ ap (slice_get t.names) j ∙ m.rests.named)

  less_busy : (x : List ℕ) → busy_by t.names (settled s number) x ≡ true → busy_by t.names s x ≡ true
  less_busy x b =
      let q = true_by (is_busy (settled s number)) t.names x e.tasks b in
      ap (busy_by t.names s) q.bytes ∙ by_number false (is_busy s) t.names q.number q.task e.tasks q.named ∙ was_busy q.number q.holds

  consistent_after : (told : List (List ℕ) → Path → Told) → TellsRight (recorded t.names t.records) told
      → IsConsistent world (earlier u) (present u) (MetIn u) (recorded t.names t.records) told (map enc_task t.names) (rank_by t.names s.places)
      (Passes (busy_by t.names (settled s number)))
  consistent_after told tells =
      take_consistent world (earlier u) (present u) (MetIn u) (recorded t.names t.records) told (map enc_task t.names) (rank_by t.names s.places)
      (Passes (busy_by t.names s)) (Passes (busy_by t.names (settled s number))) (enc_task rec.task) (e.consistent told tells)
      (λ r i.
      subst (IsUpToDate world (earlier u) (present u) (MetIn u) (recorded t.names t.records) told (enc_task rec.task))
      (one_some (record_of rec) r (sym at_it ∙ i)) (inr (stands_by told tells).0)) others_busy
    where
      at_it : recorded t.names t.records (enc_task rec.task) ≡ Some (record_of rec)
      at_it = its_record t.names t.records s.rows (is_done s) e.tasks (settled_rests u t.names t.records s e w) number rec m.rests

  rows_after : (k : ℕ) (q : TaskRecord) → kept_of t.records k ≡ Some q → runs (mark_of (settled s number).marks k) ≡ false
      → RowIs t.names (row_at s.rows k) (Some q)
  rows_after k q i j = by (exactly.same_or_not number k)
    where
      by : (k ≡ number) ⊎ (k ≡ number → ⊥) → RowIs t.names (row_at s.rows k) (Some q)
      by (inl z) =
          subst (λ (x : ℕ). RowIs t.names (row_at s.rows x) (Some q)) (sym z)
          (subst (λ (x : TaskRecord). RowIs t.names (row_at s.rows number) (Some x))
          (one_some rec q (sym m.rests.kept ∙ ap (kept_of t.records) (sym z) ∙ i)) m.rests.row)
      by (inr d) = e.rows k q i (ap runs (sym (mark_there k d)) ∙ j)

  exact_after : IsExact u t.names t.records (settled s number)
  exact_after = record {
    tasks = e.tasks;
    as_many = e.as_many;
    named = e.named;
    ended = λ k i. ended_by k i (exactly.same_or_not number k);
    fresh = λ k l i. still_busy k (λ j. none_kept (sym i ∙ ap (kept_of t.records) j ∙ m.rests.kept)) (e.fresh k l i);
    rows = rows_after;
    running = λ k q y i j c.
        let d = running_away k j in
        let r = e.running k q y i (ap runs (sym (mark_there k d)) ∙ j) c in
        record { number = r.number; named = r.named; called = r.called; settled = settled_still r.number r.settled };
    old = λ k q i j. e.old k q i (λ z. j (settled_still k z));
    looks = λ k q i j f. e.looks k q i (λ z. j (settled_still k z)) f;
    consistent = consistent_after;
  }
    where
      none_kept : None ≡ Some rec → ⊥
      none_kept i = cc

      ended_by : (k : ℕ) → IsSettled (settled s number).marks k → (k ≡ number) ⊎ (k ≡ number → ⊥)
          → (q : TaskRecord) × (kept_of t.records k ≡ Some q)
      ended_by k i (inl z) = (rec, ap (kept_of t.records) z ∙ m.rests.kept)
      ended_by k i (inr d) = e.ended k (sym (mark_there k d) ∙ i)

  pub kept_stays : StaysExact u t.names t.records s t.names t.records (settled s number) × AreThere world u.directory rec.writes
  kept_stays = (
    record {
      exact = exact_after;
      settles = λ x i.
          take_settled (recorded t.names t.records) (Passes (busy_by t.names s)) (Passes (busy_by t.names (settled s number))) less_busy x i;
    },
    (stands_by (told_by (recorded t.names t.records) (rank_by t.names s.places)) (exactly.tells u t.names t.records s e w.holds.agrees)).1,
  )

-- ---- what is settled is known

pub settled_known : (u : Update) (names : List Task) (records : Records) (s : WalkState) (n : ℕ) (t : Task) → IsExact u names records s → Stands s
    → Separates u → slice_get names n ≡ Some t → IsSettled s.marks n → IsSettledIn u names records s t
settled_known u names records s n t e w apart at h =
    let settles = exactly.settled_task u names records s e w n t at h in
    let told = told_by (recorded names records) (rank_by names s.places) in
    record {
      settled = settles;
      known = is_known world (earlier u) (present u) (MetIn u) (recorded names records) told (map enc_task names) (rank_by names s.places)
          (Passes (busy_by names s)) (e.consistent told (exactly.tells u names records s e w.holds.agrees)) apart (λ a b. listings_tell a b)
          (manners_of u.old_functions u.built).writes (enc_task t) settles;
    }
