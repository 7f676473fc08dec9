-- A check by numbers and rows, from place to place.
use Rattle.std.proofs.Common.{◌≡◌, ◌⊎◌, inl, inr, ℕ, zero, suc, ◌+◌, ◌≤◌, true, Option, Some, None, List, [], ◌∷◌, ◌++◌, map, length, refl, sym, ap, subst, ◌∙◌, arith}
use Rattle.std.proofs.Common.{append_assoc, append-nil}
use Rattle.std.specs.Prelude.{take, drop, slice_get, Contains, option_map}
use Rattle.std.proofs.lemmas.List.{map-append}
use Rattle.pie_value.specs.declared.task.Task.{Task}
use Rattle.pie_value.specs.Canonical.{enc_task}
use Rattle.pie_graph.specs.Rows.{Row}
use Rattle.pie_record.specs.declared.dep.Dep.{Dep}
use Rattle.pie_value.specs.declared.stamp.Stamp.{Stamp}
use Rattle.pie_record.specs.declared.dep.DepKind.{DepKind}
use Rattle.pie_record.specs.declared.dep.DepKind.TheVariants as kinds
use Rattle.pie_record.specs.declared.dep.DepOn.{DepOn}
use Rattle.pie_record.specs.declared.dep.DepOn.TheVariants.{File, Called}
use Rattle.pie_record.specs.declared.records.Records.{Records}
use Rattle.pie_record.specs.declared.task_record.TaskRecord.{TaskRecord}
use Rattle.pie_record.specs.inner.Records.{record_of as kept_of}
use Rattle.pie_tables.specs.declared.tables.Tables.{Tables}
use Rattle.pie_named.specs.declared.named.Named.{Named}
use Rattle.pie_compare.specs.inner.Standing.{OnStands, output_in, called_stamp}
use Rattle.pie_walk.specs.States.{WalkState}
use Rattle.pie_model.specs.Paths.{Path, among}
use Rattle.pie_model.specs.Evaluation.{Project, evaluation}
use Rattle.pie_model.specs.Records.{Observation, Record, needs_of, task_asked}
use Rattle.pie_model.specs.StampNow.{by_records, stamp_now}
use Rattle.pie_model.specs.inner.Steps.{ChangesAt}
use Rattle.pie_model.specs.inner.Consistent.{IsRecorded}
use Rattle.pie_model.specs.inner.CoreLaws.{TellsRight}
use Rattle.pie_model.specs.inner.Stack.{Frame}
use Rattle.pie_model.specs.Trees.{is_done}
use Rattle.pie_model.proofs.Basics.{clash}
use Rattle.pie_step_laws.specs.Frames.{begun}
use Rattle.pie_step_laws.proofs.Tables.{among_one, done_plain}
use Rattle.pie_check_laws.proofs.Members.{none_in, here_or_there}
use Rattle.pie_manner_laws.proofs.Listings.{listings_tell}
use Rattle.pie_model_pipeline.specs.Rows.{how_by, asked_of, query_of, stamp_of, observation_of, record_of}
use Rattle.pie_model_pipeline.specs.World.{world, next}
use Rattle.pie_builder_laws.specs.Names.{called_in, called_on}
use Rattle.pie_builder_laws.specs.Tables.{recorded}
use Rattle.pie_builder_laws.specs.Views.{AreNumbersOf}
use Rattle.pie_builder_laws.proofs.Naming.{named_back, one_place}
use Rattle.pie_builder_laws.proofs.Tabled.{needs_called, record_by_number}
use Rattle.pie_earlier_laws.specs.Left.{IsEarlierBuild}
use Rattle.pie_earlier_laws.specs.Telling.{told_by}
use Rattle.pie_earlier_laws.proofs.OldRows.{old_row}
use Rattle.pie_earlier_laws.proofs.Beginning.{live_met}
use Rattle.pie_earlier_laws.proofs.Pipelines.{manners_of}
use Rattle.pie_earlier_laws.proofs.Meeting.{tried_met}
use Rattle.pie_compare_laws.proofs.Ways.{one_some, task_of}
use Rattle.pie_compare_laws.proofs.Agreement.{deps_agree, numbers_more}
use Rattle.pie_core_laws.specs.Update.{Update, earlier, present}
use Rattle.pie_core_laws.specs.Comparing.{IsOld}
use Rattle.pie_core_laws.specs.Exact.{is_done as is_ended, rank_by}
use Rattle.pie_core_laws.specs.Keeping.{Separates}
use Rattle.pie_core_laws.proofs.Exactly.{tells}
use Rattle.pie_core_laws.proofs.Kept.{settled_done, are_present}
use Rattle.pie_topdown_laws.specs.Beside.{asking, AsksNext}
use Rattle.pie_topdown_laws.specs.Checks.{IsOldRecord, GoesOn, IsChecked}
use Rattle.pie_topdown_laws.specs.CheckLaws.{TellsApart, MayPass, IsRightNow}
use Rattle.pie_topdown_laws.specs.Ledgers.{setting, IsRightLedger, walk_of, IsAsExact}
use Rattle.pie_topdown_laws.specs.Places.{ChecksAt, StandsAbove, StandsThere, Requires, StandsWhole}
use Rattle.pie_topdown_laws.proofs.Building.{check_begins, place_passes, stamps_same, stands_right, stands_ends}
use Rattle.pie_topdown_laws.proofs.Exactness.{kept_settled, as_exact}

-- ---- lists

drop_next : {A : Type 0} (xs : List A) (i : ℕ) (a : A) → slice_get xs i ≡ Some a → drop i xs ≡ a ∷ drop (suc i) xs
drop_next [] i a e = absurd (never e)
  where
    never : None ≡ Some a → ⊥
    never h = cc
drop_next (x ∷ xs) zero a e = ap (λ z. z ∷ xs) (one_some x a e)
drop_next (x ∷ xs) (suc i) a e = drop_next xs i a e

take_next : {A : Type 0} (xs : List A) (i : ℕ) (a : A) → slice_get xs i ≡ Some a → take (suc i) xs ≡ take i xs ++ a ∷ []
take_next [] i a e = absurd (never e)
  where
    never : None ≡ Some a → ⊥
    never h = cc
take_next (x ∷ xs) zero a e = ap (λ z. z ∷ []) (one_some x a e)
take_next (x ∷ xs) (suc i) a e = ap (λ z. x ∷ z) (take_next xs i a e)

one_more : (i : ℕ) → suc i ≡ i + 1
one_more i = omega arith

pub drop_at : {A : Type 0} (xs : List A) (i : ℕ) (a : A) → slice_get xs i ≡ Some a → drop i xs ≡ a ∷ drop (i + 1) xs
drop_at xs i a e = drop_next xs i a e ∙ ap (λ n. a ∷ drop n xs) (one_more i)

pub take_at : {A : Type 0} (xs : List A) (i : ℕ) (a : A) → slice_get xs i ≡ Some a → take (i + 1) xs ≡ take i xs ++ a ∷ []
take_at xs i a e = ap (λ n. take n xs) (sym (one_more i)) ∙ take_next xs i a e

drop_none : {A : Type 0} (i : ℕ) → drop {A = A} i [] ≡ []
drop_none zero = refl
drop_none (suc i) = refl

pub drop_past : {A : Type 0} (xs : List A) (i : ℕ) → length xs ≤ i → drop i xs ≡ []
drop_past [] i h = drop_none i
drop_past (x ∷ xs) zero h = absurd (none (length xs) h)
  where
    none : (a : ℕ) → suc a ≤ 0 → ⊥
    none a q = omega arith
drop_past (x ∷ xs) (suc i) h = drop_past xs i (omega arith)

called_end : (ds : List Dep) (d : Dep) → called_in (ds ++ d ∷ []) ≡ called_in ds ++ called_on d.what
called_end [] d = append-nil (called_on d.what)
called_end (e ∷ ds) d = ap (λ ts. called_on e.what ++ ts) (called_end ds d) ∙ sym (append_assoc (called_on e.what) (called_in ds) (called_on d.what))

-- ---- old records

pub stored_old : (u : Update) (rec : TaskRecord) → IsEarlierBuild world (earlier u) u.old_roots u.left → IsOld u rec
    → next u.old_functions (enc_task rec.task) ≡ next u.functions (enc_task rec.task)
    → IsOldRecord (setting u) (earlier u) (enc_task rec.task) (record_of rec)
stored_old u rec B O m =
    let q = old_row world (earlier u) u.old_roots B.accepted (enc_task rec.task) (record_of rec) O.left in
    let manners = manners_of u.old_functions u.built in
    record {
      was = q.was;
      done = ap (λ (z : Record). is_done z.outcome) q.was ∙ q.done;
      meaning = m;
      polite = manners.writes (enc_task rec.task);
      met = live_met world (earlier u) (present u) u.old_roots u.roots u.besides manners B.accepted (enc_task rec.task) q.live;
    }

pub tells_apart : (u : Update) → Separates u → TellsApart (setting u) (earlier u)
tells_apart u S = record { stamps = S; listings = listings_tell }

-- ---- begin

pub begins_at : (u : Update) (before : Project) (names : List Task) (records : Records) (root : List ℕ) (fs : List Frame) (rec : TaskRecord)
    → among root u.roots ≡ true → IsOldRecord (setting u) before (enc_task rec.task) (record_of rec)
    → GoesOn (setting u) (recorded names records) root fs (begun world (enc_task rec.task)) → ChecksAt u before names records root fs rec 0 []
begins_at u before names records root fs rec i O G = record {
  old = O;
  checked = check_begins (setting u) before (recorded names records) root fs (enc_task rec.task) (record_of rec) i G O;
  numbers = refl;
}

module _ (u : Update) (before : Project) (names : List Task) (records : Records) (root : List ℕ) (fs : List Frame) (rec : TaskRecord) (at : ℕ)
    (required : List ℕ) (C : ChecksAt u before names records root fs rec at required) where
  abbrev passed : List Observation
  passed = map observation_of (take at rec.deps)

  -- the next observation
  next_is : (dep : Dep) → slice_get rec.deps at ≡ Some dep
      → IsChecked (setting u) before (recorded names records) root fs (enc_task rec.task) (record_of rec) passed
      (observation_of dep ∷ map observation_of (drop (at + 1) rec.deps))
  next_is dep e =
      subst (λ z. IsChecked (setting u) before (recorded names records) root fs (enc_task rec.task) (record_of rec) passed (map observation_of z))
      (drop_at rec.deps at dep e) C.checked

  pub requires_at : (dep : Dep) (task : Task) → slice_get rec.deps at ≡ Some dep → dep.what ≡ Called task
      → Requires u C.checked.frame (how_by dep.kind) (enc_task task)
  requires_at dep task e w = record {
    left = C.checked.asks.left;
    is_left = C.checked.asks.is_left;
    next = go (drop at rec.deps) (drop_at rec.deps at dep e) C.checked.asks.next
        ∙ ap (λ z. asking (query_of dep.kind z)) w;
  }
    where
      go : (ds : List Dep) → ds ≡ dep ∷ drop (at + 1) rec.deps
          → AsksNext (present u) C.checked.frame (map observation_of ds) (record_of rec).outcome
          → (present u).next C.checked.frame.task C.checked.frame.progress.answers ≡ asking (query_of dep.kind dep.what)
      go ds i h =
          subst (λ z. AsksNext (present u) C.checked.frame (map observation_of z) (record_of rec).outcome) i h

  -- ---- end

  pub ends_at : (new : Records) → among root u.roots ≡ true → StandsAbove names records fs rec → length rec.deps ≤ at
      → ChangesAt (recorded names records) (recorded names new) (enc_task rec.task) (record_of rec) → StandsWhole u names records new rec
  ends_at new i B over change = record {
    right = record {
      is = right.is;
      plain = done_plain (record_of rec).outcome C.old.done;
      met = tried_met world (earlier u) (present u) u.old_roots u.roots u.besides root
          (evaluation world (present u) (enc_task rec.task)) (inr i) right.stands;
    };
    ends = stands_ends (setting u) before (recorded names records) root fs (enc_task rec.task) (record_of rec) passed whole C.old.meaning
        (recorded names new) (map enc_task names) B change;
  }
    where
      whole : IsChecked (setting u) before (recorded names records) root fs (enc_task rec.task) (record_of rec) passed []
      whole =
          subst (λ z. IsChecked (setting u) before (recorded names records) root fs (enc_task rec.task) (record_of rec) passed (map observation_of z))
          (drop_past rec.deps at over) C.checked

      right : IsRightNow (setting u) root (enc_task rec.task) (record_of rec)
      right = stands_right (setting u) before (recorded names records) root fs (enc_task rec.task) (record_of rec) passed whole C.old.meaning

-- ---- pass

module _ (u : Update) (before : Project) (t : Tables) (rows : List Row) (places : List ℕ) (n : Named) (root : List ℕ) (fs : List Frame) (rec : TaskRecord)
    (at : ℕ) (required after : List ℕ) (apart : TellsApart (setting u) before) (L : IsRightLedger u t.names t.records rows places)
    (B : StandsAbove t.names t.records fs rec) (C : ChecksAt u before t.names t.records root fs rec at required)
    (S : StandsThere u t rows n rec at required after) where
  abbrev R : List ℕ → Option Record
  R = recorded t.names t.records

  abbrev walk : WalkState
  walk = walk_of t.names t.records rows places

  exact : IsAsExact u t.names t.records rows places
  exact = as_exact u t.names t.records rows places L

  right_told : TellsRight R (told_by R (rank_by t.names places))
  right_told = tells u t.names t.records walk exact.exact exact.stands.holds.agrees

  -- a task with an output has a record
  output_kept : (k : ℕ) (kind : DepKind) (s : Stamp)
      → called_stamp kind (output_in (kept_of t.records k)) ≡ Some s → (r : TaskRecord) × (kept_of t.records k ≡ Some r)
  output_kept k kind s h = go (kept_of t.records k) refl h
    where
      go : (o : Option TaskRecord) → kept_of t.records k ≡ o → called_stamp kind (output_in o) ≡ Some s → (r : TaskRecord) × (kept_of t.records k ≡ Some r)
      go None e q = absurd (never q)
        where
          never : None ≡ Some s → ⊥
          never z = cc
      go (Some r) e q = (r, e)

  -- what the observation requires is recorded
  asked_recorded : (x : List ℕ) → among x (task_asked (query_of S.dep.kind S.dep.what)) ≡ true → IsRecorded R x
  asked_recorded x i = go S.dep.what S.stands i
    where
      file : (k : DepKind) (p : Path) → task_asked (asked_of k p) ≡ []
      file kinds.Exists p = refl
      file kinds.ReadHash p = refl
      file kinds.ReadMark p = refl
      file kinds.Digest p = refl
      file kinds.List p = refl
      file kinds.Require p = refl
      file kinds.RequireHash p = refl
      file kinds.Run p = refl

      go : (w : DepOn) → OnStands (record { tables = t; rows = rows; known = n; own = rec.writes }) required S.dep.kind w S.dep.stamp after
          → among x (task_asked (query_of S.dep.kind w)) ≡ true → IsRecorded R x
      go (File p) q j = clash (among x []) (subst (λ z. among x z ≡ true) (file S.dep.kind p) j) refl
      go (Called task) q j =
          let r : (r : TaskRecord) × (kept_of t.records q.0 ≡ Some r) = output_kept q.0 S.dep.kind S.dep.stamp q.2.stamped in
          record {
            kept = record_of r.0;
            is = ap R (among_one x (enc_task task) j) ∙ record_by_number t.names t.records q.0 task L.tasks q.1 ∙ ap (option_map record_of) r.1;
          }

  required_settled : (k : ℕ) → Contains required k → is_ended walk k ≡ true
  required_settled k i =
      let m = task_of t.names required (called_in (take at rec.deps)) k C.numbers i in
      let need : among (enc_task m.task) (needs_of (map observation_of (take at rec.deps))) ≡ true =
      subst (λ z. among (enc_task m.task) z ≡ true) (sym (needs_called (take at rec.deps)))
      (named_back (called_in (take at rec.deps)) m.task m.listed) in
      let r = (C.checked.goes.settled (enc_task m.task) (subst (λ z. among (enc_task m.task) (needs_of z) ≡ true) (sym C.checked.seen) need)).recorded in
      by k m.task m.named r
    where
      by : (k : ℕ) (v : Task) → slice_get t.names k ≡ Some v → IsRecorded R (enc_task v) → is_ended walk k ≡ true
      by k v e r = go (kept_of t.records k) refl (sym (record_by_number t.names t.records k v L.tasks e) ∙ r.is)
        where
          go : (o : Option TaskRecord) → kept_of t.records k ≡ o → option_map record_of (kept_of t.records k) ≡ Some r.kept → is_ended walk k ≡ true
          go None q h = absurd (never (sym (ap (option_map record_of) q) ∙ h))
            where
              never : None ≡ Some r.kept → ⊥
              never z = cc
          go (Some x) q h = settled_done walk k (kept_settled u t.names t.records rows places L k x q)

  ready : (v : Task) (k : ℕ) → Contains (called_in (S.dep ∷ [])) v → slice_get t.names k ≡ Some v → is_ended walk k ≡ true
  ready v k i e = go S.dep.what S.stands i
    where
      go : (w : DepOn) → OnStands (record { tables = t; rows = rows; known = n; own = rec.writes }) required S.dep.kind w S.dep.stamp after
          → Contains (called_on w ++ []) v → is_ended walk k ≡ true
      go (File p) q j = absurd (none_in v j)
      go (Called task) q j =
          let r : (r : TaskRecord) × (kept_of t.records q.0 ≡ Some r) = output_kept q.0 S.dep.kind S.dep.stamp q.2.stamped in
          let same : task ≡ v = only j in
          let at_one : q.0 ≡ k = one_place t.names L.tasks q.0 k v (q.1 ∙ ap Some same) e in
          subst (λ z. is_ended walk z ≡ true) at_one (settled_done walk q.0 (kept_settled u t.names t.records rows places L q.0 r.0 r.1))
        where
          only : Contains (task ∷ []) v → task ≡ v
          only c = by (here_or_there task v [] c)
            where
              by : (task ≡ v) ⊎ Contains [] v → task ≡ v
              by (inl e) = e
              by (inr c) = absurd (none_in v c)

  stamp_is : stamp_now world (present u) (by_records R (told_by R (rank_by t.names places))) rec.writes
      (needs_of (map observation_of (take at rec.deps))) (query_of S.dep.kind S.dep.what) ≡ Some (stamp_of S.dep.stamp)
  stamp_is =
      subst (λ z. stamp_now world (present u) (by_records R (told_by R (rank_by t.names places))) rec.writes z (query_of S.dep.kind S.dep.what)
      ≡ Some (stamp_of S.dep.stamp)) (sym (needs_called (take at rec.deps)))
      (deps_agree (present u) t rows n (is_ended walk) (told_by R (rank_by t.names places))
      (are_present u t.names t.records walk exact.exact exact.stands (told_by R (rank_by t.names places)) right_told) rec.writes (S.dep ∷ []) required
      (called_in (take at rec.deps)) ready C.numbers required_settled (S.still, tt) (after, S.stands, tt)).0

  numbers_after : AreNumbersOf t.names after (called_in (take at rec.deps ++ S.dep ∷ []))
  numbers_after = subst (AreNumbersOf t.names after) (sym (called_end (take at rec.deps) S.dep)) (go S.dep.what S.stands)
    where
      go : (w : DepOn) → OnStands (record { tables = t; rows = rows; known = n; own = rec.writes }) required S.dep.kind w S.dep.stamp after
          → AreNumbersOf t.names after (called_in (take at rec.deps) ++ called_on w)
      go (File p) q =
          subst (AreNumbersOf t.names after) (sym (append-nil (called_in (take at rec.deps))))
          (subst (λ z. AreNumbersOf t.names z (called_in (take at rec.deps))) (sym q.1) C.numbers)
      go (Called task) q =
          subst (λ z. AreNumbersOf t.names z (called_in (take at rec.deps) ++ task ∷ [])) (sym q.3)
          (numbers_more (present u) t rows n (is_ended walk) (told_by R (rank_by t.names places))
          (are_present u t.names t.records walk exact.exact exact.stands (told_by R (rank_by t.names places)) right_told) required
          (called_in (take at rec.deps)) q.0 task C.numbers q.1)

  pub passes_at : ChecksAt u before t.names t.records root fs rec (at + 1) after
  passes_at = record {
    old = C.old;
    checked =
        subst (λ z. IsChecked (setting u) before R root fs (enc_task rec.task) (record_of rec) z (map observation_of (drop (at + 1) rec.deps)))
        (sym (ap (map observation_of) (take_at rec.deps at S.dep S.next) ∙ map-append observation_of (take at rec.deps) (S.dep ∷ [])))
        (place_passes (setting u) before R root fs (enc_task rec.task) (record_of rec) (map enc_task t.names) (map observation_of (take at rec.deps))
        (map observation_of (drop (at + 1) rec.deps)) (observation_of S.dep) may
        (sym (stamps_same (setting u) before R root fs (enc_task rec.task) (record_of rec) (map enc_task t.names) (map observation_of (take at rec.deps))
        (map observation_of (drop (at + 1) rec.deps)) (observation_of S.dep) may (told_by R (rank_by t.names places)) right_told) ∙ stamp_is));
    numbers = subst (λ z. AreNumbersOf t.names after (called_in z)) (sym (take_at rec.deps at S.dep S.next)) numbers_after;
  }
    where
      may : MayPass (setting u) before R (map enc_task t.names) root fs (enc_task rec.task) (record_of rec) (map observation_of (take at rec.deps))
          (map observation_of (drop (at + 1) rec.deps)) (observation_of S.dep)
      may = record {
        apart = apart;
        old = C.old;
        table = L.table;
        under_way = B;
        checked = next_is u before t.names t.records root fs rec at required C S.dep S.next;
        recorded = asked_recorded;
      }
