-- A task whose own record differs in a place has a reason to run.
use Rattle.std.proofs.Common.{◌≡◌, ◌⊎◌, ℕ, zero, suc, ◌+◌, ◌<◌, ◌≤◌, true, false, List, [], ◌∷◌, Option, None, Some, length, map, refl, sym, ap, subst, ◌∙◌, inl, inr, arith, Vec}
use Rattle.std.specs.declared.alloc.Global.{Global}
use Rattle.std.specs.Prelude.{slice_get, take, drop, option_map, Contains, IfSome}
use Rattle.std.proofs.lemmas.List.{length-map}
use Rattle.std.proofs.lemmas.List.Elements.{All-contains}
use Rattle.pie_value.specs.declared.task.Task.{Task}
use Rattle.pie_value.specs.Values.{tree_of}
use Rattle.pie_value.specs.Canonical.{enc_task, IsCanonicalTask, IsEncodable}
use Rattle.pie_graph.specs.Numbers.{numbers}
use Rattle.pie_record.specs.Canonical.{IsStorable, IsStorableDep, IsStorableOutcome, IsStorableStamp, IsTrueDep, IsTrueOutcome, IsTrueStamp}
use Rattle.pie_record.specs.declared.dep.Dep.{Dep}
use Rattle.pie_record.specs.declared.dep.DepKind.{DepKind}
use Rattle.pie_record.specs.declared.dep.DepKind.TheVariants as kinds
use Rattle.pie_record.specs.declared.dep.DepOn.{DepOn}
use Rattle.pie_record.specs.declared.dep.DepOn.TheVariants.{File, Called}
use Rattle.pie_record.specs.declared.task_record.TaskRecord.{TaskRecord}
use Rattle.pie_record.specs.inner.Records.{record_of as kept_of}
use Rattle.pie_tables.specs.Tabled.{HasFailed, IsKept, IsRecordAt}
use Rattle.pie_walk.specs.States.{WalkState}
use Rattle.pie_model.specs.declared.words.Kind.TheVariants.{Source}
use Rattle.pie_model.specs.Paths.{Path, among, kind_of}
use Rattle.pie_model.specs.Trees.{is_done, outcome_of as model_outcome}
use Rattle.pie_model.specs.Evaluation.{World, Project, evaluation}
use Rattle.pie_model.specs.Records.{Observation, Record, needs_of, task_asked, record_of as model_record}
use Rattle.pie_model.specs.Separate.{NeverWritesWhatItSaw}
use Rattle.pie_model.specs.StampNow.{Told, Teller, by_records, by_evaluation, stamp_now, asked_before, StampsAgree, RecordAgrees}
use Rattle.pie_model.specs.Reasons.{Differs}
use Rattle.pie_model.specs.Reasons.RunReason.{stamp}
use Rattle.pie_model.specs.inner.Consistent.{IsRecorded}
use Rattle.pie_model.specs.inner.CoreLaws.{TellsRight}
use Rattle.pie_model.specs.inner.Stack.{Frame as ModelFrame, tasks_of}
use Rattle.pie_model.proofs.Basics.{clash}
use Rattle.pie_model.proofs.ItselfLemmas.{agrees_itself}
use Rattle.pie_step_laws.proofs.Tables.{among_one}
use Rattle.pie_check_laws.proofs.Members.{none_in, here_or_there}
use Rattle.pie_model_pipeline.specs.Rows.{how_by, asked_of, query_of, stamp_of, observation_of, record_of}
use Rattle.pie_model_pipeline.specs.World.{world}
use Rattle.pie_builder_laws.specs.Names.{called_in}
use Rattle.pie_builder_laws.proofs.Naming.{among_at, named_back, place, placed}
use Rattle.pie_builder_laws.proofs.Tabled.{needs_called, record_by_number}
use Rattle.pie_earlier_laws.specs.Telling.{told_by}
use Rattle.pie_earlier_laws.proofs.Pipelines.{kind_source, manners_of}
use Rattle.pie_earlier_laws.proofs.Unnamed.{ListSources, record_lists}
use Rattle.pie_earlier_laws.specs.Sources.{ListsSources}
use Rattle.pie_compare_laws.specs.Agreeing.{OutputsAreCanonical}
use Rattle.pie_compare_laws.proofs.Ways.{task_of}
use Rattle.pie_core_laws.specs.Update.{Update, present}
use Rattle.pie_core_laws.specs.Exact.{is_done as is_ended, rank_by}
use Rattle.pie_core_laws.proofs.Exactly.{tells}
use Rattle.pie_core_laws.proofs.Kept.{done_settled, settled_done, are_present}
use Rattle.pie_topdown_laws.specs.Checks.{AreUnderWay, IsChecked, IsOldRecord}
use Rattle.pie_topdown_laws.specs.CheckLaws.{MayPass}
use Rattle.pie_topdown_laws.specs.Ledgers.{setting, walk_of, IsAsExact}
use Rattle.pie_topdown_laws.specs.Places.{ChecksAt, StandsAbove}
use Rattle.pie_topdown_laws.proofs.Building.{is_reason, required_reason}
use Rattle.pie_topdown_laws.proofs.Comparing.{drop_at, requires_at}
use Rattle.pie_topdown_laws.proofs.Lower.{closing_undone}
use Rattle.pie_topdown_laws.proofs.Exactness.{as_exact, kept_settled, settled_kept}
use Rattle.pie_topdown.specs.declared.builder.Builder.{Builder}
use Rattle.pie_topdown.specs.declared.hand.Check.{Check}
use Rattle.pie_topdown.specs.inner.Due.{IsDue, IsDueBy}
use Rattle.pie_topdown.specs.inner.Frames.{IsSite}
use Rattle.pie_topdown.specs.inner.Places.{DiffersHere, NeedsNext}
use Rattle.pie_topdown.specs.inner.Right.{names_of, records_of, IsPlanNow, IsRightSite, ChecksRight}
use Rattle.pie_topdown.specs.inner.Trying.{GivesWay}
use Rattle.pie_base.specs.declared.fault.FaultKind.TheVariants.{Unknown as UnknownTask}
use Rattle.pie_topdown.specs.declared.entering.Entry.TheVariants.{Unknown}
use Rattle.pie_topdown.specs.inner.Entries.{MayEnter}
use Rattle.pie_topdown.proofs.Answering.{no_function}
use Rattle.pie_topdown_laws.proofs.Sinking.{new_fails}
use Rattle.pie_model_pipeline.specs.Words.{fault_of}
use Rattle.pie_builder_laws.proofs.Coded.{unknown_fails}
use Rattle.pie_compare_laws.proofs.Observed.{IsPlainDep, dep_stands}
use Rattle.pie_topdown.proofs.Reasoning.{evaluated_few}

one_some : {A : Type 0} (x y : A) → Some x ≡ Some y → x ≡ y
one_some x y e = cc

-- there is an item inside a list
slice_inside : {A : Type 0} (xs : List A) (i : ℕ) → i < length xs → (x : A) × (slice_get xs i ≡ Some x)
slice_inside [] i l = absurd (omega (arith, l))
slice_inside (x ∷ xs) zero l = (x, refl)
slice_inside (x ∷ xs) (suc i) l = slice_inside xs i (omega (arith, l))

same_task : (v w : Task) → Called v ≡ Called w → v ≡ w
same_task v w e = cc

-- ---- what is known of an own record

-- the listings of an old record are of sources
listed_source : (deps : List Dep) → ListSources (map observation_of deps) → (dep : Dep) (p : Path) → Contains deps dep → dep.kind ≡ kinds.List
    → dep.what ≡ File p → kind_of p ≡ Source
listed_source [] l dep p i k w = absurd (none_in dep i)
listed_source (x ∷ deps) l dep p i k w = by (here_or_there x dep deps i) (λ j. listed_source deps l.1 dep p j k w)
  where
    by : (x ≡ dep) ⊎ Contains deps dep → (Contains deps dep → kind_of p ≡ Source) → kind_of p ≡ Source
    by (inl e) f = l.0 p (ap (λ (z : Dep). query_of z.kind z.what) e ∙ ap (λ (k : DepKind). query_of k dep.what) k ∙ ap (query_of kinds.List) w)
    by (inr j) f = f j

module _ (u : Update) (before : Project) (rec : TaskRecord) (old : IsOldRecord (setting u) before (enc_task rec.task) (record_of rec)) where
  old_lists : ListSources (map observation_of rec.deps)
  old_lists =
      subst (λ (z : Record). ListSources z.observations) (sym old.was)
      (record_lists world before (enc_task rec.task)
      (subst ListsSources (sym old.meaning) ((manners_of u.functions u.directory).lists (enc_task rec.task))))

  -- it has no more observations than a task can make
  few_observed : length rec.deps ≤ 1000001
  unfolding world
  few_observed =
      subst (λ n. n ≤ 1000001) (length-map rec.deps observation_of)
      (subst (λ (z : Record). length z.observations ≤ 1000001) (sym old.was) (evaluated_few world before 50000 [] (enc_task rec.task)))

-- ---- the check of one

module _ (u : Update) (done : List (List ℕ)) (root : List ℕ) (b : Builder) (fs : List ModelFrame) (c : Check) (is : IsSite b)
    (s : IsRightSite u done root b) (k : ChecksRight u b root fs c) (differs : DiffersHere b c) (storable : IsStorable c.rec) where
  abbrev R : List ℕ → Option Record
  R = records_of b

  abbrev walk : WalkState
  walk = walk_of b.ledger.tables.names b.ledger.tables.records b.ledger.rows b.ledger.places.items

  abbrev told : List (List ℕ) → Path → Told
  told = told_by R (rank_by b.ledger.tables.names b.ledger.places.items)

  abbrev C : ChecksAt u k.check.before b.ledger.tables.names b.ledger.tables.records root fs c.rec c.at (numbers c.required.items)
  C = k.check.check

  few : c.at ≤ 1000000
  few = let size = few_observed u k.check.before c.rec C.old in let inside = differs.inside in omega (arith, size, inside)

  exact : IsAsExact u b.ledger.tables.names b.ledger.tables.records b.ledger.rows b.ledger.places.items
  exact = as_exact u b.ledger.tables.names b.ledger.tables.records b.ledger.rows b.ledger.places.items s.ledger

  right_told : TellsRight R told
  right_told = tells u b.ledger.tables.names b.ledger.tables.records walk exact.exact exact.stands.holds.agrees

  above : StandsAbove b.ledger.tables.names b.ledger.tables.records fs c.rec
  above = subst (λ x. AreUnderWay R (names_of b) (x ∷ tasks_of fs)) C.checked.task k.top.under_way

  -- ---- tasks with records are settled, and have canonical outputs

  settled_at : (n : ℕ) (rec : TaskRecord) → kept_of b.ledger.tables.records n ≡ Some rec → is_ended walk n ≡ true
  settled_at n rec kept =
      settled_done walk n (kept_settled u b.ledger.tables.names b.ledger.tables.records b.ledger.rows b.ledger.places.items s.ledger n rec kept)

  outputs : OutputsAreCanonical b.ledger.tables.records (is_ended walk)
  outputs n rec v settles kept gave = record {
    encodable = by (subst (λ o. IfSome o (IsRecordAt b.ledger.tables.names n)) kept (is.ledger.tables.records n)).kept;
    leaves = subst IsTrueOutcome gave (s.outputs n rec kept);
    bytes = refl;
  }
    where
      by : IsKept rec → IsEncodable (tree_of v)
      by (inl so) = subst IsStorableOutcome gave so.outcome
      by (inr failed) = absurd (subst HasFailed gave failed)

  -- what was required so far is settled
  required_settled : (n : ℕ) → Contains (numbers c.required.items) n → is_ended walk n ≡ true
  required_settled n i =
      let m = task_of b.ledger.tables.names (numbers c.required.items) (called_in (take c.at c.rec.deps)) n C.numbers i in
      let need : among (enc_task m.task) (needs_of (map observation_of (take c.at c.rec.deps))) ≡ true =
      subst (λ z. among (enc_task m.task) z ≡ true) (sym (needs_called (take c.at c.rec.deps))) (named_back (called_in (take c.at c.rec.deps)) m.task m.listed) in
      by m.task m.named
      (C.checked.goes.settled (enc_task m.task) (subst (λ z. among (enc_task m.task) (needs_of z) ≡ true) (sym C.checked.seen) need)).recorded
    where
      by : (v : Task) → slice_get b.ledger.tables.names n ≡ Some v → IsRecorded R (enc_task v) → is_ended walk n ≡ true
      by v e r =
          go (kept_of b.ledger.tables.records n) refl
          (sym (record_by_number b.ledger.tables.names b.ledger.tables.records n v s.ledger.tasks e) ∙ r.is)
        where
          go : (o : Option TaskRecord) → kept_of b.ledger.tables.records n ≡ o → option_map record_of (kept_of b.ledger.tables.records n) ≡ Some r.kept
              → is_ended walk n ≡ true
          go None q h = absurd (never (sym (ap (option_map record_of) q) ∙ h))
            where
              never : None ≡ Some r.kept → ⊥
              never z = cc
          go (Some x) q h = settled_at n x q

  -- ---- the next observation

  module _ (dep : Dep) (next : slice_get c.rec.deps c.at ≡ Some dep) where
    next_is : IsChecked (setting u) k.check.before R root fs (enc_task c.rec.task) (record_of c.rec) (map observation_of (take c.at c.rec.deps))
        (observation_of dep ∷ map observation_of (drop (c.at + 1) c.rec.deps))
    next_is =
        subst (λ z. IsChecked (setting u) k.check.before R root fs (enc_task c.rec.task) (record_of c.rec) (map observation_of (take c.at c.rec.deps))
        (map observation_of z)) (drop_at c.rec.deps c.at dep next) C.checked

    among_deps : Contains c.rec.deps dep
    among_deps = placed c.rec.deps c.at dep next

    -- if what it requires has a record
    module _ (ready : (v : Task) → dep.what ≡ Called v → (n : ℕ) × (slice_get b.ledger.tables.names n ≡ Some v) × (is_ended walk n ≡ true)) where
      kept_at : (n : ℕ) → is_ended walk n ≡ true → (rec : TaskRecord) × (kept_of b.ledger.tables.records n ≡ Some rec)
      kept_at n settles =
          settled_kept u b.ledger.tables.names b.ledger.tables.records b.ledger.rows b.ledger.places.items s.ledger n (done_settled walk n settles)

      asked_recorded : (x : List ℕ) → among x (task_asked (query_of dep.kind dep.what)) ≡ true → IsRecorded R x
      asked_recorded x i = go dep.what refl i
        where
          file : (q : DepKind) (p : Path) → task_asked (asked_of q p) ≡ []
          file kinds.Exists p = refl
          file kinds.ReadHash p = refl
          file kinds.ReadMark p = refl
          file kinds.Digest p = refl
          file kinds.List p = refl
          file kinds.Require p = refl
          file kinds.RequireHash p = refl
          file kinds.Run p = refl

          go : (w : DepOn) → dep.what ≡ w → among x (task_asked (query_of dep.kind w)) ≡ true → IsRecorded R x
          go (File p) e j = clash (among x []) (subst (λ z. among x z ≡ true) (file dep.kind p) j) refl
          go (Called v) e j =
              let r = ready v e in
              let q = kept_at r.0 r.2 in
              record {
                kept = record_of q.0;
                is = ap R (among_one x (enc_task v) j) ∙ record_by_number b.ledger.tables.names b.ledger.tables.records r.0 v s.ledger.tasks r.1
                    ∙ ap (option_map record_of) q.1;
              }

      may : MayPass (setting u) k.check.before R (names_of b) root fs (enc_task c.rec.task) (record_of c.rec) (map observation_of (take c.at c.rec.deps))
          (map observation_of (drop (c.at + 1) c.rec.deps)) (observation_of dep)
      may = record { apart = k.check.apart; old = C.old; table = s.ledger.table; under_way = above; checked = next_is; recorded = asked_recorded }

      plain : IsPlainDep u.functions u.directory b.ledger.tables b.ledger.rows b.named (is_ended walk) told
          (are_present u b.ledger.tables.names b.ledger.tables.records walk exact.exact exact.stands told right_told) s.known dep
      plain = record {
        allowed = (All-contains IsStorableDep c.rec.deps dep storable.deps among_deps).allowed;
        whole = λ v e. record {
          encodable = subst IsStorableStamp e (All-contains IsStorableDep c.rec.deps dep storable.deps among_deps).stamp;
          leaves = subst IsTrueStamp e (All-contains IsTrueDep c.rec.deps dep k.may.parts.deps among_deps).1;
          bytes = refl;
        };
        listed = λ p what kind. kind_source p (listed_source c.rec.deps (old_lists u k.check.before c.rec C.old) dep p among_deps kind what);
        ready = ready;
      }

      hasnt : stamp_now world (present u) (by_records R told) c.rec.writes (needs_of (map observation_of (take c.at c.rec.deps))) (query_of dep.kind dep.what)
          ≡ Some (stamp_of dep.stamp) → ⊥
      hasnt h =
          let stands = dep_stands u.functions u.directory b.ledger.tables b.ledger.rows b.named (is_ended walk) told
          (are_present u b.ledger.tables.names b.ledger.tables.records walk exact.exact exact.stands told right_told) s.known outputs c.rec.writes dep
          (numbers c.required.items) (called_in (take c.at c.rec.deps)) plain C.numbers required_settled
          (subst (λ z. stamp_now world (present u) (by_records R told) c.rec.writes z (query_of dep.kind dep.what) ≡ Some (stamp_of dep.stamp))
          (needs_called (take c.at c.rec.deps)) h) in
          differs.cant dep stands.0 next few stands.1

      differs_so : Differs world (present u) (by_evaluation world (present u)) c.rec.writes [] (record_of c.rec).observations
      differs_so =
          is_reason (setting u) k.check.before R root fs (enc_task c.rec.task) (record_of c.rec) (names_of b) (map observation_of (take c.at c.rec.deps))
          (map observation_of (drop (c.at + 1) c.rec.deps)) (observation_of dep) may told right_told hasnt

    -- a task without a record stands below it, so it doesn't end with a value
    in_cycle : (v : Task) (n : ℕ) → dep.what ≡ Called v → slice_get b.ledger.tables.names n ≡ Some v → kept_of b.ledger.tables.records n ≡ None
        → Differs world (present u) (by_evaluation world (present u)) c.rec.writes [] (record_of c.rec).observations
    in_cycle v n what named none =
        let requires = requires_at u k.check.before b.ledger.tables.names b.ledger.tables.records root fs c.rec c.at (numbers c.required.items) C dep v next what in
        let on : among (enc_task v) (enc_task c.rec.task ∷ tasks_of fs) ≡ true =
        k.busy (enc_task v) (among_at b.ledger.tables.names n v named)
        (record_by_number b.ledger.tables.names b.ledger.tables.records n v s.ledger.tasks named ∙ ap (option_map record_of) none) in
        required_reason (setting u) k.check.before R root fs (enc_task c.rec.task) (record_of c.rec) (map observation_of (take c.at c.rec.deps))
        (map observation_of (drop c.at c.rec.deps)) C.checked (how_by dep.kind) (enc_task v) requires.next
        (closing_undone (setting u) R root (names_of b) fs C.checked.frame k.top requires.left (how_by dep.kind) (enc_task v) requires.is_left requires.next
        (subst (λ x. among (enc_task v) (x ∷ tasks_of fs) ≡ true) (sym C.checked.task) on))

    differs_there : Differs world (present u) (by_evaluation world (present u)) c.rec.writes [] (record_of c.rec).observations
    differs_there = by dep.what refl
      where
        never_called : (p : Path) (v : Task) → File p ≡ Called v → ⊥
        never_called p v e = cc

        by_record : (v : Task) (n : ℕ) → dep.what ≡ Called v → slice_get b.ledger.tables.names n ≡ Some v → (o : Option TaskRecord)
            → kept_of b.ledger.tables.records n ≡ o → Differs world (present u) (by_evaluation world (present u)) c.rec.writes [] (record_of c.rec).observations
        by_record v n what named None e = in_cycle v n what named e
        by_record v n what named (Some rec) e =
            differs_so (λ w is. (n, named ∙ ap Some (same_task v w (sym what ∙ is)), settled_at n rec e))

        by : (what : DepOn) → dep.what ≡ what → Differs world (present u) (by_evaluation world (present u)) c.rec.writes [] (record_of c.rec).observations
        by (File p) what = differs_so (λ v is. absurd (never_called p v (sym what ∙ is)))
        by (Called v) what =
            let m = differs.entered dep v next few what in
            let named = place b.ledger.tables.names v m in
            by_record v m.0 what named (kept_of b.ledger.tables.records m.0) refl

  differs_now : Differs world (present u) (by_evaluation world (present u)) c.rec.writes [] (record_of c.rec).observations
  differs_now = let dep = slice_inside c.rec.deps c.at differs.inside in differs_there dep.0 dep.1

-- ---- a record with another stamp than now

disagrees : (w : World) (P : Project) (by : Teller) (own : List (Path × List ℕ)) (before : List (List ℕ)) (os : List Observation)
    → StampsAgree w P by own before os → Differs w P by own before os → ⊥
disagrees w P by own before [] agrees differs = differs
disagrees w P by own before (o ∷ os) agrees (inl apart) = apart agrees.0
disagrees w P by own before (o ∷ os) agrees (inr more) = disagrees w P by own (asked_before before o.query) os agrees.1 more

-- it isn't that of its task's evaluation now
gives_way : (u : Update) (before : Project) (rec : TaskRecord) → IsOldRecord (setting u) before (enc_task rec.task) (record_of rec)
    → Differs world (present u) (by_evaluation world (present u)) rec.writes [] (record_of rec).observations
    → record_of rec ≡ model_record world (evaluation world (present u) (enc_task rec.task)) → ⊥
gives_way u before rec old differs is =
    disagrees world (present u) (by_evaluation world (present u)) rec.writes [] (record_of rec).observations
    (subst (RecordAgrees world (present u) (by_evaluation world (present u))) (sym is)
    (agrees_itself world (present u) (enc_task rec.task) (subst NeverWritesWhatItSaw old.meaning old.polite)
    (ap (λ (r : Record). is_done r.outcome) (sym is) ∙ old.done)))
    differs

-- ---- a check that differs

pub differs_due : (u : Update) (done : List (List ℕ)) (root : List ℕ) (b : Builder) (fs : List ModelFrame) (c : Check) → IsPlanNow u b.plan → IsSite b
    → IsRightSite u done root b → ChecksRight u b root fs c → DiffersHere b c → IsDue u b.plan c.rec.task
differs_due u done root b fs c plan is s k differs = by c.contents k.may.due
  where
    by : (o : Option (Vec (Vec ℕ Global) Global)) → IsDueBy u b.plan c.rec o → IsDue u b.plan c.rec.task
    by (Some contents) due = due
    by None own = λ funcs digests knows.
        let old = plan.old own.number c.rec own.kept in
        stamp (record_of c.rec) old.left (differs_now u done root b fs c is s k differs old.storable)

pub differs_gives : (u : Update) (done : List (List ℕ)) (root : List ℕ) (b : Builder) (fs : List ModelFrame) (c : Check) → IsSite b → IsRightSite u done root b
    → ChecksRight u b root fs c → DiffersHere b c → IsStorable c.rec → GivesWay u c
differs_gives u done root b fs c is s k differs storable =
    gives_way u k.check.before c.rec k.check.check.old (differs_now u done root b fs c is s k differs storable)

-- ---- its next observation is of a task of no function

-- so that one fails
module _ (u : Update) (b : Builder) (root : List ℕ) (fs : List ModelFrame) (c : Check) (task : Task) (plan : IsPlanNow u b.plan) (k : ChecksRight u b root fs c)
    (needs : NeedsNext c task) (may : MayEnter b task Unknown) (canonical : IsCanonicalTask task (enc_task task)) where
  lost_undone : is_done (model_outcome (evaluation world (present u) (enc_task task))) ≡ false
  unfolding world
  lost_undone =
      ap (λ n. is_done (model_outcome n))
      (new_fails world (present u) [] (enc_task task) (fault_of UnknownTask) refl (omega arith) (omega arith)
      (unknown_fails u.functions task [] (no_function u b task plan may.1) canonical))

  lost_differs : Differs world (present u) (by_evaluation world (present u)) c.rec.writes [] (record_of c.rec).observations
  lost_differs =
      required_reason (setting u) k.check.before (records_of b) root fs (enc_task c.rec.task) (record_of c.rec) (map observation_of (take c.at c.rec.deps))
      (map observation_of (drop c.at c.rec.deps)) k.check.check.checked (how_by needs.dep.kind) (enc_task task)
      (requires_at u k.check.before b.ledger.tables.names b.ledger.tables.records root fs c.rec c.at (numbers c.required.items) k.check.check needs.dep task
      needs.next needs.what).next lost_undone

  pub lost_due : IsDue u b.plan c.rec.task
  lost_due = by c.contents k.may.due
    where
      by : (o : Option (Vec (Vec ℕ Global) Global)) → IsDueBy u b.plan c.rec o → IsDue u b.plan c.rec.task
      by (Some contents) due = due
      by None own = λ funcs digests knows. stamp (record_of c.rec) (plan.old own.number c.rec own.kept).left lost_differs

  pub lost_gives : GivesWay u c
  lost_gives = gives_way u k.check.before c.rec k.check.check.old lost_differs
