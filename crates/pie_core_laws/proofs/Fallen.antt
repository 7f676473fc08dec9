-- A task whose record doesn't stand has a reason to run.
use Rattle.std.proofs.Common.{◌≡◌, ◌⊎◌, inl, inr, ℕ, ◌==◌, Bool, true, false, Option, Some, None, List, [], ◌∷◌, cond, map, All, refl, sym, ap, ap₂, subst, ◌∙◌, bytes_eq}
use Rattle.std.specs.Prelude.{is_some, option_map, Contains}
use Rattle.std.proofs.lemmas.Bool.Decides.{Decides-eqb}
use Rattle.std.proofs.lemmas.List.Elements.{All-nil, All-cons}
use Rattle.sha2.specs.Sha256.{sha256}
use Rattle.pie_value.specs.declared.stamp.Stamp.TheVariants as stamps
use Rattle.pie_record.specs.declared.dep.Dep.{Dep}
use Rattle.pie_record.specs.declared.dep.DepKind.TheVariants as kinds
use Rattle.pie_record.specs.declared.dep.DepOn.TheVariants.{File}
use Rattle.pie_record.specs.declared.task_record.Outcome.{Outcome}
use Rattle.pie_record.specs.declared.task_record.Outcome.TheVariants.{Done, Failed, Cycled}
use Rattle.pie_record.specs.declared.task_record.TaskRecord.{TaskRecord}
use Rattle.pie_record.specs.Canonical.{IsStorableOutcome}
use Rattle.pie_files.specs.Directory.{Directory, file_at}
use Rattle.pie_tables.specs.declared.tables.Tables.{Tables}
use Rattle.pie_named.specs.declared.named.Named.{Named}
use Rattle.pie_named.specs.declared.stamps.FileStamp.{FileStamp}
use Rattle.pie_named.specs.inner.Stamped.{hash_of, differs_from}
use Rattle.pie_named.specs.inner.Known.{IsTrueOf, known_stamp, known_differs}
use Rattle.pie_compare.specs.inner.Standing.{output_of, WriteStands, RecordStands}
use Rattle.pie_walk.specs.Marks.{mark_of, IsSettled}
use Rattle.pie_walk.specs.States.{WalkState}
use Rattle.pie_walk.specs.Standing.{Stands}
use Rattle.pie_model.specs.declared.words.Kind.TheVariants.{Source}
use Rattle.pie_model.specs.Paths.{Path, kind_of}
use Rattle.pie_model.specs.Evaluation.{World, Project}
use Rattle.pie_model.specs.Records.{Stamp, Absent, Present, Hash, Mark, WholeValue, Success, Observation}
use Rattle.pie_model.specs.StampNow.{Teller, by_records, stamp_now, asked_before, StampsAgree}
use Rattle.pie_model.specs.Reasons.{Differs, WriteIsMissing, RunReason}
use Rattle.pie_model.specs.Reasons.RunReason.{provided}
use Rattle.pie_model.proofs.Basics.{same_bytes, bytes_same, clash}
use Rattle.pie_check_laws.proofs.Members.{none_in, here_or_there}
use Rattle.pie_model_pipeline.specs.Rows.{query_of, observation_of, record_of}
use Rattle.pie_model_pipeline.specs.World.{world}
use Rattle.pie_builder_laws.specs.Tables.{recorded}
use Rattle.pie_earlier_laws.specs.Telling.{told_by}
use Rattle.pie_earlier_laws.specs.Whys.{AllRequiredAreRight}
use Rattle.pie_earlier_laws.proofs.Unnamed.{ListSources}
use Rattle.pie_earlier_laws.proofs.Pipelines.{kind_source}
use Rattle.pie_earlier_laws.proofs.Reasons.{differing_is_reason}
use Rattle.pie_compare_laws.specs.Agreeing.{IsPlainRow}
use Rattle.pie_model.specs.inner.Present.{Reaches}
use Rattle.pie_model.specs.inner.Consistent.{IsRecorded}
use Rattle.pie_model.specs.inner.RecordLaws.{HasItsRecord}
use Rattle.pie_compare_laws.proofs.Ways.{one_some, its_record, needed}
use Rattle.pie_compare_laws.proofs.Standing.{agreeing_stand}
use Rattle.pie_core_laws.specs.Update.{Update, IsUpdate, IsInformed, present}
use Rattle.pie_core_laws.specs.Comparing.{IsOld}
use Rattle.pie_core_laws.specs.Exact.{rank_by, runs, is_done, IsExact}
use Rattle.pie_core_laws.specs.Keeping.{Separates}
use Rattle.pie_core_laws.specs.Reasons.{MayBeCompared}
use Rattle.pie_core_laws.proofs.Compared.{old_lists}
use Rattle.pie_core_laws.proofs.Kept.{done_settled, settled_rests, are_present, settled_known}
use Rattle.pie_core_laws.proofs.Exactly as exactly

-- ---- stamps are one or are not

bytes_decide : (x y : List ℕ) → (x ≡ y) ⊎ (x ≡ y → ⊥)
bytes_decide x y = by (bytes_eq x y) refl
  where
    by : (b : Bool) → bytes_eq x y ≡ b → (x ≡ y) ⊎ (x ≡ y → ⊥)
    by true e = inl (same_bytes x y e)
    by false e = inr (λ i. clash (bytes_eq x y) (subst (λ z. bytes_eq x z ≡ true) i (bytes_same x)) e)

marks_decide : (m n : ℕ) → (m ≡ n) ⊎ (m ≡ n → ⊥)
marks_decide m n = by (m == n) refl
  where
    by : (b : Bool) → (m == n) ≡ b → (m ≡ n) ⊎ (m ≡ n → ⊥)
    by true e = inl ((Decides-eqb m n).0 e)
    by false e = inr (λ i. clash (m == n) ((Decides-eqb m n).1 i) e)

hashes_decide : (x y : List ℕ) → (Hash x ≡ Hash y) ⊎ (Hash x ≡ Hash y → ⊥)
hashes_decide x y = by (bytes_decide x y)
  where
    same : Hash x ≡ Hash y → x ≡ y
    same e = cc

    by : (x ≡ y) ⊎ (x ≡ y → ⊥) → (Hash x ≡ Hash y) ⊎ (Hash x ≡ Hash y → ⊥)
    by (inl e) = inl (ap Hash e)
    by (inr f) = inr (λ e. f (same e))

wholes_decide : (x y : List ℕ) → (WholeValue x ≡ WholeValue y) ⊎ (WholeValue x ≡ WholeValue y → ⊥)
wholes_decide x y = by (bytes_decide x y)
  where
    same : WholeValue x ≡ WholeValue y → x ≡ y
    same e = cc

    by : (x ≡ y) ⊎ (x ≡ y → ⊥) → (WholeValue x ≡ WholeValue y) ⊎ (WholeValue x ≡ WholeValue y → ⊥)
    by (inl e) = inl (ap WholeValue e)
    by (inr f) = inr (λ e. f (same e))

numbers_decide : (x y : ℕ) → (Mark x ≡ Mark y) ⊎ (Mark x ≡ Mark y → ⊥)
numbers_decide x y = by (marks_decide x y)
  where
    same : Mark x ≡ Mark y → x ≡ y
    same e = cc

    by : (x ≡ y) ⊎ (x ≡ y → ⊥) → (Mark x ≡ Mark y) ⊎ (Mark x ≡ Mark y → ⊥)
    by (inl e) = inl (ap Mark e)
    by (inr f) = inr (λ e. f (same e))

stamps_decide : (s t : Stamp) → (s ≡ t) ⊎ (s ≡ t → ⊥)
stamps_decide Absent Absent = inl refl
stamps_decide Absent Present = inr (λ e. cc)
stamps_decide Absent (Hash y) = inr (λ e. cc)
stamps_decide Absent (Mark y) = inr (λ e. cc)
stamps_decide Absent (WholeValue y) = inr (λ e. cc)
stamps_decide Absent Success = inr (λ e. cc)
stamps_decide Present Absent = inr (λ e. cc)
stamps_decide Present Present = inl refl
stamps_decide Present (Hash y) = inr (λ e. cc)
stamps_decide Present (Mark y) = inr (λ e. cc)
stamps_decide Present (WholeValue y) = inr (λ e. cc)
stamps_decide Present Success = inr (λ e. cc)
stamps_decide (Hash x) Absent = inr (λ e. cc)
stamps_decide (Hash x) Present = inr (λ e. cc)
stamps_decide (Hash x) (Hash y) = hashes_decide x y
stamps_decide (Hash x) (Mark y) = inr (λ e. cc)
stamps_decide (Hash x) (WholeValue y) = inr (λ e. cc)
stamps_decide (Hash x) Success = inr (λ e. cc)
stamps_decide (Mark x) Absent = inr (λ e. cc)
stamps_decide (Mark x) Present = inr (λ e. cc)
stamps_decide (Mark x) (Hash y) = inr (λ e. cc)
stamps_decide (Mark x) (Mark y) = numbers_decide x y
stamps_decide (Mark x) (WholeValue y) = inr (λ e. cc)
stamps_decide (Mark x) Success = inr (λ e. cc)
stamps_decide (WholeValue x) Absent = inr (λ e. cc)
stamps_decide (WholeValue x) Present = inr (λ e. cc)
stamps_decide (WholeValue x) (Hash y) = inr (λ e. cc)
stamps_decide (WholeValue x) (Mark y) = inr (λ e. cc)
stamps_decide (WholeValue x) (WholeValue y) = wholes_decide x y
stamps_decide (WholeValue x) Success = inr (λ e. cc)
stamps_decide Success Absent = inr (λ e. cc)
stamps_decide Success Present = inr (λ e. cc)
stamps_decide Success (Hash y) = inr (λ e. cc)
stamps_decide Success (Mark y) = inr (λ e. cc)
stamps_decide Success (WholeValue y) = inr (λ e. cc)
stamps_decide Success Success = inl refl

now_decide : (o : Option Stamp) (s : Stamp) → (o ≡ Some s) ⊎ (o ≡ Some s → ⊥)
now_decide None s = inr (λ e. cc)
now_decide (Some r) s = by (stamps_decide r s)
  where
    same : Some r ≡ Some s → r ≡ s
    same e = cc

    by : (r ≡ s) ⊎ (r ≡ s → ⊥) → (Some r ≡ Some s) ⊎ (Some r ≡ Some s → ⊥)
    by (inl e) = inl (ap Some e)
    by (inr f) = inr (λ e. f (same e))

-- stamps agree, or one of them differs
agree_or_differ : (w : World) (P : Project) (by : Teller) (own : List (Path × List ℕ)) (before : List (List ℕ)) (os : List Observation)
    → StampsAgree w P by own before os ⊎ Differs w P by own before os
agree_or_differ w P by own before [] = inl tt
agree_or_differ w P by own before (o ∷ os) =
    both (now_decide (stamp_now w P by own before o.query) o.stamp) (agree_or_differ w P by own (asked_before before o.query) os)
  where
    both : (stamp_now w P by own before o.query ≡ Some o.stamp) ⊎ (stamp_now w P by own before o.query ≡ Some o.stamp → ⊥)
        → StampsAgree w P by own (asked_before before o.query) os ⊎ Differs w P by own (asked_before before o.query) os
        → StampsAgree w P by own before (o ∷ os) ⊎ Differs w P by own before (o ∷ os)
    both (inl e) (inl h) = inl (e, h)
    both (inl e) (inr h) = inr (inr h)
    both (inr f) h = inr (inl f)

-- ---- writes are there as far as is known, or one is missing

missing_file : (o : Option (List ℕ × ℕ)) (h : List ℕ) → differs_from (hash_of o) (stamps.Hash h) ≡ true → (b : List ℕ)
    → option_map (λ (f : List ℕ × ℕ). f.0) o ≡ Some b → world.hash b ≡ h → ⊥
unfolding world
missing_file None h d b e i = cc
missing_file (Some f) h d b e i =
    apart (sym d ∙ ap (λ (z : Bool). cond z false true)
    (subst (λ z. bytes_eq (sha256 f.0) z ≡ true) (ap sha256 (one_some f.0 b e) ∙ i) (bytes_same (sha256 f.0))))
  where
    apart : true ≡ false → ⊥
    apart e = cc

writes_or : (d : Directory) (n : Named) → IsTrueOf d n → (writes : List (Path × List ℕ)) → All (WriteStands n) writes ⊎ WriteIsMissing world d writes
writes_or d n t [] = inl (All-nil (WriteStands n))
writes_or d n t (w ∷ ws) = by (known_stamp n kinds.ReadHash w.0) refl (writes_or d n t ws)
  where
    rest : WriteStands n w → All (WriteStands n) ws ⊎ WriteIsMissing world d ws → All (WriteStands n) (w ∷ ws) ⊎ WriteIsMissing world d (w ∷ ws)
    rest h (inl a) = inl (All-cons (WriteStands n) w ws h a)
    rest h (inr m) = inr (inr m)

    known : (o : Option FileStamp) → known_stamp n kinds.ReadHash w.0 ≡ Some o → (b : Bool) → differs_from o (stamps.Hash w.1) ≡ b
        → All (WriteStands n) ws ⊎ WriteIsMissing world d ws → All (WriteStands n) (w ∷ ws) ⊎ WriteIsMissing world d (w ∷ ws)
    known o e true i r =
        inr (inl (missing_file (file_at d w.0) w.1 (ap (λ z. differs_from z (stamps.Hash w.1)) (sym (t.hashes w.0 o e)) ∙ i)))
    known o e false i r = rest (ap (λ z. known_differs z (stamps.Hash w.1)) e ∙ i) r

    by : (o : Option (Option FileStamp)) → known_stamp n kinds.ReadHash w.0 ≡ o → All (WriteStands n) ws ⊎ WriteIsMissing world d ws
        → All (WriteStands n) (w ∷ ws) ⊎ WriteIsMissing world d (w ∷ ws)
    by None e r = rest (ap (λ z. known_differs z (stamps.Hash w.1)) e) r
    by (Some o) e r = known o e (differs_from o (stamps.Hash w.1)) refl r

-- ---- the whole record

gave_output : (o : Outcome) → IsStorableOutcome o → is_some (output_of o) ≡ true
gave_output (Done v) h = refl
gave_output (Failed f) h = absurd h
gave_output (Cycled ts) h = absurd h

listed_source : (deps : List Dep) → ListSources (map observation_of deps) → (dep : Dep) (p : Path) → Contains deps dep → dep.kind ≡ kinds.List
    → dep.what ≡ File p → kind_of p ≡ Source
listed_source [] l dep p i k w = absurd (none_in dep i)
listed_source (x ∷ deps) l dep p i k w = by (here_or_there x dep deps i) (λ j. listed_source deps l.1 dep p j k w)
  where
    by : (x ≡ dep) ⊎ Contains deps dep → (Contains deps dep → kind_of p ≡ Source) → kind_of p ≡ Source
    by (inl e) f = l.0 p (ap (λ (z : Dep). query_of z.kind z.what) e ∙ ap₂ query_of k w)
    by (inr j) f = f j

pub fallen_reasons : (u : Update) (t : Tables) (s : WalkState) (n : Named) (number : ℕ) (rec : TaskRecord) (kept digest : Option (List ℕ)) → IsUpdate u
    → IsInformed u n → IsExact u t.names t.records s → Stands s → Separates u → MayBeCompared u t s number rec → (RecordStands t s.rows n number → ⊥)
    → RunReason world (present u) u.directory (Some (record_of rec)) kept digest
fallen_reasons u t s n number rec kept digest update informed e w apart m falls =
    by_writes (writes_or u.directory n informed.known rec.writes)
  where
    unsettled : IsSettled s.marks number → ⊥
    unsettled i = clash (runs (mark_of s.marks number)) m.ran (exactly.settled_not_runs (mark_of s.marks number) i)

    is_old : IsOld u rec
    is_old = e.old number rec m.rests.kept unsettled

    plain : IsPlainRow rec
    plain = record {
      storable = is_old.storable;
      parts = m.parts;
      lists = λ dep p i k j. kind_source p (listed_source rec.deps (old_lists u rec update is_old) dep p i k j);
    }

    required : AllRequiredAreRight world (present u) (recorded t.names t.records) (record_of rec)
    required y i =
        let q = needed t.names t.records s.rows (is_done s) e.tasks (settled_rests u t.names t.records s e w) number rec y (record_of rec) m.rests
        (its_record t.names t.records s.rows (is_done s) e.tasks (settled_rests u t.names t.records s e w) number rec m.rests) i in
        let k = settled_known u t.names t.records s q.number q.task e w apart q.named (done_settled s q.number q.settles) in (
          subst (IsRecorded (recorded t.names t.records)) (sym q.bytes) k.known.recorded,
          subst (λ z. (x : List ℕ) → Reaches (recorded t.names t.records) z x → HasItsRecord world (present u) (recorded t.names t.records) x)
              (sym q.bytes) k.known.right,
        )

    by_stamps : All (WriteStands n) rec.writes
        → StampsAgree world (present u) (by_records (recorded t.names t.records) (told_by (recorded t.names t.records) (rank_by t.names s.places))) rec.writes
        [] (map observation_of rec.deps)
        ⊎ Differs world (present u) (by_records (recorded t.names t.records) (told_by (recorded t.names t.records) (rank_by t.names s.places))) rec.writes []
        (map observation_of rec.deps) → RunReason world (present u) u.directory (Some (record_of rec)) kept digest
    by_stamps writes (inl agrees) =
        absurd (falls (
          rec,
          m.rests.kept,
          record {
            output = gave_output rec.outcome is_old.storable.outcome;
            deps = agreeing_stand u.functions u.directory t s.rows n (is_done s)
                (told_by (recorded t.names t.records) (rank_by t.names s.places)) number rec
                (are_present u t.names t.records s e w (told_by (recorded t.names t.records) (rank_by t.names s.places))
                (exactly.tells u t.names t.records s e w.holds.agrees)) m.rests informed.known plain m.outputs agrees;
            writes = writes;
          },
        ))
    by_stamps writes (inr differs) =
        differing_is_reason world (present u) u.directory (recorded t.names t.records)
        (told_by (recorded t.names t.records) (rank_by t.names s.places)) (record_of rec) kept digest
        (exactly.tells u t.names t.records s e w.holds.agrees) required differs

    by_writes : All (WriteStands n) rec.writes ⊎ WriteIsMissing world u.directory rec.writes
        → RunReason world (present u) u.directory (Some (record_of rec)) kept digest
    by_writes (inl h) =
        by_stamps h (agree_or_differ world (present u)
        (by_records (recorded t.names t.records) (told_by (recorded t.names t.records) (rank_by t.names s.places))) rec.writes [] (map observation_of rec.deps))
    by_writes (inr h) = provided (record_of rec) refl h
