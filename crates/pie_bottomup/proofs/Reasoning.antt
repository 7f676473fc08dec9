-- Why a task that was taken starts to run, and what is known of the code of old tasks at first.
use Rattle.std.proofs.Common.{◌≡◌, ℕ, ◌<◌, ◌≤◌, Bool, true, false, List, Option, None, Some, Result, Ok, Err, length, map, refl, sym, ap, ◌∙◌, subst, inl, inr, arith}
use Rattle.std.specs.Prelude.{slice_get, slice_index_or, is_some, IsSome, OnOk}
use Rattle.std.proofs.lemmas.List.{length-map, get_or-map}
use Rattle.std.proofs.lemmas.Option.{slice_get_within, get_or_from_slice_get}
use Rattle.pie_value.specs.declared.task.Task.{Task}
use Rattle.pie_value.specs.Canonical.{enc_task}
use Rattle.pie_files.specs.Directory.{Directory}
use Rattle.pie_graph.specs.declared.edges.TaskNo.{TaskNo}
use Rattle.pie_graph.specs.Numbers.{IsMarked}
use Rattle.pie_record.specs.declared.task_record.TaskRecord.{TaskRecord}
use Rattle.pie_record.specs.inner.Records.{record_of as kept_of}
use Rattle.pie_old.specs.inner.Code.{is_same_code}
use Rattle.pie_compare.specs.inner.Standing.{RecordStands}
use Rattle.pie_walk.specs.Marks.{mark_of, IsSettled}
use Rattle.pie_walk.proofs.StateSteps.{top_runs}
use Rattle.pie_frames.specs.declared.frames.Frames.{Frames}
use Rattle.pie_frames.specs.inner.Standing.{Rests, Holds}
use Rattle.pie_frames.specs.inner.Turns.{HasTaken}
use Rattle.pie_model.specs.Records.{Record}
use Rattle.pie_model.specs.Reasons.{RunReason}
use Rattle.pie_model.specs.Reasons.RunReason.{is_new, code}
use Rattle.pie_model.proofs.Basics.{clash}
use Rattle.pie_model_pipeline.specs.Rows.{record_of}
use Rattle.pie_model_pipeline.specs.World.{world}
use Rattle.pie_model_pipeline.proofs.Joining.{tasks_told}
use Rattle.pie_builder_laws.proofs.Naming.{canonical_at, one_place}
use Rattle.pie_builder_laws.proofs.Tabled.{record_has_number}
use Rattle.pie_earlier_laws.specs.Functions.{digest_under}
use Rattle.pie_compare_laws.proofs.Ways.{one_some}
use Rattle.pie_core_laws.specs.Beginning.{IsLoaded}
use Rattle.pie_core_laws.specs.Update.{Update, present, old_record}
use Rattle.pie_core_laws.specs.Exact.{runs, IsExact}
use Rattle.pie_core_laws.proofs.Exactly.{settled_not_runs}
use Rattle.pie_core_laws.proofs.Fallen.{fallen_reasons}
use Rattle.pie_core_laws.proofs.Joined.{other_codes}
use Rattle.pie_bottomup.specs.declared.state.Core.{Core}
use Rattle.pie_bottomup.specs.declared.state.First.TheVariants.{Done}
use Rattle.pie_bottomup.specs.declared.state.Turn.{Turn}
use Rattle.pie_bottomup.specs.inner.Exact.{IsTakenExact}
use Rattle.pie_bottomup.specs.inner.Going.{Goes, IsBuildNow, StandsWhole}
use Rattle.pie_bottomup.specs.inner.Loaded.{BeginsExact}
use Rattle.pie_bottomup.specs.inner.Ran.{IsKnownAs, KnowsCode, BeginsKnowing, HasReason, HasStarted, RunsFor, TakesFor, WalksFor, StepsFor}
use Rattle.pie_bottomup.specs.inner.States.{IsSite}
use Rattle.pie_bottomup.proofs.ExactWalking.{taken_exact}
use Rattle.pie_bottomup.proofs.GoingAnswers.{output_canonical}
use Rattle.pie_bottomup.proofs.Leading.{taken_reached}

-- ---- what is known at first

-- a task that has a record in the store has a number
known_as : (u : Update) (c : Core) (count : ℕ) (bytes : List ℕ) (o : Option Record) → IsLoaded u c.tables.names c.tables.records c.frames.walk
    → length c.tables.names ≤ count → old_record u bytes ≡ o → IsSome o → IsKnownAs c.tables count bytes
known_as u c count bytes None loaded few is some = absurd (let e : false ≡ true = some in cc)
known_as u c count bytes (Some r) loaded few is some =
    let n = record_has_number c.tables.names c.tables.records bytes r (loaded.old bytes ∙ is) in
    record {
      number = n.number;
      task = n.task;
      old = omega (arith, slice_get_within c.tables.names n.number n.task n.named, few);
      named = n.named;
      is = sym n.bytes;
      recorded = ap is_some n.kept;
    }

pub begins_knowing : (funcs digests : List (List ℕ × List ℕ)) (kept : List TaskRecord) (changes : List (List ℕ)) (c : Core)
    → BeginsExact funcs digests kept changes c → c.plan.same.items ≡ map (λ (t : Task). is_same_code funcs digests t.func) c.tables.names
    → BeginsKnowing funcs digests kept changes c
begins_knowing funcs digests kept changes c exact same = λ u stored first.
    let f : Task → Bool = λ (t : Task). is_same_code funcs digests t.func in
    let many : length c.plan.same.items ≡ length c.tables.names = ap length same ∙ length-map c.tables.names f in
    record {
      few = omega (arith, many);
      each = λ n t inside named.
          ap (λ (flags : List Bool). slice_index_or flags n false) same
          ∙ get_or-map f c.tables.names n t false
          (omega (arith, slice_get_within c.tables.names n t named, length-map c.tables.names f))
          ∙ ap f (get_or_from_slice_get c.tables.names n t t named);
      olds = λ bytes is. known_as u c (length c.plan.same.items) bytes (old_record u bytes) (exact u stored first).loaded (omega (arith, many)) refl is;
    }

-- ---- a task that was taken

module _ (u : Update) (c : Core) (funcs digests : List (List ℕ × List ℕ)) (task : TaskNo) (t : Task) (knows : KnowsCode u funcs digests c.plan.same.items c.tables)
    (now : IsBuildNow u c.plan) (named : slice_get c.tables.names task.0 ≡ Some t) (taken : IsTakenExact u c task.0) (site : IsSite c)
    (holds : Holds task c.frames)
    (falls : IsMarked c.plan.same.items task.0 → RecordStands c.tables c.frames.walk.rows c.named task.0 → ⊥) where
  exact : IsExact u c.tables.names c.tables.records c.frames.walk
  exact = taken.exact.are.tables

  -- it has the number of the old task of its name
  its_number : (k : IsKnownAs c.tables (length c.plan.same.items) (enc_task t)) → k.number ≡ task.0
  its_number k =
      let same : k.task ≡ t =
      tasks_told k.task t (canonical_at c.tables.names exact.tasks k.number k.task k.named) (canonical_at c.tables.names exact.tasks task.0 t named) k.is in
      one_place c.tables.names exact.tasks k.number task.0 t (k.named ∙ ap Some same) named

  -- without a record it is new
  is_no_old : kept_of c.tables.records task.0 ≡ None → old_record u (enc_task t) ≡ None
  is_no_old none = by (old_record u (enc_task t)) refl
    where
      by : (o : Option Record) → old_record u (enc_task t) ≡ o → o ≡ None
      by None is = refl
      by (Some r) is =
          let k = knows.olds (enc_task t) (ap is_some is) in
          let apart : true ≡ false = sym k.recorded ∙ ap (λ (m : ℕ). is_some (kept_of c.tables.records m)) (its_number k) ∙ ap is_some none in
          absurd (cc)

  run : runs (mark_of c.frames.walk.marks task.0) ≡ true
  run = ap runs (top_runs c.frames.walk task holds.top holds.taken.stands.holds)

  unsettled : IsSettled c.frames.walk.marks task.0 → ⊥
  unsettled is = clash (runs (mark_of c.frames.walk.marks task.0)) run (settled_not_runs (mark_of c.frames.walk.marks task.0) is)

  -- with one its code is another, or the record doesn't stand
  fallen : (rec : TaskRecord) → kept_of c.tables.records task.0 ≡ Some rec → HasReason u funcs digests t
  fallen rec kept = by (slice_index_or c.plan.same.items task.0 false) refl
    where
      its : rec.task ≡ t
      its = one_some rec.task t (sym (exact.named task.0 rec kept) ∙ named)

      left : old_record u (enc_task t) ≡ Some (record_of rec)
      left = ap (λ (x : Task). old_record u (enc_task x)) (sym its) ∙ (exact.old task.0 rec kept unsettled).left

      inside : task.0 < length c.plan.same.items
      inside =
          let k = knows.olds (enc_task t) (ap is_some left) in subst (λ (m : ℕ). m < length c.plan.same.items) (its_number k) k.old

      by : (b : Bool) → slice_index_or c.plan.same.items task.0 false ≡ b → HasReason u funcs digests t
      by true flag =
          subst (λ (o : Option Record). RunReason world (present u) u.directory o (digest_under funcs t.func) (digest_under digests t.func)) (sym left)
          (fallen_reasons u c.tables c.frames.walk c.named task.0 rec (digest_under funcs t.func) (digest_under digests t.func) now.plan.update
          taken.exact.are.known.informed exact holds.taken.stands now.apart (record {
            ran = run;
            rests = taken.rests rec kept;
            parts = taken.exact.are.known.parts task.0 rec kept unsettled;
            outputs = λ n r v settled is done. output_canonical c n r v site is done;
          }) (falls flag))
      by false off = code (other_codes funcs digests t.func (sym (knows.each task.0 t inside named) ∙ off))

  reason : HasReason u funcs digests t
  reason = by (kept_of c.tables.records task.0) refl
    where
      by : (o : Option TaskRecord) → kept_of c.tables.records task.0 ≡ o → HasReason u funcs digests t
      by None is = is_new (is_no_old is)
      by (Some rec) is = fallen rec is

-- it starts to run
pub started_for : {E : Type 0} (c new : Core) (task : TaskNo) (before after : List Task) (r : Result Turn E) → IsSite c → Holds task c.frames
    → (IsMarked c.plan.same.items task.0 → RecordStands c.tables c.frames.walk.rows c.named task.0 → ⊥)
    → OnOk r (HasStarted c task.0 new before after) → OnOk r (TakesFor c task.0 new before after)
started_for c new task before after (Ok turn) site holds falls is = λ u funcs digests now taken reached knows. inr (record {
  number = task.0;
  task = is.task;
  named = is.named;
  rested = taken.unstarted.rested;
  ran = is.ran;
  added = is.added;
  reason = reason u c funcs digests task is.task knows now is.named taken site holds falls;
  reached = reached is.task is.named;
  alone = is.alone;
})
started_for c new task before after (Err e) site holds falls is = tt

-- the walk took it
pub walks_for : {E : Type 0} (old : Core) (f : Frames) (new : Core) (task : TaskNo) (before after : List Task) (r : Result Turn E) → IsSite old
    → Rests old.frames → HasTaken old.frames f task → OnOk r (TakesFor (record old { frames = f }) task.0 new before after)
    → OnOk r (WalksFor old new before after)
walks_for old f new task before after (Ok turn) site rests has takes = λ u funcs digests now e resting knows.
    takes u funcs digests now (taken_exact u old f task e rests has) (taken_reached u old f task now e site rests resting has) knows
walks_for old f new task before after (Err e) site rests has takes = tt

-- ---- a step

module _ (held : Option Directory) (old new : Core) (before after : List Task) where
  -- where the first step is done
  pub steps_for : old.first ≡ Done → old.hand ≡ None → WalksFor old new before after → StepsFor held old new before after
  steps_for done free walks u funcs digests now site stands knows = by stands
    where
      by : StandsWhole u old → RunsFor u funcs digests old.tables new.tables before after
      by (inl loaded) = absurd (loaded.0 done)
      by (inr whole) = walks u funcs digests now whole.exact (subst (Goes u old) free whole.going) knows
