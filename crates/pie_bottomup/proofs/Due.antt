-- Once the roots are settled, each task that a clean build enters and that has a reason to run has run: a settled task that didn't has its old record,
-- which is right, its function kept its digest, and what it wrote is there.
use Rattle.std.proofs.Common.{◌≡◌, ◌⊎◌, ℕ, Bool, true, false, List, [], ◌∷◌, map, Option, None, Some, Result, Ok, Err, refl, sym, ap, ◌∙◌, subst, inl, inr}
use Rattle.std.specs.Prelude.{slice_index_or, IfOk}
use Rattle.pie_value.specs.declared.task.Task.{Task}
use Rattle.pie_value.specs.Canonical.{enc_task}
use Rattle.pie_types.specs.Whole.{number_from}
use Rattle.pie_old.specs.inner.Code.{is_same_code}
use Rattle.pie_record.specs.declared.records.Records.{Records}
use Rattle.pie_walk.specs.States.{WalkState}
use Rattle.pie_walk.specs.Standing.{Stands}
use Rattle.pie_model.specs.Paths.{among}
use Rattle.pie_model.specs.Trees.{outcome_of, is_done as ends_well, HasTask, entered}
use Rattle.pie_model.specs.Evaluation.{evaluation}
use Rattle.pie_model.specs.Records.{Record, record_of as model_record}
use Rattle.pie_model.specs.Running.{entered_all}
use Rattle.pie_model.specs.Forest.{only_if, forest, entered_tasks}
use Rattle.pie_model.specs.Reasons.{RunReason}
use Rattle.pie_model.specs.inner.RecordLaws.{HasItsRecord}
use Rattle.pie_model.proofs.Basics.{clash}
use Rattle.pie_settle_laws.proofs.Entering.{entered_split}
use Rattle.pie_settle_laws.proofs.Ending.{stands_reach}
use Rattle.pie_model_pipeline.specs.Rows.{record_of}
use Rattle.pie_model_pipeline.specs.World.{world}
use Rattle.pie_model_pipeline.proofs.Joining.{tasks_told}
use Rattle.pie_builder_laws.specs.Tables.{recorded, HasNumber}
use Rattle.pie_builder_laws.proofs.Naming.{canonical_at}
use Rattle.pie_builder_laws.proofs.Tabled.{record_has_number}
use Rattle.pie_earlier_laws.specs.Functions.{digest_under}
use Rattle.pie_earlier_laws.proofs.OldRows.{old_row}
use Rattle.pie_earlier_laws.proofs.Pipelines.{manners_of}
use Rattle.pie_earlier_laws.proofs.Reasons.{no_reason}
use Rattle.pie_compare_laws.proofs.Ways.{one_some}
use Rattle.pie_core_laws.specs.Update.{Update, earlier, present, old_record}
use Rattle.pie_core_laws.specs.Exact.{is_busy, busy_by, IsExact}
use Rattle.pie_core_laws.specs.Keeping.{Separates}
use Rattle.pie_core_laws.proofs.Joined.{same_codes}
use Rattle.pie_core_laws.proofs.Kept.{settled_known}
use Rattle.pie_core_laws.proofs.Numbers.{by_number}
use Rattle.pie_core_laws.proofs.Seen.{record_now}
use Rattle.pie_result_laws.specs.Verdicts.{IsSettledRoot, RootsSettle}
use Rattle.pie_bottomup.specs.declared.state.Core.{Core}
use Rattle.pie_bottomup.specs.declared.state.Turn.{Turn}
use Rattle.pie_bottomup.specs.declared.state.Turn.TheVariants.{Went, Settled, StartAfresh}
use Rattle.pie_bottomup.specs.inner.Exact.{IsExactCore, IsUnchanged}
use Rattle.pie_bottomup.specs.inner.Going.{IsBuildNow}
use Rattle.pie_bottomup.specs.inner.Causes.{HasRunAs}
use Rattle.pie_bottomup.specs.inner.Ran.{HasReason, KnowsCode, IsEntered, SettlesFor}
use Rattle.pie_bottomup.specs.inner.States.{HasSettled, TurnsTo, GoesTo}
use Rattle.pie_bottomup.proofs.ExactGrowing.{marked_inside}
use Rattle.pie_bottomup.proofs.ExactResults.{roots_settle}

-- ---- what roots enter

module _ (u : Update) (names : List Task) (records : Records) (s : WalkState) (e : IsExact u names records s) (w : Stands s) (apart : Separates u) where
  -- a task has the record of its evaluation, and isn't busy
  pub record IsUnder (x : List ℕ) : Type 0 where
    pub its : HasItsRecord world (present u) (recorded names records) x
    pub free : busy_by names s x ≡ true → ⊥

  -- so does what stands in the evaluation of a settled root
  under_root : (root : Task) (m : IsSettledRoot names records s root) (x : List ℕ) → HasTask x (evaluation world (present u) (enc_task root)) → IsUnder x
  under_root root m x stands =
      let is = settled_known u names records s m.number root e w apart m.named m.settled in
      let reaches = stands_reach world (present u) (recorded names records) (enc_task root) x is.known stands in
      record { its = is.known.right x reaches; free = is.settled.free x reaches }

  -- a root that ended with a value did by its record
  gave_value : (root : Task) (m : IsSettledRoot names records s root) → ends_well (outcome_of (evaluation world (present u) (enc_task root))) ≡ true
      → ends_well (record_of m.rec).outcome ≡ true
  gave_value root m well =
      let same : m.rec.task ≡ root = one_some m.rec.task root (sym (e.named m.number m.rec m.kept) ∙ m.named) in
      ap (λ (z : Record). ends_well z.outcome) (record_now u names records s e w apart m.number m.rec m.settled m.kept)
      ∙ ap (λ (z : Task). ends_well (outcome_of (evaluation world (present u) (enc_task z)))) same ∙ well

  module _ (x : List ℕ) where
    first_under : (root : Task) (m : IsSettledRoot names records s root) (all : List (List ℕ))
        → among x (entered (evaluation world (present u) (enc_task root)) all) ≡ true → (among x all ≡ true) ⊎ IsUnder x
    first_under root m all h = by (entered_split x (evaluation world (present u) (enc_task root)) all h)
      where
        by : (among x all ≡ true) ⊎ HasTask x (evaluation world (present u) (enc_task root)) → (among x all ≡ true) ⊎ IsUnder x
        by (inl before) = inl before
        by (inr stands) = inr (under_root root m x stands)

    pub entered_under : (roots : List Task) (all : List (List ℕ)) → RootsSettle names records s roots
        → among x (entered_all (forest world (present u) (map enc_task roots)) all) ≡ true → (among x all ≡ true) ⊎ IsUnder x
    entered_under [] all settle h = inl h
    entered_under (r ∷ rs) all settle h =
        by (ends_well (outcome_of (evaluation world (present u) (enc_task r)))) refl
        (λ well i. entered_under rs (entered (evaluation world (present u) (enc_task r)) all) (settle.1 (gave_value r settle.0 well)) i) h
      where
        then : (among x (entered (evaluation world (present u) (enc_task r)) all) ≡ true) ⊎ IsUnder x → (among x all ≡ true) ⊎ IsUnder x
        then (inl i) = first_under r settle.0 all i
        then (inr is) = inr is

        by : (b : Bool) → ends_well (outcome_of (evaluation world (present u) (enc_task r))) ≡ b
            → (ends_well (outcome_of (evaluation world (present u) (enc_task r))) ≡ true
            → among x (entered_all (forest world (present u) (map enc_task rs)) (entered (evaluation world (present u) (enc_task r)) all)) ≡ true
            → (among x (entered (evaluation world (present u) (enc_task r)) all) ≡ true) ⊎ IsUnder x)
            → among x (entered_all (only_if b (forest world (present u) (map enc_task rs))) (entered (evaluation world (present u) (enc_task r)) all)) ≡ true
            → (among x all ≡ true) ⊎ IsUnder x
        by true well later i = then (later well i)
        by false stops later i = first_under r settle.0 all i

-- ---- who has run

module _ (u : Update) (c : Core) (funcs digests : List (List ℕ × List ℕ)) (over : HasSettled c) (now : IsBuildNow u c.plan) (e : IsExactCore u c)
    (knows : KnowsCode u funcs digests c.plan.same.items c.tables) (t : Task) (is : IsEntered u t) (reason : HasReason u funcs digests t) where
  under : IsUnder u c.tables.names c.tables.records c.frames.walk e.are.tables over.rests.stands now.apart (enc_task t)
  under =
      by (entered_under u c.tables.names c.tables.records c.frames.walk e.are.tables over.rests.stands now.apart (enc_task t) c.plan.roots.items []
      (roots_settle c u over e) (subst (λ (bs : List (List ℕ)). among (enc_task t) (entered_tasks world (present u) bs) ≡ true) now.roots is.entered))
    where
      by : (among (enc_task t) [] ≡ true)
          ⊎ IsUnder u c.tables.names c.tables.records c.frames.walk e.are.tables over.rests.stands now.apart (enc_task t)
          → IsUnder u c.tables.names c.tables.records c.frames.walk e.are.tables over.rests.stands now.apart (enc_task t)
      by (inl none) = clash false none refl
      by (inr it) = it

  at : HasNumber c.tables.names c.tables.records (enc_task t) (model_record world (evaluation world (present u) (enc_task t)))
  at =
      record_has_number c.tables.names c.tables.records (enc_task t) (model_record world (evaluation world (present u) (enc_task t))) under.its.is

  its : at.task ≡ t
  its = tasks_told at.task t (canonical_at c.tables.names e.are.tables.tasks at.number at.task at.named) is.canonical (sym at.bytes)

  calm : is_busy c.frames.walk at.number ≡ false
  calm = by (is_busy c.frames.walk at.number) refl
    where
      by : (b : Bool) → is_busy c.frames.walk at.number ≡ b → b ≡ false
      by true busy =
          absurd (under.free (ap (busy_by c.tables.names c.frames.walk) at.bytes
          ∙ by_number false (is_busy c.frames.walk) c.tables.names at.number at.task e.are.tables.tasks at.named ∙ busy))
      by false busy = refl

  rec_is : at.rec.task ≡ t
  rec_is = one_some at.rec.task at.task (sym (e.are.tables.named at.number at.rec at.kept) ∙ at.named) ∙ its

  -- a task that didn't run has no reason to
  none : slice_index_or c.tables.ran.items at.number false ≡ false → ⊥
  none off = by (e.are.unchanged at.number at.rec calm off at.kept)
    where
      no_some : (n : ℕ) → None ≡ Some n → ⊥
      no_some n h = cc

      by : IsUnchanged u c.plan.same.items at.number at.rec ⊎ (number_from 0 u.functions at.rec.task ≡ None) → ⊥
      by (inr lost) = no_some is.number (sym lost ∙ ap (number_from 0 u.functions) rec_is ∙ is.function)
      by (inl un) =
          let left : old_record u (enc_task t) ≡ Some (record_of at.rec) =
          ap (λ (z : Task). old_record u (enc_task z)) (sym rec_is) ∙ un.old.left in
          let row = old_row world (earlier u) u.old_roots now.plan.update.build.accepted (enc_task t) (record_of at.rec) left in
          let inside = marked_inside c.plan.same.items at.number un.code in
          no_reason world (present u) u.directory (enc_task t) (record_of at.rec) (digest_under funcs t.func) (digest_under digests t.func)
          ((manners_of u.functions u.directory).writes (enc_task t)) (sym at.same)
          (ap (λ (z : Record). ends_well z.outcome) (at.same ∙ row.was) ∙ row.done)
          (same_codes funcs digests t.func
          (ap (λ (z : Task). is_same_code funcs digests z.func) (sym its) ∙ sym (knows.each at.number at.task inside at.named) ∙ un.code))
          (e.are.written.there at.number at.rec calm off at.kept)
          (subst (λ (o : Option Record). RunReason world (present u) u.directory o (digest_under funcs t.func) (digest_under digests t.func)) left reason)

  pub entered_ran : HasRunAs c.tables t
  entered_ran = by (slice_index_or c.tables.ran.items at.number false) refl
    where
      by : (b : Bool) → slice_index_or c.tables.ran.items at.number false ≡ b → HasRunAs c.tables t
      by true flag = record { number = at.number; named = at.named ∙ ap Some its; ran = flag }
      by false off = absurd (none off)

-- ---- a step

settles_all : (c : Core) → HasSettled c → SettlesFor c Settled
settles_all c over u funcs digests now e knows t is reason = entered_ran u c funcs digests over now e knows t is reason

pub turns_all : {E : Type 0} (c : Core) (r : Result Turn E) → IfOk r (TurnsTo c) → IfOk r (SettlesFor c)
turns_all c (Ok Went) is = tt
turns_all c (Ok Settled) is = settles_all c is
turns_all c (Ok (StartAfresh cause)) is = tt
turns_all c (Err e) is = tt

pub goes_all : {E : Type 0} (c : Core) (r : Result Turn E) → IfOk r (GoesTo c) → IfOk r (SettlesFor c)
goes_all c (Ok Went) is = tt
goes_all c (Ok Settled) is = settles_all c is
goes_all c (Ok (StartAfresh cause)) is = tt
goes_all c (Err e) is = tt
