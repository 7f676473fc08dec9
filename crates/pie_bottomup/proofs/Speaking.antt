-- What is settled in a build is of the language: its tasks, and the values of their records.
use Rattle.std.proofs.Common.{◌≡◌, ◌⊎◌, inl, inr, ℕ, List, map, sym, ap, subst, ◌∙◌}
use Rattle.std.specs.Prelude.{IfSome}
use Rattle.pie_value.specs.Canonical.{enc, enc_task, IsCanonical, IsCanonicalTask}
use Rattle.pie_value.specs.Values.{tree_of}
use Rattle.pie_value.specs.declared.value.Value.{Value}
use Rattle.pie_record.specs.Canonical.{IsStorableOutcome, IsTrueOutcome}
use Rattle.pie_record.specs.declared.task_record.Outcome.{Outcome}
use Rattle.pie_record.specs.declared.task_record.Outcome.TheVariants as outcomes
use Rattle.pie_record.specs.declared.task_record.TaskRecord.{TaskRecord}
use Rattle.pie_tables.specs.Tabled.{HasFailed, IsKept, IsRecordAt}
use Rattle.pie_walk.specs.Standing.{Stands}
use Rattle.pie_model.specs.Evaluation.{evaluation}
use Rattle.pie_model.specs.Records.{Record, record_of as model_record}
use Rattle.pie_model.specs.declared.words.Outcome.TheVariants.{Ended}
use Rattle.pie_model.specs.inner.Consistent.{IsSettled}
use Rattle.pie_model.specs.inner.RecordLaws.{HasItsRecord, Passes}
use Rattle.pie_model.specs.StampNow.{Told}
use Rattle.pie_model.specs.Paths.{Path}
use Rattle.pie_settle_laws.specs.Known.{IsKnown}
use Rattle.pie_settle_laws.proofs.Ending.{stands_reach}
use Rattle.pie_settle_laws.proofs.Settling.{is_known}
use Rattle.pie_manner_laws.proofs.Listings.{listings_tell}
use Rattle.pie_model_pipeline.specs.Rows.{outcome_of as model_outcome}
use Rattle.pie_model_pipeline.specs.World.{world}
use Rattle.pie_builder_laws.specs.Tables.{recorded}
use Rattle.pie_builder_laws.proofs.Naming.{canonical_at}
use Rattle.pie_builder_laws.proofs.Tabled.{record_has_number}
use Rattle.pie_earlier_laws.specs.Telling.{told_by}
use Rattle.pie_earlier_laws.proofs.Pipelines.{manners_of}
use Rattle.pie_entering_laws.specs.inner.Laws.{IsSpoken, SpeaksWhole}
use Rattle.pie_core_laws.specs.Update.{Update, MetIn, earlier, present}
use Rattle.pie_core_laws.specs.Exact.{busy_by, rank_by}
use Rattle.pie_core_laws.specs.Keeping.{Separates}
use Rattle.pie_core_laws.proofs.Exactly as exactly
use Rattle.pie_bottomup.specs.declared.state.Core.{Core}
use Rattle.pie_bottomup.specs.inner.Exact.{IsExactCore}
use Rattle.pie_bottomup.specs.inner.States.{IsSite}

-- the value of a record is one of the language
value_of : (o : Outcome) (b : List ℕ) → IsStorableOutcome o ⊎ HasFailed o → IsTrueOutcome o → model_outcome o ≡ Ended b → (v : Value) × IsCanonical (tree_of v) b
value_of (outcomes.Done v) b (inl small) leaves e = (v, record { encodable = small; leaves = leaves; bytes = ended_same b (enc (tree_of v)) (sym e) })
  where
    ended_same : (x y : List ℕ) → Ended x ≡ Ended y → x ≡ y
    ended_same x y i = cc
value_of (outcomes.Done v) b (inr failed) leaves e = absurd failed
value_of (outcomes.Failed fault) b kept leaves e = absurd (cc)
value_of (outcomes.Cycled tasks) b kept leaves e = absurd (cc)

kept_outcome : (r : TaskRecord) → IsKept r → IsStorableOutcome r.outcome ⊎ HasFailed r.outcome
kept_outcome r (inl stored) = inl stored.outcome
kept_outcome r (inr failed) = inr failed

module _ (u : Update) (c : Core) (site : IsSite c) (e : IsExactCore u c) where
  -- a task that has the record of its evaluation
  pub spoken_record : (x : List ℕ) → HasItsRecord world (present u) (recorded c.tables.names c.tables.records) x → IsSpoken u.functions u.directory x
  spoken_record x its =
      let at = record_has_number c.tables.names c.tables.records x (model_record world (evaluation world (present u) x)) its.is in
      let kept : IsRecordAt c.tables.names at.number at.rec = subst (λ o. IfSome o (IsRecordAt c.tables.names at.number)) at.kept (site.tables.records at.number) in
      record {
        task = at.task;
        canonical = subst (IsCanonicalTask at.task) (sym at.bytes) (canonical_at c.tables.names e.are.tables.tasks at.number at.task at.named);
        gives = λ b ends.
            value_of at.rec.outcome b (kept_outcome at.rec kept.kept) (site.agree.recorded.outputs at.number at.rec at.kept)
            (ap (λ (r : Record). r.outcome) (sym at.same) ∙ ends);
      }

  module _ (stands : Stands c.frames.walk) (apart : Separates u) (x : List ℕ)
      (settles : IsSettled (recorded c.tables.names c.tables.records) (Passes (busy_by c.tables.names c.frames.walk)) x) where
    known : IsKnown world (present u) (recorded c.tables.names c.tables.records) x
    known =
        let told : List (List ℕ) → Path → Told = told_by (recorded c.tables.names c.tables.records) (rank_by c.tables.names c.frames.walk.places) in
        is_known world (earlier u) (present u) (MetIn u) (recorded c.tables.names c.tables.records) told (map enc_task c.tables.names)
        (rank_by c.tables.names c.frames.walk.places) (Passes (busy_by c.tables.names c.frames.walk))
        (e.are.tables.consistent told (exactly.tells u c.tables.names c.tables.records c.frames.walk e.are.tables stands.holds.agrees)) apart
        (λ a b. listings_tell a b) (manners_of u.old_functions u.built).writes x settles

    -- all that stands in the evaluation of a settled task
    pub speaks_settled : SpeaksWhole u.functions u.directory x
    speaks_settled y has =
        spoken_record y (known.right y (stands_reach world (present u) (recorded c.tables.names c.tables.records) x y known has))
