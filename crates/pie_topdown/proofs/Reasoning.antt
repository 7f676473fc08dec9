-- Why an entered task has a reason to run: it has no record of its own, or that one's code or a file that it wrote isn't as it was.
use Rattle.std.proofs.Common.{◌≡◌, ℕ, ◌≤◌, zero, suc, Bool, true, false, cond, List, [], ◌∷◌, Option, None, Some, Box, length, refl, sym, ap, subst, ◌∙◌, inl, inr, arith, bytes_eq}
use Rattle.std.specs.declared.alloc.Global.{Global}
use Rattle.std.specs.Prelude.{slice_get, slice_index_or, is_some, option_map, IfSome}
use Rattle.sha2.specs.Sha256.{sha256}
use Rattle.pie_value.specs.declared.task.Task.{Task}
use Rattle.pie_value.specs.declared.stamp.Stamp.TheVariants as stamps
use Rattle.pie_value.specs.Canonical.{enc_task, IsCanonicalTask}
use Rattle.pie_files.specs.Directory.{Directory, file_at}
use Rattle.pie_record.specs.declared.task_record.Outcome.{Outcome}
use Rattle.pie_record.specs.declared.task_record.Outcome.TheVariants as outcomes
use Rattle.pie_record.specs.declared.task_record.TaskRecord.{TaskRecord}
use Rattle.pie_record.specs.inner.Records.{record_of as kept_of}
use Rattle.pie_tables.specs.Tabled.{IsTables, IsRecordAt}
use Rattle.pie_named.specs.inner.Stamped.{hash_of, differs_from}
use Rattle.pie_old.specs.inner.Code.{is_same_code}
use Rattle.pie_results.specs.inner.Failures.{is_done as has_output}
use Rattle.pie_model.specs.declared.words.Answer.TheVariants.{Entries}
use Rattle.pie_model.specs.declared.words.Event.{Event}
use Rattle.pie_model.specs.declared.words.Event.TheVariants.{Done, Fail, LookAt, ListOf, Write, Require}
use Rattle.pie_model.specs.declared.words.Look.{Look}
use Rattle.pie_model.specs.declared.words.How.{How}
use Rattle.pie_model.specs.declared.words.Seen.{Seen}
use Rattle.pie_model.specs.declared.words.Seen.TheVariants.{Nothing, Holds, Clashing}
use Rattle.pie_model.specs.Paths.{Path, among}
use Rattle.pie_model.specs.declared.words.Outcome.{Outcome as ModelOutcome}
use Rattle.pie_model.specs.declared.words.Outcome.TheVariants.{Ended, Failed, Cycled, Many}
use Rattle.pie_model.specs.Trees.{Node, ends, outcome_of as model_outcome, is_done, trace_of}
use Rattle.pie_model.specs.Seen.{visible_at}
use Rattle.pie_model.specs.Evaluation.{World, Project, Progress, answered, wrote, required, absent_answer, present_answer, output_answer, listing, on_seen, on_listing, on_outcome, on_event, follow, round, evaluation_with, start}
use Rattle.pie_model.specs.Records.{Record, observations_of}
use Rattle.pie_model.specs.Reasons.{WriteIsMissing}
use Rattle.pie_model.specs.Reasons.RunReason.{is_new, code, provided}
use Rattle.pie_model.proofs.Basics.{bytes_same, clash}
use Rattle.pie_model_pipeline.specs.Rows.{outcome_of, record_of}
use Rattle.pie_model_pipeline.specs.World.{world}
use Rattle.pie_model_pipeline.proofs.Joining.{tasks_told}
use Rattle.pie_builder_laws.specs.Names.{AreTasks}
use Rattle.pie_builder_laws.proofs.Naming.{canonical_at, one_place}
use Rattle.pie_earlier_laws.proofs.OldRows.{old_row}
use Rattle.pie_core_laws.specs.Update.{Update, earlier, old_record}
use Rattle.pie_core_laws.proofs.Joined.{other_codes}
use Rattle.pie_topdown.specs.declared.builder.Builder.{Builder}
use Rattle.pie_topdown.specs.declared.plan.Plan.{Plan}
use Rattle.pie_topdown.specs.inner.Due.{HasReason, IsKnownAs, IsDue, HasNoOwn, LacksOwn}
use Rattle.pie_topdown.specs.inner.Frames.{IsOwnRecord}
use Rattle.pie_topdown.specs.inner.Right.{IsPlanNow}
use Rattle.pie_topdown.specs.inner.Written.{IsOneGone}

-- ---- a record of the store has an output

with_output : (o : Outcome) → is_done (outcome_of o) ≡ true → has_output o ≡ true
with_output (outcomes.Done v) is = refl
with_output (outcomes.Failed f) is = is
with_output (outcomes.Cycled ts) is = is

module _ (u : Update) (p : Plan) (plan : IsPlanNow u p) where
  pub old_done : (rec : TaskRecord) → old_record u (enc_task rec.task) ≡ Some (record_of rec) → has_output rec.outcome ≡ true
  old_done rec left =
      let row = old_row world (earlier u) u.old_roots plan.build.accepted (enc_task rec.task) (record_of rec) left in
      with_output rec.outcome (ap (λ (z : Record). is_done z.outcome) row.was ∙ row.done)

  -- ---- it has none

  pub no_own_due : (t : Task) → IsCanonicalTask t (enc_task t) → HasNoOwn p t → IsDue u p t
  no_own_due t canonical none funcs digests knows = by (old_record u (enc_task t)) refl
    where
      known : (r : Record) → old_record u (enc_task t) ≡ Some r → HasReason u funcs digests t
      known r is = flag (slice_index_or p.same.items k.number false) refl
        where
          k : IsKnownAs p (enc_task t)
          k = knows.olds (enc_task t) (ap is_some is)

          its : k.rec.task ≡ t
          its = tasks_told k.rec.task t (canonical_at p.earlier.names knows.tasks k.number k.rec.task k.named) canonical k.is

          flag : (b : Bool) → slice_index_or p.same.items k.number false ≡ b → HasReason u funcs digests t
          flag true e =
              absurd (none k.rec (record {
                number = k.number;
                kept = k.kept;
                same = e;
                done = old_done k.rec (plan.old k.number k.rec k.kept).left;
              }) its)
          flag false e =
              code (other_codes funcs digests t.func
              (ap (λ (z : Task). is_same_code funcs digests z.func) (sym its) ∙ sym (knows.each k.number k.rec.task k.named) ∙ e))

      by : (o : Option Record) → old_record u (enc_task t) ≡ o → HasReason u funcs digests t
      by None is = is_new is
      by (Some r) is = known r is

  -- ---- a file that it wrote isn't there

  missing_file : (o : Option (List ℕ × ℕ)) (h : List ℕ) → differs_from (hash_of o) (stamps.Hash h) ≡ true → (b : List ℕ)
      → option_map (λ (f : List ℕ × ℕ). f.0) o ≡ Some b → world.hash b ≡ h → ⊥
  unfolding world
  missing_file None h d b e i = cc
  missing_file (Some f) h d b e i =
      apart (sym d ∙ ap (λ (z : Bool). cond z false true)
      (subst (λ z. bytes_eq (sha256 f.0) z ≡ true) (ap sha256 (one f.0 b e) ∙ i) (bytes_same (sha256 f.0))))
    where
      one : (x y : List ℕ) → Some x ≡ Some y → x ≡ y
      one x y q = cc

      apart : true ≡ false → ⊥
      apart q = cc

  gone_missing : (d : Directory) (ws : List (List ℕ × List ℕ)) → IsOneGone d ws → WriteIsMissing world d ws
  gone_missing d [] h = h
  gone_missing d (w ∷ ws) (inl e) = inl (missing_file (file_at d w.0) w.1 e)
  gone_missing d (w ∷ ws) (inr h) = inr (gone_missing d ws h)

  pub gone_due : (rec : TaskRecord) → IsOwnRecord p rec → IsOneGone u.directory rec.writes → IsDue u p rec.task
  gone_due rec own gone funcs digests knows =
      provided (record_of rec) (plan.old own.number rec own.kept).left (gone_missing u.directory rec.writes gone)

-- ---- no record is found

-- so it is with the task of a number
pub lacks_own : (b : Builder) (n : ℕ) (t : Task) → slice_get b.ledger.tables.names n ≡ Some t → HasNoOwn b.plan t → LacksOwn b n None
lacks_own b n t named none v at rec own is = none rec own (is ∙ one_some v t (sym at ∙ named))
  where
    one_some : (x y : Task) → Some x ≡ Some y → x ≡ y
    one_some x y e = cc

-- the task has this number among the old ones
module _ (p : Plan) (tables : IsTables p.earlier) (are : AreTasks p.earlier.names) (t : Task) (old : ℕ) (at : slice_get p.earlier.names old ≡ Some t)
    (rec : TaskRecord) (own : IsOwnRecord p rec) (is : rec.task ≡ t) where
  its_number : own.number ≡ old
  its_number =
      one_place p.earlier.names are own.number old t
      ((subst (λ (o : Option TaskRecord). IfSome o (IsRecordAt p.earlier.names own.number)) own.kept (tables.records own.number)).named ∙ ap Some is) at

  kept_here : kept_of p.earlier.records old ≡ Some rec
  kept_here = ap (kept_of p.earlier.records) (sym its_number) ∙ own.kept

  -- its function has another digest
  pub other_code : slice_index_or p.same.items old false ≡ false → ⊥
  other_code off = clash (slice_index_or p.same.items old false) (ap (λ n. slice_index_or p.same.items n false) (sym its_number) ∙ own.same) off

  -- it has no record
  pub unkept : kept_of p.earlier.records old ≡ None → ⊥
  unkept none = never (sym none ∙ kept_here)
    where
      never : None ≡ Some rec → ⊥
      never e = cc

  -- its record has no output
  pub undone : (r : TaskRecord) → kept_of p.earlier.records old ≡ Some r → has_output r.outcome ≡ false → ⊥
  undone r kept off =
      clash (has_output rec.outcome) own.done (ap (λ (x : TaskRecord). has_output x.outcome) (one_some rec r (sym kept_here ∙ kept)) ∙ off)
    where
      one_some : (x y : TaskRecord) → Some x ≡ Some y → x ≡ y
      one_some x y e = cc

-- so it is where a record was looked for that has one
pub found_lacks : (b : Builder) (n : ℕ) (t : Task) (old : ℕ) (r : TaskRecord) (found : Option (Box TaskRecord Global)) → IsTables b.plan.earlier
    → AreTasks b.plan.earlier.names → slice_get b.ledger.tables.names n ≡ Some t → slice_get b.plan.earlier.names old ≡ Some t
    → kept_of b.plan.earlier.records old ≡ Some r → (found ≡ None → has_output r.outcome ≡ false) → LacksOwn b n found
found_lacks b n t old r None tables are named at kept off =
    lacks_own b n t named (λ rec own is. undone b.plan tables are t old at rec own is r kept (off refl))
found_lacks b n t old r (Some rec) tables are named at kept off = tt

-- ---- how many observations a record has

less_or_same : (a b : ℕ) → a ≤ b → suc a ≤ suc b
less_or_same a b h = omega arith

one_more : (a b : ℕ) → a ≤ b → a ≤ suc b
one_more a b h = omega arith

-- one event, where the rest is short enough
one_event : (w : World) (P : Project) (child : List ℕ → Node) (t : List ℕ) (n : ℕ) (g : Progress)
    → ((h : Progress) → length (observations_of w (follow w P child t n h)) ≤ n)
    → length (observations_of w (on_event w P child t g (follow w P child t n) (P.next t g.answers))) ≤ suc n
one_event w P child t n g few = by (P.next t g.answers)
  where
    seen : (l : Look) (p : Path) (s : Seen) → length (observations_of w (on_seen w t l p g (follow w P child t n) s)) ≤ suc n
    seen l p Nothing = less_or_same (length (observations_of w (follow w P child t n (answered g (absent_answer l))))) n (few (answered g (absent_answer l)))
    seen l p (Holds b m) =
        less_or_same (length (observations_of w (follow w P child t n (answered g (present_answer w b l))))) n (few (answered g (present_answer w b l)))
    seen l p Clashing = omega arith

    listed : (d : Path) (o : Option (List Path)) → length (observations_of w (on_listing t d g (follow w P child t n) o)) ≤ suc n
    listed d None = omega arith
    listed d (Some es) = less_or_same (length (observations_of w (follow w P child t n (answered g (Entries es))))) n (few (answered g (Entries es)))

    came : (h : How) (k : Node) (o : ModelOutcome) → length (observations_of w (on_outcome h g k (follow w P child t n) o)) ≤ n
    came h k (Ended v) = few (required g k (output_answer v h))
    came h k (Failed u f) = omega arith
    came h k (Cycled ts) = omega arith
    came h k Many = omega arith

    by : (e : Event) → length (observations_of w (on_event w P child t g (follow w P child t n) e)) ≤ suc n
    by (Done v) = omega arith
    by (Fail k) = omega arith
    by (LookAt l p) = seen l p (visible_at P.file g.own g.kids p)
    by (ListOf d) = listed d (listing w P d)
    by (Write p b) = one_more (length (observations_of w (follow w P child t n (wrote g p b)))) n (few (wrote g p b))
    by (Require h x) =
        less_or_same (length (observations_of w (on_outcome h g (child x) (follow w P child t n) (model_outcome (child x))))) n
        (came h (child x) (model_outcome (child x)))

-- no more than its task may have events
pub observed_few : (w : World) (P : Project) (child : List ℕ → Node) (t : List ℕ) (n : ℕ) (g : Progress)
    → length (observations_of w (follow w P child t n g)) ≤ n
observed_few w P child t zero g = omega arith
observed_few w P child t (suc n) g = one_event w P child t n g (λ h. observed_few w P child t n h)

pub evaluated_few : (w : World) (P : Project) (m : ℕ) (above : List (List ℕ)) (t : List ℕ)
    → length (observations_of w (trace_of (evaluation_with m w P above t))) ≤ w.most_events
evaluated_few w P zero above t = omega arith
evaluated_few w P (suc m) above t = by (among t above)
  where
    by : (b : Bool) → length (observations_of w (cond b (ends (Cycled (round t above []))) (follow w P (evaluation_with m w P (t ∷ above)) t w.most_events start))) ≤ w.most_events
    by true = omega arith
    by false = observed_few w P (evaluation_with m w P (t ∷ above)) t w.most_events start
