-- A task ends with a right record, in the words of the model: the newest that waits goes on.
use Rattle.std.proofs.Common.{◌≡◌, ◌⊎◌, ℕ, ◌≤◌, true, false, List, [], ◌∷◌, Option, None, Some, length, map, refl, sym, ap, subst, ◌∙◌, inl, inr, arith}
use Rattle.std.specs.Prelude.{slice_get, slice_index_or, All}
use Rattle.std.proofs.lemmas.List.Elements.{All-weaker}
use Rattle.pie_value.specs.declared.task.Task.{Task}
use Rattle.pie_value.specs.declared.value.Value.{Value}
use Rattle.pie_value.specs.Values.{tree_of}
use Rattle.pie_value.specs.Canonical.{enc_task, IsCanonicalTask, IsEncodable}
use Rattle.pie_graph.specs.Numbers.{IsMarked}
use Rattle.pie_order.specs.Places.{PlacesAgree}
use Rattle.pie_record.specs.Canonical.{IsTrueOutcome}
use Rattle.pie_record.specs.declared.task_record.Outcome.TheVariants.{Done}
use Rattle.pie_record.specs.declared.task_record.TaskRecord.{TaskRecord}
use Rattle.pie_record.specs.inner.Records.{record_of as kept_of}
use Rattle.pie_old.specs.inner.Rows.{paths_in}
use Rattle.pie_view.specs.Content.{content}
use Rattle.pie_running.specs.inner.Coded.{HasFunction}
use Rattle.pie_named.specs.inner.Known.{IsTrueOf}
use Rattle.pie_model.specs.Paths.{among}
use Rattle.pie_model.specs.Records.{Record}
use Rattle.pie_model.specs.Trees.{trace_of}
use Rattle.pie_model.specs.Evaluation.{evaluation}
use Rattle.pie_model.specs.declared.words.How.{How}
use Rattle.pie_model.specs.declared.words.Event.TheVariants.{Require}
use Rattle.pie_model.specs.Separate.{AllMet}
use Rattle.pie_model.specs.inner.RecordLaws.{Passes}
use Rattle.pie_model.specs.inner.Consistent.{IsSettled}
use Rattle.pie_model.specs.inner.Stack.{Frame as ModelFrame, tasks_of, IsWaiting}
use Rattle.pie_model.specs.inner.Stack.IsWaiting.{nobody, waits as waits_for}
use Rattle.pie_model.proofs.Basics.{among_split}
use Rattle.pie_model_pipeline.specs.Rows.{record_of}
use Rattle.pie_model_pipeline.specs.World.{world}
use Rattle.pie_model_pipeline.proofs.Joining.{tasks_told}
use Rattle.pie_builder_laws.specs.Tables.{recorded}
use Rattle.pie_builder_laws.specs.Views.{RowIs}
use Rattle.pie_earlier_laws.specs.Left.{AreThere}
use Rattle.pie_step_laws.specs.Table.{IsTable}
use Rattle.pie_settle_laws.specs.Going.{before_wait}
use Rattle.pie_core_laws.specs.Update.{Update, MetIn, present}
use Rattle.pie_core_laws.specs.Seeing.{written_now}
use Rattle.pie_core_laws.proofs.Exactly.{same_or_not}
use Rattle.pie_topdown_laws.specs.Tables.{unrecorded, EndsIn}
use Rattle.pie_topdown_laws.specs.Ends.{AreRecorded}
use Rattle.pie_topdown_laws.specs.Ledgers.{setting, IsRightLedger}
use Rattle.pie_topdown_laws.specs.Running.{IsTop}
use Rattle.pie_topdown_laws.specs.Stacks.{IsStack}
use Rattle.pie_topdown_laws.specs.Whole.{Entry, checks, waits, AreEntries, IsEntry, GoesBeside}
use Rattle.pie_topdown_laws.proofs.Changing.{ledger_gains}
use Rattle.pie_topdown_laws.proofs.Remaining.{entries_stay as all_stay}
use Rattle.pie_topdown_laws.proofs.Stacking.{gains_one}
use Rattle.pie_topdown_laws.proofs.Tabling.{settled_stays, still_recorded}
use Rattle.pie_topdown.specs.declared.builder.Builder.{Builder}
use Rattle.pie_topdown.specs.declared.hand.Frame.{Frame}
use Rattle.pie_topdown.specs.declared.hand.Frame.TheVariants as frames
use Rattle.pie_topdown.specs.inner.Effects.{HasEnded}
use Rattle.pie_topdown.specs.inner.Frames.{IsOwnRecord}
use Rattle.pie_topdown.specs.inner.Ledgers.{IsLedger, row_with}
use Rattle.pie_topdown.specs.inner.Right.{site_of, build_of, names_of, records_of, entries_up, AreWritten, IsRightSite, IsUntouched, IsBesides, AreWaiting, AreTheBusy}
use Rattle.pie_topdown.specs.inner.Right.{HasEndedAs, CanGoOn, EndedRight}
use Rattle.pie_topdown.proofs.Keeping.{put_at, put_other}
use Rattle.pie_topdown.proofs.Entered.{alone}
use Rattle.pie_topdown.proofs.Lasting.{by_lasts, due_lasts, own_lasts}

one_some : {A : Type 0} (x y : A) → Some x ≡ Some y → x ≡ y
one_some x y e = cc

never : {X : Type 0} (x : X) → None ≡ Some x → ⊥
never x e = cc

required_same : {h k : How} {t v : List ℕ} → Require h t ≡ Require k v → t ≡ v
required_same e = cc

-- what is known of the files of a task that ends: what it wrote is there where it kept its own record, and staged where it ran
pub record WroteRight (u : Update) (b : Builder) (n : ℕ) (rec : TaskRecord) : Type 0 where
  pub there : slice_index_or b.ledger.tables.ran.items n false ≡ false → AreThere world u.directory rec.writes
  pub fetched : (path bytes : List ℕ) → slice_index_or b.ledger.tables.ran.items n false ≡ false → content b.stage n path ≡ Some bytes
      → written_now u rec.task path ≡ Some bytes
  pub ran : (path : List ℕ) → IsMarked b.ledger.tables.ran.items n → content b.stage n path ≡ written_now u rec.task path
  pub own : slice_index_or b.ledger.tables.ran.items n false ≡ false → IsOwnRecord b.plan rec

-- ---- a record more

module _ (b c : Builder) (n : ℕ) (rec : TaskRecord) (needs : List ℕ) (h : HasEnded b.ledger n rec needs c.ledger) (rest : c ≡ record b { ledger = c.ledger }) where
  same_stage : c.stage ≡ b.stage
  same_stage = ap (λ x. x.stage) rest

  same_plan : c.plan ≡ b.plan
  same_plan = ap (λ x. x.plan) rest

  same_stack : c.stack ≡ b.stack
  same_stack = ap (λ x. x.stack) rest

  same_flag : (k : ℕ) → slice_index_or c.ledger.tables.ran.items k false ≡ slice_index_or b.ledger.tables.ran.items k false
  same_flag k = ap (λ flags. slice_index_or flags k false) h.ran

  same_content : (k : ℕ) (path : List ℕ) → content c.stage k path ≡ content b.stage k path
  same_content k path = ap (λ s. content s k path) same_stage

  -- the records then, of the same tasks
  abbrev then : List ℕ → Option Record
  then = recorded b.ledger.tables.names c.ledger.tables.records

  then_is : records_of c ≡ then
  then_is = ap (λ ts. recorded ts c.ledger.tables.records) h.names

  names_are : names_of c ≡ names_of b
  names_are = ap (map enc_task) h.names

  module _ (u : Update) (done : List (List ℕ)) (root : List ℕ) (s : IsRightSite u done root b) (is : IsLedger c.ledger)
      (E : EndsIn world (present u) (records_of b) then (names_of b) (enc_task rec.task) (record_of rec))
      (met : AllMet world (MetIn u) (trace_of (evaluation world (present u) (enc_task rec.task)))) (named : slice_get b.ledger.tables.names n ≡ Some rec.task)
      (row : RowIs b.ledger.tables.names (row_with needs (paths_in rec.writes)) (Some rec)) (wrote : WroteRight u b n rec) (out : IsTrueOutcome rec.outcome) where
    table : IsTable world (present u) (records_of b) (names_of b)
    table = s.ledger.table

    beside : (fs : List ModelFrame) → GoesBeside (build_of b) (build_of c) fs
    beside fs = record {
      named = λ k v at. subst (λ (ts : List Task). slice_get ts k ≡ Some v) (sym h.names) at;
      settled = λ x S.
          subst (λ (R : List ℕ → Option Record). IsSettled R (Passes (unrecorded R)) x) (sym then_is)
          (settled_stays world (present u) (records_of b) then (names_of b) (enc_task rec.task) (record_of rec) table E x S);
      staged = λ k v at on path. same_content k path;
    }

    -- ---- what waits

    untouched : (k : ℕ) → IsUntouched b k → IsUntouched c k
    untouched k was = record { rested = same_flag k ∙ was.rested; unstaged = λ path. same_content k path ∙ was.unstaged path }

    besides : (f : Frame) → IsBesides u b f → IsBesides u c f
    besides (frames.Checks d) was = record {
      untouched = untouched d.value.no.0 was.untouched;
      function = subst (λ p. HasFunction u.functions p.code.now d.value.rec.task d.value.code.now) (sym same_plan) was.function;
      parts = was.parts;
      source = was.source;
      due = by_lasts u b.plan c.plan d.value.rec d.value.contents same_plan was.due;
      rest = was.rest;
    }
    besides (frames.Waits d) was = same_flag d.waiting.notes.number ∙ was

    pub ended_waiting : (fs : List ModelFrame) → AreWaiting u b root fs → AreWaiting u c root fs
    ended_waiting fs was = record {
      entries = subst (λ v. AreEntries (site_of u c) (build_of c) root (entries_up v.items) fs) (sym same_stack)
          (subst (λ p. AreEntries (record { update = u; codes = p.code.now }) (build_of c) root (entries_up b.stack.items) fs) (sym same_plan)
          (all_stay (site_of u b) (build_of b) (build_of c) root (entries_up b.stack.items) fs (beside fs) was.entries));
      besides = subst (λ v. All (IsBesides u c) v.items) (sym same_stack) (All-weaker (IsBesides u b) (IsBesides u c) besides b.stack.items was.besides);
    }

    -- ---- the site

    -- a record then is the one that was put, or was there before
    data Came (m : ℕ) (r : TaskRecord) : Type 0 where
      put : m ≡ n → r ≡ rec → Came m r
      was : kept_of b.ledger.tables.records m ≡ Some r → Came m r

    how : (m : ℕ) (r : TaskRecord) → kept_of c.ledger.tables.records m ≡ Some r → Came m r
    how m r k = by (same_or_not n m)
      where
        by : (m ≡ n) ⊎ (m ≡ n → ⊥) → Came m r
        by (inl e) = put e (one_some r rec (sym k ∙ ap (kept_of c.ledger.tables.records) e
            ∙ put_at b.ledger.tables.records c.ledger.tables.records n rec h.puts))
        by (inr d) = was (sym (put_other b.ledger.tables.records c.ledger.tables.records n rec h.puts m d) ∙ k)

    written : AreWritten u c
    written = record {
      there = λ m r rested k. there m r (sym (same_flag m) ∙ rested) (how m r k);
      fetched = λ m r path bytes rested k staged.
          fetched m r path bytes (sym (same_flag m) ∙ rested) (sym (same_content m path) ∙ staged) (how m r k);
      ran = λ m r path marked k. same_content m path ∙ ran m r path (sym (same_flag m) ∙ marked) (how m r k);
      own = λ m r rested k. own_lasts b.plan c.plan r same_plan (own m r (sym (same_flag m) ∙ rested) (how m r k));
      due = λ m marked.
          due_lasts u b c m (λ t at. subst (λ (ts : List Task). slice_get ts m ≡ Some t) (sym h.names) at) same_plan
          (s.written.due m (sym (same_flag m) ∙ marked));
      beyond = λ m path past. same_content m path ∙ s.written.beyond m path (subst (λ (ts : List Task). length ts ≤ m) h.names past);
    }
      where
        there : (m : ℕ) (r : TaskRecord) → slice_index_or b.ledger.tables.ran.items m false ≡ false → Came m r → AreThere world u.directory r.writes
        there m r rested (put e q) =
            subst (λ (x : TaskRecord). AreThere world u.directory x.writes) (sym q)
            (wrote.there (subst (λ k. slice_index_or b.ledger.tables.ran.items k false ≡ false) e rested))
        there m r rested (was k) = s.written.there m r rested k

        fetched : (m : ℕ) (r : TaskRecord) (path bytes : List ℕ) → slice_index_or b.ledger.tables.ran.items m false ≡ false
            → content b.stage m path ≡ Some bytes → Came m r → written_now u r.task path ≡ Some bytes
        fetched m r path bytes rested staged (put e q) =
            ap (λ (x : TaskRecord). written_now u x.task path) q
            ∙ wrote.fetched path bytes (subst (λ k. slice_index_or b.ledger.tables.ran.items k false ≡ false) e rested)
            (subst (λ k. content b.stage k path ≡ Some bytes) e staged)
        fetched m r path bytes rested staged (was k) = s.written.fetched m r path bytes rested k staged

        ran : (m : ℕ) (r : TaskRecord) (path : List ℕ) → IsMarked b.ledger.tables.ran.items m → Came m r → content b.stage m path ≡ written_now u r.task path
        ran m r path marked (put e q) =
            ap (λ k. content b.stage k path) e ∙ wrote.ran path (subst (IsMarked b.ledger.tables.ran.items) e marked)
            ∙ ap (λ (x : TaskRecord). written_now u x.task path) (sym q)
        ran m r path marked (was k) = s.written.ran m r path marked k

        own : (m : ℕ) (r : TaskRecord) → slice_index_or b.ledger.tables.ran.items m false ≡ false → Came m r → IsOwnRecord b.plan r
        own m r rested (put e q) =
            subst (IsOwnRecord b.plan) (sym q) (wrote.own (subst (λ k. slice_index_or b.ledger.tables.ran.items k false ≡ false) e rested))
        own m r rested (was k) = s.written.own m r rested k

    outputs : (m : ℕ) (r : TaskRecord) → kept_of c.ledger.tables.records m ≡ Some r → IsTrueOutcome r.outcome
    outputs m r k = by (how m r k)
      where
        by : Came m r → IsTrueOutcome r.outcome
        by (put e q) = subst (λ (x : TaskRecord). IsTrueOutcome x.outcome) (sym q) out
        by (was o) = s.outputs m r o

    ledger : IsRightLedger u c.ledger.tables.names c.ledger.tables.records c.ledger.rows c.ledger.places.items
    ledger =
        subst (λ ts. IsRightLedger u ts c.ledger.tables.records c.ledger.rows c.ledger.places.items) (sym h.names)
        (subst (λ rs. IsRightLedger u b.ledger.tables.names c.ledger.tables.records rs c.ledger.places.items) (sym h.rows)
        (ledger_gains u b.ledger.tables.names b.ledger.tables.records c.ledger.tables.records b.ledger.rows b.ledger.places.items c.ledger.places.items n
        (row_with needs (paths_in rec.writes)) rec s.ledger (record { named = named; puts = h.puts; ends = E; met = met; row_is = row })
        (subst (λ rs. PlacesAgree rs c.ledger.places.items) h.rows (record {
          as_many = let places = is.places in let rows = is.rows in omega (arith, places, rows);
          each = is.before;
        }))))

    recorded_stay : (ts : List (List ℕ)) → AreRecorded (records_of b) ts → AreRecorded (records_of c) ts
    recorded_stay ts all x on =
        let r = all x on in
        let k = still_recorded world (present u) (records_of b) (names_of b) table then (enc_task rec.task) (record_of rec) E x (record { kept = r.0; is = r.1 }) in
        (k.kept, ap (λ (R : List ℕ → Option Record). R x) then_is ∙ k.is)

    pub ended_site : IsRightSite u done root c
    ended_site = record {
      ledger = ledger;
      written = written;
      outputs = outputs;
      known = subst (IsTrueOf u.directory) (sym (ap (λ x. x.named) rest)) s.known;
      calm = ap (λ x. x.failure) rest ∙ s.calm;
      listed = s.listed;
      recorded = recorded_stay done s.recorded;
      stand = λ x on. s.stand x (subst (λ ts. among x ts ≡ true) names_are on);
    }

    -- ---- the newest that waits goes on

    ended_top : (g f : ModelFrame) (gs : List ModelFrame) → f.task ≡ enc_task rec.task → IsTop (site_of u b) (build_of b) root (g ∷ gs) f
        → IsTop (site_of u c) (build_of c) root gs (before_wait g)
    ended_top g f gs task K =
        subst (λ (R : List ℕ → Option Record). IsStack (setting u) R (names_of c) root gs (before_wait g)) (sym then_is)
        (subst (λ ts. IsStack (setting u) then ts root gs (before_wait g)) (sym names_are)
        (gains_one (setting u) (records_of b) (names_of b) then root gs g f (record_of rec) table
        (subst (λ x. EndsIn world (present u) (records_of b) then (names_of b) x (record_of rec)) (sym task) E) K))

    ended_busy : (ts : List (List ℕ)) → AreTheBusy b (enc_task rec.task ∷ ts) → AreTheBusy c ts
    ended_busy ts busy x on none = by (among_split x (enc_task rec.task) ts (busy x (subst (λ ns. among x ns ≡ true) names_are on) before))
      where
        unrecorded_then : then x ≡ None
        unrecorded_then = ap (λ (R : List ℕ → Option Record). R x) (sym then_is) ∙ none

        apart : x ≡ enc_task rec.task → ⊥
        apart e = never (record_of rec) (sym unrecorded_then ∙ ap then e ∙ E.changes.now)

        before : records_of b x ≡ None
        before = sym (E.changes.others x apart) ∙ unrecorded_then

        by : (x ≡ enc_task rec.task) ⊎ (among x ts ≡ true) → among x ts ≡ true
        by (inl e) = absurd (apart e)
        by (inr on) = on

    -- the task that ended
    the_ended : (v : Value) → rec.outcome ≡ Done v → IsEncodable (tree_of v) → HasEndedAs c rec.task
    the_ended v gave small = record {
      number = n;
      named = subst (λ (ts : List Task). slice_get ts n ≡ Some rec.task) (sym h.names) named;
      rec = rec;
      kept = put_at b.ledger.tables.records c.ledger.tables.records n rec h.puts;
      value = v;
      given = record {
        outcome = gave;
        canonical = record { encodable = small; leaves = subst IsTrueOutcome gave out; bytes = refl };
      };
    }

    -- what waits for it by its code requires it
    waited : (g f : ModelFrame) (gs : List ModelFrame) (e : Entry) → f.task ≡ enc_task rec.task → IsCanonicalTask rec.task (enc_task rec.task)
        → IsTop (site_of u b) (build_of b) root (g ∷ gs) f → IsEntry (site_of u b) (build_of b) root gs e g → HasEndedAs c rec.task → CanGoOn c e
    waited g f gs (checks r at required) task canonical K one ended = tt
    waited g f gs (waits w) task canonical K one ended =
        subst (HasEndedAs c) (sym (tasks_told w.required rec.task one.canonical canonical (by f.task K.goes.waits ∙ task))) ended
      where
        by : (x : List ℕ) → IsWaiting world (present u) root (g ∷ gs) x → enc_task w.required ≡ x
        by x (waits_for how room is_room runs asks below) = required_same (sym one.waits ∙ asks)

    -- on the stack that waits, or at the root
    pub ended_hand : (f : ModelFrame) (fs : List ModelFrame) (v : Value) → f.task ≡ enc_task rec.task → IsCanonicalTask rec.task (enc_task rec.task)
        → IsTop (site_of u b) (build_of b) root fs f → AreWaiting u b root fs → AreTheBusy b (enc_task rec.task ∷ tasks_of fs) → rec.outcome ≡ Done v
        → IsEncodable (tree_of v) → EndedRight u c root fs (entries_up c.stack.items)
    ended_hand f fs v task canonical K waiting busy gave small =
        subst (λ w. EndedRight u c root fs (entries_up w.items)) (sym same_stack) (by fs (entries_up b.stack.items) K waiting.entries busy)
      where
        at_root : (x : List ℕ) → IsWaiting world (present u) root [] x → x ≡ root
        at_root x nobody = refl

        the_root : (x : List ℕ) → among x (root ∷ []) ≡ true → enc_task rec.task ≡ root → (r : Record) × (records_of c x ≡ Some r)
        the_root x on e = (
          record_of rec,
          ap (λ (R : List ℕ → Option Record). R x) then_is ∙ ap then (alone x root on ∙ sym e) ∙ E.changes.now,
        )

        by : (gs : List ModelFrame) (es : List Entry) → IsTop (site_of u b) (build_of b) root gs f → AreEntries (site_of u b) (build_of b) root es gs
            → AreTheBusy b (enc_task rec.task ∷ tasks_of gs) → EndedRight u c root gs es
        by [] es K are busy = ((λ x on. the_root x on (sym task ∙ at_root f.task K.goes.waits)), ended_busy [] busy)
        by (g ∷ gs) [] K are busy = are
        by (g ∷ gs) (e ∷ es) K are busy = (
          ended_top g f gs task K,
          waited g f gs e task canonical K are.0 (the_ended v gave small),
          ended_busy (tasks_of (g ∷ gs)) busy,
        )
