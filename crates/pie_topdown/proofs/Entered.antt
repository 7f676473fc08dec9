-- A task is entered above one that waits for it, in the words of the model.
use Rattle.std.proofs.Common.{◌≡◌, ◌⊎◌, ℕ, zero, suc, ◌+◌, ◌<◌, Bool, true, false, List, [], ◌∷◌, ◌++◌, Option, None, Some, length, map, refl, sym, ap, subst, ◌∙◌, inl, inr, arith}
use Rattle.std.specs.Prelude.{slice_get, slice_index_or, All, IfSome}
use Rattle.std.specs.List.{Contains}
use Rattle.std.proofs.lemmas.List.{length-append}
use Rattle.std.proofs.lemmas.List.Elements.{All-weaker}
use Rattle.std.proofs.lemmas.Option.{slice_get_within, slice_get-get_or, get_or_from_slice_get}
use Rattle.std.proofs.Math.Seq.{get_or-append_seam}
use Rattle.pie_value.specs.declared.task.Task.{Task}
use Rattle.pie_value.specs.Canonical.{enc_task, IsCanonicalTask}
use Rattle.pie_graph.specs.Rows.{no_edges}
use Rattle.pie_order.specs.Places.{PlacesAgree}
use Rattle.pie_record.specs.declared.task_record.TaskRecord.{TaskRecord}
use Rattle.pie_record.specs.inner.Records.{record_of as kept_of}
use Rattle.pie_view.specs.Content.{content}
use Rattle.pie_named.specs.inner.Known.{IsTrueOf}
use Rattle.pie_running.specs.inner.Coded.{HasFunction}
use Rattle.pie_model.specs.Paths.{among}
use Rattle.pie_model.specs.Records.{Record}
use Rattle.pie_model.specs.Trees.{HasTask}
use Rattle.pie_model.specs.Evaluation.{evaluation}
use Rattle.pie_model.specs.inner.RecordLaws.{Passes}
use Rattle.pie_model.specs.inner.Consistent.{IsSettled}
use Rattle.pie_model.specs.inner.Stack.{Frame as ModelFrame}
use Rattle.pie_model.proofs.Basics.{among_here, among_there, among_right, among_either, among_split}
use Rattle.pie_model_pipeline.specs.World.{world}
use Rattle.pie_builder_laws.specs.Names.{AreTasks}
use Rattle.pie_builder_laws.specs.Tables.{recorded}
use Rattle.pie_builder_laws.proofs.Naming.{named_to}
use Rattle.pie_tables.specs.Tabled.{IsRecordAt}
use Rattle.pie_core_laws.specs.Update.{Update, present}
use Rattle.pie_topdown_laws.specs.Tables.{unrecorded}
use Rattle.pie_topdown_laws.specs.Ends.{AreRecorded, StandsUnder}
use Rattle.pie_topdown_laws.specs.Ledgers.{setting, IsRightLedger}
use Rattle.pie_topdown_laws.specs.Whole.{AreEntries, GoesBeside}
use Rattle.pie_topdown_laws.proofs.Changing.{ledger_grows, records_kept}
use Rattle.pie_topdown_laws.proofs.Remaining.{entries_stay as all_stay}
use Rattle.pie_topdown.specs.declared.builder.Builder.{Builder}
use Rattle.pie_topdown.specs.declared.ledger.Ledger.{Ledger}
use Rattle.pie_topdown.specs.declared.hand.Frame.{Frame}
use Rattle.pie_topdown.specs.declared.hand.Frame.TheVariants as frames
use Rattle.pie_topdown.specs.inner.Entries.{HasEntered}
use Rattle.pie_topdown.specs.inner.Ledgers.{IsLedger}
use Rattle.pie_topdown.specs.inner.Frames.{IsSite}
use Rattle.pie_topdown.specs.inner.Right.{site_of, build_of, names_of, records_of, entries_up, AreWritten, IsRightSite, IsUntouched, IsBesides, AreWaiting, AreTheBusy}
use Rattle.pie_topdown.specs.inner.Right.{EntersSite}
use Rattle.pie_topdown.proofs.Lasting.{by_lasts, due_lasts, own_lasts}
use Rattle.pie_topdown.proofs.Keeping.{named_more}

-- ---- flags

-- one flag more changes no other, and is none
pub flag_more : (flags : List Bool) (n : ℕ) → slice_index_or (flags ++ false ∷ []) n false ≡ slice_index_or flags n false
flag_more [] zero = refl
flag_more [] (suc n) = refl
flag_more (f ∷ flags) zero = refl
flag_more (f ∷ flags) (suc n) = flag_more flags n

-- there is no flag past the last
past : (flags : List Bool) (n : ℕ) → length flags ≡ n → slice_index_or flags n false ≡ false
past [] zero e = refl
past [] (suc n) e = refl
past (f ∷ flags) zero e = absurd (omega (arith, e))
past (f ∷ flags) (suc n) e = past flags n (omega (arith, e))

mapped_end : {A B : Type 0} (f : A → B) (xs : List A) (x : A) → map f (xs ++ x ∷ []) ≡ map f xs ++ f x ∷ []
mapped_end f [] x = refl
mapped_end f (y ∷ ys) x = ap (λ zs. f y ∷ zs) (mapped_end f ys x)

last_at : (ts : List Task) (t : Task) → slice_get (ts ++ t ∷ []) (length ts) ≡ Some t
last_at ts t =
    let size : length (ts ++ t ∷ []) ≡ length ts + 1 = length-append ts (t ∷ []) in
    slice_get-get_or (ts ++ t ∷ []) (length ts) t (omega (arith, size)) ∙ ap Some (get_or-append_seam ts t [] t)

pub alone : (x y : List ℕ) → among x (y ∷ []) ≡ true → x ≡ y
alone x y is = by (among_split x y [] is)
  where
    by : (x ≡ y) ⊎ (among x [] ≡ true) → x ≡ y
    by (inl e) = e
    by (inr no_more) = absurd (cc)

pub canonical_at : (names : List Task) → AreTasks names → (n : ℕ) (t : Task) → slice_get names n ≡ Some t → IsCanonicalTask t (enc_task t)
canonical_at names are n t at =
    subst (λ (x : Task). IsCanonicalTask x (enc_task x)) (get_or_from_slice_get names n t t at) (are.canonical n t (slice_get_within names n t at))

-- ---- the ledger

module _ (b c : Builder) (t : Task) (e : HasEntered b t c) (fresh : kept_of b.ledger.tables.records (length b.ledger.tables.names) ≡ None) where
  same_stage : c.stage ≡ b.stage
  same_stage = ap (λ x. x.stage) e.rest

  same_plan : c.plan ≡ b.plan
  same_plan = ap (λ x. x.plan) e.rest

  same_kept : (n : ℕ) → kept_of c.ledger.tables.records n ≡ kept_of b.ledger.tables.records n
  same_kept n = ap (λ rs. kept_of rs n) e.added.records

  same_flag : (n : ℕ) → slice_index_or c.ledger.tables.ran.items n false ≡ slice_index_or b.ledger.tables.ran.items n false
  same_flag n = ap (λ flags. slice_index_or flags n false) e.added.ran ∙ flag_more b.ledger.tables.ran.items n

  same_content : (n : ℕ) (path : List ℕ) → content c.stage n path ≡ content b.stage n path
  same_content n path = ap (λ s. content s n path) same_stage

  -- names keep their numbers
  pub entered_names : (n : ℕ) (v : Task) → slice_get b.ledger.tables.names n ≡ Some v → slice_get c.ledger.tables.names n ≡ Some v
  entered_names n v at =
      subst (λ (ts : List Task). slice_get ts n ≡ Some v) (sym e.added.names) (named_more b.ledger.tables.names (t ∷ []) v n at)

  pub entered_records : records_of c ≡ records_of b
  entered_records =
      ap (λ ts. recorded ts c.ledger.tables.records) e.added.names ∙ ap (recorded (b.ledger.tables.names ++ t ∷ [])) e.added.records
      ∙ records_kept b.ledger.tables.names b.ledger.tables.records t fresh

  -- the bytes of the tasks
  pub entered_all : names_of c ≡ names_of b ++ enc_task t ∷ []
  entered_all = ap (map enc_task) e.added.names ∙ mapped_end enc_task b.ledger.tables.names t

  -- ---- what waits

  pub entered_beside : (fs : List ModelFrame) → GoesBeside (build_of b) (build_of c) fs
  entered_beside fs = record {
    named = entered_names;
    settled = λ x h. subst (λ (R : List ℕ → Option Record). IsSettled R (Passes (unrecorded R)) x) (sym entered_records) h;
    staged = λ n v at on path. same_content n path;
  }

  entered_untouched : (n : ℕ) → IsUntouched b n → IsUntouched c n
  entered_untouched n is = record { rested = same_flag n ∙ is.rested; unstaged = λ path. same_content n path ∙ is.unstaged path }

  entered_besides : (u : Update) (f : Frame) → IsBesides u b f → IsBesides u c f
  entered_besides u (frames.Checks d) is = record {
    untouched = entered_untouched d.value.no.0 is.untouched;
    function = subst (λ p. HasFunction u.functions p.code.now d.value.rec.task d.value.code.now) (sym same_plan) is.function;
    parts = is.parts;
    source = is.source;
    due = by_lasts u b.plan c.plan d.value.rec d.value.contents same_plan is.due;
    rest = is.rest;
  }
  entered_besides u (frames.Waits d) is = same_flag d.waiting.notes.number ∙ is

  pub entered_waiting : (u : Update) (root : List ℕ) (fs : List ModelFrame) → AreWaiting u b root fs → AreWaiting u c root fs
  entered_waiting u root fs is = record {
    entries = subst (λ v. AreEntries (site_of u c) (build_of c) root (entries_up v.items) fs) (sym (ap (λ x. x.stack) e.rest))
        (subst (λ p. AreEntries (record { update = u; codes = p.code.now }) (build_of c) root (entries_up b.stack.items) fs) (sym same_plan)
        (all_stay (site_of u b) (build_of b) (build_of c) root (entries_up b.stack.items) fs (entered_beside fs) is.entries));
    besides = subst (λ v. All (IsBesides u c) v.items) (sym (ap (λ x. x.stack) e.rest))
        (All-weaker (IsBesides u b) (IsBesides u c) (entered_besides u) b.stack.items is.besides);
  }

  -- ---- the site

  entered_written : (u : Update) → AreWritten u b → AreWritten u c
  entered_written u is = record {
    there = λ n rec rested kept. is.there n rec (sym (same_flag n) ∙ rested) (sym (same_kept n) ∙ kept);
    fetched = λ n rec path bytes rested kept staged.
        is.fetched n rec path bytes (sym (same_flag n) ∙ rested) (sym (same_kept n) ∙ kept) (sym (same_content n path) ∙ staged);
    ran = λ n rec path marked kept. same_content n path ∙ is.ran n rec path (sym (same_flag n) ∙ marked) (sym (same_kept n) ∙ kept);
    own = λ n rec rested kept. own_lasts b.plan c.plan rec same_plan (is.own n rec (sym (same_flag n) ∙ rested) (sym (same_kept n) ∙ kept));
    due = λ n marked. due_lasts u b c n (entered_names n) same_plan (is.due n (sym (same_flag n) ∙ marked));
    beyond = λ n path past.
        let size : length c.ledger.tables.names ≡ length b.ledger.tables.names + 1 = ap length e.added.names ∙ length-append b.ledger.tables.names (t ∷ []) in
        same_content n path ∙ is.beyond n path (omega (arith, past, size));
  }

  entered_stand : (u : Update) (ts : List (List ℕ)) → ((x : List ℕ) → among x (names_of b) ≡ true → StandsUnder (setting u) ts x)
      → StandsUnder (setting u) ts (enc_task t) → (x : List ℕ) → among x (names_of c) ≡ true → StandsUnder (setting u) ts x
  entered_stand u ts all one x is = by (among_either x (names_of b) (enc_task t ∷ []) (subst (λ ns. among x ns ≡ true) entered_all is))
    where
      by : (among x (names_of b) ≡ true) ⊎ (among x (enc_task t ∷ []) ≡ true) → StandsUnder (setting u) ts x
      by (inl old) = all x old
      by (inr new) = subst (StandsUnder (setting u) ts) (sym (alone x (enc_task t) new)) one

  entered_ledger : (u : Update) → IsLedger c.ledger → length b.ledger.tables.names < 50000 → among (enc_task t) (names_of b) ≡ false
      → IsRightLedger u b.ledger.tables.names b.ledger.tables.records b.ledger.rows b.ledger.places.items
      → IsRightLedger u c.ledger.tables.names c.ledger.tables.records c.ledger.rows c.ledger.places.items
  entered_ledger u is few new L =
      subst (λ ps. IsRightLedger u c.ledger.tables.names c.ledger.tables.records c.ledger.rows ps) (sym e.added.places)
      (subst (λ rs. IsRightLedger u c.ledger.tables.names c.ledger.tables.records rs (b.ledger.places.items ++ 0 ∷ [])) (sym e.added.rows)
      (subst (λ rs. IsRightLedger u c.ledger.tables.names rs (b.ledger.rows ++ no_edges ∷ []) (b.ledger.places.items ++ 0 ∷ [])) (sym e.added.records)
      (subst (λ ts. IsRightLedger u ts b.ledger.tables.records (b.ledger.rows ++ no_edges ∷ []) (b.ledger.places.items ++ 0 ∷ [])) (sym e.added.names)
      (ledger_grows u b.ledger.tables.names b.ledger.tables.records b.ledger.rows b.ledger.places.items t 0 L
      (subst AreTasks e.added.names e.added.tasks) new few fresh
      (subst (λ ps. PlacesAgree (b.ledger.rows ++ no_edges ∷ []) ps) e.added.places
      (subst (λ rs. PlacesAgree rs c.ledger.places.items) e.added.rows (record {
        as_many = let rows = is.rows in let places = is.places in omega (arith, rows, places);
        each = is.before;
      })))))))

  pub entered_site : (u : Update) (done : List (List ℕ)) (root : List ℕ) → IsLedger c.ledger → length b.ledger.tables.names < 50000
      → among (enc_task t) (names_of b) ≡ false → HasTask (enc_task t) (evaluation world (present u) root) → IsRightSite u done root b → IsRightSite u done root c
  entered_site u done root is few new stands s = record {
    ledger = entered_ledger u is few new s.ledger;
    written = entered_written u s.written;
    outputs = λ n rec kept. s.outputs n rec (sym (same_kept n) ∙ kept);
    known = subst (λ k. IsTrueOf u.directory k) (sym (ap (λ x. x.named) e.rest)) s.known;
    calm = ap (λ x. x.failure) e.rest ∙ s.calm;
    listed = s.listed;
    recorded = subst (λ (R : List ℕ → Option Record). AreRecorded R done) (sym entered_records) s.recorded;
    stand = entered_stand u (done ++ root ∷ []) s.stand (record { from = root; listed = among_right root done (root ∷ []) (among_here root []); stands = stands });
  }

  -- it is busy, too
  pub entered_busy : (ts : List (List ℕ)) → AreTheBusy b ts → AreTheBusy c (enc_task t ∷ ts)
  entered_busy ts busy x is none =
      by (among_either x (names_of b) (enc_task t ∷ []) (subst (λ ns. among x ns ≡ true) entered_all is))
    where
      by : (among x (names_of b) ≡ true) ⊎ (among x (enc_task t ∷ []) ≡ true) → among x (enc_task t ∷ ts) ≡ true
      by (inl old) = among_there x (enc_task t) ts (busy x old (subst (λ (R : List ℕ → Option Record). R x ≡ None) entered_records none))
      by (inr new) = subst (λ y. among y (enc_task t ∷ ts) ≡ true) (sym (alone x (enc_task t) new)) (among_here (enc_task t) ts)

  -- nothing was done for it
  pub entered_new : (u : Update) → AreWritten u b → length b.ledger.tables.ran.items ≡ length b.ledger.tables.names
      → IsUntouched c (length b.ledger.tables.names)
  entered_new u w flags = record {
    rested = same_flag (length b.ledger.tables.names) ∙ past b.ledger.tables.ran.items (length b.ledger.tables.names) flags;
    unstaged = λ path. same_content (length b.ledger.tables.names) path ∙ w.beyond (length b.ledger.tables.names) path (omega arith);
  }

  pub entered_number : slice_get c.ledger.tables.names (length b.ledger.tables.names) ≡ Some t
  entered_number = ap (λ (ts : List Task). slice_get ts (length b.ledger.tables.names)) e.added.names ∙ last_at b.ledger.tables.names t

-- ---- all of it

pub last_unrecorded : (l : Ledger) → IsLedger l → kept_of l.tables.records (length l.tables.names) ≡ None
last_unrecorded l is = by (kept_of l.tables.records (length l.tables.names)) refl (is.tables.records (length l.tables.names))
  where
    by : (o : Option TaskRecord) → kept_of l.tables.records (length l.tables.names) ≡ o → IfSome o (IsRecordAt l.tables.names (length l.tables.names))
        → kept_of l.tables.records (length l.tables.names) ≡ None
    by None e at = e
    by (Some rec) e at = absurd (let within = slice_get_within l.tables.names (length l.tables.names) rec.task at.named in omega (arith, within))

pub enters_right : (b c : Builder) (t : Task) → HasEntered b t c → IsSite b → IsLedger c.ledger → length b.ledger.tables.names < 50000
    → ¬ (Contains b.ledger.tables.names t) → EntersSite b t c
enters_right b c t e site is few absent = λ u done root s stands.
    record {
      site = entered_site b c t e fresh u done root is few (other s.ledger.tasks) stands s;
      waiting = λ fs w. entered_waiting b c t e fresh u root fs w;
      untouched = entered_new b c t e fresh u s.written site.ledger.tables.flags;
    }
  where
    fresh : kept_of b.ledger.tables.records (length b.ledger.tables.names) ≡ None
    fresh = last_unrecorded b.ledger site.ledger

    other : AreTasks b.ledger.tables.names → among (enc_task t) (names_of b) ≡ false
    other are = by (among (enc_task t) (names_of b)) refl
      where
        by : (a : Bool) → among (enc_task t) (names_of b) ≡ a → among (enc_task t) (names_of b) ≡ false
        by false q = q
        by true q = absurd (absent (named_to b.ledger.tables.names t are
            (canonical_at c.ledger.tables.names e.added.tasks (length b.ledger.tables.names) t (entered_number b c t e fresh)) q))
