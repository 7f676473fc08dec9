-- Roots, one after another, in the words of the model.
use Rattle.std.proofs.Common.{◌≡◌, ◌⊎◌, ℕ, ◌<◌, ◌≤◌, Bool, true, false, List, [], ◌∷◌, ◌++◌, Option, None, Some, Bor, length, refl, sym, ap, subst, ◌∙◌, inl, inr, arith}
use Rattle.std.specs.Prelude.{slice_get, option_map, All}
use Rattle.std.specs.List.{Contains}
use Rattle.std.proofs.lemmas.List.{length-map}
use Rattle.std.proofs.lemmas.List.Elements.{All-nil}
use Rattle.pie_base.specs.declared.fault.FaultKind.TheVariants.{Unknown}
use Rattle.pie_value.specs.declared.task.Task.{Task}
use Rattle.pie_value.specs.declared.verdict.Refusal.{Refusal}
use Rattle.pie_value.specs.declared.verdict.Refusal.TheVariants as refusals
use Rattle.pie_value.specs.Canonical.{enc_task, IsCanonicalTask}
use Rattle.pie_code.specs.declared.code.Code.{Code}
use Rattle.pie_files.specs.Directory.{Directory}
use Rattle.pie_graph.specs.declared.edges.TaskNo.{TaskNo}
use Rattle.pie_parser.specs.FunctionTrees.{FunctionTree}
use Rattle.pie_record.specs.declared.task_record.Outcome.{Outcome}
use Rattle.pie_record.specs.declared.task_record.Outcome.TheVariants as outcomes
use Rattle.pie_record.specs.declared.task_record.TaskRecord.{TaskRecord}
use Rattle.pie_record.specs.inner.Records.{record_of as kept_of}
use Rattle.pie_results.specs.inner.Failures.{is_done as has_output}
use Rattle.pie_running.specs.inner.Coded.{HasFunction, IsCodeFor}
use Rattle.pie_store.specs.inner.Offers.{Offered}
use Rattle.pie_model.specs.Trees.{is_done as is_ended, outcome_of as outcome_of_root}
use Rattle.pie_model.specs.Paths.{among}
use Rattle.pie_model.specs.Records.{Record}
use Rattle.pie_model.specs.Trees.{is_done, HasTask}
use Rattle.pie_model.specs.Evaluation.{evaluation}
use Rattle.pie_model.specs.declared.words.Outcome.TheVariants.{Failed}
use Rattle.pie_model.proofs.Basics.{among_here, among_right, among_either, clash}
use Rattle.pie_step_laws.specs.Frames.{begun}
use Rattle.pie_step_laws.specs.Table.{IsTable}
use Rattle.pie_step_laws.proofs.Tables.{one_more_entered}
use Rattle.pie_settle_laws.specs.Going.{Ends}
use Rattle.pie_settle_laws.specs.Going.Ends.{failing}
use Rattle.pie_model_pipeline.specs.Rows.{outcome_of, record_of}
use Rattle.pie_model_pipeline.specs.Words.{fault_of}
use Rattle.pie_model_pipeline.specs.World.{world}
use Rattle.pie_builder_laws.proofs.Coded.{unknown_fails}
use Rattle.pie_builder_laws.proofs.Naming.{among_at, other_back}
use Rattle.pie_builder_laws.proofs.Tabled.{record_by_number}
use Rattle.pie_core_laws.specs.Update.{Update, present}
use Rattle.pie_topdown_laws.specs.Ends.{AllEntered, AreRecorded}
use Rattle.pie_topdown_laws.specs.Ledgers.{setting}
use Rattle.pie_topdown_laws.specs.Running.{IsTop}
use Rattle.pie_topdown_laws.specs.Stacks.{IsStack}
use Rattle.pie_topdown_laws.specs.Whole.{AreEntries}
use Rattle.pie_topdown_laws.proofs.Deciding.{failed_decides, more_stand, root_stands, too_many}
use Rattle.pie_topdown_laws.proofs.Sinking.{failed_root, failure_sinks}
use Rattle.pie_topdown_laws.proofs.Stacking.{begins}
use Rattle.pie_topdown.specs.declared.builder.Builder.{Builder}
use Rattle.pie_topdown.specs.declared.hand.Hand.TheVariants as hands
use Rattle.pie_topdown.specs.inner.Entries.{HasEntered, MayBe}
use Rattle.pie_topdown.specs.inner.Frames.{IsSite}
use Rattle.pie_topdown.specs.inner.Ledgers.{HasOutput}
use Rattle.pie_topdown.specs.inner.Right.{lost, AreWritten, site_of, build_of, names_of, records_of, entries_up, EntersSite, FailsRight, IsAtRest, IsBesides, IsFull, IsPlanNow, IsRefused, IsRight, IsRightSite, IsUntouched, AreWaiting}
use Rattle.pie_topdown.specs.inner.Rooted.{IsBuildOf, IsSettledSoFar, RootEndsRight, RunsOnRight, SettlesRight, StopsRight}
use Rattle.pie_topdown.specs.inner.Roots.{IsSettledRoot}
use Rattle.pie_topdown.specs.inner.Turns.{Keeps}
use Rattle.pie_topdown.proofs.Answering.{no_function}
use Rattle.pie_topdown.proofs.Entered.{alone, canonical_at, entered_all, entered_busy, entered_number, entered_records, last_unrecorded}
use Rattle.pie_topdown.proofs.Keeping.{named_more}
use Rattle.pie_topdown.proofs.Lasting.{due_lasts}
use Rattle.pie_topdown.proofs.Topmost.{never, one_some}
use Rattle.pie_topdown.proofs.Turning.{build_then}

-- ---- between two roots

-- the site is right for a next root
pub next_site : (u : Update) (done : List (List ℕ)) (root : List ℕ) (b : Builder) → IsSettledSoFar u done b → among root u.roots ≡ true
    → IsRightSite u done root b
next_site u done root b s listed = record {
  ledger = s.ledger;
  written = s.written;
  outputs = s.outputs;
  known = s.known;
  calm = s.calm;
  listed = listed;
  recorded = s.recorded;
  stand = λ t on. more_stand (setting u) done (root ∷ []) t (s.stand t on);
}

both_recorded : (R : List ℕ → Option Record) (ts more : List (List ℕ)) → AreRecorded R ts → AreRecorded R more → AreRecorded R (ts ++ more)
both_recorded R ts more h k t on = by (among_either t ts more on)
  where
    by : (among t ts ≡ true) ⊎ (among t more ≡ true) → (r : Record) × (R t ≡ Some r)
    by (inl i) = h t i
    by (inr i) = k t i

-- why tasks fail is no matter of what is known of others
pub unfailed_written : (u : Update) (b : Builder) → AreWritten u b → AreWritten u (record b { failure = None })
unfailed_written u b w = record {
  there = w.there;
  fetched = w.fetched;
  ran = w.ran;
  own = w.own;
  due = λ k marked. due_lasts u b (record b { failure = None }) k (λ t at. at) refl (w.due k marked);
  beyond = w.beyond;
}

-- a root at rest is settled
pub rest_settled : (u : Update) (done : List (List ℕ)) (root : List ℕ) (b : Builder) → IsAtRest u done root b
    → IsSettledSoFar u (done ++ root ∷ []) (record b { failure = None })
rest_settled u done root b is = record {
  ledger = is.site.ledger;
  written = unfailed_written u b is.site.written;
  outputs = is.site.outputs;
  known = is.site.known;
  calm = refl;
  free = is.free;
  recorded = both_recorded (records_of b) done (root ∷ []) is.site.recorded is.settled;
  all = is.all;
  stand = is.site.stand;
}

-- ---- tasks that were entered

module _ (u : Update) (done : List (List ℕ)) (b : Builder) (s : IsSettledSoFar u done b) (n : ℕ) (t : Task) (named : slice_get b.ledger.tables.names n ≡ Some t) where
  at_number : records_of b (enc_task t) ≡ option_map record_of (kept_of b.ledger.tables.records n)
  at_number = record_by_number b.ledger.tables.names b.ledger.tables.records n t s.ledger.tasks named

  entered : among (enc_task t) (names_of b) ≡ true
  entered = among_at b.ledger.tables.names n t named

  with_output : (o : Outcome) → is_done (outcome_of o) ≡ true → has_output o ≡ true
  with_output (outcomes.Done v) is = refl
  with_output (outcomes.Failed f) is = is
  with_output (outcomes.Cycled ts) is = is

  -- each has an output
  pub has_ended : HasOutput b.ledger.tables.records n
  has_ended = by (kept_of b.ledger.tables.records n) refl
    where
      by : (o : Option TaskRecord) → kept_of b.ledger.tables.records n ≡ o → HasOutput b.ledger.tables.records n
      by None e = absurd (clash {A = ⊥} (among (enc_task t) []) (s.all (enc_task t) entered (at_number ∙ ap (option_map record_of) e)) refl)
      by (Some rec) e =
          let now : records_of b (enc_task t) ≡ Some (record_of rec) = at_number ∙ ap (option_map record_of) e in
          record {
            rec = rec;
            kept = e;
            done = with_output rec.outcome
                (ap (λ (r : Record). is_done r.outcome) (s.ledger.table.right (enc_task t) (record_of rec) now)
                ∙ s.ledger.table.done (enc_task t) (record_of rec) now);
          }

  -- one that is a root too is settled
  pub root_settled : IsSettledSoFar u (done ++ enc_task t ∷ []) b
  root_settled = record {
    ledger = s.ledger;
    written = s.written;
    outputs = s.outputs;
    known = s.known;
    calm = s.calm;
    free = s.free;
    recorded = both_recorded (records_of b) done (enc_task t ∷ []) s.recorded
        (λ x on. subst (λ y. (r : Record) × (records_of b y ≡ Some r)) (sym (alone x (enc_task t) on))
        (record_of has_ended.rec, at_number ∙ ap (option_map record_of) has_ended.kept));
    all = s.all;
    stand = λ x on. more_stand (setting u) done (enc_task t ∷ []) x (s.stand x on);
  }

  pub is_settled : IsSettledRoot b.ledger t
  is_settled = record { number = n; named = named; output = has_ended }

-- ---- a new root

module _ (b c : Builder) (t : Task) (code : Bor Code) (at : TaskNo) (number : at.0 ≡ length b.ledger.tables.names) (e : HasEntered b t c) (enters : EntersSite b t c)
    (may : MayBe b t code.now) (fresh : kept_of b.ledger.tables.records (length b.ledger.tables.names) ≡ None) (absent : ¬ (Contains b.ledger.tables.names t))
    (u : Update) (done : List (List ℕ)) (plan : IsPlanNow u b.plan) (listed : among (enc_task t) u.roots ≡ true) (s : IsSettledSoFar u done b) where
  site : IsRightSite u done (enc_task t) b
  site = next_site u done (enc_task t) b s listed

  stands : HasTask (enc_task t) (evaluation world (present u) (enc_task t))
  unfolding world
  stands =
      let s = root_stands (setting u) (enc_task t ∷ []) (enc_task t) (among_here (enc_task t) []) in
      subst (λ x. HasTask (enc_task t) (evaluation world (present u) x)) (alone s.from (enc_task t) s.listed) s.stands

  canonical : IsCanonicalTask t (enc_task t)
  canonical = canonical_at c.ledger.tables.names e.added.tasks (length b.ledger.tables.names) t (entered_number b c t e fresh)

  other : among (enc_task t) (names_of b) ≡ false
  other = other_back b.ledger.tables.names t s.ledger.tasks canonical absent

  few : length (names_of b) < 50000
  few = let size : length (names_of b) ≡ length b.ledger.tables.names = length-map b.ledger.tables.names enc_task in let less = may.few in omega (arith, size, less)

  top : IsTop (site_of u c) (build_of c) (enc_task t) [] (begun world (enc_task t))
  unfolding world
  top =
      subst (λ (R : List ℕ → Option Record). IsStack (setting u) R (names_of c) (enc_task t) [] (begun world (enc_task t))) (sym (entered_records b c t e fresh))
      (subst (λ ts. IsStack (setting u) (records_of b) ts (enc_task t) [] (begun world (enc_task t))) (sym (entered_all b c t e fresh))
      (begins (setting u) (records_of b) (names_of b) (enc_task t) s.ledger.table other few))

  none_waits : AreWaiting u b (enc_task t) []
  none_waits = record {
    entries = subst (λ es. AreEntries (site_of u b) (build_of b) (enc_task t) (entries_up es) []) (sym s.free) tt;
    besides = subst (All (IsBesides u b)) (sym s.free) (All-nil (IsBesides u b));
  }

  -- it begins alone
  pub root_begins : IsRight u done (enc_task t) c (hands.Enters at code)
  root_begins =
      let entered = enters u done (enc_task t) site stands in
      record {
        site = entered.site;
        fs = [];
        waiting = entered.waiting [] none_waits;
        hand = record {
          task = t;
          named = subst (λ k. slice_get c.ledger.tables.names k ≡ Some t) (sym number) (entered_number b c t e fresh);
          top = top;
          untouched = subst (IsUntouched c) (sym number) entered.untouched;
          function = subst (λ p. HasFunction u.functions p.code.now t code.now) (sym (ap (λ x. x.plan) e.rest))
              (subst (λ (x : List FunctionTree). HasFunction x b.plan.code.now t code.now) plan.functions may.function);
          busy = entered_busy b c t e fresh [] s.all;
        };
      }

-- ---- a root that can't be entered

module _ (b : Builder) (t : Task) (canonical : IsCanonicalTask t (enc_task t)) (absent : ¬ (Contains b.ledger.tables.names t)) (u : Update) (done : List (List ℕ))
    (s : IsSettledSoFar u done b) where
  not_entered : among (enc_task t) (names_of b) ≡ false
  not_entered = other_back b.ledger.tables.names t s.ledger.tasks canonical absent

  size_is : length (names_of b) ≡ length b.ledger.tables.names
  size_is = length-map b.ledger.tables.names enc_task

  -- nothing more may be entered
  pub full_refused : 50000 ≤ length b.ledger.tables.names → IsRefused u done (enc_task t) refusals.Many
  unfolding world
  full_refused full rest =
      too_many (setting u) (records_of b) (names_of b) s.ledger.table done rest (enc_task t) (enc_task t) s.recorded (whole s.ledger.table.few)
      (λ x on. more_stand (setting u) done (enc_task t ∷ []) x (s.stand x on)) not_entered
      (root_stands (setting u) (done ++ enc_task t ∷ []) (enc_task t) (among_right (enc_task t) done (enc_task t ∷ []) (among_here (enc_task t) [])))
    where
      whole : length (names_of b) ≤ 50000 → length (names_of b) ≡ 50000
      whole fewer = let size = size_is in omega (arith, size, fewer, full)

  -- it is of no function
  module _ (plan : IsPlanNow u b.plan) (fewer : length b.ledger.tables.names < 50000) (none : IsCodeFor b.plan.typed.now b.plan.code.now t None) where
    abbrev all : List (List ℕ)
    all = names_of b ++ enc_task t ∷ []

    few_names : length (names_of b) < 50000
    few_names = let size = size_is in omega (arith, size, fewer)

    table : IsTable world (present u) (records_of b) all
    unfolding world
    table = one_more_entered world (present u) (records_of b) (names_of b) s.ledger.table (enc_task t) not_entered few_names

    stack : IsStack (setting u) (records_of b) all (enc_task t) [] (begun world (enc_task t))
    unfolding world
    stack = begins (setting u) (records_of b) (names_of b) (enc_task t) s.ledger.table not_entered few_names

    ends : Ends world (present u) (begun world (enc_task t)) [] (Failed (enc_task t) (fault_of Unknown))
    unfolding world
    ends = failing 1000000 (fault_of Unknown) refl (unknown_fails u.functions t [] (no_function u b t plan none) canonical)

    sinks : outcome_of_root (evaluation world (present u) (enc_task t)) ≡ Failed (enc_task t) (fault_of Unknown)
    sinks = failure_sinks (setting u) (records_of b) (enc_task t) [] (begun world (enc_task t)) stack.goes [] (Failed (enc_task t) (fault_of Unknown)) ends refl

    -- so the clean build enters it alone beside the others
    pub lost_enters : AllEntered (setting u) done (enc_task t) (names_of b ++ enc_task t ∷ [])
    lost_enters =
        failed_root (setting u) (records_of b) all table done s.recorded (enc_task t) [] (begun world (enc_task t)) stack [] (Failed (enc_task t) (fault_of Unknown))
        ends refl

    -- that is why it is refused
    pub lost_refused : IsRefused u done (enc_task t) (lost t)
    lost_refused rest =
        failed_decides (setting u) (records_of b) (names_of b) s.ledger.table all done rest (enc_task t) s.recorded (enc_task t) (fault_of Unknown) lost_enters
        table.few sinks

    -- and it doesn't end with a value
    pub lost_ends : is_ended (outcome_of_root (evaluation world (present u) (enc_task t))) ≡ false
    lost_ends = ap is_ended sinks

-- ---- how the steps of a root end

module _ (u : Update) (done : List (List ℕ)) (root : List ℕ) (b : Builder) where
  -- a task failed
  pub stops_fallen : (rests : Bool) (why : Refusal) → StopsRight u done root b rests → b.failure ≡ Some why → FailsRight u done root b
  stops_fallen true why rest failed = absurd (never why (sym rest.site.calm ∙ failed))
  stops_fallen false why (inl full) failed = absurd (never why (sym full.calm ∙ failed))
  stops_fallen false why (inr f) failed = f

  pub stops_failed : (rests : Bool) (why : Refusal) → StopsRight u done root b rests → b.failure ≡ Some why → IsRefused u done root why
  stops_failed rests why stops failed =
      let f = stops_fallen rests why stops failed in subst (IsRefused u done root) (one_some f.why why (sym f.kept ∙ failed)) f.refused

  -- one task more was to be entered than may be
  pub stops_over : StopsRight u done root b false → b.failure ≡ None → IsFull u done root b
  stops_over (inl full) calm = full
  stops_over (inr f) calm = absurd (never f.why (sym calm ∙ f.kept))

  pub stops_settled : StopsRight u done root b true → IsSettledSoFar u (done ++ root ∷ []) (record b { failure = None })
  stops_settled rest = rest_settled u done root b rest

-- ---- a root that has code

module _ (held : Option Directory) (told : Directory → Task → List ℕ → List Offered) (a b c : Builder) (t : Task) (code : Bor Code) (at : TaskNo)
    (number : at.0 ≡ length a.ledger.tables.names) (e : HasEntered a t b) (enters : EntersSite a t b) (may : MayBe a t code.now) (site : IsSite a)
    (absent : ¬ (Contains a.ledger.tables.names t)) (kept : Keeps b c) (rests : Bool) (runs : RunsOnRight held told b (hands.Enters at code) c rests) where
  fresh : kept_of a.ledger.tables.records (length a.ledger.tables.names) ≡ None
  fresh = last_unrecorded a.ledger site.ledger

  same_plan : b.plan ≡ a.plan
  same_plan = ap (λ x. x.plan) e.rest

  pub stops : (u : Update) (done : List (List ℕ)) → IsBuildOf u held told a.plan → among (enc_task t) u.roots ≡ true → IsSettledSoFar u done a
      → StopsRight u done (enc_task t) c rests
  stops u done of listed s =
      runs u done (enc_task t) (build_then u held held told told a.plan b.plan refl refl same_plan of)
      (root_begins a b t code at number e enters may fresh absent u done of.plan listed s)

  -- it fails
  pub with_failure : (new : Builder) (why : Refusal) → c.failure ≡ Some why → SettlesRight held told a t new (Some why)
  with_failure new why failed u done of listed s = stops_failed u done (enc_task t) c rests why (stops u done of listed s) failed

  -- one task more was to be entered than may be
  pub with_many : (new : Builder) → rests ≡ false → c.failure ≡ None → SettlesRight held told a t new (Some refusals.Many)
  with_many new no_rest calm u done of listed s =
      (stops_over u done (enc_task t) c (subst (StopsRight u done (enc_task t) c) no_rest (stops u done of listed s)) calm).refused

  named : slice_get c.ledger.tables.names (length a.ledger.tables.names) ≡ Some t
  named =
      subst (λ (ts : List Task). slice_get ts (length a.ledger.tables.names) ≡ Some t) (sym kept.grows.names)
      (named_more b.ledger.tables.names kept.grows.rest t (length a.ledger.tables.names) (entered_number a b t e fresh))

  -- where nothing waits any more, and no task failed, it has an output
  pub rest_is_none : (new : Builder) (why : Option Refusal) → new ≡ record c { failure = None } → rests ≡ true
      → (IsSettledRoot new.ledger t → why ≡ None) → (u : Update) (done : List (List ℕ)) → IsBuildOf u held told a.plan → among (enc_task t) u.roots ≡ true
      → IsSettledSoFar u done a → why ≡ None
  rest_is_none new why is rest none u done of listed s =
      let after : IsSettledSoFar u (done ++ enc_task t ∷ []) new =
      subst (IsSettledSoFar u (done ++ enc_task t ∷ [])) (sym is)
      (stops_settled u done (enc_task t) c (subst (StopsRight u done (enc_task t) c) rest (stops u done of listed s))) in
      none (is_settled u (done ++ enc_task t ∷ []) new after (length a.ledger.tables.names) t
      (subst (λ (x : Builder). slice_get x.ledger.tables.names (length a.ledger.tables.names) ≡ Some t) (sym is) named))

  -- it has an output
  pub with_rest : (new : Builder) (why : Option Refusal) → new ≡ record c { failure = None } → rests ≡ true
      → (IsSettledRoot new.ledger t → why ≡ None) → SettlesRight held told a t new why
  with_rest new why is rest none u done of listed s =
      let after : IsSettledSoFar u (done ++ enc_task t ∷ []) new =
      subst (IsSettledSoFar u (done ++ enc_task t ∷ [])) (sym is)
      (stops_settled u done (enc_task t) c (subst (StopsRight u done (enc_task t) c) rest (stops u done of listed s))) in
      let at_new : slice_get new.ledger.tables.names (length a.ledger.tables.names) ≡ Some t =
      subst (λ (x : Builder). slice_get x.ledger.tables.names (length a.ledger.tables.names) ≡ Some t) (sym is) named in
      subst (RootEndsRight u done (enc_task t) new) (sym (none (is_settled u (done ++ enc_task t ∷ []) new after (length a.ledger.tables.names) t at_new))) after

-- ---- a root that was entered

pub entered_settles : (held : Option Directory) (told : Directory → Task → List ℕ → List Offered) (b : Builder) (n : ℕ) (t : Task) (why : Option Refusal)
    → slice_get b.ledger.tables.names n ≡ Some t → (IsSettledRoot b.ledger t → why ≡ None) → SettlesRight held told b t b why
entered_settles held told b n t why named none u done of listed s =
    subst (RootEndsRight u done (enc_task t) b) (sym (none (is_settled u done b s n t named))) (root_settled u done b s n t named)
