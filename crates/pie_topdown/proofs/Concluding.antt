-- Which tasks a whole build has run and reused: each that a clean build enters and that has a reason to run is among them.
use Rattle.std.proofs.Common.{◌≡◌, ◌⊎◌, ℕ, Bool, true, false, List, [], ◌∷◌, Option, None, Some, Contains, ◌++◌, length, map, take, refl, sym, ap, subst, ◌∙◌, inl, inr, arith}
use Rattle.std.specs.Prelude.{All, IfSome, slice_get, slice_index_or, option_map}
use Rattle.std.proofs.lemmas.List.{append-nil}
use Rattle.std.specs.Option.{option_map_or}
use Rattle.std.specs.BTreeMap.{get_by_text}
use Rattle.std.proofs.lemmas.List.Elements.{All-contains, All-weaker}
use Rattle.pie_value.specs.declared.task.Task.{Task}
use Rattle.pie_value.specs.declared.verdict.Refusal.{Refusal}
use Rattle.pie_value.specs.declared.verdict.Verdict.{Verdict}
use Rattle.pie_value.specs.declared.verdict.Verdict.TheVariants.{Refused}
use Rattle.pie_value.specs.declared.verdict.Refusal.TheVariants.{Many}
use Rattle.pie_value.specs.Canonical.{enc_task, IsCanonicalTask}
use Rattle.pie_code.specs.declared.code.Code.{Code}
use Rattle.pie_checks.specs.declared.built.Built.{Built}
use Rattle.pie_parser.specs.FunctionTrees.{FunctionTree}
use Rattle.pie_files.specs.Directory.{Directory}
use Rattle.pie_graph.specs.Numbers.{numbers, IsMarked}
use Rattle.pie_record.specs.Canonical.{IsStorable}
use Rattle.pie_record.specs.declared.task_record.TaskRecord.{TaskRecord}
use Rattle.pie_record.specs.inner.Records.{record_of as kept_of}
use Rattle.pie_store.specs.inner.Offers.{Offered}
use Rattle.pie_tables.specs.Tabled.{IsRecordAt, IsTables}
use Rattle.pie_model.specs.Paths.{among}
use Rattle.pie_model.specs.Evaluation.{evaluation}
use Rattle.pie_model.specs.Records.{Record, record_of as model_record}
use Rattle.pie_model.specs.Reasons.{RunReason}
use Rattle.pie_model.specs.Forest.{entered_tasks, forest, only_if}
use Rattle.pie_model.specs.Running.{entered_all}
use Rattle.pie_model.specs.Trees.{entered, is_done, outcome_of}
use Rattle.pie_model.proofs.Basics.{among_here, among_there, clash}
use Rattle.pie_model.proofs.RunningLemmas.{entered_all-end}
use Rattle.pie_model_pipeline.specs.Rows.{record_of}
use Rattle.pie_model_pipeline.specs.World.{world}
use Rattle.pie_model_pipeline.proofs.Joining.{tasks_told}
use Rattle.pie_builder_laws.proofs.Naming.{among_at, among_from, canonical_at}
use Rattle.pie_builder_laws.proofs.Tabled.{record_by_number}
use Rattle.pie_earlier_laws.specs.Functions.{digest_under}
use Rattle.pie_earlier_laws.proofs.Pipelines.{manners_of}
use Rattle.pie_earlier_laws.proofs.Reasons.{no_reason}
use Rattle.pie_core_laws.specs.Update.{Update, present, old_record}
use Rattle.pie_core_laws.proofs.Joined.{same_codes}
use Rattle.pie_topdown_laws.specs.Ledgers.{setting, IsRightLedger}
use Rattle.pie_topdown_laws.proofs.Sinking.{base_among, recorded_done}
use Rattle.pie_topdown_result_laws.specs.Builds.{IsStanding}
use Rattle.pie_topdown.specs.declared.builder.Builder.{Builder}
use Rattle.pie_topdown.specs.declared.plan.Plan.{Plan}
use Rattle.pie_topdown.specs.inner.Due.{HasReason, KnowsCode}
use Rattle.pie_topdown.specs.inner.Frames.{IsOwnRecord, IsSite}
use Rattle.pie_topdown.specs.inner.Ran.{AddsNamed, HasFailed, HasRunAs, HasRunSo, HasStanding, HasStopped, IsEntered, IsOneOf, RanFor, RunsForReasons, SettlesAllRan, StopsAllRan}
use Rattle.pie_topdown.specs.inner.Right.{lost, names_of, records_of, AreWritten, IsLost, IsPlanNow}
use Rattle.pie_topdown.specs.inner.Rooted.{IsPlanOf, IsProgram, IsSettledSoFar, IsUnbegun, SettlesAllRight, RootsEndRight}
use Rattle.pie_topdown.specs.inner.Trying.{offers_to, NoneStands, OneStands}
use Rattle.pie_topdown.proofs.Knowing.{knows_code}
use Rattle.pie_topdown.proofs.Planning.{build_now, digests_same, plan_now}
use Rattle.pie_topdown.proofs.Resulting.{ends_so, unbegun_settled, unmarked}

one_some : {A : Type 0} (x y : A) → Some x ≡ Some y → x ≡ y
one_some x y e = cc

-- ---- the beginning

-- nothing was marked
pub begun_ran : (u : Update) (offers : Task → List Offered) (b : Builder) → IsSite b → IsUnbegun b → (runs : List Task) → HasRunSo u offers b runs runs
begun_ran u offers b site is runs = record {
  gained = [];
  is = sym (append-nil runs);
  once = λ i j d lt within. absurd (omega (arith, within));
  marked = λ i d within. absurd (omega (arith, within));
  reused = [];
  reused_are = ap (λ v. map (slice_get b.ledger.tables.names) (numbers v)) is.reused;
  reused_once = λ i j d lt within. absurd (omega (arith, within));
  reused_marked = λ i d within. absurd (omega (arith, within));
  apart = λ t i j. absurd (let l = i.1 in omega (arith, l));
  only = λ n marked. absurd (unmarked b.ledger.tables.ran.items n (site.ledger.tables.flags ∙ ap length is.names) marked);
  without = λ i d within. absurd (omega (arith, within));
  standing = λ i d within. absurd (omega (arith, within));
}

-- ---- which offers stand

one_standing : (u : Update) (digests : List (List ℕ × List ℕ)) (told : Directory → Task → List ℕ → List Offered) (t : Task) (o : Option (List ℕ))
    → digest_under digests t.func ≡ o → (offer : Offered) → Contains (option_map_or (λ d. take 4 (told u.directory t d)) o []) offer → IsStanding u t offer
    → HasStanding u digests told t
one_standing u digests told t None is offer i s = absurd (let l = i.1 in omega (arith, l))
one_standing u digests told t (Some d) is offer i s = record { digest = d; is = is; offer = offer; listed = i; stands = s }

module _ (u : Update) (digests : List (List ℕ × List ℕ)) (told : Directory → Task → List ℕ → List Offered) (p : Plan)
    (digested : (q : List ℕ) → get_by_text p.digests q ≡ digest_under digests q) where
  has_standing : (t : Task) → OneStands u (offers_to p told u.directory) t → HasStanding u digests told t
  has_standing t s = one_standing u digests told t (get_by_text p.digests t.func) (sym (digested t.func)) s.offer s.listed s.stands

  hasnt_standing : (t : Task) → NoneStands u (offers_to p told u.directory) t → HasStanding u digests told t → ⊥
  hasnt_standing t none s =
      All-contains (λ o. IsStanding u t o → ⊥) (offers_to p told u.directory t) s.offer none
      (subst (λ o. Contains (option_map_or (λ d. take 4 (told u.directory t d)) o []) s.offer) (sym (digested t.func ∙ s.is)) s.listed) s.stands

-- ---- what is marked, and what isn't

module _ (u : Update) (funcs digests : List (List ℕ × List ℕ)) (b : Builder) (knows : KnowsCode u funcs digests b.plan) (written : AreWritten u b) where
  -- what was marked had a reason
  marked_due : (t : Task) → HasRunAs b t → HasReason u funcs digests t
  marked_due t r =
      let d = written.due r.number r.marked in
      subst (HasReason u funcs digests) (one_some d.task t (sym d.named ∙ r.named)) (d.due funcs digests knows)

  module _ (plan : IsPlanNow u b.plan) (earlier : IsTables b.plan.earlier)
      (ledger : IsRightLedger u b.ledger.tables.names b.ledger.tables.records b.ledger.rows b.ledger.places.items) (t : Task)
      (canonical : IsCanonicalTask t (enc_task t)) (reason : HasReason u funcs digests t) where
    -- a record that is its own gives none
    unmarked_none : (n : ℕ) (rec : TaskRecord) → slice_get b.ledger.tables.names n ≡ Some t → kept_of b.ledger.tables.records n ≡ Some rec
        → slice_index_or b.ledger.tables.ran.items n false ≡ false → ⊥
    unmarked_none n rec named kept off =
        no_reason world (present u) u.directory (enc_task t) (record_of rec) (digest_under funcs t.func) (digest_under digests t.func)
        ((manners_of u.functions u.directory).writes (enc_task t)) right
        (ledger.table.done (enc_task t) (record_of rec) now)
        (same_codes funcs digests t.func (sym (knows.each own.number t at) ∙ own.same)) (written.there n rec off kept)
        (subst (λ (o : Option Record). RunReason world (present u) u.directory o (digest_under funcs t.func) (digest_under digests t.func)) left reason)
      where
        own : IsOwnRecord b.plan rec
        own = written.own n rec off kept

        its : rec.task ≡ t
        its = one_some rec.task t (sym (ledger.named n rec kept) ∙ named)

        left : old_record u (enc_task t) ≡ Some (record_of rec)
        left = ap (λ (z : Task). old_record u (enc_task z)) (sym its) ∙ (plan.old own.number rec own.kept).left

        now : records_of b (enc_task t) ≡ Some (record_of rec)
        now = record_by_number b.ledger.tables.names b.ledger.tables.records n t ledger.tasks named ∙ ap (option_map record_of) kept

        right : record_of rec ≡ model_record world (evaluation world (present u) (enc_task t))
        right = ledger.table.right (enc_task t) (record_of rec) now

        at : slice_get b.plan.earlier.names own.number ≡ Some t
        at =
            (subst (λ (o : Option TaskRecord). IfSome o (IsRecordAt b.plan.earlier.names own.number)) own.kept (earlier.records own.number)).named
            ∙ ap Some its

    -- where each entered task without a record is marked
    module _ (marked : (n : ℕ) (v : Task) → slice_get b.ledger.tables.names n ≡ Some v → kept_of b.ledger.tables.records n ≡ None
        → IsMarked b.ledger.tables.ran.items n) where
      is_marked : (n : ℕ) → slice_get b.ledger.tables.names n ≡ Some t → IsMarked b.ledger.tables.ran.items n
      is_marked n named = by (slice_index_or b.ledger.tables.ran.items n false) refl
        where
          recorded : (o : Option TaskRecord) → kept_of b.ledger.tables.records n ≡ o → slice_index_or b.ledger.tables.ran.items n false ≡ false
              → slice_index_or b.ledger.tables.ran.items n false ≡ true
          recorded None none off = marked n t named none
          recorded (Some rec) kept off = absurd (unmarked_none n rec named kept off)

          by : (f : Bool) → slice_index_or b.ledger.tables.ran.items n false ≡ f → slice_index_or b.ledger.tables.ran.items n false ≡ true
          by true e = e
          by false e = recorded (kept_of b.ledger.tables.records n) refl e

      -- it ran, or was reused
      has_run : among (enc_task t) (names_of b) ≡ true → (offers : Task → List Offered) (first after : List Task) (h : HasRunSo u offers b first after)
          → Contains h.gained t ⊎ Contains h.reused t
      has_run entered offers first after h =
          let m = among_from b.ledger.tables.names (enc_task t) entered in
          let its : m.task ≡ t = tasks_told m.task t (canonical_at b.ledger.tables.names ledger.tasks m.number m.task m.named) canonical (sym m.bytes) in
          by m.number (m.named ∙ ap Some its) (h.only m.number (is_marked m.number (m.named ∙ ap Some its)))
        where
          one : (n : ℕ) (ts : List Task) → slice_get b.ledger.tables.names n ≡ Some t → IsOneOf b ts n → Contains ts t
          one n ts named o = subst (Contains ts) (one_some o.task t (sym o.named ∙ named)) o.listed

          by : (n : ℕ) → slice_get b.ledger.tables.names n ≡ Some t → IsOneOf b h.gained n ⊎ IsOneOf b h.reused n → Contains h.gained t ⊎ Contains h.reused t
          by n named (inl o) = inl (one n h.gained named o)
          by n named (inr o) = inr (one n h.reused named o)

  -- so it is known which tasks ran, where each that has a reason did
  ran_for : (told : Directory → Task → List ℕ → List Offered) → ((q : List ℕ) → get_by_text b.plan.digests q ≡ digest_under digests q)
      → (v : Verdict) (before after old new : List Task) → (h : HasRunSo u (offers_to b.plan told u.directory) b before after)
      → AddsNamed b (numbers b.reused.items) old new
      → ((v ≡ Refused Many → ⊥) → (t : Task) → IsEntered u t → HasReason u funcs digests t
      → Contains h.gained t ⊎ Contains h.reused t ⊎ (v ≡ Refused (lost t)))
      → RanFor u funcs digests told before after old new v
  ran_for told digested v before after old new h adds all = record {
    ran = h.gained;
    ran_are = h.is;
    reused = h.reused;
    reused_are = adds h.reused h.reused_are;
    once = h.once;
    reused_once = h.reused_once;
    apart = h.apart;
    reasons = All-weaker (HasRunAs b) (HasReason u funcs digests) marked_due h.gained h.marked;
    reused_reasons = All-weaker (HasRunAs b) (HasReason u funcs digests) marked_due h.reused h.reused_marked;
    without = All-weaker (NoneStands u (offers_to b.plan told u.directory)) (λ t. HasStanding u digests told t → ⊥) (hasnt_standing u digests told b.plan digested)
        h.gained h.without;
    standing = All-weaker (OneStands u (offers_to b.plan told u.directory)) (HasStanding u digests told) (has_standing u digests told b.plan digested) h.reused
        h.standing;
    all = all;
  }

one_more : {A B C : Type 0} → A ⊎ B → A ⊎ B ⊎ C
one_more (inl a) = inl a
one_more (inr b) = inr (inl b)

-- ---- all roots have outputs

settled_ran : (u : Update) (funcs digests : List (List ℕ × List ℕ)) (b : Builder) → IsPlanNow u b.plan → KnowsCode u funcs digests b.plan → IsSite b
    → IsSettledSoFar u u.roots b → (told : Directory → Task → List ℕ → List Offered) → ((q : List ℕ) → get_by_text b.plan.digests q ≡ digest_under digests q)
    → (v : Verdict) (before after old new : List Task) → HasRunSo u (offers_to b.plan told u.directory) b before after
    → AddsNamed b (numbers b.reused.items) old new → RanFor u funcs digests told before after old new v
settled_ran u funcs digests b plan knows site s told digested v before after old new h adds =
    ran_for u funcs digests b knows s.written told digested v before after old new h adds
    (λ fewer t is reason.
    one_more (has_run u funcs digests b knows s.written plan site.earlier s.ledger t is.canonical reason none_left
    (base_among (setting u) (records_of b) (names_of b) s.ledger.table u.roots s.recorded (enc_task t) is.entered)
    (offers_to b.plan told u.directory) before after h))
  where
    none_left : (n : ℕ) (v : Task) → slice_get b.ledger.tables.names n ≡ Some v → kept_of b.ledger.tables.records n ≡ None → IsMarked b.ledger.tables.ran.items n
    none_left n v named none =
        clash (among (enc_task v) [])
        (s.all (enc_task v) (among_at b.ledger.tables.names n v named)
        (record_by_number b.ledger.tables.names b.ledger.tables.records n v s.ledger.tasks named ∙ ap (option_map record_of) none)) refl

-- ---- a root fails, or there are too many tasks

-- the clean build enters nothing after a root that fails
stops_at : (u : Update) (done rest : List (List ℕ)) (root : List ℕ)
    → ((r : List ℕ) → among r done ≡ true → is_done (outcome_of (evaluation world (present u) r)) ≡ true)
    → is_done (outcome_of (evaluation world (present u) root)) ≡ false
    → forest world (present u) (done ++ root ∷ rest) ≡ forest world (present u) done ++ evaluation world (present u) root ∷ []
stops_at u [] rest root well ends =
    ap (λ z. evaluation world (present u) root ∷ only_if z (forest world (present u) rest)) ends
stops_at u (r ∷ rs) rest root well ends =
    ap (λ z. evaluation world (present u) r ∷ only_if z (forest world (present u) (rs ++ root ∷ rest))) (well r (among_here r rs))
    ∙ ap (λ ns. evaluation world (present u) r ∷ ns) (stops_at u rs rest root (λ x i. well x (among_there x r rs i)) ends)
    ∙ ap (λ z. evaluation world (present u) r ∷ (only_if z (forest world (present u) rs) ++ evaluation world (present u) root ∷ [])) (sym (well r (among_here r rs)))

module _ (u : Update) (funcs digests : List (List ℕ × List ℕ)) (b : Builder) (plan : IsPlanNow u b.plan) (knows : KnowsCode u funcs digests b.plan)
    (earlier : IsTables b.plan.earlier) (told : Directory → Task → List ℕ → List Offered) (digested : (q : List ℕ) → get_by_text b.plan.digests q ≡ digest_under digests q)
    (v : Verdict) (why : Refusal) (is : v ≡ Refused why) (before after : List Task) (f : HasStopped u (offers_to b.plan told u.directory) b before after why) where
  -- what it enters is entered, but for one that is why it is refused
  entered_or_lost : HasFailed u f.done f.root b why → (t : Task) → IsEntered u t → (among (enc_task t) (names_of b) ≡ true) ⊎ (v ≡ Refused (lost t))
  entered_or_lost q t e = by (q.all (enc_task t) (subst (λ z. among (enc_task t) z ≡ true) same e.entered))
    where
      same : entered_tasks world (present u) u.roots ≡ entered (evaluation world (present u) f.root) (entered_tasks world (present u) f.done)
      same =
          ap (entered_tasks world (present u)) (sym f.roots)
          ∙ ap (λ ns. entered_all ns [])
          (stops_at u f.done f.rest f.root (recorded_done (setting u) (records_of b) (names_of b) q.ledger.table f.done q.recorded).done q.ends)
          ∙ entered_all-end (forest world (present u) f.done) (evaluation world (present u) f.root) []

      by : (among (enc_task t) (names_of b) ≡ true) ⊎ IsLost why (enc_task t) → (among (enc_task t) (names_of b) ≡ true) ⊎ (v ≡ Refused (lost t))
      by (inl i) = inl i
      by (inr l) = inr (is ∙ ap Refused (l.is ∙ ap lost (tasks_told l.task t l.canonical e.canonical l.bytes)))

  pub stopped_ran : (old new : List Task) → AddsNamed b (numbers b.reused.items) old new → RanFor u funcs digests told before after old new v
  stopped_ran old new adds =
      ran_for u funcs digests b knows f.refused.written told digested v before after old new f.refused.ran adds (λ fewer t e reason. by f.refused.failed fewer t e reason)
    where
      run : HasFailed u f.done f.root b why → (t : Task) → IsEntered u t → HasReason u funcs digests t
          → (among (enc_task t) (names_of b) ≡ true) ⊎ (v ≡ Refused (lost t))
          → Contains f.refused.ran.gained t ⊎ Contains f.refused.ran.reused t ⊎ (v ≡ Refused (lost t))
      run q t e reason (inl i) =
          one_more (has_run u funcs digests b knows f.refused.written plan earlier q.ledger t e.canonical reason q.marked i (offers_to b.plan told u.directory)
          before after f.refused.ran)
      run q t e reason (inr l) = inr (inr l)

      by : (why ≡ Many) ⊎ HasFailed u f.done f.root b why → (v ≡ Refused Many → ⊥) → (t : Task) → IsEntered u t → HasReason u funcs digests t
          → Contains f.refused.ran.gained t ⊎ Contains f.refused.ran.reused t ⊎ (v ≡ Refused (lost t))
      by (inl many) fewer t e reason = absurd (fewer (is ∙ ap Refused many))
      by (inr q) fewer t e reason = run q t e reason (entered_or_lost q t e)

-- ---- the whole build

module _ (held : Option Directory) (fs : List FunctionTree) (codes : List Code) (funcs digests : List (List ℕ × List ℕ)) (rows : List TaskRecord)
    (told : Directory → Task → List ℕ → List Offered) (roots : List Task) (a b : Builder) (made : Built) (before after old new : List Task) (program : IsProgram fs codes rows)
    (storable : All IsStorable rows) (site : IsSite a) (plan : IsPlanOf fs codes funcs digests rows a.plan) (unbegun : IsUnbegun a) where
  -- its digests are the first of each name
  digested : b.plan ≡ a.plan → (q : List ℕ) → get_by_text b.plan.digests q ≡ digest_under digests q
  digested same q = ap (λ p. get_by_text p.digests q) same ∙ plan.digest q ∙ digests_same digests q

  pub build_ran : (why : Option Refusal) → why ≡ None → IsSite b → b.plan ≡ a.plan → SettlesAllRight held told a roots b why
      → SettlesAllRan held told a roots b before after why → AddsNamed b (numbers b.reused.items) old new
      → RunsForReasons held fs funcs digests rows told roots before after old new made.verdict
  build_ran why none there same settles ran adds = record {
    each = λ u here stored honest.
        let s : IsSettledSoFar u u.roots b =
        subst (RootsEndRight u b) none
        (ends_so held fs codes funcs digests rows told roots a b made program storable site plan unbegun u why settles here stored honest) in
        settled_ran u funcs digests b
        (subst (IsPlanNow u) (sym same) (plan_now fs codes funcs digests rows a.plan plan u held roots program storable here stored))
        (subst (KnowsCode u funcs digests) (sym same) (knows_code fs codes funcs digests rows a.plan plan u held roots here stored)) there s told (digested same)
        made.verdict before after old new
        (subst (λ p. HasRunSo u (offers_to p told u.directory) b before after) (sym same)
        (ran none u (build_now fs codes funcs digests rows a.plan plan u held roots program storable here stored told honest) here.roots_are
        (unbegun_settled a site unbegun u) before (begun_ran u (offers_to a.plan told u.directory) a site unbegun before))) adds;
  }

  -- one of them isn't settled
  pub refused_ran : (why : Option Refusal) (r : Refusal) → why ≡ Some r → made.verdict ≡ Refused r → b.plan ≡ a.plan
      → StopsAllRan held told a roots b before after why → AddsNamed b (numbers b.reused.items) old new
      → RunsForReasons held fs funcs digests rows told roots before after old new made.verdict
  refused_ran why r some is same stops adds = record {
    each = λ u here stored honest.
        stopped_ran u funcs digests b
        (subst (IsPlanNow u) (sym same) (plan_now fs codes funcs digests rows a.plan plan u held roots program storable here stored))
        (subst (KnowsCode u funcs digests) (sym same) (knows_code fs codes funcs digests rows a.plan plan u held roots here stored))
        (subst (λ p. IsTables p.earlier) (sym same) site.earlier) told (digested same) made.verdict r is before after
        (subst (λ p. HasStopped u (offers_to p told u.directory) b before after r) (sym same)
        (stops u (build_now fs codes funcs digests rows a.plan plan u held roots program storable here stored told honest) here.roots_are
        (unbegun_settled a site unbegun u) before (begun_ran u (offers_to a.plan told u.directory) a site unbegun before) r some)) old new adds;
  }
