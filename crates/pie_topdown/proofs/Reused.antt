-- An offered record stands: its task ends with it as one that ran, in the words of the model.
use Rattle.std.proofs.Common.{◌≡◌, ℕ, ◌≤◌, true, false, List, [], ◌∷◌, Option, None, Some, Vec, Result, Ok, Err, length, map, refl, sym, ap, subst, ◌∙◌, arith}
use Rattle.std.specs.declared.alloc.Global.{Global}
use Rattle.std.specs.Prelude.{slice_index_or, IfOk, OnOk}
use Rattle.std.specs.Option.{option_map, option_or}
use Rattle.std.proofs.lemmas.List.{take_all, get_or-set_same, get_or-set_other}
use Rattle.std.proofs.lemmas.Option.{slice_get_within}
use Rattle.pie_value.specs.Values.{tree_of}
use Rattle.pie_value.specs.Canonical.{enc_task, IsCanonicalTask, IsEncodable}
use Rattle.pie_graph.specs.Numbers.{numbers, IsMarked}
use Rattle.pie_record.specs.Canonical.{IsStorableOutcome}
use Rattle.pie_record.specs.declared.records.Records.{Records}
use Rattle.pie_record.specs.declared.task_record.TaskRecord.{TaskRecord}
use Rattle.pie_record.specs.inner.Records.{record_of as kept_of, Puts}
use Rattle.pie_old.specs.inner.Rows.{paths_in}
use Rattle.pie_view.specs.Content.{content}
use Rattle.pie_model.specs.Seen.{first_write}
use Rattle.pie_model.specs.Trees.{Node, trace_of, writes_of}
use Rattle.pie_model.specs.Evaluation.{World, Project, evaluation}
use Rattle.pie_model.specs.Records.{Record, hashed, record_of as model_record}
use Rattle.pie_model.specs.Separate.{AllMet, StampsSeparate}
use Rattle.pie_model.specs.inner.Stack.{Frame as ModelFrame, tasks_of}
use Rattle.pie_model.specs.inner.Steps.{ChangesAt}
use Rattle.pie_model.proofs.LooksLemmas.{first_write-hashed}
use Rattle.pie_model_pipeline.specs.Rows.{record_of}
use Rattle.pie_model_pipeline.specs.World.{world}
use Rattle.pie_builder_laws.specs.Names.{called_in}
use Rattle.pie_builder_laws.specs.Tables.{recorded}
use Rattle.pie_builder_laws.specs.Views.{AreNumbersOf, RowIs}
use Rattle.pie_builder_laws.proofs.Tabled.{record_put}
use Rattle.pie_core_laws.specs.Update.{Update, MetIn, present}
use Rattle.pie_core_laws.specs.Seeing.{written_now}
use Rattle.pie_left_laws.proofs.Provides.{met_write}
use Rattle.pie_topdown_laws.specs.Checks.{AreUnderWay}
use Rattle.pie_topdown_laws.specs.Places.{StandsAbove, StandsWhole}
use Rattle.pie_topdown_laws.specs.Running.{IsTop}
use Rattle.pie_topdown_laws.proofs.Comparing.{ends_at}
use Rattle.pie_topdown_result_laws.specs.Builds.{IsHonest}
use Rattle.pie_topdown.specs.declared.builder.Builder.{Builder}
use Rattle.pie_topdown.specs.declared.hand.Check.{Check}
use Rattle.pie_topdown.specs.declared.hand.Hand.TheVariants as hands
use Rattle.pie_topdown.specs.declared.hand.Turn.{Turn}
use Rattle.pie_topdown.specs.inner.Due.{IsDueAt, IsDueBy}
use Rattle.pie_topdown.specs.inner.Frames.{IsCheck, IsSite}
use Rattle.pie_topdown.specs.inner.Effects.{HasEnded}
use Rattle.pie_topdown.specs.inner.Ledgers.{row_with}
use Rattle.pie_topdown.specs.inner.Offering.{with_contents, HasReused, EndsReused}
use Rattle.pie_topdown.specs.inner.Right.{site_of, build_of, names_of, records_of, IsRightSite, AreWaiting, AreTheBusy, ChecksRight, IsSourced, KeepsRight, IsRight, TurnIsRight}
use Rattle.pie_topdown.proofs.Ended.{WroteRight, ended_site, ended_waiting, ended_hand}
use Rattle.pie_topdown.proofs.Entered.{canonical_at}
use Rattle.pie_topdown.proofs.Kept.{Gave, gave, no_kept, not_recorded}
use Rattle.pie_topdown.proofs.Staging.{bytes_in}
use Rattle.pie_topdown.proofs.Topmost.{own_site, own_waiting}
use Rattle.pie_topdown.proofs.Touched.{IsSameBut, StaysOf, touched_top, touched_busy}

-- ---- what an offer holds is what the task writes now

some_same : {A : Type 0} (x y : A) → Some x ≡ Some y → x ≡ y
some_same x y e = cc

-- traces that met their contents, and have the hashes of the same writes, wrote the same first
same_first : (w : World) (old now : Project) (Met : List ℕ → Type 0) (a b : Node) (p : List ℕ) → StampsSeparate w old now Met → AllMet w Met (trace_of a)
    → AllMet w Met (trace_of b) → hashed w (writes_of (trace_of a)) ≡ hashed w (writes_of (trace_of b))
    → first_write p (writes_of (trace_of a)) ≡ first_write p (writes_of (trace_of b))
same_first w old now Met a b p apart met_a met_b same =
    by (first_write p (writes_of (trace_of a))) (first_write p (writes_of (trace_of b))) refl refl
    (sym (first_write-hashed w p (writes_of (trace_of a))) ∙ ap (first_write p) same ∙ first_write-hashed w p (writes_of (trace_of b)))
  where
    by : (x y : Option (List ℕ)) → first_write p (writes_of (trace_of a)) ≡ x → first_write p (writes_of (trace_of b)) ≡ y
        → option_map w.hash x ≡ option_map w.hash y → x ≡ y
    by None None e f h = refl
    by None (Some d) e f h = absurd (cc)
    by (Some c) None e f h = absurd (cc)
    by (Some c) (Some d) e f h =
        ap Some (apart.hashes c d (met_write w Met (trace_of a) p c met_a e) (met_write w Met (trace_of b) p d met_b f) (some_same (w.hash c) (w.hash d) h))

-- writes with their own contents are the same
with_own : (w : World) (ws : List (List ℕ × List ℕ)) → with_contents (hashed w ws) (map (λ (x : List ℕ × List ℕ). x.1) ws) ≡ ws
with_own w [] = refl
with_own w (x ∷ ws) = ap (λ z. x ∷ z) (with_own w ws)

-- the contents of an honest offer, at the paths of its record, are what the evaluation now writes first, if the record is that of it
honest_first : (u : Update) (rec : TaskRecord) (contents : List (List ℕ)) (p : List ℕ) → IsHonest u (rec, contents)
    → record_of rec ≡ model_record world (evaluation world (present u) (enc_task rec.task))
    → AllMet world (MetIn u) (trace_of (evaluation world (present u) (enc_task rec.task)))
    → first_write p (with_contents rec.writes contents) ≡ written_now u rec.task p
honest_first u rec contents p h is met =
    let old = evaluation world h.before (enc_task rec.task) in
    let now = evaluation world (present u) (enc_task rec.task) in
    let wrote : rec.writes ≡ hashed world (writes_of (trace_of old)) = ap (λ (r : Record). r.writes) h.was in
    ap (λ ws. first_write p (with_contents ws contents)) wrote
    ∙ ap (λ cs. first_write p (with_contents (hashed world (writes_of (trace_of old))) cs)) (sym h.wrote)
    ∙ ap (first_write p) (with_own world (writes_of (trace_of old)))
    ∙ same_first world h.before (present u) (MetIn u) old now p h.apart h.met met (sym wrote ∙ ap (λ (r : Record). r.writes) is)

-- ---- the task ends

module _ (b c : Builder) (check : Check) (contents : Vec (Vec ℕ Global) Global)
    (kept : HasReused b check.no.0 check.rec (numbers check.required.items) (bytes_in contents.items) c) (u : Update) (done : List (List ℕ)) (root : List ℕ)
    (fs : List ModelFrame) (s : IsRightSite u done root b) (waiting : AreWaiting u b root fs) (k : ChecksRight u b root fs check)
    (own : check.contents ≡ Some contents) (is : IsSite b) (checks : IsCheck b.ledger check) (over : length check.rec.deps ≤ check.at) where
  canonical : IsCanonicalTask check.rec.task (enc_task check.rec.task)
  canonical = canonical_at b.ledger.tables.names s.ledger.tasks check.no.0 check.rec.task checks.named

  above : StandsAbove b.ledger.tables.names b.ledger.tables.records fs check.rec
  above = subst (λ x. AreUnderWay (records_of b) (names_of b) (x ∷ tasks_of fs)) k.check.check.checked.task k.top.under_way

  unrecorded : kept_of b.ledger.tables.records check.no.0 ≡ None
  unrecorded = no_kept b.ledger.tables.names b.ledger.tables.records check.no.0 check.rec.task s.ledger.tasks checks.named
      (not_recorded (records_of b) (names_of b) (enc_task check.rec.task) (tasks_of fs) above)

  first : HasEnded b.ledger check.no.0 check.rec (numbers check.required.items) kept.between
  first = kept.ended unrecorded

  -- as if it was marked and its contents staged first
  abbrev mid : Builder
  mid = record b {
    ledger = record b.ledger { tables = record b.ledger.tables { ran = c.ledger.tables.ran } };
    stage = c.stage;
    reused = c.reused;
  }

  ended : HasEnded mid.ledger check.no.0 check.rec (numbers check.required.items) c.ledger
  ended = record {
    names = kept.marked.names ∙ first.names;
    puts = subst (λ (rs : Records). Puts b.ledger.tables.records rs check.no.0 check.rec) (sym kept.marked.records) first.puts;
    rows = kept.marked.rows ∙ first.rows;
    places = ap (λ v. v.items) kept.marked.places ∙ first.places;
    ran = refl;
  }

  rest : c ≡ record mid { ledger = c.ledger }
  rest = kept.rest

  -- ---- up to there

  same : IsSameBut b mid
  same = record { plan = refl; names = refl; records = refl; rows = refl; places = refl; stack = refl; known = refl; failure = refl }

  flag : (n : ℕ) → (n ≡ check.no.0 → ⊥) → slice_index_or c.ledger.tables.ran.items n false ≡ slice_index_or b.ledger.tables.ran.items n false
  flag n apart =
      ap (λ flags. slice_index_or flags n false) kept.marked.ran
      ∙ get_or-set_other kept.between.tables.ran.items check.no.0 n true false apart
      ∙ ap (λ flags. slice_index_or flags n false) first.ran

  stays : (n : ℕ) → (n ≡ check.no.0 → ⊥) → StaysOf b mid n
  stays n apart = record { content = kept.staged.beside n apart; flag = flag n apart }

  marked : IsMarked c.ledger.tables.ran.items check.no.0
  marked =
      ap (λ flags. slice_index_or flags check.no.0 false) kept.marked.ran
      ∙ get_or-set_same kept.between.tables.ran.items check.no.0 true false
      (let within = slice_get_within b.ledger.tables.names check.no.0 check.rec.task checks.named in
      let flags = is.ledger.tables.flags in
      let size = ap length first.ran in
      omega (arith, within, flags, size))

  its_due : IsMarked mid.ledger.tables.ran.items check.no.0 → IsDueAt u b check.no.0
  its_due so = record { task = check.rec.task; named = checks.named; due = subst (IsDueBy u b.plan check.rec) own k.may.due }

  site : IsRightSite u done root mid
  site = own_site u done root b fs k.check.check.checked.frame check.no.0 check.rec.task s k.top k.check.check.checked.task checks.named mid same stays
      its_due

  waiting_then : AreWaiting u mid root fs
  waiting_then = own_waiting u done root b fs k.check.check.checked.frame check.no.0 check.rec.task s k.top k.check.check.checked.task checks.named mid same
      stays its_due is waiting

  top : IsTop (site_of u mid) (build_of mid) root fs k.check.check.checked.frame
  top = touched_top b mid same u root fs k.check.check.checked.frame k.top

  busy : AreTheBusy mid (enc_task check.rec.task ∷ tasks_of fs)
  busy = touched_busy b mid same (enc_task check.rec.task ∷ tasks_of fs) k.busy

  -- ---- it ends

  change : ChangesAt (records_of b) (recorded b.ledger.tables.names c.ledger.tables.records) (enc_task check.rec.task) (record_of check.rec)
  change = record_put b.ledger.tables.names b.ledger.tables.records c.ledger.tables.records check.no.0 check.rec.task check.rec s.ledger.tasks checks.named
      ended.puts

  whole : StandsWhole u b.ledger.tables.names b.ledger.tables.records c.ledger.tables.records check.rec
  whole = ends_at u k.check.before b.ledger.tables.names b.ledger.tables.records root fs check.rec check.at (numbers check.required.items) k.check.check
      c.ledger.tables.records s.listed above over change

  -- its record is that of the evaluation now
  pub stands_now : record_of check.rec ≡ model_record world (evaluation world (present u) (enc_task check.rec.task))
  stands_now = whole.right.is

  row : RowIs b.ledger.tables.names (row_with (numbers check.required.items) (paths_in check.rec.writes)) (Some check.rec)
  row = (
    subst (λ ds. AreNumbersOf b.ledger.tables.names (numbers check.required.items) (called_in ds)) (take_all check.at check.rec.deps over) k.check.check.numbers,
    refl,
  )

  source : IsHonest u (check.rec, bytes_in contents.items)
  source = subst (IsSourced u check.rec) own k.may.source

  nothing_else : (o x : Option (List ℕ)) → x ≡ None → option_or o x ≡ o
  nothing_else None x e = e
  nothing_else (Some y) x e = refl

  staged : (p : List ℕ) → content c.stage check.no.0 p ≡ written_now u check.rec.task p
  staged p =
      kept.staged.here p
      ∙ nothing_else (first_write p (with_contents check.rec.writes (bytes_in contents.items))) (content b.stage check.no.0 p) (k.may.untouched.unstaged p)
      ∙ honest_first u check.rec (bytes_in contents.items) p source whole.right.is whole.right.met

  wrote : WroteRight u mid check.no.0 check.rec
  wrote = record {
    there = λ rested. let no : true ≡ false = sym marked ∙ rested in absurd (cc);
    fetched = λ path bytes rested had. let no : true ≡ false = sym marked ∙ rested in absurd (cc);
    ran = λ path so. staged path;
    own = λ rested. let no : true ≡ false = sym marked ∙ rested in absurd (cc);
  }

  output : Gave check.rec.outcome
  output = gave check.rec.outcome k.check.check.old.done

  small : IsEncodable (tree_of output.value)
  small = subst IsStorableOutcome output.is checks.storable.outcome

  pub keeps_offer : IsRight u done root c hands.Ended
  keeps_offer = record {
    site = ended_site mid c check.no.0 check.rec (numbers check.required.items) ended rest u done root site kept.ledger whole.ends whole.right.met checks.named
        row wrote k.may.parts.outcome;
    fs = fs;
    waiting = ended_waiting mid c check.no.0 check.rec (numbers check.required.items) ended rest u done root site kept.ledger whole.ends whole.right.met
        checks.named row wrote k.may.parts.outcome fs waiting_then;
    hand = ended_hand mid c check.no.0 check.rec (numbers check.required.items) ended rest u done root site kept.ledger whole.ends whole.right.met checks.named
        row wrote k.may.parts.outcome k.check.check.checked.frame fs output.value k.check.check.checked.task canonical top waiting_then busy output.is small;
  }

-- so it is where it is an offered one
pub stands_if : {E : Type 0} (b c : Builder) (check : Check) (contents : Vec (Vec ℕ Global) Global) (r : Result Turn E) → IsSite b → IsCheck b.ledger check
    → length check.rec.deps ≤ check.at → check.contents ≡ Some contents
    → IfOk r (EndsReused b check.no.0 check.rec (numbers check.required.items) (bytes_in contents.items) c)
    → OnOk r ((u : Update) (done : List (List ℕ)) (root : List ℕ) (fs : List ModelFrame) → IsRightSite u done root b → AreWaiting u b root fs
    → ChecksRight u b root fs check → record_of check.rec ≡ model_record world (evaluation world (present u) (enc_task check.rec.task)))
stands_if b c check contents (Ok t) is checks over own h = λ u done root fs s waiting k.
    stands_now b c check contents h.0 u done root fs s waiting k own is checks over
stands_if b c check contents (Err e) is checks over own h = tt

-- and the task ends with it
pub reuses_if : {E : Type 0} (b c : Builder) (check : Check) (contents : Vec (Vec ℕ Global) Global) (r : Result Turn E) → IsSite b → IsCheck b.ledger check
    → length check.rec.deps ≤ check.at → check.contents ≡ Some contents
    → IfOk r (EndsReused b check.no.0 check.rec (numbers check.required.items) (bytes_in contents.items) c) → IfOk r (KeepsRight b check c)
reuses_if b c check contents (Ok t) is checks over own h = λ u done root fs s waiting k.
    subst (TurnIsRight u done root c) (sym h.1) (keeps_offer b c check contents h.0 u done root fs s waiting k own is checks over)
reuses_if b c check contents (Err e) is checks over own h = tt
