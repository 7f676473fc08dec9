-- A check begins, passes an observation, and ends, in the words of the model.
use Rattle.std.proofs.Common.{◌≡◌, ℕ, ◌+◌, Bool, true, false, List, [], ◌∷◌, Option, Some, Box, Vec, refl, sym, ap, subst, ◌∙◌}
use Rattle.std.specs.declared.alloc.Global.{Global}
use Rattle.std.specs.Prelude.{IsTrue, slice_get}
use Rattle.std.proofs.lemmas.Option.{slice_get_within, get_or_from_slice_get}
use Rattle.pie_base.specs.Path.{is_out, is_source}
use Rattle.pie_value.specs.declared.task.Task.{Task}
use Rattle.pie_value.specs.declared.stamp.Stamp.{Stamp}
use Rattle.pie_value.specs.declared.stamp.Stamp.TheVariants as stamps
use Rattle.pie_value.specs.Canonical.{enc_task}
use Rattle.pie_code.specs.declared.code.Code.{Code}
use Rattle.pie_files.specs.Directory.{Directory}
use Rattle.pie_graph.specs.Numbers.{numbers}
use Rattle.pie_graph.specs.declared.edges.TaskNo.{TaskNo}
use Rattle.pie_record.specs.Canonical.{IsStorable, IsStorableDep, IsTrueRecord}
use Rattle.pie_record.specs.Kinds.{allows, tag_of}
use Rattle.pie_record.specs.declared.dep.Dep.{Dep}
use Rattle.pie_record.specs.declared.dep.DepKind.{DepKind}
use Rattle.pie_record.specs.declared.dep.DepKind.TheVariants as kinds
use Rattle.pie_record.specs.declared.dep.DepOn.{DepOn}
use Rattle.pie_record.specs.declared.dep.DepOn.TheVariants.{File, Called}
use Rattle.pie_record.specs.declared.task_record.TaskRecord.{TaskRecord}
use Rattle.pie_named.specs.inner.Known.{IsTrueOf}
use Rattle.pie_compare.specs.inner.Standing.{Around, OnStands}
use Rattle.pie_model.specs.Evaluation.{Project}
use Rattle.pie_model.specs.inner.Still.{SourceStampStill}
use Rattle.pie_model.specs.inner.Stack.{Frame as ModelFrame, tasks_of}
use Rattle.pie_step_laws.specs.Frames.{begun}
use Rattle.pie_model_pipeline.specs.Rows.{query_of, stamp_of, record_of}
use Rattle.pie_model_pipeline.specs.World.{world}
use Rattle.pie_core_laws.specs.Update.{Update, present}
use Rattle.pie_topdown_laws.specs.Checks.{IsOldRecord, AreUnderWay}
use Rattle.pie_topdown_laws.specs.CheckLaws.{TellsApart}
use Rattle.pie_topdown_laws.specs.Ledgers.{setting}
use Rattle.pie_topdown_laws.specs.Places.{StandsAbove, StandsThere, ChecksAt}
use Rattle.pie_topdown_laws.specs.Running.{IsTop}
use Rattle.pie_topdown_laws.proofs.Comparing.{begins_at, passes_at}
use Rattle.pie_topdown_laws.proofs.Sourcing.{still}
use Rattle.pie_topdown_laws.proofs.Stacking.{goes_on}
use Rattle.pie_topdown.specs.declared.builder.Builder.{Builder}
use Rattle.pie_topdown.specs.declared.hand.Check.{Check}
use Rattle.pie_topdown.specs.declared.hand.Hand.TheVariants as hands
use Rattle.pie_topdown.specs.declared.hand.Turn.TheVariants.{Goes}
use Rattle.pie_topdown.specs.declared.hand.Rest.{Rest}
use Rattle.pie_topdown.specs.inner.Due.{IsDueBy}
use Rattle.pie_topdown.specs.inner.Places.{IsStill, StandsNext}
use Rattle.pie_running.specs.inner.Coded.{HasFunction}
use Rattle.pie_topdown.specs.inner.Right.{site_of, build_of, names_of, records_of, IsRightSite, IsSourced, AreHonest, IsUntouched, AreTheBusy, EntersRight, ChecksRight, BeginsCheck, PassesRight}

-- ---- a check begins

module _ (b : Builder) (n : ℕ) (code : Code) (u : Update) (done : List (List ℕ)) (root : List ℕ) (fs : List ModelFrame) (before : Project) (c : Check)
    (s : IsRightSite u done root b) (e : EntersRight u b root fs n code) (named : slice_get b.ledger.tables.names n ≡ Some c.rec.task) where
  same_task : e.task ≡ c.rec.task
  same_task = one_some e.task c.rec.task (sym e.named ∙ named)
    where
      one_some : (x y : Task) → Some x ≡ Some y → x ≡ y
      one_some x y q = cc

  top_of : IsTop (site_of u b) (build_of b) root fs (begun world (enc_task c.rec.task))
  top_of = subst (λ (t : Task). IsTop (site_of u b) (build_of b) root fs (begun world (enc_task t))) same_task e.top

  pub begins_check : c.no.0 ≡ n → c.code.now ≡ code → c.at ≡ 0 → numbers c.required.items ≡ [] → IsOldRecord (setting u) before (enc_task c.rec.task) (record_of c.rec)
      → TellsApart (setting u) before → IsTrueRecord c.rec → IsSourced u c.rec c.contents → IsDueBy u b.plan c.rec c.contents
      → AreHonest u c.rec.task c.rest → ChecksRight u b root fs c
  begins_check number coded at none old apart parts source due rest =
      let first = begins_at u before b.ledger.tables.names b.ledger.tables.records root fs c.rec s.listed old top_of.goes in
      let it : ChecksAt u before b.ledger.tables.names b.ledger.tables.records root fs c.rec c.at (numbers c.required.items) =
      subst (λ k. ChecksAt u before b.ledger.tables.names b.ledger.tables.records root fs c.rec k (numbers c.required.items)) (sym at)
      (subst (ChecksAt u before b.ledger.tables.names b.ledger.tables.records root fs c.rec 0) (sym none) first) in
      record {
        check = record { before = before; apart = apart; check = it };
        top = goes_on (setting u) (records_of b) (names_of b) root fs (begun world (enc_task c.rec.task)) top_of it.checked.frame it.checked.task it.checked.goes;
        may = record {
          untouched = subst (λ k. IsUntouched b k) (sym number) e.untouched;
          function = subst (λ (t : Task). HasFunction u.functions b.plan.code.now t c.code.now) same_task
              (subst (HasFunction u.functions b.plan.code.now e.task) (sym coded) e.function);
          parts = parts;
          source = source;
          due = due;
          rest = rest;
        };
        busy = subst (λ (t : Task). AreTheBusy b (enc_task t ∷ tasks_of fs)) same_task e.busy;
      }

-- so it does by its parts
pub begins_with : (b : Builder) (n : ℕ) (code : Code) (rec : TaskRecord) (contents : Option (Vec (Vec ℕ Global) Global)) (rest : Rest) (c : Check) → c.no.0 ≡ n
    → c.code.now ≡ code → c.rec ≡ rec → c.contents ≡ contents → c.rest ≡ rest → c.at ≡ 0 → numbers c.required.items ≡ []
    → slice_get b.ledger.tables.names n ≡ Some rec.task → BeginsCheck b n code rec contents rest c
begins_with b n code rec contents rest c number coded same held more at none named = λ u done root fs before s e old apart parts source due honest.
    begins_check b n code u done root fs before c s e (subst (λ (x : TaskRecord). slice_get b.ledger.tables.names n ≡ Some x.task) (sym same) named) number coded
    at none (subst (λ (x : TaskRecord). IsOldRecord (setting u) before (enc_task x.task) (record_of x)) (sym same) old) apart
    (subst IsTrueRecord (sym same) parts)
    (subst (IsSourced u c.rec) (sym held) (subst (λ (x : TaskRecord). IsSourced u x contents) (sym same) source))
    (subst (IsDueBy u b.plan c.rec) (sym held) (subst (λ (x : TaskRecord). IsDueBy u b.plan x contents) (sym same) due))
    (subst (AreHonest u c.rec.task) (sym more) (subst (λ (x : TaskRecord). AreHonest u x.task rest) (sym same) honest))

-- ---- it passes an observation

-- a listing that stands is of a source: one of another path has no stamp that a record may have
source_listed : (a : Around) (required after : List ℕ) (kind : DepKind) (path : List ℕ) (stamp : Stamp) → IsTrue (allows kind (File path) (tag_of stamp))
    → OnStands a required kind (File path) stamp after → kind ≡ kinds.List → is_source path ≡ true
source_listed a required after kind path stamp allowed h listed = by (is_source path) refl (is_out path) refl
  where
    no_out : is_out path ≡ true → ⊥
    no_out out = let file = (h.0.out out).file in absurd (cc)

    absent : stamp ≡ stamps.Absent → ⊥
    absent is = none (subst (λ k. IsTrue (allows k (File path) (tag_of stamp))) listed allowed)
      where
        none : IsTrue (allows kinds.List (File path) (tag_of stamp)) → ⊥
        none so = let at_absent : IsTrue (allows kinds.List (File path) (tag_of stamps.Absent)) = subst (λ s. IsTrue (allows kinds.List (File path) (tag_of s))) is so in absurd (cc)

    by : (b : Bool) → is_source path ≡ b → (o : Bool) → is_out path ≡ o → is_source path ≡ true
    by true is o out = is
    by false is true out = absurd (no_out out)
    by false is false out = absurd (absent ((h.0.other out).reserved is))

-- a source that stands has the stamp of now
still_there : (u : Update) (a : Around) (required after : List ℕ) (d : Dep) → IsStorableDep d → OnStands a required d.kind d.what d.stamp after → IsStill u.directory d
    → SourceStampStill world (present u) (query_of d.kind d.what) (stamp_of d.stamp)
still_there u a required after d storable stands there = by d.what refl stands storable.allowed
  where
    by : (what : DepOn) → d.what ≡ what → OnStands a required d.kind what d.stamp after → IsTrue (allows d.kind what (tag_of d.stamp))
        → SourceStampStill world (present u) (query_of d.kind what) (stamp_of d.stamp)
    by (File path) is h allowed = still u d.kind path d.stamp allowed (source_listed a required after d.kind path d.stamp allowed h) (there path is)
    by (Called task) is h allowed = tt

module _ (u : Update) (done : List (List ℕ)) (root : List ℕ) (fs : List ModelFrame) (held : Option Directory) (old b : Builder) (from : Check)
    (r : Vec TaskNo Global) (holds : held ≡ Some u.directory) (known : IsTrueOf u.directory old.named) (s : IsRightSite u done root b)
    (k : ChecksRight u b root fs from) (n : StandsNext held old b from (record from { required = r })) (storable : IsStorable from.rec) where
  above : StandsAbove b.ledger.tables.names b.ledger.tables.records fs from.rec
  above = subst (λ x. AreUnderWay (records_of b) (names_of b) (x ∷ tasks_of fs)) k.check.check.checked.task k.top.under_way

  this_dep : IsStorableDep n.dep
  this_dep =
      subst IsStorableDep (get_or_from_slice_get from.rec.deps from.at n.dep n.dep n.next)
      (storable.deps from.at n.dep (slice_get_within from.rec.deps from.at n.dep n.next))

  there : StandsThere u b.ledger.tables b.ledger.rows b.named from.rec from.at (numbers from.required.items) (numbers r.items)
  there = record {
    dep = n.dep;
    next = n.next;
    stands = n.stands;
    still = still_there u (record { tables = b.ledger.tables; rows = b.ledger.rows; known = b.named; own = from.rec.writes }) (numbers from.required.items)
        (numbers r.items) n.dep this_dep n.stands (n.still u.directory holds known);
  }

  after : ChecksAt u k.check.before b.ledger.tables.names b.ledger.tables.records root fs from.rec (from.at + 1) (numbers r.items)
  after = passes_at u k.check.before b.ledger.tables b.ledger.rows b.ledger.places.items b.named root fs from.rec from.at (numbers from.required.items) (numbers r.items)
      k.check.apart s.ledger above k.check.check there

  pub passes_check : ChecksRight u b root fs (record from { required = r; at = from.at + 1 })
  passes_check = record {
    check = record { before = k.check.before; apart = k.check.apart; check = after };
    top = goes_on (setting u) (records_of b) (names_of b) root fs k.check.check.checked.frame k.top after.checked.frame
        (after.checked.task ∙ sym k.check.check.checked.task) after.checked.goes;
    may = record { untouched = k.may.untouched; function = k.may.function; parts = k.may.parts; source = k.may.source; due = k.may.due; rest = k.may.rest };
    busy = k.busy;
  }

pub passes_turn : (b : Builder) (c : Check) (next : Box Check Global) → next.value ≡ record c { at = c.at + 1 } → IsStorable c.rec
    → PassesRight b c (Goes (hands.Checks next))
passes_turn b c next is storable = λ u done root fs held old from holds known s waiting k same n.
    let rec_same = ap (λ (x : Check). x.rec) same in
    record {
      site = s;
      fs = fs;
      waiting = waiting;
      hand = subst (ChecksRight u b root fs) (sym (is ∙ ap (λ (x : Check). record x { at = x.at + 1 }) same))
          (passes_check u done root fs held old b from c.required holds known s k (subst (StandsNext held old b from) same n) (subst IsStorable rec_same storable));
    }
