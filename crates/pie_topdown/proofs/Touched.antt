-- Nothing changed but what is staged and marked: what that leaves right.
use Rattle.std.proofs.Common.{◌≡◌, ℕ, true, false, List, Option, None, Some, Vec, map, sym, ap, subst, ◌∙◌, refl}
use Rattle.std.specs.declared.alloc.Global.{Global}
use Rattle.std.specs.Prelude.{slice_get, slice_index_or, All}
use Rattle.pie_value.specs.declared.task.Task.{Task}
use Rattle.pie_value.specs.Canonical.{enc_task}
use Rattle.pie_record.specs.inner.Records.{record_of as kept_of}
use Rattle.pie_view.specs.Content.{content}
use Rattle.pie_running.specs.inner.Coded.{HasFunction}
use Rattle.pie_named.specs.inner.Known.{IsTrueOf}
use Rattle.pie_model.specs.Paths.{among}
use Rattle.pie_model.specs.Records.{Record}
use Rattle.pie_model.specs.inner.RecordLaws.{Passes}
use Rattle.pie_model.specs.inner.Consistent.{IsSettled}
use Rattle.pie_model.specs.inner.Stack.{Frame as ModelFrame, tasks_of}
use Rattle.pie_builder_laws.specs.Tables.{recorded}
use Rattle.pie_core_laws.specs.Update.{Update}
use Rattle.pie_topdown_laws.specs.Tables.{unrecorded}
use Rattle.pie_topdown_laws.specs.Ends.{AreRecorded}
use Rattle.pie_topdown_laws.specs.Ledgers.{setting, IsRightLedger}
use Rattle.pie_topdown_laws.specs.Running.{IsTop}
use Rattle.pie_topdown_laws.specs.Stacks.{IsStack}
use Rattle.pie_topdown_laws.specs.Whole.{AreEntries, GoesBeside}
use Rattle.pie_topdown_laws.proofs.Remaining.{entries_stay as all_stay}
use Rattle.pie_topdown.specs.declared.builder.Builder.{Builder}
use Rattle.pie_topdown.specs.declared.hand.Check.{Check}
use Rattle.pie_topdown.specs.declared.hand.Frame.{Frame}
use Rattle.pie_topdown.specs.declared.hand.Frame.TheVariants as frames
use Rattle.pie_topdown.specs.inner.Frames.{IsFrame, IsSite}
use Rattle.pie_topdown.specs.inner.Right.{site_of, build_of, names_of, records_of, entry_of, entries_up, AreWritten, IsRightSite, IsUntouched, MayStillRun, IsBesides, AreWaiting, AreTheBusy}
use Rattle.pie_topdown.proofs.Lasting.{by_lasts, due_lasts}
use Rattle.pie_topdown.proofs.Waited.{task_up, waits_among}

-- all but what is staged and marked is as it was
pub record IsSameBut (b c : Builder) : Type 0 where
  pub plan : c.plan ≡ b.plan
  pub names : c.ledger.tables.names ≡ b.ledger.tables.names
  pub records : c.ledger.tables.records ≡ b.ledger.tables.records
  pub rows : c.ledger.rows ≡ b.ledger.rows
  pub places : c.ledger.places.items ≡ b.ledger.places.items
  pub stack : c.stack ≡ b.stack
  pub known : c.named ≡ b.named
  pub failure : c.failure ≡ b.failure

-- of a task what is staged stays, and whether it is marked
pub record StaysOf (b c : Builder) (n : ℕ) : Type 0 where
  pub content : (p : List ℕ) → content c.stage n p ≡ content b.stage n p
  pub flag : slice_index_or c.ledger.tables.ran.items n false ≡ slice_index_or b.ledger.tables.ran.items n false

-- so it is with these tasks
abbrev pub StayOf : Builder → Builder → List (List ℕ) → Type 0
StayOf b c ts = (n : ℕ) (t : Task) → slice_get b.ledger.tables.names n ≡ Some t → among (enc_task t) ts ≡ true → StaysOf b c n

module _ (b c : Builder) (e : IsSameBut b c) where
  pub records_are : records_of c ≡ records_of b
  records_are = ap (λ ts. recorded ts c.ledger.tables.records) e.names ∙ ap (recorded b.ledger.tables.names) e.records

  pub names_are : names_of c ≡ names_of b
  names_are = ap (map enc_task) e.names

  pub kept_is : (n : ℕ) → kept_of c.ledger.tables.records n ≡ kept_of b.ledger.tables.records n
  kept_is n = ap (λ rs. kept_of rs n) e.records

  pub touched_beside : (fs : List ModelFrame)
      → ((n : ℕ) (t : Task) → slice_get b.ledger.tables.names n ≡ Some t → among (enc_task t) (tasks_of fs) ≡ true
      → (p : List ℕ) → content c.stage n p ≡ content b.stage n p) → GoesBeside (build_of b) (build_of c) fs
  touched_beside fs same = record {
    named = λ n t at. subst (λ (ts : List Task). slice_get ts n ≡ Some t) (sym e.names) at;
    settled = λ x s. subst (λ (R : List ℕ → Option Record). IsSettled R (Passes (unrecorded R)) x) (sym records_are) s;
    staged = same;
  }

  pub touched_top : (u : Update) (root : List ℕ) (fs : List ModelFrame) (f : ModelFrame) → IsTop (site_of u b) (build_of b) root fs f
      → IsTop (site_of u c) (build_of c) root fs f
  touched_top u root fs f K =
      subst (λ (R : List ℕ → Option Record). IsStack (setting u) R (names_of c) root fs f) (sym records_are)
      (subst (λ ts. IsStack (setting u) (records_of b) ts root fs f) (sym names_are) K)

  pub touched_busy : (ts : List (List ℕ)) → AreTheBusy b ts → AreTheBusy c ts
  touched_busy ts busy x on none =
      busy x (subst (λ ns. among x ns ≡ true) names_are on) (subst (λ (R : List ℕ → Option Record). R x ≡ None) records_are none)

  -- ---- what waits

  module _ (u : Update) (root : List ℕ) (fs : List ModelFrame) (is : IsSite b) (stay : StayOf b c (tasks_of fs)) where
    untouched : (n : ℕ) → StaysOf b c n → IsUntouched b n → IsUntouched c n
    untouched n s was = record { rested = s.flag ∙ was.rested; unstaged = λ path. s.content path ∙ was.unstaged path }

    besides : (f : Frame) → among (task_up (entry_of f)) (tasks_of fs) ≡ true → IsFrame b.ledger f → IsBesides u b f → IsBesides u c f
    besides (frames.Checks d) on frame was = record {
      untouched = untouched d.value.no.0 (stay d.value.no.0 d.value.rec.task frame.named on) was.untouched;
      function = subst (λ p. HasFunction u.functions p.code.now d.value.rec.task d.value.code.now) (sym e.plan) was.function;
      parts = was.parts;
      source = was.source;
      due = by_lasts u b.plan c.plan d.value.rec d.value.contents e.plan was.due;
      rest = was.rest;
    }
    besides (frames.Waits d) on frame was = (stay d.waiting.notes.number d.waiting.notes.task frame.noted.task on).flag ∙ was

    pub touched_waiting : AreWaiting u b root fs → AreWaiting u c root fs
    touched_waiting was = record {
      entries = subst (λ v. AreEntries (site_of u c) (build_of c) root (entries_up v.items) fs) (sym e.stack)
          (subst (λ p. AreEntries (record { update = u; codes = p.code.now }) (build_of c) root (entries_up b.stack.items) fs) (sym e.plan)
          (all_stay (site_of u b) (build_of b) (build_of c) root (entries_up b.stack.items) fs
          (touched_beside fs (λ n t at on. (stay n t at on).content)) was.entries));
      besides = subst (λ v. All (IsBesides u c) v.items) (sym e.stack)
          (λ i d l.
          besides (slice_index_or b.stack.items i d) (waits_among (site_of u b) (build_of b) root b.stack.items fs was.entries i d l) (is.stack i d l)
          (was.besides i d l));
    }

  -- ---- the site

  pub touched_site : (u : Update) (done : List (List ℕ)) (root : List ℕ) → AreWritten u c → IsRightSite u done root b → IsRightSite u done root c
  touched_site u done root written s = record {
    ledger =
        subst (λ ts. IsRightLedger u ts c.ledger.tables.records c.ledger.rows c.ledger.places.items) (sym e.names)
        (subst (λ rs. IsRightLedger u b.ledger.tables.names rs c.ledger.rows c.ledger.places.items) (sym e.records)
        (subst (λ rs. IsRightLedger u b.ledger.tables.names b.ledger.tables.records rs c.ledger.places.items) (sym e.rows)
        (subst (λ ps. IsRightLedger u b.ledger.tables.names b.ledger.tables.records b.ledger.rows ps) (sym e.places) s.ledger)));
    written = written;
    outputs = λ n rec kept. s.outputs n rec (sym (kept_is n) ∙ kept);
    known = subst (IsTrueOf u.directory) (sym e.known) s.known;
    calm = e.failure ∙ s.calm;
    listed = s.listed;
    recorded = subst (λ (R : List ℕ → Option Record). AreRecorded R done) (sym records_are) s.recorded;
    stand = λ x on. s.stand x (subst (λ ns. among x ns ≡ true) names_are on);
  }

-- ---- what waits changes alone

module _ (b : Builder) (v : Vec Frame Global) where
  pub restacked_written : (u : Update) → AreWritten u b → AreWritten u (record b { stack = v })
  restacked_written u w = record {
    there = w.there;
    fetched = w.fetched;
    ran = w.ran;
    own = w.own;
    due = λ k marked. due_lasts u b (record b { stack = v }) k (λ t at. at) refl (w.due k marked);
    beyond = w.beyond;
  }

  pub restacked_site : (u : Update) (done : List (List ℕ)) (root : List ℕ) → IsRightSite u done root b → IsRightSite u done root (record b { stack = v })
  restacked_site u done root s = record {
    ledger = s.ledger;
    written = restacked_written u s.written;
    outputs = s.outputs;
    known = s.known;
    calm = s.calm;
    listed = s.listed;
    recorded = s.recorded;
    stand = s.stand;
  }

  pub restacked_untouched : (n : ℕ) → IsUntouched b n → IsUntouched (record b { stack = v }) n
  restacked_untouched n is = record { rested = is.rested; unstaged = is.unstaged }

  pub restacked_may : (u : Update) (c : Check) → MayStillRun u b c → MayStillRun u (record b { stack = v }) c
  restacked_may u c may = record {
    untouched = restacked_untouched c.no.0 may.untouched;
    function = may.function;
    parts = may.parts;
    source = may.source;
    due = may.due;
    rest = may.rest;
  }

  pub restacked_besides : (u : Update) (f : Frame) → IsBesides u b f → IsBesides u (record b { stack = v }) f
  restacked_besides u (frames.Checks d) may = restacked_may u d.value may
  restacked_besides u (frames.Waits d) is = is
