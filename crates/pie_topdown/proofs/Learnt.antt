-- More is known of the files, and nothing else changed: what was right is.
use Rattle.std.proofs.Common.{◌≡◌, ℕ, List, refl, sym, subst}
use Rattle.std.specs.Prelude.{slice_index_or}
use Rattle.pie_code.specs.declared.code.Code.{Code}
use Rattle.pie_named.specs.declared.named.Named.{Named}
use Rattle.pie_named.specs.inner.Known.{IsTrueOf}
use Rattle.pie_model.specs.inner.Stack.{Frame as ModelFrame}
use Rattle.pie_core_laws.specs.Update.{Update}
use Rattle.pie_topdown.specs.declared.builder.Builder.{Builder}
use Rattle.pie_topdown.specs.declared.hand.Check.{Check}
use Rattle.pie_topdown.specs.declared.hand.Frame.{Frame}
use Rattle.pie_topdown.specs.declared.hand.Frame.TheVariants as frames
use Rattle.pie_topdown.specs.inner.Right.{IsRightSite, IsUntouched, MayStillRun, IsBesides, AreWaiting, EntersRight, ChecksRight}
use Rattle.pie_topdown.proofs.Lasting.{due_lasts}

module _ (b : Builder) (n : Named) where
  abbrev after : Builder
  after = record b { named = n }

  module _ (u : Update) where
    untouched : (k : ℕ) → IsUntouched b k → IsUntouched after k
    untouched k is = record { rested = is.rested; unstaged = is.unstaged }

    may : (c : Check) → MayStillRun u b c → MayStillRun u after c
    may c is = record { untouched = untouched c.no.0 is.untouched; function = is.function; parts = is.parts; source = is.source; due = is.due; rest = is.rest }

    besides : (f : Frame) → IsBesides u b f → IsBesides u after f
    besides (frames.Checks d) is = may d.value is
    besides (frames.Waits d) is = is

    learnt_site : (done : List (List ℕ)) (root : List ℕ) → IsTrueOf u.directory n → IsRightSite u done root b → IsRightSite u done root after
    learnt_site done root known s = record {
      ledger = s.ledger;
      written = record {
        there = s.written.there;
        fetched = s.written.fetched;
        ran = s.written.ran;
        own = s.written.own;
        due = λ k marked. due_lasts u b after k (λ t at. at) refl (s.written.due k marked);
        beyond = s.written.beyond;
      };
      outputs = s.outputs;
      known = known;
      calm = s.calm;
      listed = s.listed;
      recorded = s.recorded;
      stand = s.stand;
    }

    learnt_waiting : (root : List ℕ) (fs : List ModelFrame) → AreWaiting u b root fs → AreWaiting u after root fs
    learnt_waiting root fs w = record { entries = w.entries; besides = λ i d l. besides (slice_index_or b.stack.items i d) (w.besides i d l) }

    learnt_checks : (root : List ℕ) (fs : List ModelFrame) (c : Check) → ChecksRight u b root fs c → ChecksRight u after root fs c
    learnt_checks root fs c k = record { check = k.check; top = k.top; may = may c k.may; busy = k.busy }

    learnt_enters : (root : List ℕ) (fs : List ModelFrame) (k : ℕ) (code : Code) → EntersRight u b root fs k code → EntersRight u after root fs k code
    learnt_enters root fs k code e = record {
      task = e.task;
      named = e.named;
      top = e.top;
      untouched = untouched k e.untouched;
      function = e.function;
      busy = e.busy;
    }

-- so it is with a build that is the same but for that
module _ (b c : Builder) (same : c ≡ record b { named = c.named }) (u : Update) where
  pub site_by : (done : List (List ℕ)) (root : List ℕ) → IsTrueOf u.directory c.named → IsRightSite u done root b → IsRightSite u done root c
  site_by done root known s = subst (IsRightSite u done root) (sym same) (learnt_site b c.named u done root known s)

  pub waiting_by : (root : List ℕ) (fs : List ModelFrame) → AreWaiting u b root fs → AreWaiting u c root fs
  waiting_by root fs w = subst (λ x. AreWaiting u x root fs) (sym same) (learnt_waiting b c.named u root fs w)

  pub checks_by : (root : List ℕ) (fs : List ModelFrame) (k : Check) → ChecksRight u b root fs k → ChecksRight u c root fs k
  checks_by root fs k is = subst (λ x. ChecksRight u x root fs k) (sym same) (learnt_checks b c.named u root fs k is)

  pub enters_by : (root : List ℕ) (fs : List ModelFrame) (k : ℕ) (code : Code) → EntersRight u b root fs k code → EntersRight u c root fs k code
  enters_by root fs k code is = subst (λ x. EntersRight u x root fs k code) (sym same) (learnt_enters b c.named u root fs k code is)
