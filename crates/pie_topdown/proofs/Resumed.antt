-- What waits goes on, and tasks begin to run, in the words of the model.
use Rattle.std.proofs.Common.{◌≡◌, ℕ, List, [], ◌∷◌, ◌++◌, Some, Box, Vec, Result, Ok, Err, length, refl, sym, ap, subst, ◌∙◌, arith}
use Rattle.std.specs.declared.alloc.Global.{Global}
use Rattle.std.specs.Prelude.{slice_get, slice_index_or, All, IfOk}
use Rattle.std.specs.Option.{option_to_list}
use Rattle.std.proofs.lemmas.List.Elements.{All-pop}
use Rattle.pie_value.specs.declared.task.Task.{Task}
use Rattle.pie_value.specs.Canonical.{enc_task}
use Rattle.pie_code.specs.declared.code.Code.{Code}
use Rattle.pie_graph.specs.Numbers.{numbers, IsMarked}
use Rattle.pie_view.specs.Content.{content}
use Rattle.pie_running.specs.declared.frame.Caller.{Caller}
use Rattle.pie_running.specs.declared.frame.RunningTask.{RunningTask}
use Rattle.pie_running.specs.inner.Coded.{HasFunction}
use Rattle.pie_running.specs.inner.Frames.{IsStarted}
use Rattle.pie_running.specs.inner.Noted.{Noted}
use Rattle.pie_model.specs.inner.Stack.{Frame as ModelFrame, tasks_of}
use Rattle.pie_step_laws.specs.Frames.{begun}
use Rattle.pie_model_pipeline.specs.World.{world}
use Rattle.pie_core_laws.specs.Update.{Update}
use Rattle.pie_topdown_laws.specs.Running.{IsTop}
use Rattle.pie_topdown_laws.specs.Whole.{AreEntries}
use Rattle.pie_topdown_laws.proofs.Acting.{begins_above}
use Rattle.pie_topdown_laws.proofs.Remaining.{check_is_back}
use Rattle.pie_topdown.specs.declared.builder.Builder.{Builder}
use Rattle.pie_topdown.specs.declared.hand.Check.{Check}
use Rattle.pie_topdown.specs.declared.hand.Frame.{Frame}
use Rattle.pie_topdown.specs.declared.hand.Frame.TheVariants as frames
use Rattle.pie_topdown.specs.declared.hand.Hand.TheVariants as hands
use Rattle.pie_topdown.specs.declared.hand.Turn.{Turn}
use Rattle.pie_topdown.specs.declared.hand.Turn.TheVariants.{Goes, Rests}
use Rattle.pie_topdown.specs.inner.Calling.{AnswersSo, ResumesSo, StartsSo}
use Rattle.pie_topdown.specs.inner.Effects.{HasStarted}
use Rattle.pie_topdown.specs.inner.Frames.{IsSite}
use Rattle.pie_topdown.specs.inner.Right.{site_of, build_of, entry_of, entries_up, IsBesides, AreWaiting, IsRightSite, EndedRight, AreTheBusy, IsRight, IsAtRest, IsPlanNow, HasEndedAs, TurnIsRight}
use Rattle.pie_topdown.proofs.Started.{start_same, same_stage, others_stay, is_started}
use Rattle.pie_topdown.proofs.Topmost.{one_some, own_site, own_waiting}
use Rattle.pie_topdown.proofs.Touched.{IsSameBut, StaysOf, touched_top, touched_busy, restacked_site, restacked_may, restacked_besides}
use Rattle.pie_topdown.proofs.Waited.{entries_push}

-- ---- what waits goes on

module _ (b : Builder) (popped : Vec Frame Global) (e : Frame) (items : b.stack.items ≡ popped.items ++ option_to_list (Some e)) where
  abbrev after : Builder
  after = record b { stack = popped }

  pub ups : entries_up b.stack.items ≡ entry_of e ∷ entries_up popped.items
  ups = ap entries_up items ∙ entries_push popped.items e

  module _ (u : Update) (root : List ℕ) (g : ModelFrame) (gs : List ModelFrame) (waiting : AreWaiting u b root (g ∷ gs)) where
    pub both : AreEntries (site_of u b) (build_of b) root (entry_of e ∷ entries_up popped.items) (g ∷ gs)
    both = subst (λ es. AreEntries (site_of u b) (build_of b) root es (g ∷ gs)) ups waiting.entries

    pub split : All (IsBesides u b) popped.items × IsBesides u b e
    split = All-pop (IsBesides u b) b.stack.items popped.items (Some e) items waiting.besides

    pub rest_waits : AreWaiting u after root gs
    rest_waits = record {
      entries = both.1;
      besides = λ i d l. restacked_besides b popped u (slice_index_or popped.items i d) (split.0 i d l);
    }

-- a check is in hand again
module _ (u : Update) (done : List (List ℕ)) (root : List ℕ) (b : Builder) (popped : Vec Frame Global) (c : Box Check Global)
    (items : b.stack.items ≡ popped.items ++ option_to_list (Some (frames.Checks c))) (s : IsRightSite u done root b) where
  check_back : (fs : List ModelFrame) → AreWaiting u b root fs → EndedRight u b root fs (entry_of (frames.Checks c) ∷ entries_up popped.items)
      → IsRight u done root (record b { stack = popped }) (hands.Checks c)
  check_back [] waiting h =
      absurd (subst (λ es. AreEntries (site_of u b) (build_of b) root es []) (ups b popped (frames.Checks c) items) waiting.entries)
  check_back (g ∷ gs) waiting h =
      let W = (both b popped (frames.Checks c) items u root g gs waiting).0 in
      record {
        site = restacked_site b popped u done root s;
        fs = gs;
        waiting = rest_waits b popped (frames.Checks c) items u root g gs waiting;
        hand = record {
          check = W.of_record;
          top = subst (IsTop (site_of u b) (build_of b) root gs)
              (check_is_back (site_of u b) (build_of b) root gs c.value.rec c.value.at (numbers c.value.required.items) g W) h.0;
          may = restacked_may b popped u c.value (split b popped (frames.Checks c) items u root g gs waiting).1;
          busy = subst (λ t. AreTheBusy b (t ∷ tasks_of gs)) (ap (λ (z : ModelFrame). z.task) W.is ∙ W.of_record.check.checked.task) h.2;
        };
      }

pub check_resumes : (b : Builder) (popped : Vec Frame Global) (c : Box Check Global) → b.stack.items ≡ popped.items ++ option_to_list (Some (frames.Checks c))
    → ResumesSo b (record b { stack = popped }) (Goes (hands.Checks c))
check_resumes b popped c items = λ u done root fs plan s waiting h.
    check_back u done root b popped c items s fs waiting
    (subst (EndedRight u b root fs) (ups b popped (frames.Checks c) items) h)

-- a task that runs is to be answered
module _ (u : Update) (done : List (List ℕ)) (root : List ℕ) (b new : Builder) (popped : Vec Frame Global) (c : Caller)
    (items : b.stack.items ≡ popped.items ++ option_to_list (Some (frames.Waits c))) (turn : Turn) (s : IsRightSite u done root b)
    (plan : IsPlanNow u b.plan) (answers : AnswersSo (record b { stack = popped }) c new turn) where
  caller_back : (fs : List ModelFrame) → AreWaiting u b root fs → EndedRight u b root fs (entry_of (frames.Waits c) ∷ entries_up popped.items)
      → TurnIsRight u done root new turn
  caller_back [] waiting h =
      absurd (subst (λ es. AreEntries (site_of u b) (build_of b) root es []) (ups b popped (frames.Waits c) items) waiting.entries)
  caller_back (g ∷ gs) waiting h =
      let C = (both b popped (frames.Waits c) items u root g gs waiting).0 in
      answers u done root gs plan (restacked_site b popped u done root s) (rest_waits b popped (frames.Waits c) items u root g gs waiting)
      (record {
        aside = g;
        caller = C;
        top = h.0;
        ran = (split b popped (frames.Waits c) items u root g gs waiting).1;
        busy = subst (λ t. AreTheBusy b (t ∷ tasks_of gs)) C.frame.task h.2;
      })
      (ended_same h.1)
    where
      ended_same : HasEndedAs b c.required → HasEndedAs (record b { stack = popped }) c.required
      ended_same q = record { number = q.number; named = q.named; rec = q.rec; kept = q.kept; value = q.value; given = q.given }

pub caller_resumes : {E : Type 0} (b new : Builder) (popped : Vec Frame Global) (c : Caller) (r : Result Turn E)
    → b.stack.items ≡ popped.items ++ option_to_list (Some (frames.Waits c)) → IfOk r (AnswersSo (record b { stack = popped }) c new) → IfOk r (ResumesSo b new)
caller_resumes b new popped c (Err x) items answers = tt
caller_resumes b new popped c (Ok turn) items answers = λ u done root fs plan s waiting h.
    caller_back u done root b new popped c items turn s plan answers fs waiting (subst (EndedRight u b root fs) (ups b popped (frames.Waits c) items) h)

pub empty_of : (es : List Frame) → length es ≡ 0 → es ≡ []
empty_of [] e = refl
empty_of (x ∷ es) e = absurd (omega (arith, e))

-- nothing waits
pub none_resumes : (b : Builder) (popped : Vec Frame Global) → length b.stack.items ≡ 0 → length popped.items ≡ 0 → ResumesSo b (record b { stack = popped }) Rests
none_resumes b popped no_old no_new = λ u done root fs plan s waiting h.
    by u done root fs s (subst (λ es. AreEntries (site_of u b) (build_of b) root (entries_up es) fs) (empty_of b.stack.items no_old) waiting.entries)
    (subst (λ es. EndedRight u b root fs (entries_up es)) (empty_of b.stack.items no_old) h)
  where
    by : (u : Update) (done : List (List ℕ)) (root : List ℕ) (fs : List ModelFrame) → IsRightSite u done root b → AreEntries (site_of u b) (build_of b) root [] fs
        → EndedRight u b root fs [] → IsAtRest u done root (record b { stack = popped })
    by u done root [] s are h = record { site = restacked_site b popped u done root s; free = empty_of popped.items no_new; settled = h.0; all = h.1 }
    by u done root (g ∷ gs) s are h = absurd are

-- ---- a task begins to run

module _ (b c : Builder) (n : ℕ) (code : Code) (t : Task) (f : RunningTask) (ledger : HasStarted b.ledger n c.ledger) (rest : c ≡ record b { ledger = c.ledger })
    (named : slice_get b.ledger.tables.names n ≡ Some t) (started : IsStarted code t n f) (is : IsSite b) where
  same : IsSameBut b c
  same = start_same b c n t ledger rest named is

  stays : (k : ℕ) → (k ≡ n → ⊥) → StaysOf b c k
  stays = others_stay b c n t ledger rest named is

  pub starts_turn : StartsSo b n code c (Goes (hands.Runs f))
  starts_turn = λ u done root fs s waiting e due.
      let one : e.task ≡ t = one_some e.task t (sym e.named ∙ named) in
      let top : IsTop (site_of u b) (build_of b) root fs (begun world (enc_task t)) =
      subst (λ (x : Task). IsTop (site_of u b) (build_of b) root fs (begun world (enc_task x))) one e.top in
      record {
        site = own_site u done root b fs (begun world (enc_task t)) n t s top refl named c same stays (λ so. due);
        fs = fs;
        waiting = own_waiting u done root b fs (begun world (enc_task t)) n t s top refl named c same stays (λ so. due) is waiting;
        hand = record {
          runs = begins_above (site_of u c) (build_of c) root fs t n f
              (subst (λ (ts : List Task). slice_get ts n ≡ Some t) (sym ledger.names) named)
              (subst (λ p. HasFunction u.functions p.code.now t f.code.now) (sym same.plan)
              (subst (HasFunction u.functions b.plan.code.now t) (sym started.coded)
              (subst (λ (x : Task). HasFunction u.functions b.plan.code.now x code) one e.function)))
              (subst (λ (k : Code). IsStarted k t n f) (sym started.coded) started)
              (λ p. ap (λ st. content st n p) (same_stage b c n t ledger rest named is) ∙ e.untouched.unstaged p)
              (touched_top b c same u root fs (begun world (enc_task t)) top);
          ran = subst (λ (m : Noted). IsMarked c.ledger.tables.ran.items m.number) (sym started.notes) (is_started b c n t ledger rest named is);
          busy = subst (λ (m : Noted). AreTheBusy c (enc_task m.task ∷ tasks_of fs)) (sym started.notes)
              (touched_busy b c same (enc_task t ∷ tasks_of fs) (subst (λ (x : Task). AreTheBusy b (enc_task x ∷ tasks_of fs)) one e.busy));
        };
      }
