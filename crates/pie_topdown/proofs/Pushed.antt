-- A task is entered above one that waits for it from then on, in the words of the model.
use Rattle.std.proofs.Common.{◌≡◌, ℕ, suc, ◌-◌, ◌<◌, ◌≤◌, Bool, true, false, List, [], ◌∷◌, ◌++◌, Option, None, Some, Bor, Box, Result, Ok, Err, Vec, length, map, refl, sym, ap, subst, ◌∙◌, arith}
use Rattle.std.specs.declared.alloc.Global.{Global}
use Rattle.std.specs.Prelude.{slice_get, slice_index_or, All, IfOk}
use Rattle.std.specs.List.{Contains}
use Rattle.std.proofs.lemmas.List.{length-map}
use Rattle.std.proofs.lemmas.List.Elements.{All-push}
use Rattle.pie_value.specs.declared.task.Task.{Task}
use Rattle.pie_value.specs.declared.event.Event.TheVariants as events
use Rattle.pie_value.specs.declared.event.How.{How as Asked}
use Rattle.pie_value.specs.Limits.{is_small_task}
use Rattle.pie_value.specs.Canonical.{enc_task, IsCanonicalTask}
use Rattle.pie_base.specs.declared.fault.FaultKind.TheVariants.{Big}
use Rattle.pie_code.specs.declared.code.Code.{Code}
use Rattle.pie_graph.specs.declared.edges.TaskNo.{TaskNo}
use Rattle.pie_graph.specs.Numbers.{numbers}
use Rattle.pie_parser.specs.FunctionTrees.{FunctionTree}
use Rattle.pie_record.specs.inner.Records.{record_of as kept_of}
use Rattle.pie_view.specs.Content.{content}
use Rattle.pie_running.specs.declared.frame.Caller.{Caller}
use Rattle.pie_running.specs.declared.frame.Waiting.{Waiting}
use Rattle.pie_running.specs.inner.Coded.{HasFunction}
use Rattle.pie_model.specs.Paths.{among}
use Rattle.pie_model.specs.Records.{Record}
use Rattle.pie_model.specs.Trees.{HasTask}
use Rattle.pie_model.specs.Evaluation.{evaluation}
use Rattle.pie_model.specs.declared.words.How.{How}
use Rattle.pie_model.specs.declared.words.Event.TheVariants.{Require}
use Rattle.pie_model.specs.inner.RecordLaws.{Passes}
use Rattle.pie_model.specs.inner.Stack.{Frame as ModelFrame, tasks_of}
use Rattle.pie_model.proofs.Basics.{among_here, among_right}
use Rattle.pie_step_laws.specs.Frames.{begun, set_aside}
use Rattle.pie_settle_laws.proofs.Leaving.{required_has}
use Rattle.pie_model_pipeline.specs.Rows.{how_by}
use Rattle.pie_model_pipeline.specs.Words.{how_of}
use Rattle.pie_model_pipeline.specs.World.{world}
use Rattle.pie_builder_laws.specs.Names.{AreTasks, called_in}
use Rattle.pie_builder_laws.proofs.Naming.{named_to}
use Rattle.pie_core_laws.specs.Update.{Update, present}
use Rattle.pie_task_laws.specs.Frames.{IsCaller}
use Rattle.pie_task_laws.proofs.Frames.{frame_moves}
use Rattle.pie_topdown_laws.specs.Tables.{unrecorded}
use Rattle.pie_topdown_laws.specs.Ledgers.{setting}
use Rattle.pie_topdown_laws.specs.Running.{IsTop}
use Rattle.pie_topdown_laws.specs.Stacks.{IsStack}
use Rattle.pie_topdown_laws.specs.Whole.{AreEntries, IsEntry, WaitsAt}
use Rattle.pie_topdown_laws.proofs.Acting.{requirer_waits, big_fails, some_left}
use Rattle.pie_topdown_laws.proofs.Comparing.{requires_at}
use Rattle.pie_topdown_laws.proofs.Deciding.{too_many}
use Rattle.pie_topdown_laws.proofs.Remaining.{numbers_still, check_stays}
use Rattle.pie_topdown_laws.proofs.Stacking.{grows}
use Rattle.pie_topdown.specs.declared.builder.Builder.{Builder}
use Rattle.pie_topdown.specs.declared.hand.Check.{Check}
use Rattle.pie_topdown.specs.declared.hand.Frame.{Frame}
use Rattle.pie_topdown.specs.declared.hand.Frame.TheVariants as frames
use Rattle.pie_topdown.specs.declared.hand.Hand.TheVariants as hands
use Rattle.pie_topdown.specs.declared.hand.Turn.{Turn}
use Rattle.pie_topdown.specs.declared.hand.Turn.TheVariants.{Goes, Many}
use Rattle.pie_topdown.specs.inner.Asking.{ActsSo}
use Rattle.pie_topdown.specs.inner.Calling.{ChecksSo, NeedsSo}
use Rattle.pie_topdown.specs.inner.Entries.{HasEntered, MayBe}
use Rattle.pie_topdown.specs.inner.Right.{site_of, build_of, names_of, records_of, entry_of, entries_up, EntersSite, ChecksRight, IsUntouched, MayStillRun, IsBesides, IsPlanNow, IsRight, IsRightSite, AreWaiting, AreTheBusy, FailsSo}
use Rattle.pie_topdown.proofs.Entered.{entered_names, entered_records, entered_all, entered_beside, entered_busy, entered_number, canonical_at, flag_more}
use Rattle.pie_topdown.proofs.Touched.{restacked_site, restacked_untouched, restacked_besides}
use Rattle.pie_topdown.proofs.Waited.{entries_push}
use Rattle.pie_graph.specs.Numbers.{IsMarked}
use Rattle.pie_topdown.proofs.Lasting.{by_lasts}

-- a task that isn't among the entered ones has other bytes than they
pub absent_among : (names : List Task) (t : Task) → AreTasks names → IsCanonicalTask t (enc_task t) → ¬ (Contains names t) → among (enc_task t) (map enc_task names) ≡ false
absent_among names t are canonical absent = by (among (enc_task t) (map enc_task names)) refl
  where
    by : (z : Bool) → among (enc_task t) (map enc_task names) ≡ z → among (enc_task t) (map enc_task names) ≡ false
    by false q = q
    by true q = absurd (absent (named_to names t are canonical q))

-- ---- it is entered, and one waits for it

module _ (b c : Builder) (t : Task) (code : Bor Code) (at : TaskNo) (number : at.0 ≡ length b.ledger.tables.names) (e : HasEntered b t c) (enters : EntersSite b t c)
    (may : MayBe b t code.now) (u : Update) (done : List (List ℕ)) (root : List ℕ) (fs : List ModelFrame) (plan : IsPlanNow u b.plan) (s : IsRightSite u done root b)
    (waiting : AreWaiting u b root fs) (fresh : kept_of b.ledger.tables.records (length b.ledger.tables.names) ≡ None)
    (absent : ¬ (Contains b.ledger.tables.names t)) (f : ModelFrame) (top : IsTop (site_of u b) (build_of b) root fs f) (n : ℕ) (left : f.left ≡ suc n)
    (h : How) (asks : (present u).next f.task f.progress.answers ≡ Require h (enc_task t)) (busy : AreTheBusy b (f.task ∷ tasks_of fs)) where
  -- it has canonical bytes
  pub new_canonical : IsCanonicalTask t (enc_task t)
  new_canonical = canonical_at c.ledger.tables.names e.added.tasks (length b.ledger.tables.names) t (entered_number b c t e fresh)

  other : among (enc_task t) (names_of b) ≡ false
  other = absent_among b.ledger.tables.names t s.ledger.tasks new_canonical absent

  stands : HasTask (enc_task t) (evaluation world (present u) root)
  stands = required_has world (present u) (records_of b) (Passes (unrecorded (records_of b))) root fs f top.goes n h (enc_task t) left asks

  same_plan : c.plan ≡ b.plan
  same_plan = ap (λ x. x.plan) e.rest

  few : length (names_of b) < 50000
  few = let size : length (names_of b) ≡ length b.ledger.tables.names = length-map b.ledger.tables.names enc_task in let less = may.few in omega (arith, size, less)

  new_top : IsTop (site_of u c) (build_of c) root (set_aside f n ∷ fs) (begun world (enc_task t))
  unfolding world
  new_top =
      subst (λ (R : List ℕ → Option Record). IsStack (setting u) R (names_of c) root (set_aside f n ∷ fs) (begun world (enc_task t))) (sym (entered_records b c t e fresh))
      (subst (λ ts. IsStack (setting u) (records_of b) ts root (set_aside f n ∷ fs) (begun world (enc_task t))) (sym (entered_all b c t e fresh))
      (grows (setting u) (records_of b) (names_of b) root fs f top n h (enc_task t) s.ledger.table left asks other few))

  module _ (frame : Frame) (pushed : Vec Frame Global) (items : pushed.items ≡ c.stack.items ++ frame ∷ [])
      (entry : IsEntry (site_of u c) (build_of c) root fs (entry_of frame) (set_aside f n)) (besides : IsBesides u c frame) where
    abbrev after : Builder
    after = record c { stack = pushed }

    old_waiting : AreWaiting u c root fs
    old_waiting = (enters u done root s stands).waiting fs waiting

    pushed_waiting : AreWaiting u after root (set_aside f n ∷ fs)
    pushed_waiting = record {
      entries = subst (λ es. AreEntries (site_of u c) (build_of c) root (entries_up es) (set_aside f n ∷ fs)) (sym items)
          (subst (λ es. AreEntries (site_of u c) (build_of c) root es (set_aside f n ∷ fs)) (sym (entries_push c.stack.items frame))
          (entry, old_waiting.entries));
      besides = subst (All (IsBesides u after)) (sym items)
          (All-push (IsBesides u after) c.stack.items frame
          (λ i d l. restacked_besides c pushed u (slice_index_or c.stack.items i d) (old_waiting.besides i d l)) (restacked_besides c pushed u frame besides));
    }

    pub pushed_right : IsRight u done root after (hands.Enters at code)
    pushed_right = record {
      site = restacked_site c pushed u done root (enters u done root s stands).site;
      fs = set_aside f n ∷ fs;
      waiting = pushed_waiting;
      hand = record {
        task = t;
        named = subst (λ k. slice_get c.ledger.tables.names k ≡ Some t) (sym number) (entered_number b c t e fresh);
        top = new_top;
        untouched = subst (IsUntouched after) (sym number) (restacked_untouched c pushed (length b.ledger.tables.names) (enters u done root s stands).untouched);
        function = subst (λ p. HasFunction u.functions p.code.now t code.now) (sym same_plan)
            (subst (λ (x : List FunctionTree). HasFunction x b.plan.code.now t code.now) plan.functions may.function);
        busy = entered_busy b c t e fresh (f.task ∷ tasks_of fs) busy;
      };
    }

-- ---- one that runs waits for it

-- what waits stays the same frame
caller_stays : (u : Update) (b c : Builder) (t : Task) (e : HasEntered b t c) (fresh : kept_of b.ledger.tables.records (length b.ledger.tables.names) ≡ None)
    (g : ModelFrame) (w : Caller) → IsCaller (site_of u b) (build_of b) g w → IsCaller (site_of u c) (build_of c) g w
caller_stays u b c t e fresh g w C =
    subst (λ p. IsCaller (record { update = u; codes = p.code.now }) (build_of c) g w) (sym (ap (λ x. x.plan) e.rest)) (record {
      left = C.left;
      is_left = C.is_left;
      frame = frame_moves (site_of u b) (build_of b) w.waiting.code.now w.waiting.machine w.waiting.notes C.left g C.frame (build_of c)
          (entered_names b c t e fresh w.waiting.notes.number w.waiting.notes.task C.frame.named)
          (numbers_still b.ledger.tables.names c.ledger.tables.names (entered_names b c t e fresh) w.waiting.notes.needs (called_in w.waiting.notes.deps)
          C.frame.needs)
          (λ p. ap (λ st. content st w.waiting.notes.number p) (ap (λ x. x.stage) e.rest));
      waits = C.waits;
      canonical = C.canonical;
    })

pub caller_pushed : (b c : Builder) (w : Caller) (code : Bor Code) (at : TaskNo) (pushed : Vec Frame Global) → at.0 ≡ length b.ledger.tables.names
    → HasEntered b w.required c → EntersSite b w.required c → MayBe b w.required code.now
    → kept_of b.ledger.tables.records (length b.ledger.tables.names) ≡ None → ¬ (Contains b.ledger.tables.names w.required) → 0 < w.waiting.notes.left
    → pushed.items ≡ c.stack.items ++ frames.Waits w ∷ [] → NeedsSo b w (record c { stack = pushed }) (Goes (hands.Enters at code))
caller_pushed b c w code at pushed number e enters may fresh absent left items = λ canonical small u done root fs plan s waiting a.
    let R = a.asks.runs in
    let Q = requirer_waits (site_of u b) (build_of b) root fs w.waiting w.required w.how a.asks left small canonical in
    pushed_right b c w.required code at number e enters may u done root fs plan s waiting fresh absent R.frame R.top (w.waiting.notes.left - 1)
    (some_left (site_of u b) (build_of b) root fs w.waiting.code.now w.waiting.machine w.waiting.notes R left) (how_of w.how) Q.requires.next (subst (λ x. AreTheBusy b (x ∷ tasks_of fs)) (sym R.means.task) a.busy) (frames.Waits w) pushed items
    (caller_stays u b c w.required e fresh (set_aside R.frame (w.waiting.notes.left - 1)) w Q.waits)
    (ap (λ flags. slice_index_or flags w.waiting.notes.number false) e.added.ran ∙ flag_more b.ledger.tables.ran.items w.waiting.notes.number ∙ a.ran)

-- ---- nothing more may be entered

pub full_turn : (b : Builder) (w : Caller) → 50000 ≤ length b.ledger.tables.names → ¬ (Contains b.ledger.tables.names w.required) → 0 < w.waiting.notes.left
    → NeedsSo b w b Many
unfolding world
full_turn b w full absent left = λ canonical small u done root fs plan s waiting a.
    let R = a.asks.runs in
    let Q = requirer_waits (site_of u b) (build_of b) root fs w.waiting w.required w.how a.asks left small canonical in
    record {
      calm = s.calm;
      written = s.written;
      refused = λ rest.
          too_many (setting u) (records_of b) (names_of b) s.ledger.table done rest root (enc_task w.required) s.recorded (whole s.ledger.table.few) s.stand
          (absent_among b.ledger.tables.names w.required s.ledger.tasks canonical absent)
          (record {
            from = root;
            listed = among_right root done (root ∷ []) (among_here root []);
            stands = required_has world (present u) (records_of b) (Passes (unrecorded (records_of b))) root fs R.frame R.top.goes Q.requires.left (how_of w.how)
                (enc_task w.required) Q.requires.is_left Q.requires.next;
          });
    }
  where
    whole : length (names_of b) ≤ 50000 → length (names_of b) ≡ 50000
    whole fewer = let size : length (names_of b) ≡ length b.ledger.tables.names = length-map b.ledger.tables.names enc_task in omega (arith, size, fewer, full)

-- ---- past the limits

pub big_turn : {E : Type 0} (b new : Builder) (at : ℕ) (w : Waiting) (t : Task) (how : Asked) (r : Result Turn E) → at ≡ w.notes.number
    → 0 < w.notes.left → is_small_task t ≡ false → IfOk r (FailsSo b at Big new) → IfOk r (ActsSo b w (events.Require t how) new)
big_turn b new at w t how (Err x) number left big fails = tt
big_turn b new at w t how (Ok turn) number left big fails = λ u done root fs plan s waiting a.
    fails u done root fs w.notes.task s waiting
    (subst (λ k. slice_get b.ledger.tables.names k ≡ Some w.notes.task) (sym number) a.asks.runs.means.named)
    (big_fails (site_of u b) (build_of b) root fs w t how a.asks left big) (subst (IsMarked b.ledger.tables.ran.items) (sym number) a.ran) a.busy

-- ---- a check waits for it

module _ (u : Update) (b c : Builder) (t : Task) (e : HasEntered b t c) (root : List ℕ) (fs : List ModelFrame) (k : Check)
    (fresh : kept_of b.ledger.tables.records (length b.ledger.tables.names) ≡ None) (h : ChecksRight u b root fs k) where
  check_waits : WaitsAt (site_of u c) (build_of c) root fs k.rec k.at (numbers k.required.items)
      (set_aside h.check.check.checked.frame h.check.check.checked.asks.left)
  check_waits =
      subst (λ p. WaitsAt (record { update = u; codes = p.code.now }) (build_of c) root fs k.rec k.at (numbers k.required.items)
      (set_aside h.check.check.checked.frame h.check.check.checked.asks.left)) (sym (ap (λ x. x.plan) e.rest)) (record {
        of_record = check_stays (site_of u b) (build_of b) (build_of c) root fs (entered_beside b c t e fresh fs) fs k.rec k.at (numbers k.required.items) h.check;
        is = refl;
      })

  check_may : MayStillRun u c k
  check_may = record {
    untouched = record {
      rested = ap (λ flags. slice_index_or flags k.no.0 false) e.added.ran ∙ flag_more b.ledger.tables.ran.items k.no.0 ∙ h.may.untouched.rested;
      unstaged = λ path. ap (λ st. content st k.no.0 path) (ap (λ x. x.stage) e.rest) ∙ h.may.untouched.unstaged path;
    };
    function = subst (λ p. HasFunction u.functions p.code.now k.rec.task k.code.now) (sym (ap (λ x. x.plan) e.rest)) h.may.function;
    parts = h.may.parts;
    source = h.may.source;
    due = by_lasts u b.plan c.plan k.rec k.contents (ap (λ x. x.plan) e.rest) h.may.due;
    rest = h.may.rest;
  }

pub check_pushed : (b c : Builder) (k : Box Check Global) (t : Task) (code : Bor Code) (at : TaskNo) (pushed : Vec Frame Global) → at.0 ≡ length b.ledger.tables.names
    → HasEntered b t c → EntersSite b t c → MayBe b t code.now → kept_of b.ledger.tables.records (length b.ledger.tables.names) ≡ None
    → ¬ (Contains b.ledger.tables.names t) → pushed.items ≡ c.stack.items ++ frames.Checks k ∷ []
    → ChecksSo b k.value t (record c { stack = pushed }) (Goes (hands.Enters at code))
check_pushed b c k t code at pushed number e enters may fresh absent items = λ u done root fs plan s waiting h needs.
    let C = h.check.check in
    pushed_right b c t code at number e enters may u done root fs plan s waiting fresh absent C.checked.frame h.top C.checked.asks.left
    C.checked.asks.is_left (how_by needs.dep.kind)
    (requires_at u h.check.before b.ledger.tables.names b.ledger.tables.records root fs k.value.rec k.value.at (numbers k.value.required.items) C needs.dep t
    needs.next needs.what).next
    (subst (λ x. AreTheBusy b (x ∷ tasks_of fs)) (sym C.checked.task) h.busy) (frames.Checks k) pushed items
    (check_waits u b c t e root fs k.value fresh h) (check_may u b c t e root fs k.value fresh h)

-- nothing more may be entered
pub check_full : (b : Builder) (k : Check) (t : Task) → 50000 ≤ length b.ledger.tables.names → IsCanonicalTask t (enc_task t)
    → ¬ (Contains b.ledger.tables.names t) → ChecksSo b k t b Many
unfolding world
check_full b k t full canonical absent = λ u done root fs plan s waiting h needs.
    let C = h.check.check in
    record {
      calm = s.calm;
      written = s.written;
      refused = λ rest.
          too_many (setting u) (records_of b) (names_of b) s.ledger.table done rest root (enc_task t) s.recorded (whole s.ledger.table.few) s.stand
          (absent_among b.ledger.tables.names t s.ledger.tasks canonical absent)
          (record {
            from = root;
            listed = among_right root done (root ∷ []) (among_here root []);
            stands = required_has world (present u) (records_of b) (Passes (unrecorded (records_of b))) root fs C.checked.frame h.top.goes C.checked.asks.left
                (how_by needs.dep.kind) (enc_task t) C.checked.asks.is_left
                (requires_at u h.check.before b.ledger.tables.names b.ledger.tables.records root fs k.rec k.at (numbers k.required.items) C needs.dep t needs.next
                needs.what).next;
          });
    }
  where
    whole : length (names_of b) ≤ 50000 → length (names_of b) ≡ 50000
    whole fewer = let size : length (names_of b) ≡ length b.ledger.tables.names = length-map b.ledger.tables.names enc_task in omega (arith, size, fewer, full)
