-- A required task answers from how it ended, or closes a cycle, in the words of the model.
use Rattle.std.proofs.Common.{◌≡◌, ◌⊎◌, ℕ, suc, ◌-◌, ◌<◌, ◌≤◌, Bool, true, false, List, [], ◌∷◌, ◌++◌, Option, None, Some, Result, Ok, Err, length, refl, sym, ap, subst, ◌∙◌, inl, inr, arith}
use Rattle.std.specs.Prelude.{slice_get, IfOk}
use Rattle.std.specs.List.{Contains}
use Rattle.std.specs.Option.{option_map}
use Rattle.std.proofs.lemmas.List.{length-append, length-map}
use Rattle.pie_base.specs.declared.fault.FaultKind.TheVariants.{Unknown}
use Rattle.pie_value.specs.declared.task.Task.{Task}
use Rattle.pie_value.specs.declared.value.Value.{Value}
use Rattle.pie_value.specs.declared.event.Event.TheVariants as events
use Rattle.pie_value.specs.declared.event.How.{How as Asked}
use Rattle.pie_value.specs.Values.{tree_of}
use Rattle.pie_value.specs.Limits.{is_small_task}
use Rattle.pie_value.specs.Canonical.{enc_task, IsCanonicalTask, IsEncodable}
use Rattle.pie_graph.specs.Numbers.{IsMarked}
use Rattle.pie_parser.specs.FunctionTrees.{FunctionTree}
use Rattle.pie_types.specs.Whole.{number_from}
use Rattle.pie_record.specs.Canonical.{IsTrueOutcome}
use Rattle.pie_record.specs.declared.dep.DepOn.TheVariants.{Called}
use Rattle.pie_record.specs.declared.task_record.Outcome.{Outcome}
use Rattle.pie_record.specs.declared.task_record.Outcome.TheVariants as outcomes
use Rattle.pie_record.specs.declared.task_record.TaskRecord.{TaskRecord}
use Rattle.pie_record.specs.inner.Records.{record_of as kept_of}
use Rattle.pie_running.specs.declared.frame.Caller.{Caller}
use Rattle.pie_running.specs.declared.frame.RunningTask.{RunningTask}
use Rattle.pie_running.specs.declared.frame.Waiting.{Waiting}
use Rattle.pie_running.specs.inner.Coded.{IsCodeFor}
use Rattle.pie_running.specs.inner.Noted.{required}
use Rattle.pie_running.specs.inner.Steps.{Given}
use Rattle.pie_running.specs.inner.Told.{IsTold}
use Rattle.pie_model.specs.Paths.{among}
use Rattle.pie_model.specs.Trees.{is_done, outcome_of}
use Rattle.pie_model.specs.declared.words.Outcome.TheVariants.{Failed}
use Rattle.pie_model.specs.declared.words.Event.TheVariants.{Fail}
use Rattle.pie_model.specs.Records.{Record}
use Rattle.pie_model.specs.inner.Stack.{Frame as ModelFrame, tasks_of}
use Rattle.pie_model.specs.Evaluation.{evaluation}
use Rattle.pie_model.proofs.Basics.{among_either, clash}
use Rattle.pie_step_laws.specs.Frames.{set_aside}
use Rattle.pie_step_laws.proofs.Tables.{among_one, no_more}
use Rattle.pie_settle_laws.specs.Going.{before_wait}
use Rattle.pie_model_pipeline.specs.Rows as rows
use Rattle.pie_model_pipeline.specs.Words.{how_of, fault_of}
use Rattle.pie_model_pipeline.specs.World.{world}
use Rattle.pie_builder_laws.specs.Requiring.{of_task, requiring_answer}
use Rattle.pie_builder_laws.proofs.Coded.{unknown_fails}
use Rattle.pie_builder_laws.proofs.Naming.{placed}
use Rattle.pie_builder_laws.proofs.Numbered.{code_found}
use Rattle.pie_builder_laws.proofs.Tabled.{record_by_number}
use Rattle.pie_core_laws.specs.Update.{Update, present}
use Rattle.pie_task_laws.specs.Beginning.{calling}
use Rattle.pie_topdown_laws.specs.Ledgers.{setting}
use Rattle.pie_topdown_laws.specs.Running.{IsTop}
use Rattle.pie_topdown_laws.proofs.Acting.{requirer_waits, caller_runs, some_left}
use Rattle.pie_topdown_laws.proofs.Deciding.{failed_decides}
use Rattle.pie_topdown_laws.proofs.Lower.{requirer_undone}
use Rattle.pie_topdown_laws.proofs.Sinking.{lost_by_names, required_sinks, new_fails}
use Rattle.pie_topdown.specs.declared.builder.Builder.{Builder}
use Rattle.pie_topdown.specs.declared.hand.Hand.TheVariants as hands
use Rattle.pie_topdown.specs.declared.hand.Turn.{Turn}
use Rattle.pie_topdown.specs.declared.hand.Turn.TheVariants.{Goes}
use Rattle.pie_topdown.specs.inner.Asking.{ActsSo}
use Rattle.pie_topdown.specs.inner.Calling.{CallsSo, AnswersSo, GivesSo, DescendsSo, NeedsSo, LosesSo}
use Rattle.pie_topdown.specs.inner.Right.{lost, site_of, build_of, names_of, records_of, IsLost, IsPlanNow, IsRightSite, AreTheBusy, TurnIsRight}
use Rattle.pie_topdown.specs.inner.Turns.{FailsBy}
use Rattle.pie_topdown.proofs.Entered.{canonical_at}
use Rattle.pie_topdown.proofs.Failing.{falls_right}
use Rattle.pie_topdown.proofs.Pushed.{absent_among}
use Rattle.pie_topdown.proofs.Topmost.{one_some, never}

-- ---- a task that asks is put aside

-- as it was before its require
pub back : (f : ModelFrame) (n : ℕ) → f.left ≡ suc n → before_wait (set_aside f n) ≡ f
back f n e = ap (λ m. record { task = f.task; progress = f.progress; seen = f.seen; left = m }) (sym e)

pub calls_turn : {E : Type 0} (b new : Builder) (w : Waiting) (t : Task) (how : Asked) (k : ℕ) (r : Result Turn E) → is_small_task t ≡ true → 0 < w.notes.left
    → slice_get b.ledger.tables.names k ≡ Some t → IfOk r (CallsSo b (calling w t how) new) → IfOk r (ActsSo b w (events.Require t how) new)
calls_turn b new w t how k (Err x) small left named calls = tt
calls_turn b new w t how k (Ok turn) small left named calls = λ u done root fs plan s waiting a.
    let R = a.asks.runs in
    let Q = requirer_waits (site_of u b) (build_of b) root fs w t how a.asks left small (canonical_at b.ledger.tables.names s.ledger.tasks k t named) in
    calls u done root fs plan s waiting (record {
      aside = set_aside R.frame (w.notes.left - 1);
      caller = Q.waits;
      top = subst (IsTop (site_of u b) (build_of b) root fs)
          (sym (back R.frame (w.notes.left - 1) (some_left (site_of u b) (build_of b) root fs w.code.now w.machine w.notes R left))) R.top;
      ran = a.ran;
      busy = a.busy;
    })

-- ---- it is given an output

pub gives_turn : (b : Builder) (c : Caller) (callee : ℕ) (v : Value) (height : ℕ) (f : RunningTask) → slice_get b.ledger.tables.names callee ≡ Some c.required
    → IsEncodable (tree_of v) → IsTold c.waiting f (required (of_task c.how c.required v) callee height c.waiting.notes) (requiring_answer c.how v)
    → Given (Called c.required) callee height c.waiting.notes f.notes → GivesSo b c callee v b (Goes (hands.Runs f))
gives_turn b c callee v height f named small told given = λ rec kept gave u done root fs plan s waiting h.
    record {
      site = s;
      fs = fs;
      waiting = waiting;
      hand = record {
        runs = caller_runs (site_of u b) (build_of b) root fs h.aside c callee rec v height f s.ledger.tasks s.ledger.table h.top h.caller named kept
            (record {
              outcome = gave;
              canonical = record { encodable = small; leaves = subst IsTrueOutcome gave (s.outputs callee rec kept); bytes = refl };
            }) told;
        ran = subst (IsMarked b.ledger.tables.ran.items) (sym given.same) h.ran;
        busy = subst (λ (t : Task). AreTheBusy b (enc_task t ∷ tasks_of fs)) (sym given.task) h.busy;
      };
    }

-- a task that ended so has a record
record EndedSo (b : Builder) (k : ℕ) (o : Outcome) : Type 0 where
  rec : TaskRecord
  kept : kept_of b.ledger.tables.records k ≡ Some rec
  is : rec.outcome ≡ o

ended_so : (b : Builder) (k : ℕ) (o : Outcome) → Some o ≡ option_map (λ (r : TaskRecord). r.outcome) (kept_of b.ledger.tables.records k) → EndedSo b k o
ended_so b k o e = by (kept_of b.ledger.tables.records k) refl e
  where
    by : (x : Option TaskRecord) → kept_of b.ledger.tables.records k ≡ x → Some o ≡ option_map (λ (r : TaskRecord). r.outcome) x → EndedSo b k o
    by None q h = absurd (never o (sym h))
    by (Some rec) q h = record { rec = rec; kept = q; is = one_some rec.outcome o (sym h) }

pub answers_given : {E : Type 0} (b new : Builder) (c : Caller) (callee : ℕ) (v : Value) (r : Result Turn E)
    → Some (outcomes.Done v) ≡ option_map (λ (x : TaskRecord). x.outcome) (kept_of b.ledger.tables.records callee) → IfOk r (GivesSo b c callee v new)
    → IfOk r (CallsSo b c new)
answers_given b new c callee v (Err x) e gives = tt
answers_given b new c callee v (Ok turn) e gives = let k = ended_so b callee (outcomes.Done v) e in gives k.rec k.kept k.is

-- a recorded task gave an output
pub gave_output : (u : Update) (done : List (List ℕ)) (root : List ℕ) (b : Builder) (k : ℕ) (rec : TaskRecord) → IsRightSite u done root b
    → kept_of b.ledger.tables.records k ≡ Some rec → is_done (rows.outcome_of rec.outcome) ≡ true
gave_output u done root b k rec s kept =
    let now : records_of b (enc_task rec.task) ≡ Some (rows.record_of rec) =
    record_by_number b.ledger.tables.names b.ledger.tables.records k rec.task s.ledger.tasks (s.ledger.named k rec kept)
    ∙ ap (option_map rows.record_of) kept in
    ap (λ (z : Record). is_done z.outcome) (s.ledger.table.right (enc_task rec.task) (rows.record_of rec) now)
    ∙ s.ledger.table.done (enc_task rec.task) (rows.record_of rec) now

-- ---- it has ended

pub again_turn : {E : Type 0} (b new : Builder) (c : Caller) (r : Result Turn E) → IfOk r (CallsSo b c new) → IfOk r (AnswersSo b c new)
again_turn b new c (Err x) calls = tt
again_turn b new c (Ok turn) calls = λ u done root fs plan s waiting h ended. calls u done root fs plan s waiting h

pub again_none : {E : Type 0} (b new : Builder) (c : Caller) (r : Result Turn E) → ¬ (Contains b.ledger.tables.names c.required) → IfOk r (AnswersSo b c new)
again_none b new c (Err x) absent = tt
again_none b new c (Ok turn) absent = λ u done root fs plan s waiting h ended.
    absurd (absent (placed b.ledger.tables.names ended.number c.required ended.named))

-- ---- it is of no function

pub no_function : (u : Update) (b : Builder) (t : Task) → IsPlanNow u b.plan → IsCodeFor b.plan.typed.now b.plan.code.now t None → number_from 0 u.functions t ≡ None
no_function u b t plan none = by (number_from 0 u.functions t) refl
  where
    of_now : IsCodeFor u.functions b.plan.code.now t None
    of_now = subst (λ (fs : List FunctionTree). IsCodeFor fs b.plan.code.now t None) plan.functions none

    by : (o : Option ℕ) → number_from 0 u.functions t ≡ o → o ≡ None
    by None e = refl
    by (Some n) e = let c = code_found u.functions b.plan.code.now t n plan.compiled e in absurd (of_now n e c.code c.is c.takes)

pub lost_turn : (b new : Builder) (c : Caller) (turn : Turn) → 0 < c.waiting.notes.left → FailsBy b (lost c.required) new turn → LosesSo b c new turn
unfolding world
lost_turn b new c turn left fell = λ fewer absent none canonical small u done root fs plan s waiting a.
    let R = a.asks.runs in
    let f = R.frame in
    let Q = requirer_waits (site_of u b) (build_of b) root fs c.waiting c.required c.how a.asks left small canonical in
    let l : f.left ≡ suc (c.waiting.notes.left - 1) =
    some_left (site_of u b) (build_of b) root fs c.waiting.code.now c.waiting.machine c.waiting.notes R left in
    let fails : (present u).next (enc_task c.required) [] ≡ Fail (fault_of Unknown) =
    unknown_fails u.functions c.required [] (no_function u b c.required plan none) canonical in
    let new_one : among (enc_task c.required) (names_of b) ≡ false = absent_among b.ledger.tables.names c.required s.ledger.tasks canonical absent in
    let size : length (names_of b) ≡ length b.ledger.tables.names = length-map b.ledger.tables.names enc_task in
    let few : length (names_of b) < 50000 = omega (arith, size, fewer) in
    let above_few : length (tasks_of (f ∷ fs)) < 50000 =
    less (length (tasks_of (f ∷ fs))) (length (names_of b)) (no_more (tasks_of (f ∷ fs)) (names_of b) R.top.goes.once R.top.under_way.counted) few in
    let apart : among (enc_task c.required) (tasks_of (f ∷ fs)) ≡ false = apart_from (enc_task c.required) (tasks_of (f ∷ fs)) (names_of b) R.top.under_way.counted new_one in
    let sunk : outcome_of (evaluation world (present u) root) ≡ Failed (enc_task c.required) (fault_of Unknown) =
    required_sinks (setting u) (records_of b) root fs f R.top.goes (c.waiting.notes.left - 1) (how_of c.how) (enc_task c.required) l Q.requires.next
    (Failed (enc_task c.required) (fault_of Unknown))
    (ap outcome_of (new_fails world (present u) (tasks_of (f ∷ fs)) (enc_task c.required) (fault_of Unknown) apart above_few (omega arith) fails)) refl in
    let all = lost_by_names (setting u) (records_of b) (names_of b) s.ledger.table done s.recorded root fs f R.top (c.waiting.notes.left - 1) (how_of c.how)
    (enc_task c.required) l Q.requires.next (fault_of Unknown) new_one few (omega arith) fails in
    subst (TurnIsRight u done root new) (sym fell.turn)
    (falls_right u done root b new (lost c.required) fs f c.waiting.notes.number c.waiting.notes.task s waiting R.top
    (requirer_undone (setting u) (records_of b) root (names_of b) fs f R.top (c.waiting.notes.left - 1) (how_of c.how) (enc_task c.required) l Q.requires.next
    (ap (λ n. is_done (outcome_of n)) (new_fails world (present u) [] (enc_task c.required) (fault_of Unknown) refl (omega arith) (omega arith) fails)))
    R.means.named a.ran a.busy fell.is
    (λ rest.
    failed_decides (setting u) (records_of b) (names_of b) s.ledger.table (names_of b ++ enc_task c.required ∷ []) done rest root s.recorded
    (enc_task c.required) (fault_of Unknown) all (one_longer (names_of b) (enc_task c.required) few) sunk)
    (ap is_done sunk) (λ x i. others canonical x (among_either x (names_of b) (enc_task c.required ∷ []) (all x i))))
  where
    others : IsCanonicalTask c.required (enc_task c.required) → (x : List ℕ)
        → (among x (names_of b) ≡ true) ⊎ (among x (enc_task c.required ∷ []) ≡ true) → (among x (names_of b) ≡ true) ⊎ IsLost (lost c.required) x
    others canonical x (inl i) = inl i
    others canonical x (inr i) = inr (record { task = c.required; is = refl; canonical = canonical; bytes = sym (among_one x (enc_task c.required) i) })

    less : (x y : ℕ) → x ≤ y → y < 50000 → x < 50000
    less x y p q = omega (arith, p, q)

    one_longer : (xs : List (List ℕ)) (x : List ℕ) → length xs < 50000 → length (xs ++ x ∷ []) ≤ 50000
    one_longer xs x lt = let size = length-append xs (x ∷ []) in omega (arith, lt, size)

    apart_from : (x : List ℕ) (ts xs : List (List ℕ)) → ((t : List ℕ) → among t ts ≡ true → among t xs ≡ true) → among x xs ≡ false → among x ts ≡ false
    apart_from x ts xs counted off = by (among x ts) refl
      where
        by : (z : Bool) → among x ts ≡ z → among x ts ≡ false
        by true on = clash (among x xs) (counted x on) off
        by false q = q

-- ---- from call to call

pub descends_turn : {E : Type 0} (b new : Builder) (c : Caller) (r : Result Turn E) → is_small_task c.required ≡ true → IfOk r (DescendsSo b c new)
    → IfOk r (ActsSo b c.waiting (events.Require c.required c.how) new)
descends_turn b new c (Err x) small descends = tt
descends_turn b new c (Ok turn) small descends = descends small

pub needs_turn : {E : Type 0} (b new : Builder) (c : Caller) (bytes : List ℕ) (r : Result Turn E) → IsCanonicalTask c.required bytes → IfOk r (NeedsSo b c new)
    → IfOk r (DescendsSo b c new)
needs_turn b new c bytes (Err x) canonical needs = tt
needs_turn b new c bytes (Ok turn) canonical needs =
    needs (record { encodable = canonical.encodable; name = canonical.name; leaves = canonical.leaves; bytes = refl })

pub loses_turn : {E : Type 0} (b new : Builder) (c : Caller) (r : Result Turn E) → length b.ledger.tables.names < 50000 → ¬ (Contains b.ledger.tables.names c.required)
    → IsCodeFor b.plan.typed.now b.plan.code.now c.required None → IfOk r (LosesSo b c new) → IfOk r (NeedsSo b c new)
loses_turn b new c (Err x) few absent none loses = tt
loses_turn b new c (Ok turn) few absent none loses = loses few absent none
