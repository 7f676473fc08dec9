-- A task that waited is answered, or ends as the one did for which it waited; and how the walk leaves the tasks of a build.
use Rattle.std.proofs.Common.{◌≡◌, ℕ, zero, suc, ◌<◌, true, false, List, [], ◌∷◌, ◌++◌, Some, Result, length, refl, sym, ap, ◌∙◌, subst, inl, inr, arith}
use Rattle.std.specs.Prelude.{slice_get, slice_index_or, IfOk, IfSome}
use Rattle.pie_value.specs.declared.task.Task.{Task}
use Rattle.pie_value.specs.declared.value.Value.{Value}
use Rattle.pie_value.specs.Values.{tree_of}
use Rattle.pie_value.specs.Canonical.{enc, IsCanonical, IsEncodable}
use Rattle.pie_graph.specs.declared.edges.TaskNo.{TaskNo}
use Rattle.pie_record.specs.Canonical.{IsStorableOutcome, IsTrueOutcome}
use Rattle.pie_record.specs.declared.task_record.Outcome.{Outcome}
use Rattle.pie_record.specs.declared.task_record.Outcome.TheVariants as ends
use Rattle.pie_record.specs.declared.task_record.TaskRecord.{TaskRecord}
use Rattle.pie_record.specs.inner.Records.{record_of as kept_of}
use Rattle.pie_tables.specs.Tabled.{HasFailed, IsKept, IsRecordAt}
use Rattle.pie_view.specs.Content.{content}
use Rattle.pie_walk.specs.Marks.{mark_of, IsSettled}
use Rattle.pie_walk.specs.States.{WalkState}
use Rattle.pie_walk.proofs.StateSteps.{top_runs}
use Rattle.pie_running.specs.declared.frame.Caller.{Caller}
use Rattle.pie_running.specs.declared.frame.RunningTask.{RunningTask}
use Rattle.pie_running.specs.inner.Noted.{Noted, observed, required}
use Rattle.pie_running.specs.inner.Told.{IsTold}
use Rattle.pie_frames.specs.declared.parked.Parked.{Parked}
use Rattle.pie_frames.specs.declared.frames.Frames.{Frames}
use Rattle.pie_frames.specs.inner.Standing.{Rests, Holds, number_of}
use Rattle.pie_frames.specs.inner.Turns.{HasTaken, HasAnswered, IsOver}
use Rattle.pie_model.specs.Trees.{is_done as ends_well}
use Rattle.pie_model.proofs.Basics.{clash}
use Rattle.pie_model_pipeline.specs.Rows.{outcome_of}
use Rattle.pie_builder_laws.specs.Requiring.{of_task, requiring_answer}
use Rattle.pie_compare_laws.proofs.Ways.{one_some}
use Rattle.pie_core_laws.specs.Update.{Update}
use Rattle.pie_core_laws.specs.Exact.{runs}
use Rattle.pie_core_laws.specs.Finishing.{IsRight}
use Rattle.pie_core_laws.specs.Seeing.{written_now}
use Rattle.pie_task_laws.specs.Answering.{HasSettled}
use Rattle.pie_task_laws.specs.Coming.{EndsRight, left_as}
use Rattle.pie_task_laws.specs.Whole.{EndsOne}
use Rattle.pie_task_laws.proofs.Answered.{callers_end}
use Rattle.pie_task_laws.proofs.Together.{callers_rest, answered_work}
use Rattle.pie_bottomup.specs.declared.state.Core.{Core}
use Rattle.pie_bottomup.specs.declared.state.Turn.{Turn}
use Rattle.pie_bottomup.specs.inner.Running.{IsCaller}
use Rattle.pie_bottomup.specs.inner.States.{IsSite}
use Rattle.pie_bottomup.specs.inner.Exact.{IsExactCore, BeginsAsOld, EndedRight, IsWaitingFor, lost_task}
use Rattle.pie_bottomup.specs.inner.Going.{site_of, build_of, callers_up, EndsAlone, MayEndAs, IsAnsweredFrom, IsWhole, IsBuildNow}
use Rattle.pie_bottomup.specs.inner.Going.{WalksWhole, TakesWhole, AnswersWhole, RootsWhole, EndsWhole, CallersWhole}
use Rattle.pie_bottomup.proofs.ExactSteps.{if_ok_more, caller_row}
use Rattle.pie_bottomup.proofs.ExactWalking.{answered_exact, over_exact}
use Rattle.pie_bottomup.proofs.GoingOn.{taken_from, answered_rest, answered_alone, walks_marked, over_rest, over_alone}

-- ---- a task may end so

-- the record that its notes give is right
pub may_end : (u : Update) (c : Core) (k : ℕ) (n : Noted) (o : Outcome) (rec : TaskRecord) → MayEndAs u c k n o → slice_get c.tables.names k ≡ Some rec.task
    → rec.deps ≡ n.deps → rec.writes ≡ n.writes → rec.outcome ≡ o → EndedRight u c k rec
may_end u c k n o rec may named deps writes outcome =
    let task : rec.task ≡ n.task = one_some rec.task n.task (sym named ∙ may.named) in
    let same : rec ≡ left_as n o = λ i. record { task = task i; deps = deps i; writes = writes i; outcome = outcome i } in
    record {
      right = subst (IsRight u) (sym same) may.right.right;
      ran = λ path flag.
          subst (λ (m : ℕ). content c.stage m path ≡ written_now u rec.task path) may.number
          (may.right.staged path ∙ ap (λ (t : Task). written_now u t path) (sym task));
      rested = λ off. clash (slice_index_or c.tables.ran.items k false) may.ran off;
      lost = λ off. clash (slice_index_or c.tables.ran.items k false) may.ran off;
    }

pub callers_goes : {E : Type 0} (c new : Core) (task : TaskNo) (from : ℕ) (w : Caller) (outcome : Outcome) (rec : TaskRecord) (r : Result Turn E)
    → slice_get c.tables.names task.0 ≡ Some rec.task → rec.deps ≡ w.waiting.notes.deps ++ lost_task w.how w.required ∷ []
    → rec.writes ≡ w.waiting.notes.writes → rec.outcome ≡ outcome → IfOk r (EndsWhole c task.0 from rec new)
    → IfOk r (CallersWhole c task from w outcome new)
callers_goes c new task from w outcome rec r named deps writes same =
    if_ok_more (EndsWhole c task.0 from rec new) (CallersWhole c task from w outcome new)
    (λ turn ends u now e begins waits may.
    ends (caller_row c task from w rec waits deps) u now e begins
    (may_end u c task.0 (observed (lost_task w.how w.required) w.waiting.notes) outcome rec may named deps writes same) may.alone) r

-- ---- it is answered

-- the output of a task has canonical bytes
pub output_canonical : (c : Core) (n : ℕ) (rec : TaskRecord) (v : Value) → IsSite c → kept_of c.tables.records n ≡ Some rec → rec.outcome ≡ ends.Done v
    → IsCanonical (tree_of v) (enc (tree_of v))
output_canonical c n rec v site kept done =
    let at : IsRecordAt c.tables.names n rec = subst (λ o. IfSome o (IsRecordAt c.tables.names n)) kept (site.tables.records n) in
    record {
      encodable = encodable at.kept;
      leaves = subst IsTrueOutcome done (site.agree.recorded.outputs n rec kept);
      bytes = refl;
    }
  where
    encodable : IsKept rec → IsEncodable (tree_of v)
    encodable (inl storable) = subst IsStorableOutcome done storable.outcome
    encodable (inr failed) = absurd (subst HasFailed done failed)

failed_well : (o : Outcome) → HasFailed o → ends_well (outcome_of o) ≡ false
failed_well (ends.Done v) failed = absurd failed
failed_well (ends.Failed fault) failed = refl
failed_well (ends.Cycled tasks) failed = refl

module _ (u : Update) (c : Core) (task : TaskNo) (p : Parked) (now : IsBuildNow u c.plan) (e : IsExactCore u c) (holds : Holds task c.frames)
    (number : number_of p ≡ task.0) (caller : IsCaller c.plan c.tables.names c.tables.records c.frames.walk.marks p)
    (settled : IsSettled c.frames.walk.marks p.callee.0) (from : IsAnsweredFrom u c p) where
  abbrev rec : TaskRecord
  rec = (e.are.tables.ended p.callee.0 settled).0

  kept : kept_of c.tables.records p.callee.0 ≡ Some rec
  kept = (e.are.tables.ended p.callee.0 settled).1

  has_settled : HasSettled (site_of u c) (build_of c) p.caller (callers_up c.frames.parked.items) p.callee.0 rec
  has_settled = record {
    sound = record { exact = e.are.tables; stands = holds.taken.stands; apart = now.apart };
    wait = from.rest.wait;
    settled = settled;
    kept = kept;
    task = one_some rec.task p.caller.required (sym (e.are.tables.named p.callee.0 rec kept) ∙ caller.required);
  }

  run : runs (mark_of c.frames.walk.marks task.0) ≡ true
  run = ap runs (top_runs c.frames.walk task holds.top holds.taken.stands.holds)

  alone : EndsAlone u c task.0
  alone = record {
    others = λ changed after ends.
        callers_rest (site_of u c) (build_of c) p.caller (callers_up c.frames.parked.items) changed after from.none from.rest.wait
        (subst (EndsOne (site_of u c) (build_of c) changed after) (sym number) ends);
    none = from.none;
    marked = λ n is d. from.marked n is;
  }

  pub caller_ends : (o : Outcome) → HasFailed o → ((q : TaskRecord) → kept_of c.tables.records p.callee.0 ≡ Some q → o ≡ q.outcome)
      → MayEndAs u c task.0 (observed (lost_task p.caller.how p.caller.required) p.caller.waiting.notes) o
  caller_ends o failed is = record {
    number = number;
    named = subst (λ (m : ℕ). slice_get c.tables.names m ≡ Some p.caller.waiting.notes.task) number caller.noted.task;
    right = subst (EndsRight (site_of u c) (build_of c) (observed (lost_task p.caller.how p.caller.required) p.caller.waiting.notes)) (sym (is rec kept))
        (callers_end (site_of u c) (build_of c) p.caller (callers_up c.frames.parked.items) p.callee.0 rec has_settled
        (ap (λ (x : Outcome). ends_well (outcome_of x)) (sym (is rec kept)) ∙ failed_well o failed));
    ran = from.marked task.0 run;
    alone = alone;
  }

  pub caller_works : (v : Value) (f : RunningTask) → IsSite c → ((q : TaskRecord) → kept_of c.tables.records p.callee.0 ≡ Some q → ends.Done v ≡ q.outcome)
      → IsTold p.caller.waiting f (required (of_task p.caller.how p.caller.required v) p.callee.0 0 p.caller.waiting.notes) (requiring_answer p.caller.how v)
      → BeginsAsOld c.tables c.frames.walk.rows task.0 p.from
      → IsWhole u (record c { hand = Some (record { no = task; from = p.from; task = f }) })
  caller_works v f site is told begins = record {
    exact = record { tested = e.tested; counted = e.counted; tried = e.tried; are = e.are; parked = e.parked; hand = begins };
    going = record {
      work = answered_work (site_of u c) (build_of c) p.caller (callers_up c.frames.parked.items) p.callee.0 rec v 0 f from.none has_settled
          (record {
            outcome = sym (is rec kept);
            canonical = output_canonical c p.callee.0 rec v site kept (sym (is rec kept));
          }) told;
      marked = from.marked;
    };
  }

-- where it fails
pub answer_fails : {E : Type 0} (c new : Core) (task : TaskNo) (p : Parked) (o : Outcome) (r : Result Turn E) → Holds task c.frames → number_of p ≡ task.0
    → IsCaller c.plan c.tables.names c.tables.records c.frames.walk.marks p → IsSettled c.frames.walk.marks p.callee.0 → IsWaitingFor c task p.from p.caller
    → HasFailed o → ((q : TaskRecord) → kept_of c.tables.records p.callee.0 ≡ Some q → o ≡ q.outcome)
    → IfOk r (CallersWhole c task p.from p.caller o new) → IfOk r (AnswersWhole c task.0 p new)
answer_fails c new task p o r holds number caller settled waits failed is =
    if_ok_more (CallersWhole c task p.from p.caller o new) (AnswersWhole c task.0 p new)
    (λ turn callers u now e begins from.
    callers u now e begins waits (caller_ends u c task p now e holds number caller settled from o failed is)) r

-- ---- the walk

named_at : (names : List Task) (n : ℕ) → n < length names → (t : Task) × (slice_get names n ≡ Some t)
named_at [] n l = absurd (omega (arith, l))
named_at (t ∷ ts) zero l = (t, refl)
named_at (t ∷ ts) (suc n) l = named_at ts n (omega (arith, l))

module _ {E : Type 0} (old : Core) (f : Frames) (new : Core) (r : Result Turn E) (rests : Rests old.frames) where
  pub takes_goes : (task : TaskNo) → HasTaken old.frames f task → length old.tables.names ≡ length old.frames.walk.rows
      → IfOk r (TakesWhole (record old { frames = f }) task.0 new) → IfOk r (WalksWhole old new)
  takes_goes task has sized =
      let rows : length f.walk.rows ≡ length old.frames.walk.rows = ap (λ (z : WalkState). length z.rows) has.taken.same in
      let t = named_at old.tables.names task.0 (omega (arith, has.inside, rows, sized)) in
      if_ok_more (TakesWhole (record old { frames = f }) task.0 new) (WalksWhole old new)
      (λ turn takes u now e going. takes u old.frames.walk now (taken_from u old f now.plan e rests going task has t.0 t.1)) r

  pub answers_goes : (task : TaskNo) (p : Parked) → HasAnswered old.frames f task p → IfOk r (AnswersWhole (record old { frames = f }) task.0 p new)
      → IfOk r (WalksWhole old new)
  answers_goes task p has =
      if_ok_more (AnswersWhole (record old { frames = f }) task.0 p new) (WalksWhole old new)
      (λ turn answers u now e going.
      let x = answered_exact u old f task p e rests has in
      answers u now x.0 (subst (λ (n : ℕ). BeginsAsOld old.tables f.walk.rows n p.from) has.number x.1) (record {
        rest = answered_rest u old f now.plan e rests going task p has;
        none = answered_alone u old f now.plan e rests going task p has;
        marked = walks_marked u old f now.plan e rests going has.answered.walks has.holds.taken.stands;
      })) r

  pub idles_goes : IsOver old.frames f → IfOk r (RootsWhole (record old { frames = f }) new) → IfOk r (WalksWhole old new)
  idles_goes over =
      if_ok_more (RootsWhole (record old { frames = f }) new) (WalksWhole old new)
      (λ turn roots u now e going.
      roots u now (over_exact u old f e rests over) (over_rest u old f now.plan e rests going over) (over_alone u old f now.plan e rests going over)) r
