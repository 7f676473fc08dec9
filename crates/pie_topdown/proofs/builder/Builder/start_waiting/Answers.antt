use Rattle.std.proofs.Common.{◌++◌, Some, ap, ◌∙◌, arith, refl}
use Rattle.std.specs.Option.{option_to_list}
use Rattle.pie_topdown.specs.declared.hand.Frame.TheVariants as frames
use Rattle.pie_topdown.specs.inner.Turns.{stack_room}
use Rattle.pie_topdown.proofs.Falling.{falls_begun, falls_caller, falls_whole, rest_then}
use Rattle.pie_topdown.proofs.Going.{one_longer, started_more}
use Rattle.pie_topdown.proofs.Resumed.{empty_of}
use Rattle.pie_topdown.proofs.Stacking.{popped_frame, popped_room, popped_site}
use Rattle.pie_topdown.proofs.builder.Builder.start_waiting.Goals as goal

pub returns-in_err-_task-in-Some-Checks-clause-started : goal.returns-in_err-_task-in-Some-Checks-clause-started
returns-in_err-_task-in-Some-Checks-clause-started c =
    started_more c.args.runs.now c.waiting.runs c.begin_run.new.runs c.waiting.invariant.3 c.begin_run.ensures.starts

pub returns-in_err-_task-in-Some-Checks-clause-few : goal.returns-in_err-_task-in-Some-Checks-clause-few
returns-in_err-_task-in-Some-Checks-clause-few c =
    let room = popped_room c.waiting.self.stack.items c.pop.new.self.items (frames.Checks c.in-Some-Checks.check)
    (c.in-Some-Checks.ensures.items ∙ ap (λ x. c.pop.new.self.items ++ option_to_list (Some x)) c.in-Some-Checks.field-0-is) in
    let longer = one_longer c.waiting.runs c.begin_run.new.runs c.begin_run.ensures.starts in
    omega (arith, room, longer, c.waiting.invariant.4)

pub waiting-preserved-in-Some-Checks : goal.waiting-preserved-in-Some-Checks
waiting-preserved-in-Some-Checks c =
    let before = c.waiting.invariant in
    let e = frames.Checks c.in-Some-Checks.check in
    let items = c.in-Some-Checks.ensures.items ∙ ap (λ x. c.pop.new.self.items ++ option_to_list (Some x)) c.in-Some-Checks.field-0-is in
    let room = popped_room c.waiting.self.stack.items c.pop.new.self.items e items in
    let longer = one_longer c.waiting.runs c.begin_run.new.runs c.begin_run.ensures.starts in
    let now = c.in_ok-_task-in-Some-Checks.ensures in (
      now.site,
      rest_then c.args.self.now c.waiting.self c.begin_run.new.self c.pop.new.self before.1 c.begin_run.ensures.rest,
      now.ledger.names ∙ before.2,
      started_more c.args.runs.now c.waiting.runs c.begin_run.new.runs before.3 c.begin_run.ensures.starts,
      (let same = ap (λ b. stack_room b.stack.items) c.begin_run.ensures.rest in omega (arith, room, longer, before.4, same)),
      falls_begun c.args.self.now c.waiting.self c.begin_run.new.self c.pop.new.self c.in-Some-Checks.check c.into_inner.result c.in_ok-_task-in-Some-Checks._task
          c.args.runs.now c.waiting.runs c.begin_run.new.runs items (ap (λ b. b.plan) before.1) before.0 c.into_inner.ensures now.ledger now.grows
          c.begin_run.ensures.rest now.begun before.5,
    )

pub waiting-preserved-in-Some-Waits : goal.waiting-preserved-in-Some-Waits
waiting-preserved-in-Some-Waits c =
    let before = c.waiting.invariant in
    let e = frames.Waits c.in-Some-Waits._caller in
    let items = c.in-Some-Waits.ensures.items ∙ ap (λ x. c.pop.new.self.items ++ option_to_list (Some x)) c.in-Some-Waits.field-0-is in
    let room = popped_room c.waiting.self.stack.items c.pop.new.self.items e items in (
      popped_site c.waiting.self _ (Some e) before.0 refl refl items,
      rest_then c.args.self.now c.waiting.self _ c.pop.new.self before.1 refl,
      before.2,
      before.3,
      omega (arith, room, before.4),
      falls_caller c.args.self.now c.waiting.self c.pop.new.self c.in-Some-Waits._caller c.args.runs.now c.waiting.runs items (ap (λ b. b.plan) before.1) before.0
          (popped_frame c.waiting.self c.pop.new.self.items (Some e) before.0 items) before.5,
    )

pub waiting-preserved : goal.waiting-preserved
waiting-preserved c =
    let before = c.waiting.invariant in
    let e = frames.Waits c.in-Some-Waits._caller in
    let items = c.in-Some-Waits.ensures.items ∙ ap (λ x. c.pop.new.self.items ++ option_to_list (Some x)) c.in-Some-Waits.field-0-is in
    let room = popped_room c.waiting.self.stack.items c.pop.new.self.items e items in (
      popped_site c.waiting.self _ (Some e) before.0 refl refl items,
      rest_then c.args.self.now c.waiting.self _ c.pop.new.self before.1 refl,
      before.2,
      before.3,
      omega (arith, room, before.4),
      falls_caller c.args.self.now c.waiting.self c.pop.new.self c.in-Some-Waits._caller c.args.runs.now c.waiting.runs items (ap (λ b. b.plan) before.1) before.0
          (popped_frame c.waiting.self c.pop.new.self.items (Some e) before.0 items) before.5,
    )

pub returns-in-None-clause-falls : goal.returns-in-None-clause-falls
returns-in-None-clause-falls c =
    let none = c.in-None.ensures.cases.0 in
    falls_whole c.args.self.now c.waiting.self c.pop.new.self c.args.runs.now c.waiting.runs (omega (arith, c.waiting.self.stack.ok.0, none)) c.waiting.invariant.5

pub returns-in-None-clause-empty : goal.returns-in-None-clause-empty
returns-in-None-clause-empty c =
    let none = c.in-None.ensures.cases.1 in
    empty_of c.pop.new.self.items (omega (arith, c.pop.new.self.ok.0, none))
