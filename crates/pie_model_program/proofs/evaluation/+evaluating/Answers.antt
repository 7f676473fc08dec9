use Rattle.std.proofs.Common.{◌≡◌, ◌-◌, ap, sym, ◌∙◌}
use Rattle.pie_model.specs.Evaluation.{start, follow, evaluation_with}
use Rattle.pie_model_program.specs.Runs.{row_of, turn_of}
use Rattle.pie_model_program.specs.Steps.{IsWhole, by_outcome}
use Rattle.pie_model_program.proofs.EvaluationLemmas.{in_cycle_by, below_by, one_less, begins_by, stops_by, goes_by, require_is, if_ok_map}
use Rattle.pie_model_program.proofs.evaluation.+evaluating.Goals as goal

pub evaluate-returns-then-contains : goal.evaluate-returns-then-contains
evaluate-returns-then-contains g t c =
    in_cycle_by (g.S.Setting.world c.args.setting.now) (g.S.Setting.project c.args.setting.now) c.args.room c.args.above.now c.args.task.now
    c.args.entered.now
    c.as_slice.result.now c.as_slice-then-contains.result.now c.new.result c.in_ok-tasks.tasks c.in_ok-entered.entered c.contains.result _
    c.as_slice.ensures c.contains.ensures c.if-contains.true c.new.ensures c.as_slice-then-contains.ensures c.in_ok-tasks.ensures
    c.in_ok-entered.ensures c.new-then-contains.ensures

pub evaluate-returns : goal.evaluate-returns
evaluate-returns g t c =
    if_ok_map c.events.result
    (λ s. IsWhole c.in_ok-entered.entered (follow (g.S.Setting.world c.args.setting.now) (g.S.Setting.project c.args.setting.now)
    (evaluation_with (c.args.room - 1) (g.S.Setting.world c.args.setting.now) (g.S.Setting.project c.args.setting.now) c.in_ok-below.below)
    c.args.task.now
    (g.S.Setting.world c.args.setting.now).most_events start) s.outcome (row_of s.run)) _
    (λ s h. below_by (g.S.Setting.world c.args.setting.now) (g.S.Setting.project c.args.setting.now) c.args.room (c.args.room - 1)
    c.args.above.now c.args.task.now
    c.args.entered.now c.as_slice.result.now c.in_ok-entered.entered c.in_ok-below.below c.contains.result s.outcome (row_of s.run)
    c.as_slice.ensures c.contains.ensures c.if-contains.false c.in_ok-entered.ensures c.in_ok-below.ensures
    (one_less c.args.room c.if-room-eq0.false) h)
    c.events.ensures

pub events-events-init : goal.events-events-init
events-events-init g t c = begins_by _ _ _ _ _ _ _ c.most_events-left.ensures c.new-run.ensures

pub events-returns-in-Some : goal.events-returns-in-Some
events-returns-in-Some g t c =
    stops_by _ _ _ _ _ _ _ _ _ _ c.events-test.true c.events.invariant
    (ap (λ o. turn_of o (row_of c.advance.new.run)) (sym c.in-Some.is) ∙ c.in_ok-outcome.ensures)

pub events-events-preserved : goal.events-events-preserved
events-events-preserved g t c =
    goes_by _ _ _ _ _ _ _ _ _ c.events-test.true c.events.invariant
    (ap (λ o. turn_of o (row_of c.advance.new.run)) (sym c.in-None.is) ∙ c.in_ok-outcome.ensures)

pub require-returns : goal.require-returns
require-returns g t c =
    if_ok_map c.require.result (λ o. turn_of o (row_of c.require.new.self) ≡ by_outcome c.args.how (row_of c.take.new.run) c.in_ok-kid.kid.outcome) _
    (λ o h. require_is (g.S.Setting.world c.args.setting.now) (g.S.Setting.project c.args.setting.now) c.args.room c.args.below.now
    c.args.task.now c.args.how
    (row_of c.args.run.now) (row_of c.in_ok-kid.kid.run) (row_of c.take.new.run) c.in_ok-kid.kid.outcome (turn_of o (row_of c.require.new.self))
    c.in_ok-kid.ensures c.in_ok-take.ensures h)
    c.require.ensures
