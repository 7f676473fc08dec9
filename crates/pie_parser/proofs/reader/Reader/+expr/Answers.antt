use Rattle.std.proofs.Common.{Vec, Global, [], ◌∷◌, ◌-◌, false, sym, subst, ap, ◌∙◌, arith}
use Rattle.std.proofs.lemmas.Result.{err_from_is_err_and}
use Rattle.pie_parser.specs.declared.tree.Expr.{Expr}
use Rattle.pie_parser.specs.declared.tree.Step.{Step}
use Rattle.pie_parser.specs.At.{At}
use Rattle.pie_parser.specs.Places.{Got, ParseAgrees}
use Rattle.pie_parser.specs.inner.Turns.{all_behind}
use Rattle.pie_parser.specs.ExprReading.{around, another, another_step, operand, all_pieces}
use Rattle.pie_parser.proofs.Nesting.{inner_is, test_is}
use Rattle.pie_parser.proofs.Turning.{fails_so, goes_on, stops}
use Rattle.pie_parser.proofs.PieceLoop.{piece_fails_so, line_goes_on, last_ends}
use Rattle.pie_parser.proofs.Patterns.{some_turn, none_turn, line_turn, last_turn}
use Rattle.pie_parser.proofs.Walks.{lines_walk}
use Rattle.pie_parser.proofs.reader.Reader.+expr.Goals as goal

pub inner-returns : goal.inner-returns
inner-returns t c =
    subst (ParseAgrees (λ (t : Expr). t) c.expr.result c.expr.new.self)
    (sym (inner_is c.args.room.brackets c.args.room.conditions c.args.in_read c.args.self.now c.requires)) c.expr.ensures

pub test-returns : goal.test-returns
test-returns t c =
    subst (ParseAgrees (λ (t : Expr). t) c.expr.result c.expr.new.self)
    (sym (test_is c.args.room.brackets c.args.room.conditions c.args.self.now c.requires)) c.expr.ensures

pub steps-returns-in_err-step : goal.steps-returns-in_err-step
steps-returns-in_err-step t c =
    let turn = another_step (operand (around c.args.room) c.args.level) c.args.level in
    let p = err_from_is_err_and c.from_residual.result c.from_residual.ensures.1 in
    rw (p.1, p.2)
    (fails_so
    (λ (v : Vec Step Global). v.items) turn c.left-end.result c.loop.counter c.loop.self c.another_step.new.self c.loop.steps.items c.in_err-step.field-0.0
    (all_behind [] turn c.args.self.now) c.loop-test.true c.in_err-step.ensures c.loop.invariant)

pub listed-returns-in_err-item : goal.listed-returns-in_err-item
listed-returns-in_err-item t c =
    let turn = another (around c.args.room) in
    let p = err_from_is_err_and c.from_residual-in_err-item.result c.from_residual-in_err-item.ensures.1 in
    rw (p.1, p.2)
    (fails_so
    (λ (v : Vec Expr Global). v.items) turn c.left-end.result c.loop.counter c.loop.self c.another.new.self c.loop.items.items c.in_err-item.field-0.0
    (all_behind (c.args.first ∷ []) turn c.args.self.now) c.loop-test.true c.in_err-item.ensures c.loop.invariant)

pub steps-loop-preserved : goal.steps-loop-preserved
steps-loop-preserved t c =
    let turn = another_step (operand (around c.args.room) c.args.level) c.args.level in
    rw c.in_ok-push.ensures.items (goes_on turn c.left-end.result c.loop.counter c.loop.self c.another_step.new.self c.loop.steps.items c.in-Some.step
    (all_behind [] turn c.args.self.now) c.loop-test.true (some_turn _ c.in-Some.step c.loop.self c.another_step.new.self
    (turn c.loop.self) c.in-Some.is c.in_ok-step.ensures) c.loop.invariant)

pub pieces-returns-in_err-line : goal.pieces-returns-in_err-line
pieces-returns-in_err-line t c =
    let p = err_from_is_err_and c.from_residual.result c.from_residual.ensures.1 in
    rw (p.1, p.2) (piece_fails_so (around c.args.room) c.left-end.result c.loop.counter c.loop.self c.piece.new.self c.loop.lines.items c.in_err-line.field-0.0
    (all_pieces (around c.args.room) c.args.self.now) c.loop-test.true c.in_err-line.ensures c.loop.invariant)

pub pieces-returns-in-Some-Last : goal.pieces-returns-in-Some-Last
pieces-returns-in-Some-Last t c =
    last_ends (around c.args.room) c.left-end.result c.loop.counter c.loop.self c.piece.new.self c.loop.lines.items c.in-Some-Last.value
    (all_pieces (around c.args.room) c.args.self.now)
    c.loop-test.true
    (last_turn _ c.in-Some-Last.field-0 c.in-Some-Last.value c.loop.self c.piece.new.self _ c.in-Some-Last.is c.in-Some-Last.field-0-is c.in_ok-line.ensures)
    c.loop.invariant

pub pieces-loop-preserved : goal.pieces-loop-preserved
pieces-loop-preserved t c =
    rw c.in_ok-push-in-Some-Line.ensures.items (line_goes_on
    (around c.args.room) c.left-end.result c.loop.counter c.loop.self c.piece.new.self c.loop.lines.items c.in-Some-Line.line
    (all_pieces (around c.args.room) c.args.self.now) c.loop-test.true
    (line_turn _ c.in-Some-Line.field-0 c.in-Some-Line.line c.loop.self c.piece.new.self _ c.in-Some-Line.is c.in-Some-Line.field-0-is c.in_ok-line.ensures)
    c.loop.invariant)

pub listed-returns-in_default : goal.listed-returns-in_default
listed-returns-in_default t c = grind (arith, stops)

pub listed-loop-preserved : goal.listed-loop-preserved
listed-loop-preserved t c = grind (arith, goes_on)

pub pieces-returns-in-None : goal.pieces-returns-in-None
pieces-returns-in-None t c = grind (arith, lines_walk)

pub steps-returns-in_default : goal.steps-returns-in_default
steps-returns-in_default t c =
    let turn = another_step (operand (around c.args.room) c.args.level) c.args.level in
    let stop = none_turn _ c.loop.self c.another_step.new.self (turn c.loop.self) c.in_default.is c.in_ok-step.ensures in
    stops turn c.left-end.result c.loop.counter c.loop.self c.loop.steps.items (all_behind [] turn c.args.self.now) c.loop-test.true stop.0 c.loop.invariant
    ∙ ap (λ (s : At). Got c.loop.steps.items s) (sym stop.1)
