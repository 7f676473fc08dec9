use Rattle.std.proofs.Common.{Vec, Global}
use Rattle.std.proofs.lemmas.Result.{err_from_is_err_and}
use Rattle.pie_parser.specs.declared.tree.Function.{Function}
use Rattle.pie_parser.specs.FunctionReading.{another_function, functions}
use Rattle.pie_parser.proofs.Patterns.{some_turn}
use Rattle.pie_parser.proofs.Turning.{fails_so, goes_on}
use Rattle.std.proofs.Common.{arith}
use Rattle.pie_parser.proofs.Turning.{stops}
use Rattle.pie_parser.proofs.reader.Reader.functions.Goals as goal

pub returns-in_err-function : goal.returns-in_err-function
returns-in_err-function c =
    let p = err_from_is_err_and c.from_residual.result c.from_residual.ensures.1 in
    rw (p.1, p.2) (fails_so (λ (v : Vec Function Global). v.items)
    (another_function c.args.room) c.left-end.result c.loop.counter c.loop.self c.another_function.new.self
    c.loop.functions.items c.in_err-function.field-0.0 (functions c.args.room c.args.self.now) c.loop-test.true c.in_err-function.ensures c.loop.invariant)

pub loop-preserved : goal.loop-preserved
loop-preserved c =
    let turn = another_function c.args.room in
    rw c.in_ok-push.ensures.items
    (goes_on turn c.left-end.result c.loop.counter c.loop.self c.another_function.new.self c.loop.functions.items c.in-Some.function
    (functions c.args.room c.args.self.now) c.loop-test.true
    (some_turn _ c.in-Some.function c.loop.self c.another_function.new.self (turn c.loop.self) c.in-Some.is c.in_ok-function.ensures) c.loop.invariant)

pub returns-in_default : goal.returns-in_default
returns-in_default c = grind (arith, stops)
