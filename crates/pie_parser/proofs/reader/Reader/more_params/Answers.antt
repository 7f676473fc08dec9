use Rattle.std.proofs.Common.{Vec, Global}
use Rattle.std.proofs.lemmas.Result.{err_from_is_err_and}
use Rattle.pie_parser.specs.declared.tree.Param.{Param}
use Rattle.pie_parser.specs.FunctionReading.{another_param, more_params}
use Rattle.pie_parser.proofs.Turning.{fails_so}
use Rattle.std.proofs.Common.{arith}
use Rattle.pie_parser.proofs.Turning.{goes_on, stops}
use Rattle.pie_parser.proofs.reader.Reader.more_params.Goals as goal

pub returns-in_err-param : goal.returns-in_err-param
returns-in_err-param c =
    let p = err_from_is_err_and c.from_residual-in_err-param.result c.from_residual-in_err-param.ensures.1 in
    rw (p.1, p.2) (fails_so (λ (v : Vec Param Global). v.items)
    (another_param c.args.room) c.left-end.result c.loop.counter c.loop.self c.another_param.new.self
    c.loop.params.items c.in_err-param.field-0.0
    (more_params c.args.room c.args.first c.args.self.now) c.loop-test.true c.in_err-param.ensures c.loop.invariant)

pub returns-in_default : goal.returns-in_default
returns-in_default c = grind (arith, stops)

pub loop-preserved : goal.loop-preserved
loop-preserved c = grind (arith, goes_on)
