use Rattle.std.proofs.Common.{Vec, Global}
use Rattle.pie_parser.specs.declared.tree.Index.{Index}
use Rattle.std.proofs.lemmas.Result.{err_from_is_err_and}
use Rattle.pie_parser.specs.ExprReading.{another_index, indices}
use Rattle.pie_parser.proofs.Turning.{fails_so}
use Rattle.std.proofs.Common.{arith}
use Rattle.pie_parser.proofs.Turning.{goes_on, stops}
use Rattle.pie_parser.proofs.reader.Reader.indices.Goals as goal

pub returns-in_err-index : goal.returns-in_err-index
returns-in_err-index c =
    let p = err_from_is_err_and c.from_residual.result c.from_residual.ensures.1 in
    rw (p.1, p.2)
    (fails_so
    (λ (v : Vec Index Global).
    v.items) another_index c.left-end.result c.loop.counter c.loop.self c.another_index.new.self c.loop.indices.items c.in_err-index.field-0.0
    (indices c.args.self.now) c.loop-test.true c.in_err-index.ensures c.loop.invariant)

pub returns-in_default : goal.returns-in_default
returns-in_default c = grind (arith, stops)

pub loop-preserved : goal.loop-preserved
loop-preserved c = grind (arith, goes_on)
