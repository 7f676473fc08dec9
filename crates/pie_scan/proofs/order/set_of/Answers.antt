use Rattle.pie_scan.proofs.Growing.{gains_on, gains_end}
use Rattle.pie_scan.proofs.order.set_of.Goals as goal

pub loop-path-preserved : goal.loop-path-preserved
loop-path-preserved c =
    gains_on _ _ c.args.paths.now _ _ c.loop-path-test.true c.path-item.is c.in_ok-put_one.ensures c.loop-path.invariant

pub returns : goal.returns
returns c = gains_end c.loop-path.set.keys c.args.paths.now c.loop-path.path-index c.loop-path-test.false c.loop-path.invariant
