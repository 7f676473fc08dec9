use Rattle.pie_diff.proofs.Adding.{write_step}
use Rattle.pie_diff.proofs.known.add_writes.Goals as goal

pub loop-path-preserved : goal.loop-path-preserved
loop-path-preserved c =
    write_step c.args.held.now c.loop-path.held c.wrote.new.self c.args.writes.now c.loop-path.path-index c.loop-path-item.result c.loop-path-test.true
    c.loop-path-item.is c.in_ok-wrote.ensures c.loop-path.invariant
