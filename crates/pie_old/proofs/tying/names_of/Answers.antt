use Rattle.pie_old.proofs.Placing.{few_names, is_absent}
use Rattle.pie_old.proofs.tying.names_of.Goals as goal

pub add-requires-clause-absent : goal.add-requires-clause-absent
add-requires-clause-absent c =
    is_absent c.args.rows.now c.loop-rec.names c.loop-rec.rec-index c.rec-item.result c.in_ok-task.task c.loop-rec-test.true c.rec-item.is c.in_ok-task.ensures
    c.loop-rec.invariant c.requires.distinct

pub add-requires-clause-few : goal.add-requires-clause-few
add-requires-clause-few c = few_names c.args.rows.now c.loop-rec.names c.loop-rec.rec-index c.loop-rec.invariant c.requires.few
