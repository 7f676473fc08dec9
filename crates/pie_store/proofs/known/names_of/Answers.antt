use Rattle.pie_store.proofs.Names.{known_more}
use Rattle.pie_store.proofs.known.names_of.Goals as goal

pub loop-name-preserved : goal.loop-name-preserved
loop-name-preserved c = λ name.
    known_more name _ _ c.args.funcs.now c.loop-name.name-index c.loop-name-item.result _
    c.loop-name-test.true c.loop-name-item.is (c.in_ok-insert_name.ensures name) (c.loop-name.invariant name)
