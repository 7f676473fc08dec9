use Rattle.pie_topdown_build.proofs.ByBytes.{in_byte_order, still_encodable}
use Rattle.pie_topdown_build.proofs.reusing.in_order.Goals as goal

pub returns-clause-encodable : goal.returns-clause-encodable
returns-clause-encodable c =
    still_encodable c.args.tasks.now c.in_ok-found.found.items c.in_ok-keyed.keyed.entries c.in_ok-keyed.ensures c.in_ok-found.ensures c.requires

pub returns-clause-order : goal.returns-clause-order
returns-clause-order c =
    in_byte_order c.args.tasks.now c.in_ok-found.found.items c.in_ok-keyed.keyed.entries c.in_ok-keyed.ensures c.in_ok-found.ensures
