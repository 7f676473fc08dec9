use Rattle.std.proofs.Common.{rules, subst}
use Rattle.std.specs.Prelude.{All}
use Rattle.pie_store.specs.Pending.{IsName}
use Rattle.pie_store.proofs.InOrder.{in_path_order, pending_is}
use Rattle.pie_store.proofs.pending.pending_text.Goals as goal

pub returns-clause-order : goal.returns-clause-order
returns-clause-order c = in_path_order c.args.paths.now

pub returns-clause-pending : goal.returns-clause-pending
returns-clause-pending c =
    pending_is c.args.paths.now c.put_lines.new.out.items (subst (All IsName) c.in_ok-sorted.ensures c.in_ok-put_lines.ensures.names) (search rules)
