use Rattle.std.proofs.Common.{sym, subst}
use Rattle.std.specs.Prelude.{Contains}
use Rattle.pie_value.specs.declared.task.Task.{Task}
use Rattle.pie_fresh.proofs.ledger.Ledger.outputs_of.Goals as goal

pub put_output-requires-clause-named : goal.put_output-requires-clause-named
put_output-requires-clause-named c =
    subst (λ (t : Task). Contains c.args.self.now.names t) (sym c.root-item.is)
    (c.requires.entered.named c.loop-root.root-index c.root-item.result c.loop-root-test.true)
