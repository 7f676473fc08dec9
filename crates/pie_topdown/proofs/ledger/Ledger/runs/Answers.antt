use Rattle.std.proofs.Common.{refl}
use Rattle.pie_topdown.proofs.Keeping.{ran_ledger}
use Rattle.pie_topdown.proofs.ledger.Ledger.runs.Goals as goal

pub returns-clause-ledger : goal.returns-clause-ledger
returns-clause-ledger c =
    ran_ledger c.args.self.now _ c.requires.ledger c.runs.ensures.tables c.runs.ensures.names c.runs.ensures.records refl refl refl
