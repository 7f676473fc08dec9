use Rattle.pie_topdown_laws.proofs.Changing.{ledger_begins, ledger_grows, records_kept, ledger_gains}
use Rattle.pie_topdown_laws.proofs.ledgers.ledgers_change.Goals as goal

pub returns-clause-begin : goal.returns-clause-begin
returns-clause-begin c = λ u records a none. ledger_begins u records a none

pub returns-clause-grow : goal.returns-clause-grow
returns-clause-grow c =
    λ u names records rows places t place L tasks new few none agrees. ledger_grows u names records rows places t place L tasks new few none agrees

pub returns-clause-kept : goal.returns-clause-kept
returns-clause-kept c = λ names records t none. records_kept names records t none

pub returns-clause-gain : goal.returns-clause-gain
returns-clause-gain c = λ u names old new rows places after n row rec L E agrees. ledger_gains u names old new rows places after n row rec L E agrees
