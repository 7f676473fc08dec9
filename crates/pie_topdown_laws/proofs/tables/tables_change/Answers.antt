use Rattle.pie_step_laws.proofs.Tables.{one_more_entered}
use Rattle.pie_step_laws.proofs.RootLemmas.{build_begins}
use Rattle.pie_topdown_laws.proofs.Tabling.{gains}
use Rattle.pie_topdown_laws.proofs.tables.tables_change.Goals as goal

pub returns-clause-begin : goal.returns-clause-begin
returns-clause-begin c = λ w P R none. (build_begins w P R none).rests.table

pub returns-clause-grow : goal.returns-clause-grow
returns-clause-grow c = λ w P R names t T new few. one_more_entered w P R names T t new few

pub returns-clause-gain : goal.returns-clause-gain
returns-clause-gain c = λ w P R S names t r T E. gains w P R names T S t r E
