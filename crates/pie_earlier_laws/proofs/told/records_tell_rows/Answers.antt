use Rattle.pie_earlier_laws.proofs.Telltale.{rows_told, stores_told}
use Rattle.pie_earlier_laws.proofs.told.records_tell_rows.Goals as goal

pub returns-clause-row : goal.returns-clause-row
returns-clause-row c = λ r s k l e. rows_told r s k l e

pub returns-clause-rows : goal.returns-clause-rows
returns-clause-rows c = λ rs ss k l e. stores_told rs ss k l e
