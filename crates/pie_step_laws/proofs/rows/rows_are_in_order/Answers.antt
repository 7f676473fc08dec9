use Rattle.pie_step_laws.proofs.RowLemmas.{height_live, heights_of_rows, rows_stored}
use Rattle.pie_step_laws.proofs.rows.rows_are_in_order.Goals as goal

pub returns-clause-heights : goal.returns-clause-heights
returns-clause-heights c = λ w P R names h t Q H i. height_live w P R names h t Q H i

pub returns-clause-rows : goal.returns-clause-rows
returns-clause-rows c = λ w P roots R names h rows B H A. rows_stored w P roots R names h rows B H A

pub returns-clause-by_rows : goal.returns-clause-by_rows
returns-clause-by_rows c = λ w P R names h rows Q A H. heights_of_rows w P R names h rows Q A H
