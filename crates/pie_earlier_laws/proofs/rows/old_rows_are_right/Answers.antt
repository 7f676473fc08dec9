use Rattle.pie_earlier_laws.proofs.OldRows.{old_row, entered_row, rows_closed, rows_distinct, rows_few}
use Rattle.pie_earlier_laws.proofs.rows.old_rows_are_right.Goals as goal

pub returns-clause-rows : goal.returns-clause-rows
returns-clause-rows c = λ w old old_roots t r accepted h. old_row w old old_roots accepted t r h

pub returns-clause-live : goal.returns-clause-live
returns-clause-live c = λ w old old_roots t i. entered_row w old old_roots t i

pub returns-clause-closed : goal.returns-clause-closed
returns-clause-closed c = λ w old old_roots t r u accepted h i. rows_closed w old old_roots accepted t r u h i

pub returns-clause-distinct : goal.returns-clause-distinct
returns-clause-distinct c = λ w old old_roots accepted. (rows_distinct w old old_roots accepted, rows_few w old old_roots accepted)
