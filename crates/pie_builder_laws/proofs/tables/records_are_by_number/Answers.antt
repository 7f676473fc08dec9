use Rattle.pie_builder_laws.proofs.Tabled.{record_by_number, record_has_number, no_records, no_record_named, record_put}
use Rattle.pie_builder_laws.proofs.tables.records_are_by_number.Goals as goal

pub returns-clause-each : goal.returns-clause-each
returns-clause-each c = λ names records n t a e. record_by_number names records n t a e

pub returns-clause-numbers : goal.returns-clause-numbers
returns-clause-numbers c = λ names records x r h. record_has_number names records x r h

pub returns-clause-none : goal.returns-clause-none
returns-clause-none c = λ names records x h. no_records names records x h

pub returns-clause-named : goal.returns-clause-named
returns-clause-named c = λ names records t x h. no_record_named names records t x h

pub returns-clause-put : goal.returns-clause-put
returns-clause-put c = λ names old new n t rec a e p. record_put names old new n t rec a e p
