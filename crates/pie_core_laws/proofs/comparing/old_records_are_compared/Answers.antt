use Rattle.pie_core_laws.proofs.Compared.{untouched_tested, stands_now}
use Rattle.pie_core_laws.proofs.comparing.old_records_are_compared.Goals as goal

pub returns-clause-untouched : goal.returns-clause-untouched
returns-clause-untouched c = λ u n rec U I O h. untouched_tested u n rec U I O h

pub returns-clause-stands : goal.returns-clause-stands
returns-clause-stands c = λ u t rows n settled told which rec U I A r O m S h. stands_now u t rows n settled told which rec U I A r O m S h
