use Rattle.pie_core_laws.proofs.Joined.{loaded_begin, names_begin, names_grow}
use Rattle.pie_core_laws.proofs.joins.earlier_builds_are_loaded.Goals as goal

pub returns-clause-tables : goal.returns-clause-tables
returns-clause-tables c = λ u kept t s l. loaded_begin u kept t s l

pub returns-clause-first : goal.returns-clause-first
returns-clause-first c = λ n f g. names_begin n f g

pub returns-clause-more : goal.returns-clause-more
returns-clause-more c = λ old new names path h f g. names_grow old new names path h f g
