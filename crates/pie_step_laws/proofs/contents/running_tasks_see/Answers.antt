use Rattle.pie_step_laws.proofs.ContentLemmas.{own_seen, kept_seen, nothing_seen, source_seen}
use Rattle.pie_step_laws.proofs.contents.running_tasks_see.Goals as goal

pub returns-clause-own : goal.returns-clause-own
returns-clause-own c = λ P f p b k e. own_seen P f p b k e

pub returns-clause-kept : goal.returns-clause-kept
returns-clause-kept c = λ w P root base R names fs f kept p s U K k e h. kept_seen w P root base R names fs f kept p s U K k e h

pub returns-clause-nothing : goal.returns-clause-nothing
returns-clause-nothing c = λ P f p k. nothing_seen P f p k

pub returns-clause-sources : goal.returns-clause-sources
returns-clause-sources c = λ P f p k. source_seen P f p k
