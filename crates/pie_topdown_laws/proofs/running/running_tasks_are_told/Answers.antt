use Rattle.pie_topdown_laws.proofs.Acting.{exists_told, reading_told, digest_told, list_told, write_told}
use Rattle.pie_topdown_laws.proofs.running.running_tasks_are_told.Goals as goal

pub returns-clause-presence : goal.returns-clause-presence
returns-clause-presence c = λ x b root fs w path t L h. exists_told x b root fs w path t L h

pub returns-clause-reading : goal.returns-clause-reading
returns-clause-reading c = λ x b root fs w path by t L h. reading_told x b root fs w path by t L h

pub returns-clause-digest : goal.returns-clause-digest
returns-clause-digest c = λ x b root fs w path t L h. digest_told x b root fs w path t L h

pub returns-clause-listing : goal.returns-clause-listing
returns-clause-listing c = λ x b root fs w dir t A left h. list_told x b root fs w dir t A left h

pub returns-clause-write : goal.returns-clause-write
returns-clause-write c = λ x b root fs w path bytes later t A left h. write_told x b root fs w path bytes later t A left h
