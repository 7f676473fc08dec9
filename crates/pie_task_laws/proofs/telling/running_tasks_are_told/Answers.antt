use Rattle.pie_task_laws.specs.Sights.{SeesOut}
use Rattle.pie_task_laws.proofs.Told.{exists_told, reading_told, digest_told, list_told}
use Rattle.pie_task_laws.proofs.Lengthy.{long_ends}
use Rattle.pie_task_laws.proofs.Writing.{write_told}
use Rattle.pie_task_laws.proofs.telling.running_tasks_are_told.Goals as goal

pub returns-clause-presences : goal.returns-clause-presences
returns-clause-presences c = λ x b cs w path t l h. exists_told x b cs w path (SeesOut x b w.notes path) t l (λ o i. i) h

pub returns-clause-readings : goal.returns-clause-readings
returns-clause-readings c = λ x b cs w path by t there l h. reading_told x b cs w path by (SeesOut x b w.notes path) t there l (λ o i. i) h

pub returns-clause-long : goal.returns-clause-long
returns-clause-long c = λ x b cs w path by file there l sees much. long_ends x b cs w path by file there l sees much

pub returns-clause-digests : goal.returns-clause-digests
returns-clause-digests c = λ x b cs w path t l h. digest_told x b cs w path (SeesOut x b w.notes path) t l (λ o i. i) h

pub returns-clause-listings : goal.returns-clause-listings
returns-clause-listings c = λ x b cs w dir t a left h. list_told x b cs w dir t a left h

pub returns-clause-writes : goal.returns-clause-writes
returns-clause-writes c = λ x b cs w path bytes later t sound a left h. write_told x b cs w path bytes later t sound a left h
