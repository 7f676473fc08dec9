use Rattle.pie_settle_laws.proofs.Ending.{entered_are_reached, known_done, known_ends}
use Rattle.pie_settle_laws.proofs.ends.known_roots_decide.Goals as goal

pub returns-clause-entered : goal.returns-clause-entered
returns-clause-entered c = λ w P R roots x D. entered_are_reached w P R roots x D

pub returns-clause-done : goal.returns-clause-done
returns-clause-done c = λ w P R held roots C D. known_done w P R held roots C D

pub returns-clause-ended : goal.returns-clause-ended
returns-clause-ended c = λ w P R held done root e C D K h. known_ends w P R held done root e C D K h
