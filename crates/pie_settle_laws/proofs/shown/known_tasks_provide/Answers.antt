use Rattle.pie_settle_laws.proofs.Showing.{known_provide, has_contents, has_none}
use Rattle.pie_settle_laws.proofs.shown.known_tasks_provide.Goals as goal

pub returns-clause-provided : goal.returns-clause-provided
returns-clause-provided c = λ w P R held kept us p s C D K h. known_provide w P R us D held kept p s C K h

pub returns-clause-contents : goal.returns-clause-contents
returns-clause-contents c = λ w P R x r p h H e k. has_contents w P R x r p H e h k

pub returns-clause-nothing : goal.returns-clause-nothing
returns-clause-nothing c = λ w P R x r p H e k. has_none w P R x r p H e k
