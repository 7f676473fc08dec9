use Rattle.pie_builder_laws.proofs.Ended.{none_done, known_done, ended_done}
use Rattle.pie_builder_laws.proofs.builds.roots_are_done.Goals as goal

pub returns-clause-first : goal.returns-clause-first
returns-clause-first c = λ fs d records none. none_done fs d records none

pub returns-clause-known : goal.returns-clause-known
returns-clause-known c = λ fs d done names records root D i. known_done fs d done names records root D i

pub returns-clause-ended : goal.returns-clause-ended
returns-clause-ended c = λ fs d done base names before after root v D a Q E. ended_done fs d done base names before after root v D a Q E
