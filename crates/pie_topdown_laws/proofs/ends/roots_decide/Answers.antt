use Rattle.pie_topdown_laws.proofs.Deciding.{failed_decides, cycled_decides, too_many}
use Rattle.pie_topdown_laws.proofs.ends.roots_decide.Goals as goal

pub returns-clause-failed : goal.returns-clause-failed
returns-clause-failed c = λ x R names all done rest root t k T D A few o. failed_decides x R names T all done rest root D t k A few o

pub returns-clause-cycled : goal.returns-clause-cycled
returns-clause-cycled c = λ x R names all done rest root ts T D A few o. cycled_decides x R names T all done rest root D ts A few o

pub returns-clause-too_many : goal.returns-clause-too_many
returns-clause-too_many c = λ x R names done rest root u T D full all new more. too_many x R names T done rest root u D full all new more
