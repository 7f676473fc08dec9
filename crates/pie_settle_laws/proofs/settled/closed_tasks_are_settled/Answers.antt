use Rattle.pie_model.specs.inner.RecordLaws.{Passes}
use Rattle.pie_settle_laws.proofs.Settling.{closed_settled}
use Rattle.pie_settle_laws.proofs.settled.closed_tasks_are_settled.Goals as goal

pub returns : goal.returns
returns c = λ R busy chosen recorded calm closed t k. closed_settled R (Passes busy) (Passes chosen) recorded calm closed t k
