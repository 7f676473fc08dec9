use Rattle.pie_model.proofs.Rooms.{root_many}
use Rattle.pie_model.proofs.tree_laws.too_long_a_chain_enters_too_many.Goals as goal

pub returns : goal.returns
returns c = λ w P t all h. root_many w P t all h
