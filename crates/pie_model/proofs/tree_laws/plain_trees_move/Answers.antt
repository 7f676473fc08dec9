use Rattle.pie_model.proofs.MovedLemmas.{moved_law}
use Rattle.pie_model.proofs.tree_laws.plain_trees_move.Goals as goal

pub returns : goal.returns
returns c = λ w P old_room new_room old_above new_above t h. moved_law old_room new_room w P old_above new_above t h
