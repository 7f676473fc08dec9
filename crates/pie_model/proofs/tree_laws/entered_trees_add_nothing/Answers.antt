use Rattle.pie_model.proofs.Rooms.{stands_entered, nothing_new}
use Rattle.pie_model.proofs.tree_laws.entered_trees_add_nothing.Goals as goal

pub returns-clause-all : goal.returns-clause-all
returns-clause-all c = λ x n all h. stands_entered x n all h

pub returns-clause-nothing : goal.returns-clause-nothing
returns-clause-nothing c = λ n all f. nothing_new n all f
