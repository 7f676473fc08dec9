use Rattle.pie_parser.proofs.Answered.{tree_is, all_are}
use Rattle.pie_parser.proofs.parsing.parse.Goals as goal

pub returns-clause-tree : goal.returns-clause-tree
returns-clause-tree c = tree_is c.read.result c.args.tokens.now c.read.ensures

pub returns-clause-all : goal.returns-clause-all
returns-clause-all c = all_are c.read.result c.args.tokens.now c.read.ensures
