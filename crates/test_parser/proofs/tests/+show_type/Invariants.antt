use Rattle.test_parser.proofs.tests.+show_type.Given as goal

abbrev pub decreases-show_type : goal.decreases-show_type
decreases-show_type l = l.depth
