use Rattle.test_parser.proofs.tests.+show.Given as goal

abbrev pub decreases-show : goal.decreases-show
decreases-show l = l.depth

abbrev pub decreases-show_block : goal.decreases-show_block
decreases-show_block l = l.depth
