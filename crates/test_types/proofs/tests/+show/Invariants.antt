use Rattle.std.proofs.Common.{◌+◌, ◌*◌}
use Rattle.test_types.proofs.tests.+show.Given as goal

abbrev pub decreases-show : goal.decreases-show
decreases-show l = 2 * l.depth

abbrev pub decreases-show_each : goal.decreases-show_each
decreases-show_each l = 2 * l.depth + 1
