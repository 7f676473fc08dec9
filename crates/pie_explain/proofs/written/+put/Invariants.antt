use Rattle.std.proofs.Common.{◌+◌, ◌*◌}
use Rattle.pie_explain.proofs.written.+put.Given as goal

abbrev pub decreases-put : goal.decreases-put
decreases-put l = 2 * l.depth

abbrev pub decreases-put_each : goal.decreases-put_each
decreases-put_each l = 2 * l.depth + 1
