use Rattle.std.proofs.Common.{◌≡◌, length}
use Rattle.pie_base.specs.Path.{rest_below}
use Rattle.pie_base.proofs.path.rest_below.Given as goal

abbrev pub invariant-loop-dir : goal.invariant-loop-dir
invariant-loop-dir l = rest_below l.dir l.path ≡ rest_below l.fn.dir l.fn.path

abbrev pub decreases-loop-dir : goal.decreases-loop-dir
decreases-loop-dir l = length l.dir
