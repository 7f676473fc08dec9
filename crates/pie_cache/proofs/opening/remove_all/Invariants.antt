use Rattle.std.proofs.Common.{drop}
use Rattle.pie_commit.proofs.Bringing.{Going}
use Rattle.pie_commit.proofs.Stepping.{Onward}
use Rattle.pie_commit.specs.inner.Plans.{removed}
use Rattle.pie_commit.specs.inner.Steps.{removing}
use Rattle.pie_cache.specs.inner.Changes.{KeepsOutside, LeavesAlike}
use Rattle.pie_cache.specs.inner.Gated.{KeepsGate}
use Rattle.pie_cache.proofs.opening.remove_all.Given as goal

-- so far nothing outside the cache changed, and no call failed; what is left is what those that are left bring about
abbrev pub invariant-loop-path : goal.invariant-loop-path
invariant-loop-path g l =
    KeepsOutside (g.F.Files.holds l.fn.files) (g.F.Files.holds l.files)
    × LeavesAlike g.F.Files.holds g.F.Files.moment g.F.Files.left_since g.F.Files.images l.fn.files l.files
    × Going g.F.Files.holds g.F.Files.faults l.fn.files l.files (removed l.paths) (removed (drop l.path-index l.paths))
    × KeepsGate g.F.Files.holds g.F.Files.moment g.F.Files.left_since g.F.Files.images l.fn.files l.files
    × Onward g.F.Files.asked (removing l.paths) (removing (drop l.path-index l.paths)) l.fn.files l.files
