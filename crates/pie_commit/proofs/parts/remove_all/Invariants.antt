use Rattle.std.proofs.Common.{drop}
use Rattle.pie_commit.specs.inner.Plans.{removed}
use Rattle.pie_commit.proofs.Bringing.{Going}
use Rattle.pie_commit.proofs.Members.{AllInner}
use Rattle.pie_commit.proofs.Standing.{Marking}
use Rattle.pie_commit.specs.inner.Steps.{removing}
use Rattle.pie_commit.proofs.Stepping.{Onward}
use Rattle.pie_commit.proofs.parts.remove_all.Given as goal

abbrev pub invariant-loop-path : goal.invariant-loop-path
invariant-loop-path g l =
    Going g.F.Files.holds g.F.Files.faults l.fn.files l.files (removed l.plan.removals.items) (removed (drop l.path-index l.plan.removals.items))
    × Marking g.F.Files.holds g.F.Files.moment g.F.Files.left_since g.F.Files.images l.plan l.fn.files l.files × AllInner l.plan (drop l.path-index
    l.plan.removals.items)
    × Onward g.F.Files.asked (removing l.plan.removals.items) (removing (drop l.path-index l.plan.removals.items)) l.fn.files l.files
