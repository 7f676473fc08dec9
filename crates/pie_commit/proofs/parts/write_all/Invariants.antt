use Rattle.std.proofs.Common.{drop}
use Rattle.pie_commit.specs.inner.Plans.{written}
use Rattle.pie_commit.proofs.Bringing.{Going}
use Rattle.pie_commit.proofs.Members.{AllInnerWrites}
use Rattle.pie_commit.proofs.Standing.{Marking}
use Rattle.pie_commit.specs.inner.Steps.{writing}
use Rattle.pie_commit.proofs.Stepping.{Onward}
use Rattle.pie_commit.proofs.parts.write_all.Given as goal

abbrev pub invariant-loop-path : goal.invariant-loop-path
invariant-loop-path g l =
    Going g.F.Files.holds g.F.Files.faults l.fn.files l.files (written l.plan.writes.items) (written (drop l.path-index l.plan.writes.items))
    × Marking g.F.Files.holds g.F.Files.moment g.F.Files.left_since g.F.Files.images l.plan l.fn.files l.files × AllInnerWrites l.plan (drop
    l.path-index l.plan.writes.items)
    × Onward g.F.Files.asked (writing l.plan.writes.items) (writing (drop l.path-index l.plan.writes.items)) l.fn.files l.files
