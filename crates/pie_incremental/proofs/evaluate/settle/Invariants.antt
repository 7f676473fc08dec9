use Rattle.std.proofs.Common.{◌≡◌}
use Rattle.pie_files.specs.Reading.{LeavesAsBefore}
use Rattle.pie_bottomup.specs.inner.Many.{StartsNoneForMany}
use Rattle.pie_bottomup.specs.inner.States.{IsCore, Spends, mass}
use Rattle.pie_incremental.specs.inner.Asked.{SettlesAsking}
use Rattle.pie_incremental.specs.inner.Evaluated.{StaysStanding}
use Rattle.pie_incremental.specs.inner.Joined.{Started}
use Rattle.pie_incremental.specs.inner.Ran.{RunsOn, StaysMany}
use Rattle.pie_incremental.proofs.evaluate.settle.Given as goal

abbrev pub invariant-steps : goal.invariant-steps
invariant-steps g l =
    IsCore l.core × Started l.fn.runs l.runs × Spends l.fn.core l.core l.fn.runs l.runs
    × (g.F.Files.holds l.files ≡ g.F.Files.holds l.fn.files) × (g.F.Files.faults l.files ≡ g.F.Files.faults l.fn.files)
    × StaysStanding (g.F.Files.holds l.fn.files) l.fn.core l.core
    × LeavesAsBefore g.F.Files.holds g.F.Files.moment g.F.Files.left_since g.F.Files.images l.fn.files l.files
    × RunsOn (g.F.Files.holds l.fn.files) l.fn.core l.core l.fn.runs l.runs × StaysMany l.fn.core l.core × StartsNoneForMany l.fn.core l.fn.runs l.runs
    × SettlesAsking (g.F.Files.holds l.fn.files) l.fn.core l.fn.runs l.runs (g.F.Files.asked l.fn.files) (g.F.Files.asked l.files)

abbrev pub decreases-steps : goal.decreases-steps
decreases-steps g l = mass l.core
