use Rattle.std.proofs.Common.{◌≡◌, take, Some}
use Rattle.std.specs.Prelude.{All}
use Rattle.pie_files.specs.Directory.{Directory}
use Rattle.pie_files.specs.Reading.{LeavesAsBefore}
use Rattle.pie_topdown.specs.inner.Written.{IsThereIn}
use Rattle.pie_named.specs.inner.Known.{IsTrueOf}
use Rattle.pie_topdown.proofs.writes.writes_stand.Given as goal

-- the files are as they were, what is known is true still, and what was written so far is there
abbrev pub invariant-loop-write : goal.invariant-loop-write
invariant-loop-write g l =
    (g.F.Files.holds l.files ≡ g.F.Files.holds l.fn.files) × (g.F.Files.faults l.files ≡ g.F.Files.faults l.fn.files)
    × LeavesAsBefore g.F.Files.holds g.F.Files.moment g.F.Files.left_since g.F.Files.images l.fn.files l.files
    × ((d : Directory) → g.F.Files.holds l.fn.files ≡ Some d → IsTrueOf d l.fn.named → IsTrueOf d l.named × All (IsThereIn d) (take l.write-index l.writes))
