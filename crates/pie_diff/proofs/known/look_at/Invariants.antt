use Rattle.std.proofs.Common.{◌≡◌, drop}
use Rattle.std.specs.Prelude.{Contains, IfSome}
use Rattle.pie_files.specs.Reading.{LeavesAsBefore}
use Rattle.pie_named.specs.Asking.{AsksFor}
use Rattle.pie_diff.specs.inner.Held.{LooksAll}
use Rattle.pie_diff.proofs.known.look_at.Given as goal

-- the paths so far were looked at and no others, and the files are as they were
abbrev pub invariant-loop-path : goal.invariant-loop-path
invariant-loop-path g l =
    (g.F.Files.holds l.files ≡ g.F.Files.holds l.fn.files) × (g.F.Files.faults l.files ≡ g.F.Files.faults l.fn.files)
    × LeavesAsBefore g.F.Files.holds g.F.Files.moment g.F.Files.left_since g.F.Files.images l.fn.files l.files
    × IfSome (g.F.Files.holds l.fn.files) (λ d. LooksAll d l.fn.held l.held l.names (drop l.path-index l.names))
    × AsksFor (Contains l.names) (g.F.Files.asked l.fn.files) (g.F.Files.asked l.files)
