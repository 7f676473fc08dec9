use Rattle.std.proofs.Common.{◌≡◌, ◌+◌}
use Rattle.pie_files.specs.Reading.{LeavesAsBefore}
use Rattle.pie_fresh.specs.inner.Ledgers.{Enters, Starts}
use Rattle.pie_fresh.specs.inner.Frames.{Running}
use Rattle.pie_fresh.specs.inner.Turns.{below_left}
use Rattle.pie_fresh.specs.inner.Means.{RunsOn}
use Rattle.pie_fresh.specs.inner.Asked.{RunsAsking}
use Rattle.pie_fresh.proofs.builder.Builder.run.Given as goal

-- the build stands with the task that runs, the pipeline and the files are as they were, and what was asked for was observed
abbrev pub invariant-turns : goal.invariant-turns
invariant-turns g l =
    Running l.self l.frame × Enters l.fn.self.ledger.names l.self.ledger.names l.fn.runs l.runs × (l.self.typed ≡ l.fn.self.typed)
    × (g.F.Files.holds l.files ≡ g.F.Files.holds l.fn.files) × (g.F.Files.faults l.files ≡ g.F.Files.faults l.fn.files)
    × Starts l.fn.self.ledger.names l.self.ledger.names l.fn.runs l.runs × RunsOn (g.F.Files.holds l.fn.files) l.fn.self l.fn.frame l.self l.frame
    × LeavesAsBefore g.F.Files.holds g.F.Files.moment g.F.Files.left_since g.F.Files.images l.fn.files l.files
    × RunsAsking (g.F.Files.holds l.fn.files) l.fn.self l.fn.frame l.fn.runs l.runs (g.F.Files.asked l.fn.files) (g.F.Files.asked l.files)

abbrev pub decreases-turns : goal.decreases-turns
decreases-turns g l = below_left l.self + l.frame.notes.left + 1
