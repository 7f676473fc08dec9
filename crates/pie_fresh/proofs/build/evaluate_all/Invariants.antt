use Rattle.std.proofs.Common.{◌≡◌, take}
use Rattle.pie_files.specs.Reading.{LeavesAsBefore}
use Rattle.pie_fresh.specs.inner.Ledgers.{Enters, Starts}
use Rattle.pie_fresh.specs.inner.Frames.{AreEntered, IsIdle}
use Rattle.pie_fresh.specs.Cleans.{DoesRoots}
use Rattle.pie_fresh.specs.inner.Asked.{EvaluatesAsking}
use Rattle.pie_fresh.proofs.build.evaluate_all.Given as goal

-- the build stands, the roots so far were entered and are done as in the model, the pipeline and the files are as they were, and what was asked for was observed
abbrev pub invariant-loop-root : goal.invariant-loop-root
invariant-loop-root g l =
    IsIdle l.builder × Enters l.fn.builder.ledger.names l.builder.ledger.names l.fn.runs l.runs
    × AreEntered l.builder.ledger.names (take l.root-index l.roots) × (l.builder.typed ≡ l.fn.builder.typed)
    × (g.F.Files.holds l.files ≡ g.F.Files.holds l.fn.files) × (g.F.Files.faults l.files ≡ g.F.Files.faults l.fn.files)
    × Starts l.fn.builder.ledger.names l.builder.ledger.names l.fn.runs l.runs
    × DoesRoots (g.F.Files.holds l.fn.files) l.fn.builder l.builder l.roots (take l.root-index l.roots)
    × LeavesAsBefore g.F.Files.holds g.F.Files.moment g.F.Files.left_since g.F.Files.images l.fn.files l.files
    × EvaluatesAsking (g.F.Files.holds l.fn.files) l.fn.builder l.roots l.fn.runs l.runs (g.F.Files.asked l.fn.files) (g.F.Files.asked l.files)
