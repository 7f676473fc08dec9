use Rattle.std.proofs.Common.{◌≡◌, take}
use Rattle.pie_files.specs.Reading.{LeavesAsBefore}
use Rattle.pie_topdown.specs.inner.Frames.{IsSite}
use Rattle.pie_topdown.specs.inner.Ran.{HasSettledRan}
use Rattle.pie_topdown.specs.inner.Rooted.{HasSettledRight}
use Rattle.pie_topdown.specs.inner.Roots.{AreSettled, Continues, Started}
use Rattle.pie_topdown.specs.inner.Unoffered.{EndsOwn}
use Rattle.pie_topdown.proofs.builder.Builder.settle_all.Given as goal

-- the roots so far have outputs
abbrev pub invariant-loop-root : goal.invariant-loop-root
invariant-loop-root g l =
    IsSite l.self × AreSettled l.self.ledger (take l.root-index l.roots) × Continues l.fn.self l.self l.fn.runs l.runs × Started l.fn.runs l.runs
    × (g.F.Files.holds l.files ≡ g.F.Files.holds l.fn.files) × (g.F.Files.faults l.files ≡ g.F.Files.faults l.fn.files)
    × LeavesAsBefore g.F.Files.holds g.F.Files.moment g.F.Files.left_since g.F.Files.images l.fn.files l.files
    × HasSettledRight (g.F.Files.holds l.fn.files) (g.O.Offers.told l.fn.offers) l.fn.self l.roots (take l.root-index l.roots) l.self
    × (g.O.Offers.told l.offers ≡ g.O.Offers.told l.fn.offers)
    × HasSettledRan (g.F.Files.holds l.fn.files) (g.O.Offers.told l.fn.offers) l.fn.self l.roots l.self l.fn.runs l.runs
    × EndsOwn (g.F.Files.holds l.fn.files) (g.O.Offers.told l.fn.offers) l.fn.self l.self
