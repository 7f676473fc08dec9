use Rattle.std.proofs.Common.{◌≡◌, ◌+◌, ◌≤◌, length}
use Rattle.pie_files.specs.Reading.{LeavesAsBefore}
use Rattle.pie_topdown.specs.inner.Ran.{RansOn}
use Rattle.pie_topdown.specs.inner.Rooted.{StaysRight}
use Rattle.pie_topdown.specs.inner.Roots.{Started}
use Rattle.pie_topdown.specs.inner.Turns.{Keeps, Stands, below, hand_mass, hand_room, room}
use Rattle.pie_topdown.specs.inner.Trying.{StaysTriedSo}
use Rattle.pie_topdown.specs.inner.Unoffered.{StaysOwnSo}
use Rattle.pie_topdown.proofs.builder.Builder.run.Given as goal

-- the build stands with what it does next, what may be started has fallen by what was, and it is right, and what ran is marked
abbrev pub invariant-steps : goal.invariant-steps
invariant-steps g l =
    Stands l.self l.hand × Keeps l.fn.self l.self × Started l.fn.runs l.runs
    × (length l.runs + (room l.self + hand_room l.hand) ≤ length l.fn.runs + (room l.fn.self + hand_room l.fn.hand))
    × (g.F.Files.holds l.files ≡ g.F.Files.holds l.fn.files) × (g.F.Files.faults l.files ≡ g.F.Files.faults l.fn.files)
    × LeavesAsBefore g.F.Files.holds g.F.Files.moment g.F.Files.left_since g.F.Files.images l.fn.files l.files
    × StaysRight (g.F.Files.holds l.fn.files) (g.O.Offers.told l.fn.offers) l.fn.self l.fn.hand l.self l.hand
    × (g.O.Offers.told l.offers ≡ g.O.Offers.told l.fn.offers)
    × RansOn (g.F.Files.holds l.fn.files) (g.O.Offers.told l.fn.offers) l.fn.self l.fn.hand l.self l.fn.runs l.runs
    × StaysOwnSo (g.F.Files.holds l.fn.files) (g.O.Offers.told l.fn.offers) l.fn.self l.fn.hand l.self l.hand
    × StaysTriedSo (g.F.Files.holds l.fn.files) (g.O.Offers.told l.fn.offers) l.fn.self l.fn.hand l.self l.hand

abbrev pub decreases-steps : goal.decreases-steps
decreases-steps g l = below l.self + hand_mass l.hand
