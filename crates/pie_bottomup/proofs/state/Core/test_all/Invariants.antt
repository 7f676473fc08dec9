use Rattle.std.proofs.Common.{◌≡◌, ℕ, ◌<◌, length}
use Rattle.pie_files.specs.Reading.{LeavesAsBefore}
use Rattle.pie_named.specs.Asking.{AsksFor, IsNamedOrAbove}
use Rattle.pie_bottomup.specs.inner.States.{IsDue, IsTested}
use Rattle.pie_bottomup.specs.inner.Tested.{AreHeld, HoldsBy, Learns, OnlySchedules}
use Rattle.pie_bottomup.proofs.state.Core.test_all.Given as goal

abbrev pub invariant-loop-n : goal.invariant-loop-n
invariant-loop-n g l =
    IsTested l.fn.self l.self × ((n : ℕ) → n < l.n → IsDue l.self n) × (l.count ≡ length l.fn.self.frames.walk.rows)
    × (g.F.Files.holds l.files ≡ g.F.Files.holds l.fn.files) × (g.F.Files.faults l.files ≡ g.F.Files.faults l.fn.files)
    × LeavesAsBefore g.F.Files.holds g.F.Files.moment g.F.Files.left_since g.F.Files.images l.fn.files l.files
    × Learns l.fn.self l.self × HoldsBy (g.F.Files.holds l.fn.files) l.fn.self l.self (λ d. AreHeld d l.self l.n) × OnlySchedules l.fn.self l.self
    × AsksFor (IsNamedOrAbove l.fn.self.named) (g.F.Files.asked l.fn.files) (g.F.Files.asked l.files)
