use Rattle.std.proofs.Common.{◌≡◌, ℕ, List, take}
use Rattle.pie_files.specs.Reading.{LeavesAsBefore}
use Rattle.pie_named.specs.inner.Names.{SameNames}
use Rattle.pie_named.specs.inner.Known.{StaysKnown}
use Rattle.pie_named.specs.Asking.{AsksFor}
use Rattle.pie_compare.specs.inner.Asked.{IsWrittenIn, MayAskOf}
use Rattle.pie_compare.specs.inner.Touching.{write_differs, Passes}
use Rattle.pie_compare.proofs.touched.is_any_write_touched.Given as goal

-- the files and the names are as they were, what is known is true still, nothing so far differs, and of what was written only named paths were asked for
abbrev pub invariant-loop-path : goal.invariant-loop-path
invariant-loop-path g l =
    (g.F.Files.holds l.files ≡ g.F.Files.holds l.fn.files) × (g.F.Files.faults l.files ≡ g.F.Files.faults l.fn.files)
    × LeavesAsBefore g.F.Files.holds g.F.Files.moment g.F.Files.left_since g.F.Files.images l.fn.files l.files × SameNames l.fn.named l.named
    × Passes (g.F.Files.holds l.fn.files) l.fn.named l.named (λ d n (w : List ℕ × List ℕ). write_differs d n w.0 w.1) (take l.path-index l.writes) × StaysKnown l.fn.named l.named
    × AsksFor (MayAskOf l.fn.named (IsWrittenIn l.writes)) (g.F.Files.asked l.fn.files) (g.F.Files.asked l.files)
