use Rattle.std.proofs.Common.{◌≡◌, take}
use Rattle.pie_files.specs.Reading.{LeavesAsBefore}
use Rattle.pie_named.specs.inner.Names.{SameNames}
use Rattle.pie_named.specs.inner.Known.{StaysKnown}
use Rattle.pie_named.specs.Asking.{AsksFor}
use Rattle.pie_compare.specs.inner.Asked.{IsObservedIn, MayAskOf}
use Rattle.pie_compare.specs.inner.Touching.{dep_differs, Passes}
use Rattle.pie_compare.proofs.touched.is_any_sight_touched.Given as goal

-- the files and the names are as they were, what is known is true still, nothing so far differs, and of what was observed only named paths were asked for
abbrev pub invariant-loop-dep : goal.invariant-loop-dep
invariant-loop-dep g l =
    (g.F.Files.holds l.files ≡ g.F.Files.holds l.fn.files) × (g.F.Files.faults l.files ≡ g.F.Files.faults l.fn.files)
    × LeavesAsBefore g.F.Files.holds g.F.Files.moment g.F.Files.left_since g.F.Files.images l.fn.files l.files × SameNames l.fn.named l.named
    × Passes (g.F.Files.holds l.fn.files) l.fn.named l.named dep_differs (take l.dep-index l.deps) × StaysKnown l.fn.named l.named
    × AsksFor (MayAskOf l.fn.named (IsObservedIn l.deps)) (g.F.Files.asked l.fn.files) (g.F.Files.asked l.files)
