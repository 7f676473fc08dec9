use Rattle.std.proofs.Common.{◌≡◌, ◌++◌, drop}
use Rattle.std.specs.Prelude.{IfSome, map}
use Rattle.std.specs.List.{flat_map}
use Rattle.pie_files.specs.declared.files.Call.TheVariants.{AllUnder}
use Rattle.pie_files.specs.Reading.{LeavesAsBefore}
use Rattle.pie_scan.specs.Scanned.{found_below}
use Rattle.pie_scan.proofs.Growing.{AskedSo}
use Rattle.pie_scan.proofs.candidates.below_tops.Given as goal

-- the tops so far were listed, and the files are as they were
abbrev pub invariant-loop-top : goal.invariant-loop-top
invariant-loop-top g l =
    (g.F.Files.holds l.files ≡ g.F.Files.holds l.fn.files) × (g.F.Files.faults l.files ≡ g.F.Files.faults l.fn.files)
    × LeavesAsBefore g.F.Files.holds g.F.Files.moment g.F.Files.left_since g.F.Files.images l.fn.files l.files
    × IfSome (g.F.Files.holds l.fn.files) (λ d. l.found.items ++ flat_map (found_below d) (drop l.top-index l.tops) ≡ l.fn.found.items ++ flat_map (found_below d) l.tops)
    × AskedSo (map (λ top. AllUnder top)) l.tops l.top-index (g.F.Files.asked l.fn.files) (g.F.Files.asked l.files)
