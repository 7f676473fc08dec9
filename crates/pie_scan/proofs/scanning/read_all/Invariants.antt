use Rattle.std.proofs.Common.{◌≡◌, ◌++◌, drop}
use Rattle.std.specs.Prelude.{IfSome, map, All}
use Rattle.std.specs.List.{filter_map}
use Rattle.pie_files.specs.declared.files.Call.TheVariants.{Read}
use Rattle.pie_files.specs.Reading.{LeavesAsBefore}
use Rattle.pie_scan.specs.Scanned.{entry_in}
use Rattle.pie_scan.specs.Texts.{HasMark}
use Rattle.pie_scan.specs.Reading.{path_key}
use Rattle.pie_scan.proofs.Pairs.{Rising}
use Rattle.pie_scan.proofs.Noted.{Below}
use Rattle.pie_scan.proofs.Growing.{AskedSo}
use Rattle.pie_scan.proofs.scanning.read_all.Given as goal

-- the paths so far were looked at, and the files are as they were
abbrev pub invariant-loop-path : goal.invariant-loop-path
invariant-loop-path g l =
    (g.F.Files.holds l.files ≡ g.F.Files.holds l.fn.files) × (g.F.Files.faults l.files ≡ g.F.Files.faults l.fn.files)
    × LeavesAsBefore g.F.Files.holds g.F.Files.moment g.F.Files.left_since g.F.Files.images l.fn.files l.files
    × IfSome (g.F.Files.holds l.fn.files) (λ d. l.entries.items ++ filter_map (entry_in d) (drop l.path-index l.paths) ≡ filter_map (entry_in d) l.paths)
    × AskedSo (map (λ path. Read path)) l.paths l.path-index (g.F.Files.asked l.fn.files) (g.F.Files.asked l.files)
    × (Rising path_key l.paths → Below l.paths l.path-index l.entries.items) × All HasMark l.entries.items
