use Rattle.std.proofs.Common.{◌≡◌, ◌++◌, drop}
use Rattle.std.specs.List.{filter}
use Rattle.pie_base.specs.Path.{is_source}
use Rattle.pie_scan.proofs.candidates.note_all.Given as goal

abbrev pub invariant-loop-path : goal.invariant-loop-path
invariant-loop-path l = l.found.items ++ filter is_source (drop l.path-index l.paths) ≡ l.fn.found.items ++ filter is_source l.paths
